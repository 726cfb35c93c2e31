-- `first::first_face` meets its contract. The loop's invariant: the first face among those left is the first of all.
use mathlib.Core.Path.{◌≡◌}
use lib.ListN.{drop}
use Rattle.faces.specs.First.{first_in}
use Rattle.faces.proofs.first.first_face.Given as goal

abbrev pub invariant-loop-n : goal.invariant-loop-n
invariant-loop-n l = first_in l.ps l.f (drop l.n-index l.faces) ≡ first_in l.ps l.f l.faces

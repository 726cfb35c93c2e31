-- `bodies::suits` meets its contract. The loop's invariant is `Walking`; the measure is the number of nodes left of the face.
use Prim.Native.Nat.{◌-◌}
use Rattle.numbers.specs.Tests.{told}
use Rattle.masks.specs.Sets.{mask}
use Rattle.bodies.proofs.SuitsLaws.{Walking}
use Rattle.bodies.proofs.suits.Given as goal

abbrev pub invariant-loop-i : goal.invariant-loop-i
invariant-loop-i l = Walking (told l.nodes.numbers.now) l.nodes.tokens.now l.face l.faced (mask l.set) l.n l.d l.e l.low l.i l.j

abbrev pub decreases-loop-i : goal.decreases-loop-i
decreases-loop-i l = l.n - l.i

-- `Filling::arguments_are` meets its contract. The loop's invariant: the holes that are left decide, and what is lent has kept its length.
use mathlib.Core.Path.{◌≡◌}
use lib.ListN.{length}
use Rattle.filled.specs.Filled.{hole_at}
use Rattle.filled.specs.Ready.{ArguedAt}
use Rattle.filled.proofs.CodeLaws.{Testing}
use Rattle.filled.proofs.Filling.arguments_are.Given as goal

abbrev pub invariant-loop-hole : goal.invariant-loop-hole
invariant-loop-hole l =
    (length l.scratch ≡ length l.initial.scratch) × Testing (ArguedAt l.self.ps.now l.self.es.now l.self.ts.now l.self.said.now l.i) (hole_at l.self.ps.now l.self.es.now l.self.ts.now l.self.said.now l.i) l.holes l.hole-index

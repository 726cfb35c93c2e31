-- `filled` meets its contract. The loop's invariant: the faces that are left decide, and what is lent has kept its length.
use mathlib.Core.Path.{◌≡◌}
use lib.ListN.{length}
use Rattle.filled.specs.Filled.{face_at}
use Rattle.filled.specs.Ready.{Slotted}
use Rattle.filled.proofs.CodeLaws.{Testing}
use Rattle.filled.proofs.filled.Given as goal

abbrev pub invariant-loop-face : goal.invariant-loop-face
invariant-loop-face l =
    (length l.holes ≡ length l.initial.holes) × (length l.scratch ≡ length l.initial.scratch) × Testing (Slotted l.ps l.es l.ts l.said) (face_at l.ps l.es l.ts l.said) l.faces l.face-index

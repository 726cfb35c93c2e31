-- The loop's invariant: what the fields before `at` say, and their order, is held, and with the items of the fields left theirs are the
-- items of the text. The measure is the number of bytes left.
use Rattle.std.proofs.Common.{◌≡◌, ◌-◌, length}
use Rattle.items.proofs.FieldsLaws.{Reading}
use Rattle.items.proofs.read_fields.Given as goal

abbrev pub invariant-loop-at : goal.invariant-loop-at
invariant-loop-at l = (length l.table ≡ length l.initial.table) × Reading l.text l.table l.used l.at l.said l.order

abbrev pub decreases-loop-at : goal.decreases-loop-at
decreases-loop-at l = length l.text - l.at

-- `put_row` meets its contract. The loop's invariant: the words of the first k sets are stored, and from there on nothing is changed.
use mathlib.Core.Path.{◌≡◌}
use lib.ListN.{length}
use Rattle.masks.specs.Sets.{masks_in}
use Rattle.words.proofs.WordLaws.{Stored}
use Rattle.words.proofs.put_row.Given as goal

abbrev pub invariant-loop-k : goal.invariant-loop-k
invariant-loop-k l =
    (length l.words ≡ length l.initial.words) × Stored l.at (masks_in l.fn.row) l.initial.words l.k l.words

-- `sets_in` meets its contract. The loop's invariant: the masks of the first k sets are read.
use mathlib.Core.Path.{◌≡◌}
use lib.ListN.{length, take}
use Rattle.meaning.specs.Limits.{max_functions}
use Rattle.masks.specs.Sets.{masks_in}
use Rattle.words.specs.Words.{masks_from}
use Rattle.words.proofs.sets_in.Given as goal

abbrev pub invariant-loop-k : goal.invariant-loop-k
invariant-loop-k l =
    (length l.set-items ≡ max_functions) × (take l.k (masks_in l.set-items) ≡ masks_from l.k l.words)

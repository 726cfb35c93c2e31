-- `stepping`. The loop's invariant: the sets from k on are empty.
use Prim.Native.Nat.{ℕ, ◌≤◌, ◌<◌}
use mathlib.Core.Path.{◌≡◌}
use lib.ListN.{get_or}
use Rattle.masks.specs.Sets.{masks_in}
use Rattle.rows.proofs.stepping.Given as goal

abbrev pub invariant-loop-k : goal.invariant-loop-k
invariant-loop-k l = (j : ℕ) → l.k ≤ j → j < l.fn.firsts.count → get_or (masks_in l.row) j 0 ≡ 0

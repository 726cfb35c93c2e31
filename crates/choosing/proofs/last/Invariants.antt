-- `last`. The loop's invariant: the set has no node from node i on.
use mathlib.Core.Path.{◌≡◌}
use mathlib.Core.Bool.{false}
use Prim.Native.Nat.{ℕ, ◌≤◌}
use lib.ListN.{get_or}
use Rattle.masks.specs.Sets.{nodes}
use Rattle.choosing.proofs.last.Given as goal

abbrev pub invariant-loop-i : goal.invariant-loop-i
invariant-loop-i l = (k : ℕ) → l.i ≤ k → get_or (nodes l.set) k false ≡ false

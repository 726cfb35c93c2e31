-- `make::add_up` meets its contract. The loop's invariant: the sums of the first k nodes and of fewer stand.
use mathlib.Core.Path.{◌≡◌}
use Prim.Native.Nat.{ℕ, ◌≤◌}
use Rattle.tokens.specs.Key.{at}
use Rattle.numbers.specs.Alike.{sum_to}
use Rattle.numbers.proofs.make.add_up.Given as goal

abbrev pub invariant-loop-k : goal.invariant-loop-k
invariant-loop-k l =
    (l.sum ≡ sum_to l.t l.k) × ((n : ℕ) → n ≤ l.k → at l.sums n ≡ sum_to l.t n)

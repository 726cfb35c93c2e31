-- `make::add_up` meets its contract. The loop's invariant: the sums of the first k nodes and of fewer stand.
use mathlib.Core.Path.{◌≡◌, ap, ◌∙◌}
use Prim.Native.Nat.{ℕ, ◌+◌}
use native.Mathlib.Omega.{arith}
use lib.ListN.{length-set}
use Rattle.numbers.specs.Alike.{weight_of_key, sum_to}
use Rattle.numbers.proofs.Sums.{sum_none, sum_next, sum_few}
use Rattle.numbers.proofs.Passing.{summing_begins, summing_more}
use Rattle.numbers.proofs.make.add_up.Goals as goal
use Rattle.numbers.proofs.make.add_up.Goals.{After-weight-sum}

-- What the node at hand adds
next : (c : After-weight-sum) → c.loop-k.sum + c.weight-sum.result ≡ sum_to c.args.t.now (c.loop-k.k + 1)
next c =
    ap (λ (m : ℕ). m + c.weight-sum.result) c.loop-k.invariant.0
    ∙ ap (λ (m : ℕ). sum_to c.args.t.now c.loop-k.k + m) (c.weight-sum.ensures ∙ ap weight_of_key c.key_of.ensures)
    ∙ sum_next c.args.t.now c.loop-k.k c.loop-k-test.true

pub loop-k-init : goal.loop-k-init
loop-k-init c = (sum_none c.args.t.now, summing_begins c.args.t.now c.args.sums.now (omega (arith, c.requires.1)))

pub overflow_add-sum : goal.overflow_add-sum
overflow_add-sum c = omega (arith, next (goal.at.overflow_add-sum c).After-weight-sum, sum_few c.args.t.now (c.loop-k.k + 1) (omega arith), c.requires.0)

pub loop-k-preserved : goal.loop-k-preserved
loop-k-preserved c =
    let sum = next (goal.at.loop-k-preserved c).After-weight-sum in
    (sum, summing_more c.args.t.now c.loop-k.sums c.loop-k.k _ c.loop-k-test.true (omega (arith, length-set c.args.sums.now 0 0)) sum c.loop-k.invariant.1)

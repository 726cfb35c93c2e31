-- `read_constraints` meets its contract.
use Rattle.std.proofs.Common.{rules}
use Rattle.std.proofs.lemmas.Result.{err_from_is_err_and}
use Rattle.meaning.specs.Limits.{max_constraints}
use Rattle.table.proofs.ProblemLaws.{reading_begins, reading_cut, reading_ends}
use Rattle.table.proofs.ProblemLaws.{reading_goes, reading_refused, sums_fit}
use Rattle.table.proofs.problem.read_constraints.Goals as goal

pub loop-at-init : goal.loop-at-init
loop-at-init c = reading_begins c.args.s.now c.args.patterns.now c.args.expressions.now

pub overflow_sub-count : goal.overflow_sub-count
unfolding max_constraints
overflow_sub-count c = c.loop-at.invariant.few

pub returns-in_err-length : goal.returns-in_err-length
unfolding max_constraints
returns-in_err-length c =
    let p = err_from_is_err_and c.from_residual.result c.from_residual.ensures.1 in
    rw (p.1, p.2) (reading_cut c.loop-at.invariant c.loop-at-test.true c.in_err-length.ensures)

pub returns-in_err-pair : goal.returns-in_err-pair
unfolding max_constraints
returns-in_err-pair c =
    let p = err_from_is_err_and c.from_residual-in_err-pair.result c.from_residual-in_err-pair.ensures.1 in
    rw (p.1, p.2) (reading_refused c.loop-at.invariant c.loop-at-test.true c.in_ok-length.ensures c.in_err-pair.ensures)

pub overflow_add-p : goal.overflow_add-p
unfolding max_constraints
overflow_add-p c =
    record { fits = (sums_fit c.loop-at.invariant c.loop-at-test.true c.in_ok-length.ensures _ _ c.in_ok-pair.ensures (search rules)).0 }

pub overflow_add-e : goal.overflow_add-e
unfolding max_constraints
overflow_add-e c =
    record { fits = (sums_fit c.loop-at.invariant c.loop-at-test.true c.in_ok-length.ensures _ _ c.in_ok-pair.ensures (search rules)).1 }

pub loop-at-preserved : goal.loop-at-preserved
unfolding max_constraints
loop-at-preserved c =
    reading_goes c.loop-at.invariant c.loop-at-test.true c.in_ok-length.ensures _ _ c.in_ok-pair.ensures
    c.read_pair.auto.patterns c.read_pair.auto.expressions

pub returns : goal.returns
returns c = reading_ends c.loop-at.invariant c.loop-at-test.false

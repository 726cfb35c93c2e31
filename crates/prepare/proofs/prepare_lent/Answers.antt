-- `prepare_lent` meets its contract: what `prepare` leaves at the fronts of the tables is the problem.
use mathlib.Core.Path.{refl, sym}
use lib.Seq.{length-take-le}
use Rattle.std.proofs.lemmas.Result.{err_from_is_err_and}
use Rattle.prepare.proofs.PreparedLaws.{fronts_refused, prepared_accepted, fronts_numbers, fronts_lent}
use Rattle.prepare.proofs.prepare_lent.Goals as goal

pub returns-in_err-fronts : goal.returns-in_err-fronts
returns-in_err-fronts c =
    let p = err_from_is_err_and c.from_residual.result c.from_residual.ensures.1 in
    rw (p.1, p.2) (fronts_refused _ _ _ _ _ _ c.in_err-fronts.ensures)

pub slice_bounds-nodes-end : goal.slice_bounds-nodes-end
slice_bounds-nodes-end c =
    let ready = prepared_accepted _ _ _ _ _ _ c.in_ok-fronts.ensures in sym (length-take-le _ _ ready.laid.expressions_inside)

pub slice_bounds-nodes-end-2 : goal.slice_bounds-nodes-end-2
slice_bounds-nodes-end-2 c =
    let ready = prepared_accepted _ _ _ _ _ _ c.in_ok-fronts.ensures in sym (length-take-le _ _ ready.tabled.numbers_inside)

pub invariant_of-nodes : goal.invariant_of-nodes
invariant_of-nodes c =
    record { one_each = fronts_numbers _ _ _ _ _ _ (prepared_accepted _ _ _ _ _ _ c.in_ok-fronts.ensures) }

pub lent-requires : goal.lent-requires
lent-requires c =
    record { x = _; es = _; ns = _; ready = prepared_accepted _ _ _ _ _ _ c.in_ok-fronts.ensures; tokens = refl; numbers = refl }

pub returns : goal.returns
returns c = fronts_lent _ _ _ _ _ _ (prepared_accepted _ _ _ _ _ _ c.in_ok-fronts.ensures) _ refl refl _ c.lent.ensures

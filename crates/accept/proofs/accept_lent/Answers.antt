-- `accept_lent` meets its contract: what `accept` leaves at the fronts of the tables is the problem.
use mathlib.Core.Path.{refl}
use Rattle.std.proofs.lemmas.Result.{err_from_is_err_and}
use Rattle.accept.proofs.AcceptanceLaws.{filled_refused, filled_patterns, filled_expressions, filled_faces, filled_lent}
use Rattle.accept.proofs.accept_lent.Goals as goal
use Rattle.accept.proofs.accept_lent.Goals.{in-Some, in-None}

pub returns-in_err-filled : goal.returns-in_err-filled
returns-in_err-filled c =
    let p = err_from_is_err_and c.from_residual.result c.from_residual.ensures.1 in
    rw (p.1, p.2) (filled_refused _ _ _ _ _ _ _ c.in_err-filled.ensures)

pub slice_bounds-result-end : goal.slice_bounds-result-end
slice_bounds-result-end c = (filled_patterns _ _ _ _ _ _ _ c.in_ok-filled.ensures)

pub slice_bounds-result-end-2 : goal.slice_bounds-result-end-2
slice_bounds-result-end-2 c = (filled_expressions _ _ _ _ _ _ _ c.in_ok-filled.ensures)

pub slice_bounds-result-end-in-Some : goal.slice_bounds-result-end-in-Some
slice_bounds-result-end-in-Some c = filled_faces _ _ _ _ _ _ _ c.in_ok-filled.ensures _ c.in-Some.is

pub returns : goal.returns
returns c =
    filled_lent _ _ _ _ _ _ _ c.in_ok-filled.ensures _ refl refl refl (
    elim c.match-filled.branch [
      | in-Some w ↦ rw w.result-is (w.in-Some.n, w.in-Some.is, refl)
      | in-None w ↦ rw w.result-is w.in-None.is
    ])

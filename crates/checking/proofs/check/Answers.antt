-- `check` meets its contract: the problem is accepted, and the text checked.
use Rattle.std.proofs.lemmas.Result.{err_from_is_err_and}
use Rattle.checking.proofs.CheckLaws.{accepted_ground, check_accepted, check_refused}
use Rattle.checking.proofs.check.Goals as goal

pub check_text-requires : goal.check_text-requires
check_text-requires c = accepted_ground _ _ c.in_ok-standing.ensures

pub returns-in_err-standing : goal.returns-in_err-standing
returns-in_err-standing c =
    let p = err_from_is_err_and c.from_residual.result c.from_residual.ensures.1 in
    rw (p.1, p.2) (check_refused _ _ _ c.in_err-standing.ensures)

pub returns : goal.returns
returns c = check_accepted _ _ _ c.in_ok-standing.ensures _ c.check_text.ensures

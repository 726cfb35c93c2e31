-- `prepare` meets its contract: what `accept` leaves is what the tables are made from.
use Rattle.std.proofs.lemmas.Result.{err_from_is_err_and}
use Rattle.prepare.proofs.PreparedLaws.{prepares_refused, accepts_ground, prepares_accepted}
use Rattle.prepare.proofs.prepare.Goals as goal

pub returns-in_err-filled : goal.returns-in_err-filled
returns-in_err-filled c =
    let p = err_from_is_err_and c.from_residual.result c.from_residual.ensures.1 in
    rw (p.1, p.2) (prepares_refused _ _ _ _ _ _ _ _ c.in_err-filled.ensures)

pub with_numbers-requires-clause-ground : goal.with_numbers-requires-clause-ground
with_numbers-requires-clause-ground c = accepts_ground _ _ _ _ _ _ _ c.in_ok-filled.ensures

pub returns : goal.returns
returns c = prepares_accepted _ _ _ _ _ _ _ c.in_ok-filled.ensures _ _ c.with_numbers.ensures

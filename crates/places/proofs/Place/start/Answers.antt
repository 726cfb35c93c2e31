-- `start` meets its contract: a problem is prepared, and its first place is looked up.
use Rattle.std.proofs.lemmas.Result.{err_from_is_err_and}
use Rattle.places.proofs.Naming.{starts_refused, starts_begins}
use Rattle.places.proofs.Place.start.Goals as goal

pub returns-in_err-prepared : goal.returns-in_err-prepared
returns-in_err-prepared c =
    let p = err_from_is_err_and c.from_residual.result c.from_residual.ensures.1 in
    rw (p.1, p.2) (starts_refused _ _ c.in_err-prepared.ensures)

pub returns : goal.returns
returns c = starts_begins _ _ c.in_ok-prepared.ensures _ c.first.ensures

-- `compare_in` meets its contract: what reading and checking lends is what is compared.
use Rattle.std.proofs.lemmas.Result.{err_from_is_err_and}
use Rattle.comparing.proofs.Answering.{answers_refused, lent_nested, answers_compared}
use Rattle.comparing.proofs.compare_in.Goals as goal

pub returns-in_err-standing : goal.returns-in_err-standing
returns-in_err-standing c =
    let p = err_from_is_err_and c.from_residual.result c.from_residual.ensures.1 in
    rw (p.1, p.2) (answers_refused _ _ c.in_err-standing.ensures c.args.a c.args.b)

pub compare_present-requires : goal.compare_present-requires
compare_present-requires c = lent_nested _ _ c.in_ok-standing.ensures

pub returns : goal.returns
returns c = answers_compared _ _ c.in_ok-standing.ensures _ _ _ c.compare_present.ensures

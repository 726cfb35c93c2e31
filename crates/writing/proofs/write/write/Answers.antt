-- `write` meets its contract: the problem is prepared, and the row's text written.
use borrow.Author.Rules.{rules}
use Rattle.std.proofs.lemmas.Result.{err_from_is_err_and}
use Rattle.search.proofs.CallLaws.{prepared_callable}
use Rattle.writing.proofs.WriteLaws.{write_accepted, write_refused}
use Rattle.writing.proofs.write.write.Goals as goal

pub returns-in_err-prepared : goal.returns-in_err-prepared
returns-in_err-prepared c =
    let p = err_from_is_err_and c.from_residual.result c.from_residual.ensures.1 in
    rw (p.1, p.2) (write_refused _ _ _ c.in_err-prepared.ensures)

pub write_named-requires : goal.write_named-requires
write_named-requires c = prepared_callable _ _ c.in_ok-prepared.ensures _ (search rules)

pub returns : goal.returns
returns c = write_accepted _ _ _ c.in_ok-prepared.ensures c.write_named.ensures

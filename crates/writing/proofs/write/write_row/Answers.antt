-- `write_row` meets its contract: the row is judged, and its text written.
use Rattle.std.proofs.lemmas.Result.{err_from_is_err_and}
use Rattle.writing.proofs.WriteLaws.{row_judgeable, row_planned, row_seventeen, row_text_lem}
use Rattle.writing.proofs.write.write_row.Goals as goal

pub judge-requires : goal.judge-requires
judge-requires c = row_judgeable c.requires

pub returns-in_err-sources : goal.returns-in_err-sources
returns-in_err-sources c =
    let p = err_from_is_err_and c.from_residual.result c.from_residual.ensures.1 in
    rw (p.1, p.2) (row_seventeen _ c.judge.ensures c.in_err-sources.ensures.value)

pub write_text-requires : goal.write_text-requires
write_text-requires c = row_planned _ c.judge.ensures c.in_ok-sources.ensures.value c.requires

pub returns : goal.returns
returns c = row_text_lem _ c.judge.ensures c.in_ok-sources.ensures.value c.write_text.ensures

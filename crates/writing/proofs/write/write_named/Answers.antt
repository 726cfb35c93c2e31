-- `write_named` meets its contract: a law for each thing that a value names.
use Rattle.std.proofs.lemmas.Result.{err_from_is_err_and}
use Rattle.writing.proofs.WriteLaws.{named_nothing, named_past}
use Rattle.writing.proofs.write.write_named.Goals as goal

pub returns-in_err-named_by : goal.returns-in_err-named_by
returns-in_err-named_by c =
    let p = err_from_is_err_and c.from_residual.result c.from_residual.ensures.1 in
    rw (p.1, p.2) (named_nothing c.in_err-named_by.ensures)

pub write_row-requires : goal.write_row-requires
write_row-requires c =
    record {
      callable = c.requires;
      functions = c.in-Row.field-0;
      is_row = rw c.in-Row.is at c.in_ok-named_by.ensures;
    }

pub returns-in-Past : goal.returns-in-Past
returns-in-Past c = named_past (rw c.in-Past.is at c.in_ok-named_by.ensures)

-- `check_text` meets its contract: a text that is read is decided.
use Rattle.std.proofs.Common.{rules, sym}
use lib.Seq.{length-take-le}
use Rattle.std.proofs.lemmas.Result.{err_from_is_err_and}
use Rattle.checking.proofs.CheckLaws.{text_decidable, text_passed, text_refused}
use Rattle.checking.proofs.check_text.Goals as goal

pub slice_bounds-passes-end : goal.slice_bounds-passes-end
slice_bounds-passes-end c = sym (length-take-le _ _ c.in_ok-read.ensures.within)

pub passes-requires : goal.passes-requires
passes-requires c =
    text_decidable _ _ _ _ c.in_ok-read.ensures _ _ (search rules) (search rules) c.requires

pub returns-in_err-read : goal.returns-in_err-read
returns-in_err-read c =
    let p = err_from_is_err_and c.from_residual.result c.from_residual.ensures.1 in
    rw (p.1, p.2) (text_refused _ _ _ c.in_err-read.ensures)

pub returns-then-passes : goal.returns-then-passes
returns-then-passes c = text_passed _ _ _ _ c.in_ok-read.ensures _ (rw c.if-passes.true at c.passes.ensures)

pub returns-else-passes : goal.returns-else-passes
returns-else-passes c = text_passed _ _ _ _ c.in_ok-read.ensures _ (rw c.if-passes.false at c.passes.ensures)

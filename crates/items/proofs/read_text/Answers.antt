-- `read_text` meets its contract: a law for each return.
use Rattle.std.proofs.lemmas.Result.{err_from_is_err_and}
use borrow.Author.Tests.{not-true, not-false}
use Rattle.meaning.specs.Limits.{largest_text}
use Rattle.items.proofs.TextLaws.{text_falls, text_got, text_over, text_malformed}
use Rattle.items.proofs.read_text.Goals as goal

pub returns-then-text-gt-LARGEST_TEXT : goal.returns-then-text-gt-LARGEST_TEXT
returns-then-text-gt-LARGEST_TEXT c = text_over _ c.args.table.now c.if-text-gt-LARGEST_TEXT.true

pub read_fields-requires : goal.read_fields-requires
unfolding largest_text
read_fields-requires c = record { short = c.if-text-gt-LARGEST_TEXT.false; room = c.requires }

pub returns-in_err-found : goal.returns-in_err-found
returns-in_err-found c =
    let p = err_from_is_err_and c.from_residual.result c.from_residual.ensures.1 in
    rw (p.1, p.2) (text_malformed _ c.read_fields.new.table c.if-text-gt-LARGEST_TEXT.false _ c.in_err-found.ensures)

pub returns-then-not-found : goal.returns-then-not-found
returns-then-not-found c = text_falls _ _ c.if-text-gt-LARGEST_TEXT.false _ c.in_ok-found.ensures (not-true _ c.if-not-found.true)

pub returns : goal.returns
returns c = text_got _ _ c.if-text-gt-LARGEST_TEXT.false _ c.in_ok-found.ensures (not-false _ c.if-not-found.false)

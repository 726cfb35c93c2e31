-- `read_content` meets its contract: an answer for each return, by the rule of the tag.
use Rattle.std.proofs.Common.{arith}
use Rattle.items.proofs.ContentLaws.{content_none, content_over, content_value, content_body, content_open, content_other}
use Rattle.items.proofs.read_content.Goals as goal

pub returns-then-end-eq3 : goal.returns-then-end-eq3
returns-then-end-eq3 c = content_none c.args.s.now c.args.tag c.args.end c.requires.0 c.args.table.now c.if-end-eq3.true

pub returns-then-from-ge-METAVARIABLES : goal.returns-then-from-ge-METAVARIABLES
returns-then-from-ge-METAVARIABLES c =
    content_over c.args.s.now c.args.tag c.args.end c.requires.0 c.if-end-eq3.false c.args.table.now
    (omega (arith, c.from.ensures))

pub returns-in_err-rule : goal.returns-in_err-rule
returns-in_err-rule c =
    let other = c.in_err-rule.ensures in
    rw c.from_residual.ensures (content_other c.args.s.now c.args.tag c.args.end c.requires.0 c.args.table.now other.0 other.1 other.2)

pub returns-in-Value : goal.returns-in-Value
returns-in-Value c =
    let a = c.args in
    content_value a.s.now a.tag a.end c.requires.0 c.if-end-eq3.false (omega (arith, c.from.ensures)) a.table.now
    c.read_expression.new.out c.read_expression.result c.ended.result (rw c.in-Value.is at c.in_ok-rule.ensures) c.read_expression.ensures
    (rw c.in-Value.is at c.ended.ensures)

pub returns-in-Body : goal.returns-in-Body
returns-in-Body c =
    let a = c.args in
    content_body a.s.now a.tag a.end c.requires.0 c.if-end-eq3.false (omega (arith, c.from.ensures)) a.table.now
    c.read_body.new.out c.read_body.result c.ended-in-Body.result (rw c.in-Body.is at c.in_ok-rule.ensures) c.read_body.ensures
    (rw c.in-Body.is at c.ended-in-Body.ensures)

pub returns-in-Open : goal.returns-in-Open
returns-in-Open c =
    let a = c.args in
    content_open a.s.now a.tag a.end c.requires.0 c.if-end-eq3.false (omega (arith, c.from.ensures)) a.table.now
    c.ended-in-Open.result (rw c.in-Open.is at c.in_ok-rule.ensures) (rw c.in-Open.is at c.ended-in-Open.ensures)

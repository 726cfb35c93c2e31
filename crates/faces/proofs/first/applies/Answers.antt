-- `first::applies` meets its contract: one law for each return.
use Rattle.faces.proofs.FirstLaws.{applies_out, applies_six, applies_other}
use Rattle.faces.proofs.first.applies.Goals as goal

pub returns-then-i-ps : goal.returns-then-i-ps
returns-then-i-ps c =
    let a = c.args in
    applies_out a.ps.now a.f a.n c.if-i-ps.true

pub returns-then-tag-eq6 : goal.returns-then-tag-eq6
returns-then-tag-eq6 c =
    let a = c.args in
    applies_six a.ps.now a.f a.n c.tag.result c.tag.ensures c.payload.result
    c.payload.ensures c.if-tag-eq6.true

pub returns-else-tag-eq6 : goal.returns-else-tag-eq6
returns-else-tag-eq6 c =
    let a = c.args in
    applies_other a.ps.now a.f a.n c.tag.result c.tag.ensures c.if-tag-eq6.false

-- `holeless` meets its contract: one law for each return.
use Rattle.entries.proofs.NeededLaws.{holeless_other, holeless_function}
use Rattle.entries.proofs.holeless.Goals as goal

pub returns-then-tag-eq6 : goal.returns-then-tag-eq6
returns-then-tag-eq6 c =
    let a = c.args in
    holeless_function a.holed a.x c.tag.result c.tag.ensures c.if-tag-eq6.true c.payload.result
    c.payload.ensures c.holds.result c.holds.ensures

pub returns-else-tag-eq6 : goal.returns-else-tag-eq6
returns-else-tag-eq6 c =
    let a = c.args in
    holeless_other a.holed a.x c.tag.result c.tag.ensures c.if-tag-eq6.false

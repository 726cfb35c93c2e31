-- `first::large` meets its contract: a number that is no node's is not that of a large face.
use Rattle.std.proofs.Common.{◌∙◌}
use borrow.Author.Tests.{le-ltb}
use Rattle.faces.proofs.FirstLaws.{large_in_lem, large_out}
use Rattle.faces.proofs.first.large.Goals as goal

pub returns-then-node-es : goal.returns-then-node-es
returns-then-node-es c =
    let a = c.args in
    large_in_lem a.es.now a.node c.size.result c.size.ensures c.if-node-es.true

pub returns-else-node-es : goal.returns-else-node-es
returns-else-node-es c =
    let a = c.args in
    le-ltb a.node _ c.if-node-es.false ∙ large_out a.es.now a.node c.if-node-es.false

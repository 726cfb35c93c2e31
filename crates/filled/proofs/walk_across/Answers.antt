-- `walk_across` meets its contract: the span is made of the parts of the two tokens.
use Rattle.filled.proofs.CodeLaws.{across_lent, across_walked}
use Rattle.filled.proofs.walk_across.Goals as goal

pub walk_at-requires : goal.walk_at-requires
walk_at-requires c =
    let a = c.args in
    across_lent a.t.now a.u.now a.i a.j c.size.result c.depth.result c.depth-2.result
    c.size.ensures a.out.now c.requires

pub returns : goal.returns
returns c =
    let a = c.args in
    across_walked a.t.now a.u.now a.i a.j c.size.result c.depth.result c.depth-2.result
    c.size.ensures c.depth.ensures c.depth-2.ensures a.out.now _ c.walk_at.result
    c.walk_at.ensures

-- `copying::write_node` meets its contract: the fixed part goes into the part after the head.
use Rattle.copying.proofs.WriteLaws.{node_wrote}
use borrow.Author.Rules.{rules}
use Rattle.copying.proofs.write_node.Goals as goal

pub returns : goal.returns
returns c = (
  search rules,
  node_wrote c.args.x c.args.n _ _ c.args.out.now _ _ c.fixed_length-fixed.ensures c.tag.ensures
      c.write_head.ensures c.write_fixed.ensures,
)

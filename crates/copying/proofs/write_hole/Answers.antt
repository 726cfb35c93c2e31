-- `copying::write_hole` meets its contract: a head of no content.
use Rattle.copying.proofs.WriteLaws.{hole_wrote}
use Rattle.copying.proofs.write_hole.Goals as goal

pub returns : goal.returns
returns c = hole_wrote c.args.out.now _ c.write_head.ensures

-- `copying::write_head` meets its contract: the length goes into the part after the tag.
use native.Mathlib.Omega.{arith}
use Rattle.copying.proofs.WriteLaws.{head_wrote}
use Rattle.copying.proofs.write_head.Goals as goal

pub returns : goal.returns
returns c = head_wrote c.args.tag c.args.length c.args.out.now _ (omega (arith, c.requires.room)) c.write_word.ensures

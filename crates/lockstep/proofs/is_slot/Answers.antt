-- `is_slot` meets its contract: whether the tag is above 4.
use Rattle.lockstep.proofs.SpanLaws.{slot_tag_lem}
use Rattle.lockstep.proofs.is_slot.Goals as goal

pub returns : goal.returns
returns c = slot_tag_lem c.args.x c.tag.result c.tag.ensures

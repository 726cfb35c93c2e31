-- `write_open` meets its contract.
use Rattle.composing.proofs.TextLaws.{open_field_lem}
use Rattle.composing.proofs.text.write_open.Goals as goal

pub returns : goal.returns
returns c = open_field_lem _ c.args.out.now _ c.requires c.write_head.ensures

-- `read_field` meets its contract: the field's head, and then its content.
use Rattle.items.proofs.FieldLaws.{field_cut, field_content}
use Rattle.items.proofs.read_field.Goals as goal

pub returns-in_default : goal.returns-in_default
returns-in_default c = field_cut c.args.s.now c.args.table.now c.in_default.ensures

pub returns : goal.returns
returns c =
    field_content c.args.s.now c.args.table.now c.read_content.new.table c.read_content.result
    c.in-Ok.ensures c.read_content.ensures

-- `passes` meets its contract: the fields, and then the constraints.
use Rattle.checking.proofs.CheckLaws.{passed_met, passed_never}
use Rattle.checking.proofs.passes.Goals as goal

pub returns-else-fields_right : goal.returns-else-fields_right
returns-else-fields_right c = passed_never _ _ _ _ c.fields_right.ensures c.if-fields_right.false

pub returns-then-fields_right : goal.returns-then-fields_right
returns-then-fields_right c = passed_met _ _ _ _ c.fields_right.ensures _ c.if-fields_right.true c.constraints_met.ensures

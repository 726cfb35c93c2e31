-- `bodies::body_closed` meets its contract.
use Rattle.bodies.proofs.ClosedLaws.{closed_ends}
use Rattle.bodies.proofs.body_closed.Goals as goal

pub returns : goal.returns
returns c = closed_ends c.loop-i.invariant c.loop-i-test.false

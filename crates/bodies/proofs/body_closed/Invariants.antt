-- `bodies::body_closed` meets its contract. The loop's invariant is `Testing`; the measure is the number of nodes left of the face.
use Prim.Native.Nat.{◌-◌}
use Rattle.masks.specs.Sets.{mask}
use Rattle.bodies.proofs.ClosedLaws.{Testing}
use Rattle.bodies.proofs.body_closed.Given as goal

abbrev pub invariant-loop-i : goal.invariant-loop-i
invariant-loop-i l = Testing l.tokens l.face (mask l.set) l.n l.d l.i

abbrev pub decreases-loop-i : goal.decreases-loop-i
decreases-loop-i l = l.n - l.i

-- `shared_from` meets its contract. The loop's invariant: the least depth of all nodes that it has passed. The measure is the number of nodes
-- left up to b.
use Prim.Native.Nat.{◌+◌, ◌-◌}
use Rattle.comparing.proofs.SharedLaws.{Passed}
use Rattle.comparing.proofs.shared_from.Given as goal

abbrev pub invariant-loop-next : goal.invariant-loop-next
invariant-loop-next l = Passed l.t l.a l.b l.shared l.next

abbrev pub decreases-loop-next : goal.decreases-loop-next
decreases-loop-next l = l.b + 1 - l.next

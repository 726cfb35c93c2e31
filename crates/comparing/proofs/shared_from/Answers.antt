-- `shared_from` meets its contract. The loop's invariant: the least depth of all nodes that it has passed. The measure is the number of nodes
-- left up to b.
use native.Mathlib.Omega.{arith}
use Rattle.comparing.proofs.SharedLaws.{passed_first, passed_next, passed_none, passed_all}
use Rattle.comparing.proofs.shared_from.Goals as goal

pub overflow_add-next : goal.overflow_add-next
overflow_add-next c = omega (arith, c.size.ensures, c.requires.nested.ends c.args.a (omega arith))

pub loop-next-init : goal.loop-next-init
loop-next-init c =
    passed_first _ c.requires.nested _ _ c.requires.in_order c.requires.second_in _ _ c.depth-shared.ensures c.size.ensures

pub returns-then-shared-eq0 : goal.returns-then-shared-eq0
returns-then-shared-eq0 c =
    passed_none _ c.requires.nested _ _ c.requires.in_order c.requires.second_in _ _ c.loop-next.invariant c.if-shared-eq0.true

pub overflow_add-next-in-loop-next : goal.overflow_add-next-in-loop-next
overflow_add-next-in-loop-next c =
    omega (arith, c.size-in-loop-next.ensures, c.requires.nested.ends c.loop-next.next (omega arith), c.loop-next-test.true)

pub loop-next-smaller : goal.loop-next-smaller
loop-next-smaller c =
    omega (arith, c.size-in-loop-next.ensures, c.requires.nested.counted c.loop-next.next (omega arith), c.loop-next-test.true)

pub loop-next-preserved : goal.loop-next-preserved
loop-next-preserved c =
    passed_next _ c.requires.nested _ _ c.requires.in_order c.requires.second_in _ _ c.loop-next.invariant _ _ _ c.loop-next-test.true
    c.min-shared.ensures c.depth-d.ensures c.size-in-loop-next.ensures

pub returns : goal.returns
returns c =
    passed_all _ c.requires.nested _ _ c.requires.in_order c.requires.second_in _ _ c.loop-next.invariant c.loop-next-test.false

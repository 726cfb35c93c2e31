-- `followed` meets its contract.
use borrow.Author.Tests.{le-ltb, lt-ltb}
use borrow.Author.Rules.{rules}
use Rattle.meaning.specs.Limits.{metavariable_count}
use Rattle.items.proofs.followed.Goals as goal

pub overflow_add-next : goal.overflow_add-next
unfolding metavariable_count
overflow_add-next c = search rules

pub returns-then-m-order : goal.returns-then-m-order
returns-then-m-order c = rw (lt-ltb _ _ c.if-m-order.true)

pub returns : goal.returns
returns c = rw (le-ltb _ _ c.if-m-order.false)

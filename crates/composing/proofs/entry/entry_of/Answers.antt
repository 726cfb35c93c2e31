-- `entry_of` meets its contract: a function, another metavariable, or none of the problem's.
use Rattle.composing.proofs.EntryLaws.{entry_function, entry_plain, entry_absent, rank_small}
use Rattle.composing.proofs.entry.entry_of.Goals as goal

pub body_of-requires : goal.body_of-requires
body_of-requires c = (c.requires.0, rank_small _ _ _ _ c.requires.0 c.requires.1 c.in_set.ensures c.if-in_set.true c.rank.ensures)

pub returns-then-in_set : goal.returns-then-in_set
returns-then-in_set c =
    entry_function _ _ _ c.in_set.ensures _ _ c.if-in_set.true c.rank.ensures
    c.body_of.ensures

pub returns-then-in_set-2 : goal.returns-then-in_set-2
returns-then-in_set-2 c =
    entry_plain _ _ _ c.in_set.ensures c.if-in_set.false _
    c.in_set-else-in_set.ensures _ c.if-in_set-2.true c.value_of.ensures

pub returns-else-in_set-2 : goal.returns-else-in_set-2
returns-else-in_set-2 c =
    entry_absent _ _ _ c.in_set.ensures c.if-in_set.false _ c.in_set-else-in_set.ensures
    c.if-in_set-2.false

-- `open_right` meets its contract.
use Rattle.entries.proofs.HoleMeaning.{said_bodied}
use Rattle.checking.proofs.CheckLaws.{open_judged, open_needed, told_table}
use Rattle.checking.proofs.open_right.Goals as goal

pub holed-requires : goal.holed-requires
holed-requires c = said_bodied _ _ _ c.requires.2.says

pub needed-need-requires : goal.needed-need-requires
needed-need-requires c = told_table _ _ _ _ _ c.requires.2

pub returns-else-open_unneeded : goal.returns-else-open_unneeded
returns-else-open_unneeded c =
    open_needed _ _ _ _ c.holed.ensures _ c.needed-need.ensures _ c.open_unneeded.ensures c.if-open_unneeded.false

pub returns-then-open_unneeded : goal.returns-then-open_unneeded
returns-then-open_unneeded c =
    open_judged _ _ _ _ c.holed.ensures _ c.needed-need.ensures _ c.open_unneeded.ensures _ c.if-open_unneeded.true
    c.unneeded_open.ensures

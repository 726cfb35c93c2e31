-- `value_of` meets its contract.
use Rattle.composing.proofs.EntryLaws.{value_returned}
use Rattle.composing.proofs.entry.value_of.Goals as goal

pub returns-in-Some : goal.returns-in-Some
returns-in-Some c = value_returned _ _ c.in-Some.is

pub returns-in-None : goal.returns-in-None
returns-in-None c = value_returned _ _ c.in-None.is

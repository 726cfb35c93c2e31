-- `body_of` meets its contract.
use Rattle.composing.proofs.EntryLaws.{body_returned}
use Rattle.composing.proofs.entry.body_of.Goals as goal

pub returns : goal.returns
returns c = body_returned _ _

-- `Said::nothing` meets its contract.
use Rattle.said.proofs.SaidLaws.{said_nothing}
use Rattle.said.proofs.Said.nothing.Goals as goal

pub returns : goal.returns
returns c = said_nothing

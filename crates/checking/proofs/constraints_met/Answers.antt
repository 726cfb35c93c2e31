-- `constraints_met` meets its contract.
use Rattle.checking.proofs.CheckLaws.{met_filled, met_grounded, met_never}
use Rattle.checking.proofs.constraints_met.Goals as goal

pub returns-in_default : goal.returns-in_default
returns-in_default c = met_never _ _ _ c.in_default.is

pub filled-requires : goal.filled-requires
filled-requires c = met_grounded _ _ _ _ c.in-Some.is _ _ c.requires

pub returns : goal.returns
returns c = met_filled _ _ _ _ c.in-Some.is _ c.filled.ensures

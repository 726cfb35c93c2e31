-- `rank` meets its contract: the remainder by a 1 shifted to bit m has the bits below m.
use Rattle.metavariables.proofs.SurveyLaws.{rank_code}
use Rattle.metavariables.proofs.rank.Goals as goal

pub returns : goal.returns
returns c = rank_code c.args.set c.args.m c.requires

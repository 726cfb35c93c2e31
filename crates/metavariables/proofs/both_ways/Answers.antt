-- `both_ways` meets its contract: two sets meet where `&` is not 0.
use Rattle.metavariables.proofs.SurveyLaws.{meets_code}
use Rattle.metavariables.proofs.both_ways.Goals as goal

pub returns : goal.returns
returns c = meets_code c.args.functions c.ranges.functions.fits c.args.plain c.ranges.plain.fits

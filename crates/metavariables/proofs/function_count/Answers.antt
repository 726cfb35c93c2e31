-- `function_count` meets its contract: the count of ones is the size of the set.
use Rattle.metavariables.proofs.SurveyLaws.{count_code}
use Rattle.metavariables.proofs.function_count.Goals as goal

pub returns : goal.returns
returns c = count_code c.args.functions c.ranges.functions.fits

-- `survey` meets its contract. The loop's invariant: what is in the two sets and what is left of the tokens make up all numbers of the tag.
use Rattle.metavariables.proofs.SurveyLaws.{Seen}
use Rattle.metavariables.proofs.survey.Given as goal

abbrev pub invariant-loop-x : goal.invariant-loop-x
invariant-loop-x l = Seen 6 l.ps l.x-index l.functions × Seen 5 l.ps l.x-index l.plain

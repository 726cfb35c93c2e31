-- `survey` meets its contract: the numbers of one token more are in the two sets, and after the last token all are.
use Rattle.metavariables.proofs.SurveyLaws.{seen_none, seen_more, seen_all}
use Rattle.metavariables.proofs.survey.Goals as goal

pub loop-x-init : goal.loop-x-init
loop-x-init c = (seen_none 6 c.args.ps.now, seen_none 5 c.args.ps.now)

pub loop-x-preserved : goal.loop-x-preserved
loop-x-preserved c = (
  seen_more 6 c.args.ps.now _ _ _ c.loop-x-test.true c.loop-x.invariant.0
      (rw (c.tag.ensures, c.payload.ensures) at c.joined-functions.ensures),
  seen_more 5 c.args.ps.now _ _ _ c.loop-x-test.true c.loop-x.invariant.1
      (rw (c.tag-in-loop-x.ensures, c.payload-in-loop-x.ensures) at c.joined-plain.ensures),
)

pub returns : goal.returns
returns c =
    record {
      functions = seen_all 6 c.args.ps.now _ _ c.loop-x-test.false c.loop-x.invariant.0;
      plain = seen_all 5 c.args.ps.now _ _ c.loop-x-test.false c.loop-x.invariant.1;
    }

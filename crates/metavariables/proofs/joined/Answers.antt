-- `joined` meets its contract: a 1 shifted to bit m is joined by `|`; a number past the last metavariable adds nothing.
use native.Mathlib.Omega.{arith}
use Rattle.metavariables.proofs.SurveyLaws.{joined_in, joined_none, joined_out}
use Rattle.metavariables.proofs.joined.Goals as goal
use Rattle.metavariables.proofs.joined.Goals.{else-test-via-then-test+else-m-from, else-test-via-else-test}

pub returns-then-m-from : goal.returns-then-m-from
returns-then-m-from c = rw c.if-test.true (joined_in c.args.set c.args.m (omega arith))

pub returns-else-test : goal.returns-else-test
returns-else-test c =
    elim c.else-test.branch [
      | else-test-via-then-test+else-m-from w ↦ joined_out c.args.set c.args.m c.args.test (omega arith)
      | else-test-via-else-test w ↦ rw w.if-test.false (joined_none c.args.set c.args.m)
    ]

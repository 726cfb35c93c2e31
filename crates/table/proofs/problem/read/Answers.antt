-- `table::problem::read` meets its contract: 1, and otherwise the constraints.
use Rattle.table.proofs.ProblemLaws.{problem_over, problem_within}
use Rattle.table.proofs.problem.read.Goals as goal

pub returns-then-bytes-gt-LARGEST_PROBLEM : goal.returns-then-bytes-gt-LARGEST_PROBLEM
returns-then-bytes-gt-LARGEST_PROBLEM c = problem_over _ _ _ c.if-bytes-gt-LARGEST_PROBLEM.true

pub returns : goal.returns
returns c =
    problem_within _ _ _ _ _ _ c.if-bytes-gt-LARGEST_PROBLEM.false
    c.read_constraints.ensures

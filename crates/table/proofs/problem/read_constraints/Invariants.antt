-- `read_constraints` meets its contract. The loop's invariant: the constraints before `at` are read, and with those that are left they are
-- all. The measure is the number of bytes left.
use Prim.Native.Nat.{◌-◌}
use lib.ListN.{length}
use Rattle.table.proofs.ProblemLaws.{Reading}
use Rattle.table.proofs.problem.read_constraints.Given as goal

abbrev pub invariant-loop-at : goal.invariant-loop-at
invariant-loop-at l = Reading l.s l.initial.patterns l.initial.expressions l.patterns l.expressions l.p l.e l.count l.at

abbrev pub decreases-loop-at : goal.decreases-loop-at
decreases-loop-at l = length l.s - l.at

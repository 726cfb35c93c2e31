-- `problem_length` meets its contract.
use Rattle.longest.proofs.WriteLaws.{length_one, length_several}
use Rattle.longest.proofs.problem_length.Goals as goal

pub returns-then-n-eq1 : goal.returns-then-n-eq1
returns-then-n-eq1 c = λ h. length_one c.if-n-eq1.true

pub returns-else-n-eq1 : goal.returns-else-n-eq1
returns-else-n-eq1 c = λ h. length_several c.if-n-eq1.false h

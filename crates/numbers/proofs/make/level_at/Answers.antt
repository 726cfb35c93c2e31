-- `make::level_at` meets its contract.
use mathlib.Core.Path.{refl}
use Rattle.numbers.proofs.Sums.{light_level}
use Rattle.numbers.proofs.Passing.{level_found}
use Rattle.numbers.proofs.make.level_at.Goals as goal

pub returns-then-sum-lt-HEAVY : goal.returns-then-sum-lt-HEAVY
returns-then-sum-lt-HEAVY c = light_level _ _ _ c.requires.summed c.if-sum-lt-HEAVY.true

pub returns-else-sum-lt-HEAVY : goal.returns-else-sum-lt-HEAVY
returns-else-sum-lt-HEAVY c = level_found _ _ c.requires.inside _ _ _ _ c.size.ensures c.depth.ensures refl c.innermost.ensures

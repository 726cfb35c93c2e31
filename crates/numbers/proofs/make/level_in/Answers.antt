-- `make::level_in` meets its contract.
use mathlib.Core.Path.{sym, ◌∙◌}
use Rattle.numbers.proofs.KeyLevels.{reached_level, unreached_level}
use Rattle.numbers.proofs.make.level_in.Goals as goal

pub returns-then-reaches : goal.returns-then-reaches
returns-then-reaches c = rw c.payload.ensures (reached_level c.args.d c.args.x (sym c.reaches.ensures ∙ c.if-reaches.true))

pub returns-else-reaches : goal.returns-else-reaches
returns-else-reaches c = unreached_level c.args.d c.args.x (sym c.reaches.ensures ∙ c.if-reaches.false)

-- `nowhere` meets its contract: the last node of each set.
use mathlib.Core.Path.{refl}
use Rattle.meaning.specs.Limits.{max_functions}
use Rattle.masks.specs.Mask.{marks, value}
use Rattle.masks.specs.Sets.{marks_in, mask}
use Rattle.words.specs.Words.{nowhere}
use Rattle.words.proofs.nowhere.Goals as goal

pub returns : goal.returns
unfolding nowhere max_functions mask value marks_in marks
returns c = refl

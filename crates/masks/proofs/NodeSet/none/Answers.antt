-- `NodeSet::none`: no mark is set.
use mathlib.Core.Path.{refl}
use Rattle.masks.specs.Mask.{marks, value}
use Rattle.masks.specs.Sets.{marks_in, mask}
use Rattle.masks.proofs.NodeSet.none.Goals as goal

pub returns : goal.returns
unfolding mask value marks_in marks
returns c = refl

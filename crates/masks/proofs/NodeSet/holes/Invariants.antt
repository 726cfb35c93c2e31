-- `NodeSet::holes`: the ones of the words so far.
use mathlib.Core.Path.{◌≡◌}
use lib.ListN.{take}
use Rattle.masks.specs.Mask.{trues}
use Rattle.masks.specs.Sets.{marks_in}
use Rattle.masks.proofs.NodeSet.holes.Given as goal

abbrev pub invariant-loop-w : goal.invariant-loop-w
invariant-loop-w l = l.n ≡ trues (marks_in (take l.w-index l.w-items))

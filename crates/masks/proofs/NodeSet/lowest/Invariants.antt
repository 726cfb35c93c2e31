-- `NodeSet::lowest`: the words so far are 0, so the lowest node is after them.
use mathlib.Core.Path.{◌≡◌}
use Prim.Native.Nat.{◌+◌, ◌*◌}
use lib.ListN.{drop}
use Rattle.masks.specs.Mask.{first}
use Rattle.masks.specs.Sets.{word_nodes, nodes, marks_in}
use Rattle.masks.proofs.NodeSet.lowest.Given as goal

abbrev pub invariant-loop-i : goal.invariant-loop-i
invariant-loop-i l = first (nodes l.fn.self) ≡ l.i * word_nodes + first (marks_in (drop l.i l.w-items))

-- `NodeSet::without`: a node is changed in its word; past the last node nothing is.
use mathlib.Core.Path.{ap, sym, ◌∙◌}
use mathlib.Core.Bool.{false}
use native.Mathlib.Omega.{arith}
use Prim.Native.Nat.{ℕ, ◌%◌}
use lib.ListN.{set}
use lib.Seq.{set_out}
use Rattle.masks.specs.Mask.{marks, leave}
use Rattle.masks.specs.Sets.{word_nodes, width, mask, nodes}
use Rattle.masks.proofs.Marks.{length_marks}
use Rattle.masks.proofs.Words.{set_node}
use Rattle.masks.proofs.NodeSet.without.Goals as goal

pub returns-then-k-lt-ROOM : goal.returns-then-k-lt-ROOM
unfolding leave width
returns-then-k-lt-ROOM c =
    let s = c.args in
    set_node s.self _ s.k _ false (omega arith) c.put.ensures
    (c.word_without.ensures ∙ ap (λ (w : ℕ). set (marks word_nodes w) (s.k % 64) false) c.word.ensures)

pub returns-else-k-lt-ROOM : goal.returns-else-k-lt-ROOM
unfolding leave width
returns-else-k-lt-ROOM c =
    let s = c.args in
    sym (set_out (nodes s.self) s.k false (omega (arith, length_marks width (mask s.self))))

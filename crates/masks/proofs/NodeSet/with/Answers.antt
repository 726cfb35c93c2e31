-- `NodeSet::with`: a node is changed in its word; past the last node nothing is.
use mathlib.Core.Path.{ap, sym, ◌∙◌}
use mathlib.Core.Bool.{true}
use native.Mathlib.Omega.{arith}
use Prim.Native.Nat.{ℕ, ◌%◌}
use lib.ListN.{set}
use lib.Seq.{set_out}
use Rattle.masks.specs.Mask.{marks, join}
use Rattle.masks.specs.Sets.{word_nodes, width, mask, nodes}
use Rattle.masks.proofs.Marks.{length_marks}
use Rattle.masks.proofs.Words.{set_first, set_node}
use Rattle.masks.proofs.NodeSet.with.Goals as goal

pub returns-then-k-lt-WORD : goal.returns-then-k-lt-WORD
unfolding join
returns-then-k-lt-WORD c =
    let s = c.args in
    set_first s.self _ s.k _ true (omega arith) c.put.ensures c.word_with.ensures

pub returns-then-k-lt-ROOM : goal.returns-then-k-lt-ROOM
unfolding join width
returns-then-k-lt-ROOM c =
    let s = c.args in
    set_node s.self _ s.k _ true (omega arith) c.put-then-k-lt-ROOM.ensures
    (c.word_with-then-k-lt-ROOM.ensures ∙ ap (λ (w : ℕ). set (marks word_nodes w) (s.k % 64) true) c.word.ensures)

pub returns-else-k-lt-ROOM : goal.returns-else-k-lt-ROOM
unfolding join width
returns-else-k-lt-ROOM c =
    let s = c.args in
    sym (set_out (nodes s.self) s.k true (omega (arith, length_marks width (mask s.self))))

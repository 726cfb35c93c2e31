-- `NodeSet::has`: a node is asked for in its word; past the last node there is no mark.
use borrow.Author.Tests.{le-ltb}
use mathlib.Core.Path.{ap, sym, ◌∙◌}
use mathlib.Core.Bool.{false}
use native.Mathlib.Omega.{arith}
use Prim.Native.Nat.{ℕ, ◌%◌}
use lib.ListN.{get_or, get_or-eq_default}
use Rattle.masks.specs.Mask.{marks}
use Rattle.masks.specs.Sets.{word_nodes, width, mask, nodes}
use Rattle.masks.proofs.Marks.{length_marks}
use Rattle.masks.proofs.Words.{has_first, has_node}
use Rattle.masks.proofs.NodeSet.has.Goals as goal

pub returns-then-k-lt-WORD : goal.returns-then-k-lt-WORD
returns-then-k-lt-WORD c = c.in_word.ensures ∙ has_first c.args.self c.args.k (omega arith)

pub returns-then-k-lt-ROOM : goal.returns-then-k-lt-ROOM
unfolding width
returns-then-k-lt-ROOM c =
    let s = c.args in
    c.in_word-then-k-lt-ROOM.ensures ∙ ap (λ (w : ℕ). get_or (marks word_nodes w) (s.k % 64) false) c.word.ensures
    ∙ has_node s.self s.k (omega arith)

pub returns-else-k-lt-ROOM : goal.returns-else-k-lt-ROOM
unfolding width
returns-else-k-lt-ROOM c =
    let s = c.args in
    le-ltb s.k 256 (omega arith) ∙ sym (get_or-eq_default (nodes s.self) false {n = s.k} (omega (arith, length_marks width (mask s.self))))

-- `masks::word_without`: a node that is there is its bit, and is left out by `-`.
use mathlib.Core.Path.{ap, sym, ◌∙◌}
use native.Mathlib.Omega.{arith}
use Prim.Native.Nat.{ℕ, ◌-◌}
use Rattle.masks.specs.Mask.{marks}
use Rattle.masks.specs.Sets.{word_nodes}
use Rattle.masks.proofs.Nodes.{bit_le, marks_leave, leave_none}
use Rattle.masks.proofs.word_without.Goals as goal

pub overflow_sub-result : goal.overflow_sub-result
overflow_sub-result c =
    let s = c.args in
    let here = sym c.in_word.ensures ∙ c.if-in_word.true in
    omega (arith, c.bit.ensures, bit_le word_nodes s.w s.k c.ranges.w.fits here)

pub returns-then-in_word : goal.returns-then-in_word
returns-then-in_word c =
    let s = c.args in
    let here = sym c.in_word.ensures ∙ c.if-in_word.true in
    ap (λ (x : ℕ). marks word_nodes (s.w - x)) c.bit.ensures ∙ marks_leave word_nodes s.w s.k c.ranges.w.fits here

pub returns-else-in_word : goal.returns-else-in_word
returns-else-in_word c =
    let s = c.args in
    leave_none (marks word_nodes s.w) s.k (sym c.in_word.ensures ∙ c.if-in_word.false)

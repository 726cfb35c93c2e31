-- `copy_term` and `copy_terms`, which call each other, meet their contracts.
use mathlib.Core.Path.{refl, sym}
use native.Mathlib.Omega.{arith}
use borrow.Author.Rules.{rules}
use borrow.Rule.Slice.PartMut.{same_len_mid}
use Rattle.copying.proofs.SpanLaws.{term_inside}
use Rattle.copying.proofs.CopyLaws.{copying_ends, copying_goes, hole_room, inner_copies, inner_less}
use Rattle.copying.proofs.CopyLaws.{inner_room, next_copies, next_less, next_nodes, next_short, node_room, term_copied, term_hole}
use Rattle.copying.proofs.CopyLaws.{written_inside}
use Rattle.copying.proofs.+copy_term_copy_terms.Goals as goal

-- `copy_term`: a hole is written
pub copy_term-write_hole-requires : goal.copy_term-write_hole-requires
copy_term-write_hole-requires t c = hole_room c.requires (sym c.if-has.ensures)

pub copy_term-returns-then-has : goal.copy_term-returns-then-has
copy_term-returns-then-has t c = term_hole (sym c.if-has.ensures) c.write_hole.ensures

-- the node is no hole
pub copy_term-offset_bounds-es-at : goal.copy_term-offset_bounds-es-at
copy_term-offset_bounds-es-at t c = let inside = (term_inside c.requires.there).starts in search rules

pub copy_term-bounds-es-at : goal.copy_term-bounds-es-at
copy_term-bounds-es-at t c = (term_inside c.requires.there).starts

pub copy_term-overflow_add-inner : goal.copy_term-overflow_add-inner
copy_term-overflow_add-inner t c =
    omega (arith, inner_room c.requires (sym c.if-has.ensures) c.fixed_length-inner.ensures)

pub copy_term-overflow_add-at : goal.copy_term-overflow_add-at
copy_term-overflow_add-at t c = omega (arith, (term_inside c.requires.there).starts)

-- room for its head and fixed part
pub copy_term-slice_bounds-copy_terms-count : goal.copy_term-slice_bounds-copy_terms-count
copy_term-slice_bounds-copy_terms-count t c =
    inner_room c.requires (sym c.if-has.ensures) c.fixed_length-inner.ensures

pub copy_term-slice_bounds-copy_terms-start : goal.copy_term-slice_bounds-copy_terms-start
copy_term-slice_bounds-copy_terms-start t c =
    inner_room c.requires (sym c.if-has.ensures) c.fixed_length-inner.ensures

pub copy_term-copy_terms-n-requires : goal.copy_term-copy_terms-n-requires
copy_term-copy_terms-n-requires t c =
    let e = sym c.if-has.ensures in (
      omega (arith, inner_less c.requires e c.size.ensures, c.decreases),
      inner_copies c.requires e c.size.ensures c.args.out.now refl c.fixed_length-inner.ensures,
    )

pub copy_term-write_node-requires : goal.copy_term-write_node-requires
copy_term-write_node-requires t c =
    node_room c.requires (sym c.if-has.ensures) c.size.ensures _ (same_len_mid _ _ _ _ c.copy_terms-n.auto.out)
    c.copy_terms-n.ensures

pub copy_term-returns : goal.copy_term-returns
copy_term-returns t c =
    let e = sym c.if-has.ensures in
    term_copied c.requires.begins e c.fixed_length-inner.ensures c.size.ensures
    (inner_room c.requires e c.fixed_length-inner.ensures) c.copy_terms-n.ensures c.write_node.ensures

-- `copy_terms`
-- what is written lies in the buffer
pub copy_terms-slice_bounds-copy_term-count : goal.copy_terms-slice_bounds-copy_term-count
copy_terms-slice_bounds-copy_term-count t c = written_inside c.loop-next.invariant c.requires

pub copy_terms-slice_bounds-copy_term-start : goal.copy_terms-slice_bounds-copy_term-start
copy_terms-slice_bounds-copy_term-start t c = written_inside c.loop-next.invariant c.requires

-- there is a next term
pub copy_terms-copy_term-n-requires : goal.copy_terms-copy_term-n-requires
copy_terms-copy_term-n-requires t c =
    let less = next_less c.loop-next.invariant c.requires c.loop-next-test.true in
    (omega (arith, less, c.decreases), next_copies c.loop-next.invariant c.requires c.loop-next-test.true)

pub copy_terms-overflow_add-n : goal.copy_terms-overflow_add-n
copy_terms-overflow_add-n t c =
    omega (
      arith,
      next_short c.loop-next.invariant c.requires c.loop-next-test.true c.copy_term-n.ensures,
    )

pub copy_terms-offset_bounds-es-next : goal.copy_terms-offset_bounds-es-next
copy_terms-offset_bounds-es-next t c =
    let inside = (term_inside (next_copies c.loop-next.invariant c.requires c.loop-next-test.true).there).starts in
    search rules

pub copy_terms-bounds-es-next : goal.copy_terms-bounds-es-next
copy_terms-bounds-es-next t c = (term_inside (next_copies c.loop-next.invariant c.requires c.loop-next-test.true).there).starts

pub copy_terms-loop-next-smaller : goal.copy_terms-loop-next-smaller
copy_terms-loop-next-smaller t c =
    omega (arith, c.size.ensures, next_nodes c.loop-next.invariant c.requires c.loop-next-test.true)

pub copy_terms-loop-next-preserved : goal.copy_terms-loop-next-preserved
copy_terms-loop-next-preserved t c =
    copying_goes c.loop-next.invariant c.requires c.loop-next-test.true c.copy_term-n.ensures c.size.ensures c.copy_term-n.auto.out

pub copy_terms-returns : goal.copy_terms-returns
copy_terms-returns t c = copying_ends c.loop-next.invariant c.loop-next-test.false

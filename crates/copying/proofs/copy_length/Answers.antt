-- `copying::copy_length` meets its contract: the whole term, or what is left of it where its holes save.
use mathlib.Core.Path.{sym}
use native.Mathlib.Omega.{arith}
use borrow.Author.Tests.{eqb-true, eqb-false}
use Rattle.copying.proofs.SpanLaws.{term_inside}
use Rattle.copying.proofs.BodyLaws.{body_measured, body_saved, empty_measured, hole_head, hole_measurable}
use Rattle.copying.proofs.copy_length.Goals as goal

pub returns-then-is_empty : goal.returns-then-is_empty
returns-then-is_empty c = empty_measured c.term_length-whole.ensures (eqb-true _ 0 (sym c.if-is_empty.ensures))

pub overflow_add-node : goal.overflow_add-node
overflow_add-node c =
    omega (
      arith,
      (term_inside (hole_measurable c.requires (eqb-false _ 0 (sym c.if-is_empty.ensures)) c.lowest.ensures).there).starts,
    )

pub term_length-hole-requires : goal.term_length-hole-requires
term_length-hole-requires c =
    hole_measurable c.requires
    (eqb-false _ 0 (sym c.if-is_empty.ensures)) c.lowest.ensures

pub overflow_sub-result : goal.overflow_sub-result
overflow_sub-result c =
    hole_head c.requires.face.there c.requires.chosen (eqb-false _ 0 (sym c.if-is_empty.ensures))
    c.term_length-whole.ensures c.lowest.ensures c.term_length-hole.ensures c.holes.ensures

-- What the holes save is less than the whole
pub overflow_mul-result : goal.overflow_mul-result
overflow_mul-result c =
    omega (
      arith,
      body_saved c.requires.face.there c.requires.chosen
          (eqb-false _ 0 (sym c.if-is_empty.ensures)) c.term_length-whole.ensures
          c.lowest.ensures c.term_length-hole.ensures c.holes.ensures,
    )

pub overflow_sub-result-2 : goal.overflow_sub-result-2
overflow_sub-result-2 c =
    omega (
      arith,
      body_saved c.requires.face.there c.requires.chosen
          (eqb-false _ 0 (sym c.if-is_empty.ensures)) c.term_length-whole.ensures
          c.lowest.ensures c.term_length-hole.ensures c.holes.ensures,
    )

pub returns : goal.returns
returns c =
    body_measured c.term_length-whole.ensures
    (eqb-false _ 0 (sym c.if-is_empty.ensures)) c.lowest.ensures
    c.term_length-hole.ensures c.holes.ensures

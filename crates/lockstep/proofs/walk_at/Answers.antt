-- `walk_at` meets its contract. The loop's invariant: the faces found so far and the walk of what is left make up the whole walk.
-- The measure is the number of tokens left of the pattern.
use mathlib.Core.Path.{sym, ◌∙◌}
use native.Mathlib.Omega.{arith}
use borrow.Author.Tests.{not-true, not-false}
use Rattle.lockstep.proofs.SpanLaws.{left_out, left_differs, walking_start, walking_same, walking_face, walked_disagree}
use Rattle.lockstep.proofs.SpanLaws.{walked_end}
use Rattle.lockstep.proofs.walk_at.Goals as goal

pub loop-i-init : goal.loop-i-init
loop-i-init c = walking_start c.args.ps.now c.args.es.now c.args.out.now c.args.span c.requires

pub returns-then-j-es : goal.returns-then-j-es
returns-then-j-es c =
    walked_disagree c.args.ps.now c.args.es.now c.args.out.now c.args.span c.requires
    c.loop-i.out c.loop-i.i c.loop-i.j c.loop-i.n c.loop-i.invariant
    (left_out c.args.ps.now c.args.es.now c.args.span c.requires.inside c.loop-i.i c.loop-i.j c.loop-i-test.true
    c.if-j-es.true)

pub loop-i-preserved-then-is_slot : goal.loop-i-preserved-then-is_slot
loop-i-preserved-then-is_slot c =
    let w = walking_face c.args.ps.now c.args.es.now c.args.out.now c.args.span c.requires
    c.loop-i.out c.loop-i.i c.loop-i.j c.loop-i.n c.loop-i.invariant
    c.loop-i-test.true (omega arith)
    (sym c.is_slot.ensures ∙ c.if-is_slot.true) in
    rw (c.size.ensures, c.size-then-is_slot.ensures) w

pub returns-then-not-same_node : goal.returns-then-not-same_node
returns-then-not-same_node c =
    walked_disagree c.args.ps.now c.args.es.now c.args.out.now c.args.span c.requires
    c.loop-i.out c.loop-i.i c.loop-i.j c.loop-i.n c.loop-i.invariant
    (left_differs c.args.ps.now c.args.es.now c.args.span c.requires.inside c.loop-i.i c.loop-i.j
    c.loop-i-test.true (omega arith)
    (sym c.is_slot.ensures ∙ c.if-is_slot.false)
    (sym c.same_node.ensures ∙ not-true _ c.if-not-same_node.true-raw))

pub loop-i-preserved : goal.loop-i-preserved
loop-i-preserved c =
    walking_same c.args.ps.now c.args.es.now c.args.out.now c.args.span c.requires
    c.loop-i.out c.loop-i.i c.loop-i.j c.loop-i.n c.loop-i.invariant
    c.loop-i-test.true (omega arith)
    (sym c.is_slot.ensures ∙ c.if-is_slot.false)
    (sym c.same_node.ensures ∙ not-false _ c.if-not-same_node.false-raw)

pub returns : goal.returns
returns c =
    walked_end c.args.ps.now c.args.es.now c.args.out.now c.args.span c.requires
    c.loop-i.out c.loop-i.i c.loop-i.j c.loop-i.n c.loop-i.invariant
    c.loop-i-test.false

-- `copying::term_length` meets its contract: the bytes of the term's nodes, one after the other.
use Prim.Native.Nat.{◌≤◌}
use native.Mathlib.Omega.{arith}
use Rattle.copying.proofs.FixedLaws.{fixed_short}
use Rattle.copying.proofs.SpanLaws.{term_inside}
use Rattle.copying.proofs.MeasureLaws.{measure_begins, measure_ends, measure_goes_on, part_lent, part_short}
use borrow.Author.Rules.{rules}
use Rattle.copying.proofs.term_length.Goals as goal

pub offset_bounds-es-node : goal.offset_bounds-es-node
offset_bounds-es-node c = let inside = term_inside c.requires.there in search rules

pub bounds-es-node : goal.bounds-es-node
bounds-es-node c = (term_inside c.requires.there).starts

pub offset_bounds-es-node-2 : goal.offset_bounds-es-node-2
offset_bounds-es-node-2 c = let inside = term_inside c.requires.there in search rules

pub slice_bounds-x-items-end : goal.slice_bounds-x-items-end
slice_bounds-x-items-end c = omega (arith, (term_inside c.requires.there).ends, c.size.ensures)

pub loop-x-init : goal.loop-x-init
loop-x-init c = measure_begins c.requires

-- a node has at most 7 bytes before its inner terms
pub overflow_add-total : goal.overflow_add-total
overflow_add-total c =
    let few : c.fixed_length.result ≤ 4 = rw c.fixed_length.ensures (fixed_short _) in
    omega arith

pub overflow_add-total-in-loop-x : goal.overflow_add-total-in-loop-x
overflow_add-total-in-loop-x c =
    let few : c.fixed_length.result ≤ 4 = rw c.fixed_length.ensures (fixed_short _) in
    let lent = part_lent c.args.es.now c.args.node c.size.result c.size.ensures in
    let inside = rw lent at c.loop-x-test.true in
    omega (arith, part_short c.args.es.now c.args.node _ inside)

pub loop-x-preserved : goal.loop-x-preserved
loop-x-preserved c =
    let lent = part_lent c.args.es.now c.args.node c.size.result c.size.ensures in
    measure_goes_on c.loop-x.invariant (rw lent at c.loop-x-test.true) (rw lent at c.fixed_length.ensures)

pub returns : goal.returns
returns c =
    let lent = part_lent c.args.es.now c.args.node c.size.result c.size.ensures in
    measure_ends c.loop-x.invariant (rw lent at c.loop-x-test.false)

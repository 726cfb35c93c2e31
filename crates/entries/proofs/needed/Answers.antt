-- `needed` meets its contract. The loop's invariant is `Needing`; the measure is the number of tokens left.
use mathlib.Core.Path.{sym, ◌∙◌}
use native.Mathlib.Omega.{arith}
use Rattle.entries.proofs.NeededLaws.{needing_begins, needing_ends, needing_passes, needing_goes_on}
use Rattle.entries.proofs.needed.Goals as goal

pub loop-i-init : goal.loop-i-init
loop-i-init c = needing_begins c.args.holed c.args.ps.now

pub loop-i-smaller-then-holeless : goal.loop-i-smaller-then-holeless
loop-i-smaller-then-holeless c = omega (arith, c.size.ensures, c.requires.counted c.loop-i.i c.loop-i-test.true)

pub loop-i-preserved-then-holeless : goal.loop-i-preserved-then-holeless
loop-i-preserved-then-holeless c =
    let i = c.loop-i in
    needing_passes c.args.holed c.args.ps.now i.i i.set i.invariant c.loop-i-test.true
    (sym c.holeless.ensures ∙ c.if-holeless.true) (c.requires.counted i.i c.loop-i-test.true)
    c.size.result c.size.ensures

pub loop-i-preserved : goal.loop-i-preserved
loop-i-preserved c =
    let i = c.loop-i in
    let a = c.args in
    needing_goes_on a.holed a.ps.now i.i i.set i.invariant c.loop-i-test.true
    (sym c.holeless.ensures ∙ c.if-holeless.false) c.tag.result
    c.payload.result c.joined-set.result c.tag.ensures c.payload.ensures c.joined-set.ensures

pub returns : goal.returns
returns c =
    let a = c.args in
    needing_ends a.holed a.ps.now c.loop-i.i c.loop-i.set c.loop-i.invariant c.loop-i-test.false

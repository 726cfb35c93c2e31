-- `bodies::suits` meets its contract.
use mathlib.Core.Path.{sym, ◌∙◌}
use native.Mathlib.Omega.{arith}
use Rattle.bodies.proofs.SuitsLaws.{suits_ends, hole_goes_on}
use Rattle.bodies.proofs.suits.Goals as goal

pub loop-i-preserved-then-has : goal.loop-i-preserved-then-has
loop-i-preserved-then-has c =
    hole_goes_on c.loop-i.invariant c.loop-i-test.true (omega arith)
    (sym c.has.ensures ∙ c.if-has.true)
    c.size.result c.size-then-has.result c.size.ensures c.size-then-has.ensures
    (sym c.hole_fits.ensures ∙ c.if-not-hole_fits.false)

pub returns : goal.returns
returns c = suits_ends c.loop-i.invariant c.loop-i-test.false

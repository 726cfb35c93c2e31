-- `Filling::arguments_are` meets its contract. The loop's invariant: the holes that are left decide, and what is lent has kept its length.
use mathlib.Core.Path.{refl, ◌∙◌}
use Rattle.filled.proofs.CodeLaws.{testing_ready, testing_fails, testing_goes, testing_ends}
use Rattle.filled.proofs.Filling.arguments_are.Goals as goal

pub loop-hole-init : goal.loop-hole-init
loop-hole-init c = (refl, record { left = c.requires.1; leads = refl })

pub argument_is-requires : goal.argument_is-requires
argument_is-requires c =
    (rw c.loop-hole.invariant.0 c.requires.0, testing_ready c.loop-hole.invariant.1 c.loop-hole-test.true)

pub shape_of-scratch-then-not-argument_is : goal.shape_of-scratch-then-not-argument_is
shape_of-scratch-then-not-argument_is c = c.argument_is.auto.scratch ∙ c.loop-hole.invariant.0

pub returns-then-not-argument_is : goal.returns-then-not-argument_is
returns-then-not-argument_is c =
    testing_fails c.loop-hole.invariant.1 c.loop-hole-test.true c.argument_is.result c.argument_is.ensures c.if-not-argument_is.true

pub loop-hole-preserved : goal.loop-hole-preserved
loop-hole-preserved c = (
  c.argument_is.auto.scratch ∙ c.loop-hole.invariant.0,
  testing_goes c.loop-hole.invariant.1 c.loop-hole-test.true c.argument_is.result c.argument_is.ensures c.if-not-argument_is.false,
)

pub shape_of-scratch : goal.shape_of-scratch
shape_of-scratch c = c.loop-hole.invariant.0

pub returns : goal.returns
returns c = testing_ends c.loop-hole.invariant.1 c.loop-hole-test.false

-- `Filling::values_are` meets its contract. The loop's invariant: the faces that are left decide.
use mathlib.Core.Path.{refl}
use Rattle.filled.proofs.CodeLaws.{testing_ready, testing_fails, testing_goes, testing_ends}
use Rattle.filled.proofs.Filling.values_are.Goals as goal

pub loop-face-init : goal.loop-face-init
loop-face-init c = record { left = c.requires; leads = refl }

pub faced_value_is-requires : goal.faced_value_is-requires
faced_value_is-requires c = testing_ready c.loop-face.invariant c.loop-face-test.true

pub returns-then-not-faced_value_is : goal.returns-then-not-faced_value_is
returns-then-not-faced_value_is c =
    let v = c.faced_value_is in
    testing_fails c.loop-face.invariant c.loop-face-test.true v.result v.ensures c.if-not-faced_value_is.true

pub loop-face-preserved : goal.loop-face-preserved
loop-face-preserved c =
    let v = c.faced_value_is in
    testing_goes c.loop-face.invariant c.loop-face-test.true v.result v.ensures c.if-not-faced_value_is.false

pub returns : goal.returns
returns c = testing_ends c.loop-face.invariant c.loop-face-test.false

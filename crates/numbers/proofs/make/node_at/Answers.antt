-- `make::node_at` meets its contract.
use mathlib.Core.Path.{refl}
use native.Mathlib.Omega.{arith}
use Rattle.numbers.proofs.Passing.{level_few, sums_rise, sum_found, node_known}
use Rattle.numbers.proofs.make.node_at.Goals as goal

pub overflow_sub-sum : goal.overflow_sub-sum
overflow_sub-sum c = sums_rise _ _ c.requires.inside _ _ c.size.ensures refl _ c.requires.summed

pub level_at-level-requires-clause-summed : goal.level_at-level-requires-clause-summed
level_at-level-requires-clause-summed c = sum_found _ _ c.requires.inside _ _ c.size.ensures refl _ c.requires.summed

pub binder_at-binder-requires : goal.binder_at-binder-requires
binder_at-binder-requires c =
    omega (arith, level_few _ _ c.requires.inside _ c.level_at-level.ensures, c.requires.lasts.long)

pub returns : goal.returns
returns c =
    node_known _ _ c.requires.inside _ c.requires.lasts _ _ _ _ (sum_found _ _ c.requires.inside _ _ c.size.ensures refl _ c.requires.summed)
    c.level_at-level.ensures c.binder_at-binder.ensures c.mix.ensures

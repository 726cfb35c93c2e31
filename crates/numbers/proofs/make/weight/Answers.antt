-- `make::weight` meets its contract.
use mathlib.Core.Path.{sym, ap, ◌∙◌}
use mathlib.Core.Logic.{inl, inr}
use native.Mathlib.Omega.{arith}
use borrow.Author.Rules.{rules}
use Rattle.numbers.specs.Alike.{spread}
use Rattle.numbers.proofs.Sums.{mixed_small, weight_inside, weight_outside, weight_other}
use Rattle.numbers.proofs.make.weight.Goals as goal

pub returns-in-258 : goal.returns-in-258
returns-in-258 c = elim c.in-258.is [ inl e ↦ sym (weight_inside c.args.key e) | inr e ↦ sym (weight_outside c.args.key e) ]

pub spread-requires : goal.spread-requires
spread-requires c = omega (arith, c.mix.ensures, mixed_small c.args.key 0)

pub returns-in_default : goal.returns-in_default
returns-in_default c =
    c.spread.ensures ∙ ap spread c.mix.ensures ∙ sym (weight_other c.args.key (λ e. search rules) (λ e. search rules))

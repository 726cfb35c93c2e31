-- `copying::fixed_length` meets its contract: one return for each tag.
use mathlib.Core.Path.{◌∙◌}
use native.Mathlib.Omega.{arith}
use Rattle.copying.proofs.FixedLaws.{fixed_symbol, fixed_variable, fixed_binder, fixed_none, symbol_long, number_long, numbers_long}
use Rattle.copying.proofs.FixedLaws.{none_long}
use Rattle.copying.proofs.fixed_length.Goals as goal

pub returns-in-1 : goal.returns-in-1
returns-in-1 c = c.width.ensures ∙ symbol_long _ _ (fixed_symbol _ _ c.tag.ensures c.in-1.is) c.symbol.ensures

pub returns-in-2 : goal.returns-in-2
returns-in-2 c = number_long _ (fixed_variable _ _ c.tag.ensures c.in-2.is)

pub returns-in-4 : goal.returns-in-4
returns-in-4 c = numbers_long _ (fixed_binder _ _ c.tag.ensures c.in-4.is)

pub returns-in_default : goal.returns-in_default
returns-in_default c =
    none_long _ (fixed_none _ _ c.tag.ensures (λ e. omega arith) (λ e. omega arith) (λ e. omega arith))

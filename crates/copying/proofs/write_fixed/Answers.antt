-- `copying::write_fixed` meets its contract: one return for each tag.
use mathlib.Core.Path.{refl}
use native.Mathlib.Omega.{arith}
use Rattle.copying.proofs.FixedLaws.{fixed_symbol, fixed_variable, fixed_binder, fixed_none, symbol_long, number_long, numbers_long}
use Rattle.copying.proofs.WriteLaws.{symbol_wrote, number_wrote, numbers_wrote, none_wrote}
use Rattle.copying.proofs.write_fixed.Goals as goal

pub write_symbol-requires : goal.write_symbol-requires
write_symbol-requires c =
    let fixed = fixed_symbol _ _ c.tag.ensures c.in-1.is in
    omega (arith, symbol_long _ _ fixed c.symbol.ensures, c.requires)

pub write_word-requires : goal.write_word-requires
write_word-requires c = omega (arith, number_long _ (fixed_variable _ _ c.tag.ensures c.in-2.is), c.requires)

pub write_words-requires : goal.write_words-requires
write_words-requires c = omega (arith, numbers_long _ (fixed_binder _ _ c.tag.ensures c.in-4.is), c.requires)

pub returns-in-1 : goal.returns-in-1
returns-in-1 c =
    symbol_wrote c.args.x c.args.out.now _ _ (fixed_symbol _ _ c.tag.ensures c.in-1.is)
    c.symbol.ensures c.write_symbol.ensures

pub returns-in-2 : goal.returns-in-2
returns-in-2 c =
    number_wrote c.args.x c.args.out.now _ _ (fixed_variable _ _ c.tag.ensures c.in-2.is)
    c.payload.ensures c.write_word.ensures

pub returns-in-4 : goal.returns-in-4
returns-in-4 c =
    numbers_wrote c.args.x c.args.out.now _ _ (fixed_binder _ _ c.tag.ensures c.in-4.is)
    c.payload-load.ensures c.write_words.ensures

pub returns-in_default : goal.returns-in_default
returns-in_default c =
    none_wrote c.args.x c.args.out.now _ (fixed_none _ _ c.tag.ensures (λ e. omega arith) (λ e. omega arith) (λ e. omega arith)) refl

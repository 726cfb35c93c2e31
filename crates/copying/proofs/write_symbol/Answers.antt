-- `copying::write_symbol` meets its contract: two bytes below 65,536, four from there on.
use native.Mathlib.Omega.{arith}
use Rattle.meaning.specs.Limits.{first_wide}
use Rattle.meaning.proofs.ByteLaws.{narrow_two, wide_four}
use mathlib.Core.Path.{ap, ◌∙◌}
use mathlib.Core.List.{◌++◌}
use lib.ListN.{drop, length, length-take}
use Rattle.meaning.specs.Basics.{Bytes}
use Rattle.copying.proofs.WriteLaws.{four_bytes, narrow_wrote, wide_wrote}
use Rattle.copying.proofs.write_symbol.Goals as goal

pub write_word-requires : goal.write_word-requires
unfolding first_wide
write_word-requires c = omega (arith, narrow_two _ c.if-n-lt-FIRST_WIDE.true)

pub slice_bounds-copy_from_slice-end : goal.slice_bounds-copy_from_slice-end
unfolding first_wide
slice_bounds-copy_from_slice-end c = omega (arith, wide_four _ c.if-n-lt-FIRST_WIDE.false)

pub slice_bounds-copy_from_slice-end-else-n-lt-FIRST_WIDE : goal.slice_bounds-copy_from_slice-end-else-n-lt-FIRST_WIDE
unfolding first_wide
slice_bounds-copy_from_slice-end-else-n-lt-FIRST_WIDE c =
    simp length-take (omega (arith, wide_four _ c.if-n-lt-FIRST_WIDE.false))

pub copy_from_slice-requires : goal.copy_from_slice-requires
unfolding first_wide
copy_from_slice-requires c =
    simp length-take (omega (arith, wide_four _ c.if-n-lt-FIRST_WIDE.false, ap length c.to_be_bytes.ensures))

pub returns-then-n-lt-FIRST_WIDE : goal.returns-then-n-lt-FIRST_WIDE
unfolding first_wide
returns-then-n-lt-FIRST_WIDE c = narrow_wrote _ _ _ c.if-n-lt-FIRST_WIDE.true c.write_word.ensures

pub returns-else-n-lt-FIRST_WIDE : goal.returns-else-n-lt-FIRST_WIDE
unfolding first_wide
returns-else-n-lt-FIRST_WIDE c =
    wide_wrote _ _ _ c.if-n-lt-FIRST_WIDE.false
    (ap (λ (front : Bytes). front ++ drop 4 c.args.out.now)
    (c.copy_from_slice.ensures.after ∙ c.to_be_bytes.ensures ∙ four_bytes c.args.x.0 (omega arith)))

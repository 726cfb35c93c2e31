-- `stepping`. The loop's invariant: the sets from k on are empty.
use borrow.Author.Rules.{rules}
use native.Mathlib.Omega.{arith}
use Prim.Native.Nat.{ℕ, ◌+◌, ◌-◌, ◌<◌}
use native.Mathlib.Nat.{eq-or-lt_of_le}
use mathlib.Core.Path.{◌≡◌, sym, ap, ◌∙◌, subst}
use mathlib.Core.Logic.{⊎_elim}
use borrow.Author.Tests.{eqb-true}
use lib.ListN.{get_or}
use Rattle.meaning.specs.Limits.{max_functions}
use Rattle.masks.specs.Sets.{masks_in}
use Rattle.masks.proofs.Words.{masks_at}
use Rattle.rows.proofs.RowLaws.{above_zero}
use Rattle.rows.proofs.stepping.Goals as goal

pub offset_bounds-row-k : goal.offset_bounds-row-k
unfolding max_functions
offset_bounds-row-k c = search rules

pub bounds-row-k : goal.bounds-row-k
unfolding max_functions
bounds-row-k c = search rules

pub returns-then-not-is_empty : goal.returns-then-not-is_empty
returns-then-not-is_empty c =
    let at = c.loop-k in
    let here = masks_at c.args.row (at.k - 1) in
    let same : at.k - 1 ≡ at.k - 1 + 1 - 1 = omega arith in
    record {
      few = omega arith;
      moves = λ h. subst (λ (m : ℕ). 0 < m) (here ∙ ap (λ (k : ℕ). get_or (masks_in c.args.row) k 0) same)
          (above_zero _ (sym c.is_empty.ensures ∙ c.if-not-is_empty.true));
      passed = λ j l h. at.invariant j (omega arith) h;
    }

pub loop-k-preserved : goal.loop-k-preserved
loop-k-preserved c =
    let at = c.loop-k in
    let row = c.args.row in
    let none : get_or (masks_in row) (at.k - 1) 0 ≡ 0 =
    sym (masks_at row (at.k - 1)) ∙ eqb-true _ 0 (sym c.is_empty.ensures ∙ c.if-not-is_empty.false) in
    λ j l h. ⊎_elim (λ (e : at.k - 1 ≡ j). subst (λ (i : ℕ). get_or (masks_in row) i 0 ≡ 0) e none)
    (λ (g : at.k - 1 < j). at.invariant j (omega arith) h) (eq-or-lt_of_le l)

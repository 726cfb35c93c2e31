-- `Functions::is_row`. The loop's invariant: each set looked at is a choice of its function.
use borrow.Author.Rules.{rules}
use native.Mathlib.Omega.{arith}
use Prim.Native.Nat.{ℕ}
use mathlib.Core.Path.{◌≡◌, refl, sym, ◌∙◌, subst}
use mathlib.Core.Bool.{false≢true, true≢false}
use lib.ListN.{length}
use Rattle.meaning.specs.Limits.{max_functions}
use Rattle.meaning.specs.Basics.{◌∈◌}
use Rattle.masks.proofs.Words.{masks_at}
use Rattle.rows.specs.Rows.{choices_of}
use Rattle.rows.proofs.RowLaws.{choice_row, row_choice}
use Rattle.rows.proofs.functions.Functions.is_row.Goals as goal

pub is_choice_of-requires : goal.is_choice_of-requires
unfolding max_functions
is_choice_of-requires c =
    let n : length c.args.row ≡ 8 = search rules in
    omega arith

pub returns-then-not-is_choice_of : goal.returns-then-not-is_choice_of
unfolding max_functions
returns-then-not-is_choice_of c =
    let es = c.args.self.now.nodes.tokens.now in
    let ns = c.args.self.now.nodes.numbers.now in
    let firsts = c.args.self.now.firsts in
    let n : length c.args.row ≡ 8 = search rules in
    let at = c.loop-k in (
      λ e. absurd (false≢true e),
      λ m. absurd
          (true≢false
          (sym
          (c.is_choice_of.ensures.1
          (subst (λ (x : ℕ). x ∈ choices_of es ns firsts at.k) (sym (masks_at c.args.row at.k))
          (row_choice es ns firsts c.args.row m at.k (omega arith))))
          ∙ c.if-not-is_choice_of.true)),
    )

pub returns : goal.returns
unfolding max_functions
returns c =
    let es = c.args.self.now.nodes.tokens.now in
    let ns = c.args.self.now.nodes.numbers.now in
    let firsts = c.args.self.now.firsts in
    let n : length c.args.row ≡ max_functions = search rules in
    (λ e. choice_row es ns firsts c.args.row n (λ k h. c.loop-k.invariant k (omega arith)), λ m. refl)

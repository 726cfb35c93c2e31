-- `make::is_alike` meets its contract: the labels, the sizes and the keys, in this order.
use mathlib.Core.Path.{sym, ◌∙◌}
use borrow.Author.Tests.{eqb-true, eqb-false}
use Rattle.numbers.proofs.Buckets.{unlike_label, unlike_size, alike_label}
use Rattle.numbers.proofs.make.is_alike.Goals as goal
use Rattle.numbers.proofs.make.is_alike.Goals.{then-link-label, else-link-label}

pub returns-then-size : goal.returns-then-size
returns-then-size c =
    elim c.if-link-label.branch [
      | then-link-label w ↦
          c.same.ensures ∙ sym (alike_label c.args.t.now c.args.i c.args.k (sym c.requires.2 ∙ w.if-link-label.true ∙ c.requires.3))
      | else-link-label w ↦ absurd (w.if-link-label.false (eqb-true _ _ (sym w.value-is ∙ c.if-size.true)))
    ]

pub returns-else-size : goal.returns-else-size
returns-else-size c =
    elim c.if-link-label.branch [
      | then-link-label w ↦
          c.if-size.false
          ∙ sym
          (unlike_size c.args.t.now c.args.i c.args.k c.requires.0 c.requires.1
          (λ e. eqb-false _ _ (sym w.value-is ∙ c.if-size.false) (w.size.ensures ∙ e ∙ sym w.size-then-link-label.ensures)))
      | else-link-label w ↦
          c.if-size.false
          ∙ sym (unlike_label c.args.t.now c.args.i c.args.k (λ e. w.if-link-label.false (c.requires.2 ∙ e ∙ sym c.requires.3)))
    ]

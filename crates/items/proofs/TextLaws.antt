-- The returns of `read_text`: 19, then 20, then 27, and else what the text says.
use mathlib.Core.Path.{◌≡◌, sym, ◌∙◌}
use mathlib.Core.Bool.{Bool, true, false}
use mathlib.Core.List.{List}
use Prim.Native.Nat.{ℕ, ◌<◌, ◌≤◌}
use lib.ListN.{length}
use borrow.Author.Tests.{le-ltb, lt-ltb}
use Rattle.std.specs.Prelude.{Ok, Err}
use Rattle.meaning.specs.Limits.{largest_text}
use Rattle.meaning.specs.Read.{after}
use Rattle.meaning.specs.Text.{in_order, numbers, or_twenty, read_items, read_text, rises}
use Rattle.refusal.specs.declared.Refusal.{Refusal}
use Rattle.refusal.specs.declared.Refusal.TheVariants.{TextTooLong, TextOutOfOrder}
use Rattle.items.specs.Texts.{FieldsDone, TextDone}
use Rattle.items.specs.declared.Fields.{Fields}

module _ (text table : List ℕ) where
  pub text_over : 8192 < length text → TextDone (read_text text) table (Err TextTooLong)
  unfolding read_text largest_text
  text_over h = rw (lt-ltb 8192 (length text) h)

  module _ (short : length text ≤ 8192) where
    within_limit : read_text text ≡ after (or_twenty (read_items (length text) text)) in_order
    unfolding read_text largest_text
    within_limit = rw (le-ltb 8192 (length text) short)

    pub text_malformed : (e : Refusal) → FieldsDone (read_items (length text) text) table (Err e) → TextDone (read_text text) table (Err e)
    text_malformed e d = within_limit ∙ rw (d.1.1, d.0)

    module _ (found : Fields) (done : FieldsDone (read_items (length text) text) table (Ok found)) where
      ordered : (b : Bool) → found.rising ≡ b → rises (numbers done.items) ≡ b
      ordered b e = sym done.rising ∙ e

      pub text_falls : found.rising ≡ false → TextDone (read_text text) table (Err TextOutOfOrder)
      text_falls n = within_limit ∙ rw (done.answer, ordered false n)

      pub text_got : found.rising ≡ true → TextDone (read_text text) table (Ok found.text)
      text_got n =
          let up : rises (numbers done.items) ≡ true = ordered true n in
          record {
            items = done.items;
            answer = within_limit ∙ rw (done.answer, up);
            within = done.within;
            says = done.says up;
          }

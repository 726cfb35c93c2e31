-- One item more: what is held of a text's fields, with one field more noted, is what these and that field say.
--   put_at       what is noted of each metavariable
--   item_more    the entry of a metavariable, with an item more whose number is new
--   said_more    the main law
use mathlib.Core.Path.{◌≡◌, refl, sym, ◌∙◌}
use mathlib.Core.Bool.{Bool, true, false}
use mathlib.Core.List.Memᴰ
use mathlib.Core.List.{List, [], ◌∷◌, ◌++◌}
use Prim.Native.Nat.{ℕ, ◌+◌, ◌<◌}
use native.Mathlib.Omega.{arith}
use lib.ListN.{length, get_or, set, length-set}
use lib.Seq.{get_or-set_same, get_or-set_other}
use lib.Dec.{eqb}
use borrow.Author.Tests.{eqb-true, eqb-false}
use Rattle.meaning.specs.Limits.{metavariable_count}
use Rattle.meaning.specs.Basics.{choose, ◌∈◌}
use Rattle.meaning.specs.Text.{Item, numbers}
use Rattle.meaning.specs.Readable.{ReadableItem}
use Rattle.meaning.proofs.Lists.{by_test, all_append}
use Rattle.std.specs.Prelude.{Option, Some, None}
use Rattle.said.specs.Said.{HeldAs, SaidBy, field_of, item_of}
use Rattle.said.specs.declared.Field.{Field}
use Rattle.said.specs.declared.Said.{Said}
use Rattle.items.specs.Fields.{entry_rule, entry_tokens}
use Rattle.items.specs.Noted.{field_with, noted_of}
use Rattle.items.specs.declared.Rule.{Rule}
use Rattle.items.proofs.TermTable.{table_more, entry_new, entry_stays}

-- What is noted of each metavariable
put_at : (l : List (Option Field)) (n m : ℕ) (x : Option Field) → n < length l
    → get_or (set l n x) m None ≡ choose (eqb m n) x (get_or l m None)
put_at l n m x h =
    by_test (eqb m n)
    (λ e. rw (e, eqb-true m n e) (get_or-set_same l n x None h))
    (λ e. rw e (get_or-set_other l n m x None (eqb-false m n e)))

-- The entry of a metavariable, with an item more
item_more : (is : List Item) (i : Item) (m : ℕ) → (i.0 ∈ numbers is → ⊥)
    → item_of (is ++ (i ∷ [])) m ≡ choose (eqb m i.0) i.1 (item_of is m)
item_more [] i m new = refl
item_more (j ∷ is) i m new =
    go (eqb m j.0) refl (eqb m i.0) refl (item_more is i m (λ q. new (Memᴰ.tail q)))
  where
    go : (b : Bool) → eqb m j.0 ≡ b → (c : Bool) → eqb m i.0 ≡ c → item_of (is ++ (i ∷ [])) m ≡ choose c i.1 (item_of is m)
        → choose b j.1 (item_of (is ++ (i ∷ [])) m) ≡ choose c i.1 (choose b j.1 (item_of is m))
    go true e true f ih = absurd (new (Memᴰ.head (sym (eqb-true m i.0 f) ∙ eqb-true m j.0 e)))
    go true e false f ih = refl
    go false e c f ih = ih

-- The main law
module _ (front : List ℕ) (is : List Item) (s : Said) (h : SaidBy front is s) (i : Item) (r : ReadableItem i)
    (new : i.0 ∈ numbers is → ⊥) (rule : Rule) (ruled : entry_rule i.1 ≡ Some rule)
    (room : length front + length (entry_tokens i.1) < 65536) where
  abbrev field : Field
  field = field_with rule (length front)

  held_more : (m : ℕ) → m < metavariable_count
      → HeldAs (front ++ entry_tokens i.1) (item_of (is ++ (i ∷ [])) m) (field_of (noted_of s i.0 field) m)
  held_more m l =
      rw (put_at s.fields i.0 m (Some field) (rw h.long r.0), item_more is i m new) (go (eqb m i.0))
    where
      go : (b : Bool)
          → HeldAs (front ++ entry_tokens i.1) (choose b i.1 (item_of is m)) (choose b (Some field) (get_or s.fields m None))
      go true = entry_new front i.1 rule ruled r.1 (omega arith)
      go false = entry_stays front (entry_tokens i.1) (item_of is m) (field_of s m) (h.fields m l)

  pub said_more : (front' : List ℕ) (n node : ℕ) → front' ≡ front ++ entry_tokens i.1 → n ≡ i.0
      → node ≡ length front → SaidBy front' (is ++ (i ∷ [])) (noted_of s n (field_with rule node))
  said_more front' n node ef en ed =
      rw (ef, en, ed)
      (record {
        is_table = table_more front i.1 h.is_table r.1 room;
        readable = all_append ReadableItem is (i ∷ []) h.readable (r, tt);
        long = length-set s.fields i.0 (Some field) ∙ h.long;
        fields = held_more;
      })

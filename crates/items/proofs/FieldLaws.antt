-- One field of a text: what the code finds in it is what document 01's reading says of it.
--   field-..   the returns of `read_field`
--   Taken      a field that was read, taken out of the code's answer
use mathlib.Core.Path.{◌≡◌, refl, ap, sym, ◌∙◌}
use mathlib.Core.List.{List, ◌++◌}
use Prim.Native.Nat.{ℕ, ◌+◌, ◌-◌, ◌*◌, ◌≤◌}
use native.Mathlib.Omega.{arith}
use native.Mathlib.Nat.{add-sub_cancel_left}
use lib.ListN.{length, drop}
use Rattle.meaning.specs.Basics.{All, Bytes, Byte}
use Rattle.meaning.specs.Read.{Answer, got, refused}
use Rattle.meaning.specs.Readable.{ReadableEntry, ReadableItem}
use Rattle.meaning.specs.Text.{Item}
use Rattle.meaning.proofs.Lists.{never}
use Rattle.fields.specs.Heads.{PartsDone}
use Rattle.fields.specs.declared.field.Parts.{Parts}
use Rattle.terms.specs.Reading.{Written}
use Rattle.std.specs.Prelude.{Option, Some, None, Ok, Err}
use Rattle.refusal.specs.declared.Refusal.{Refusal}
use Rattle.meaning.specs.Term.{NamedTerm}
use Rattle.meaning.specs.Filling.{Entry, absent, body, left_open, value}
use Rattle.items.specs.Fields.{FieldDone, content_read, entry_rule, entry_tokens, field_answer, field_tokens, item_with, read_field}
use Rattle.items.specs.declared.Rule.{Rule}
use Rattle.items.specs.declared.Item as code
use Rattle.items.proofs.ItemLaws.{field_from}

-- The returns of `read_field`
pub field_cut : (s o : List ℕ) {r : Refusal} → PartsDone s (Err r) → FieldDone s (read_field s) o o None
unfolding read_field field_answer Written
field_cut s o d = rw (← d.says) (record { answer = refl; table = tt })

pub field_content : (s o o' : List ℕ) {p : Parts} (r : Option code.Item) → PartsDone s (Ok p)
    → FieldDone s (content_read p.tag (3 + p.length) s) o o' r → FieldDone s (read_field s) o o' r
unfolding read_field
field_content s o o' {p} r d f = rw (← d.says) (rw (add-sub_cancel_left 3 p.length) at f)

-- A field that was read, taken out of the code's answer
pub record Taken (s o o' : List ℕ) (x : code.Item) : Type 0 where
  pub item : Item
  pub reads : read_field s ≡ got (item, drop x.bytes s)
  pub is_rule : entry_rule item.1 ≡ Some x.rule
  pub is_number : x.m.0 ≡ item.0
  pub are_nodes : x.nodes ≡ length (entry_tokens item.1)
  pub row : o' ≡ entry_tokens item.1 ++ drop (length (entry_tokens item.1)) o
  pub readable : ReadableItem item
  pub few : 3 + 3 * x.nodes ≤ x.bytes
  pub within : x.bytes ≤ length s

pub taken : (s o o' : List ℕ) (x : code.Item) → All Byte s → FieldDone s (read_field s) o o' (Some x) → Taken s o o' x
unfolding field_answer Written
taken s o o' x b d = go (read_field s) refl d.answer d.table
  where
    ruled : (y : Item × Bytes) (rule : Option Rule) → read_field s ≡ got y → entry_rule y.0.1 ≡ rule
        → Some x ≡ item_with (length s - length y.1) (record { 0 = y.0.0 }) rule (length (field_tokens y)) → Written field_tokens (got y) o o'
        → Taken s o o' x
    ruled y None e g h w = never (cc)
    ruled y (Some rule) e g h w =
        let from = field_from s y.0 y.1 b e in
        let same : x ≡ record { bytes = length s - length y.1; m = record { 0 = y.0.0 }; rule = rule; nodes = length (field_tokens y) } = cc in
        let bytes : x.bytes ≡ length s - length y.1 = ap (λ (z : code.Item). z.bytes) same in
        let many : x.nodes ≡ length (entry_tokens y.0.1) = ap (λ (z : code.Item). z.nodes) same in
        record {
          item = y.0;
          reads = e ∙ ap (λ (l : Bytes). got (y.0, l)) (from.rest ∙ ap (λ (k : ℕ). drop k s) (sym bytes));
          is_rule = g ∙ ap (λ (z : code.Item). Some z.rule) (sym same);
          is_number = ap (λ (z : code.Item). z.m.0) same;
          are_nodes = many;
          row = w;
          readable = from.readable;
          few = omega (arith, bytes, many, from.few);
          within = omega (arith, bytes);
        }

    go : (a : Answer (Item × Bytes)) → read_field s ≡ a → Some x ≡ field_answer s a → Written field_tokens a o o' → Taken s o o' x
    go (refused r) e h w = never (cc)
    go (got y) e h w = ruled y (entry_rule y.0.1) e refl h w

pub not_taken : (s o o' : List ℕ) → All Byte s → FieldDone s (read_field s) o o' None → (n : ℕ) × (read_field s ≡ refused n)
unfolding field_answer
not_taken s o o' b d = go (read_field s) refl d.answer
  where
    ruled : (y : Item × Bytes) (rule : Option Rule) → entry_rule y.0.1 ≡ rule → ReadableItem y.0
        → None ≡ item_with (length s - length y.1) (record { 0 = y.0.0 }) rule (length (field_tokens y)) → ⊥
    ruled y None g r h = unruled y.0.1 r.1 g
      where
        unruled : (e : Entry NamedTerm) → ReadableEntry e → entry_rule e ≡ None → ⊥
        unruled absent q g = q
        unruled left_open q g = cc
        unruled (value t) q g = cc
        unruled (body t) q g = cc
    ruled y (Some rule) g r h = cc

    go : (a : Answer (Item × Bytes)) → read_field s ≡ a → None ≡ field_answer s a → (n : ℕ) × (read_field s ≡ refused n)
    go (refused n) e h = (n, e)
    go (got y) e h = absurd (ruled y (entry_rule y.0.1) refl (field_from s y.0 y.1 b e).readable h)

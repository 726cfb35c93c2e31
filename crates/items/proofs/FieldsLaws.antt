-- The fields of a text, one after the other.
--   Reading      what the loop of `read_fields` keeps: the fields before `at` are read, their terms are the first `used` entries of the
--                table, their order is known, and, if their numbers rise, what they say is held; with the items of the fields that are
--                left, theirs are the items of the whole text
--   reading-..   its steps, and the returns of `read_fields`
use mathlib.Core.Path.{◌≡◌, refl, ap, sym, ◌∙◌, subst}
use mathlib.Core.Bool.{true}
use mathlib.Core.List.{List, [], ◌∷◌, ◌++◌, append_assoc, append-nil, map-append}
use Prim.Native.Nat.{ℕ, zero, suc, ◌+◌, ◌-◌, ◌*◌, ◌<◌, ◌≤◌}
use native.Mathlib.Omega.{arith}
use borrow.Rule.Slice.PartMut.{put_mid, same_len_mid}
use lib.ListN.{length, take, drop, length-append, length-drop, length-set, take-append-drop}
use lib.Seq.{drop-drop, length-take-le, take_at}
use borrow.Author.Tests.{eq-eqb, ne_eqb}
use Rattle.meaning.specs.Limits.{largest_text, metavariable_count}
use Rattle.meaning.specs.Basics.{All, Bytes, Byte}
use Rattle.meaning.specs.Read.{Answer, Parts, after, got, parts_of, refused}
use Rattle.meaning.specs.Text.{Item, numbers, read_item, read_items, rises}
use Rattle.std.specs.Prelude.{Some, None, Ok, Err}
use Rattle.refusal.specs.declared.Refusal.TheVariants.{TextMalformed}
use Rattle.slices.proofs.Slices.{rest_all, rows_joined}
use Rattle.terms.specs.Reading.{Space}
use Rattle.said.specs.Said.{SaidBy}
use Rattle.said.specs.declared.Said.{Said}
use Rattle.items.specs.Fields.{FieldDone, entry_tokens, item_read, read_field}
use Rattle.items.specs.Noted.{NoteRoom, field_with, noted_of}
use Rattle.items.specs.Order.{InOrder, followed_by}
use Rattle.items.specs.Texts.{FieldsDone, TextSpace, text_room}
use Rattle.items.specs.declared.Item as code
use Rattle.items.specs.declared.Order.{Order}
use Rattle.items.proofs.ItemLaws.{all_drop}
use Rattle.items.proofs.FieldLaws.{Taken, not_taken, taken}
use Rattle.items.proofs.OrderLaws.{new_number, order_more, rises_before}
use Rattle.items.proofs.SaidMore.{said_more}

-- Fields, one by one
items_none : (n : ℕ) (s : Bytes) → length s ≡ 0 → read_items n s ≡ got []
unfolding read_items
items_none zero s z = refl
items_none (suc n) s z = rw (eq-eqb (length s) 0 z)

-- A field's item before those of the fields after it
abbrev listed : ℕ → Item × Bytes → Answer (List Item)
listed n x = after (read_items n x.1) (λ is. got (x.0 ∷ is))

items_step : (n : ℕ) (s : Bytes) → (length s ≡ 0 → ⊥) → read_items (suc n) s ≡ after (read_field s) (listed n)
unfolding read_items read_field
items_step n s z = rw (ne_eqb (length s) 0 z) (go (parts_of s))
  where
    item : (p : Parts) (a : Answer Item)
        → after a (λ i. listed n (i, p.later)) ≡ after (after {A = Item} a (λ i. got (i, p.later))) (listed n)
    item p (refused r) = refl
    item p (got i) = refl

    go : (a : Answer Parts) → after a (λ p. after (read_item p) (λ i. listed n (i, p.later))) ≡ after (after a item_read) (listed n)
    go (refused r) = refl
    go (got p) = item p (read_item p)

-- The items of all fields: those before, and those that are left
abbrev joined : List Item → Answer (List Item) → Answer (List Item)
joined done a = after a (λ is. got (done ++ is))

joined_none : (a : Answer (List Item)) → a ≡ joined [] a
joined_none (refused r) = refl
joined_none (got is) = refl

joined_more : (done : List Item) (i : Item) (a : Answer (List Item))
    → joined done (after a (λ is. got (i ∷ is))) ≡ joined (done ++ (i ∷ [])) a
joined_more done i (refused r) = refl
joined_more done i (got is) = ap got (sym (append_assoc done (i ∷ []) is))

pub record Reading (text table : List ℕ) (used at : ℕ) (s : Said) (o : Order) : Type 0 where
  pub items : List Item
  pub order : InOrder (numbers items) o
  pub fields_long : length s.fields ≡ metavariable_count
  pub says : rises (numbers items) ≡ true → SaidBy (take used table) items s
  -- at most so many fields are left
  pub bound : ℕ
  pub enough : length text - at ≤ bound
  pub leads : read_items (length text) text ≡ joined items (read_items bound (drop at text))
  pub within : at ≤ length text
  pub short : length text ≤ 8192
  pub few : 3 * used ≤ at
  pub long : text_room ≤ length table

pub reading_begins : (text table : List ℕ) (s : Said) → SaidBy [] [] s → TextSpace text table
    → Reading text table 0 0 s (record { rising = true; next = 0 })
unfolding largest_text
reading_begins text table s h l =
    record {
      items = [];
      order = record { rising = refl; next = refl };
      fields_long = h.long;
      says = λ e. h;
      bound = length text;
      enough = omega arith;
      leads = joined_none (read_items (length text) text);
      within = omega arith;
      short = l.short;
      few = omega arith;
      long = l.room;
    }

-- The loop
module _ (text table : List ℕ) (used at : ℕ) (s : Said) (o : Order) (r : Reading text table used at s o) where
  pub used_inside : used ≤ length table
  used_inside = omega (arith, r.few, r.within, r.short, r.long)

  pub reading_ends : length text ≤ at
      → FieldsDone (read_items (length text) text) table (Ok (record { rising = o.rising; text = record { used = used; said = s } }))
  reading_ends h =
      let none : read_items r.bound (drop at text) ≡ got [] =
      items_none r.bound (drop at text) (omega (arith, length-drop at text)) in
      record {
        items = r.items;
        answer = r.leads ∙ rw (none, append-nil r.items);
        rising = r.order.rising;
        within = used_inside;
        says = r.says;
      }

  module _ (some : at < length text) where
    abbrev rest : Bytes
    rest = take (length text - at) (drop at text)

    abbrev room : List ℕ
    room = take (length table - used) (drop used table)

    pub reading_space : Space (length rest) (length room)
    reading_space =
        record {
          table =
              omega (
                arith,
                ap length (rest_all at text),
                ap length (rest_all used table),
                length-drop at text,
                length-drop used table,
                r.few,
                r.within,
                r.short,
                r.long,
              );
        }

    next : (k : ℕ) → r.bound ≡ suc k → read_items (length text) text ≡ joined r.items (after (read_field rest) (listed k))
    next k e = r.leads ∙ rw (e, rest_all at text, items_step k (drop at text) (λ z. omega (arith, length-drop at text)))

    bounded : (k : ℕ) × (r.bound ≡ suc k)
    bounded = (r.bound - 1, omega (arith, r.enough))

    rest_bytes : All Byte text → All Byte rest
    rest_bytes b = rw (rest_all at text) (all_drop Byte at text b)

    pub reading_refused : (x : List ℕ) → All Byte text → FieldDone rest (read_field rest) room x None
        → FieldsDone (read_items (length text) text) table (Err TextMalformed)
    reading_refused x b d =
        let n = not_taken rest room x (rest_bytes b) d in (refl, (n.0, next bounded.0 bounded.1 ∙ rw n.1))

    -- One field more
    module _ (x : List ℕ) (i : code.Item) (b : All Byte text)
        (d : FieldDone rest (read_field rest) room x (Some i)) where
      one : Taken rest room x i
      one = taken rest room x i (rest_bytes b) d

      rest_long : length rest ≡ length text - at
      rest_long = ap length (rest_all at text) ∙ length-drop at text

      pub reading_counts : (used + i.nodes ≤ length table) × (at + i.bytes ≤ length text) × (1 ≤ i.bytes)
      reading_counts =
          let few = one.few in
          let within = one.within in (
            omega (arith, rest_long, r.few, r.within, r.short, r.long),
            omega (arith, rest_long, r.within),
            omega arith,
          )

      pub reading_noted : NoteRoom s i.m.0
      reading_noted = record { number = rw one.is_number one.readable.0; long = r.fields_long }

      abbrev front : List ℕ
      front = take used table

      row : List ℕ
      row = entry_tokens one.item.1

      front_long : length front ≡ used
      front_long = length-take-le used table used_inside

      grown : put_mid used (length table - used) table x ≡ (front ++ row) ++ drop (length (front ++ row)) table
      unfolding row
      grown =
          rw front_long at
          (rows_joined front row table table x (rw front_long (sym (take-append-drop used table))) (rw front_long one.row))

      abbrev table' : List ℕ
      table' = put_mid used (length table - used) table x

      grown_long : length (front ++ row) ≡ used + i.nodes
      unfolding row
      grown_long = length-append front row ∙ rw (front_long, ← one.are_nodes)

      grown_front : take (used + i.nodes) table' ≡ front ++ row
      grown_front = ap (take (used + i.nodes)) grown ∙ take_at (front ++ row) (drop (length (front ++ row)) table) (used + i.nodes) grown_long

      abbrev more : List Item
      more = r.items ++ (one.item ∷ [])

      numbers_more : numbers more ≡ numbers r.items ++ (one.item.0 ∷ [])
      numbers_more = map-append (λ (y : Item). y.0) r.items (one.item ∷ [])

      noted : rises (numbers more) ≡ true → SaidBy (take (used + i.nodes) table') more (noted_of s i.m.0 (field_with i.rule used))
      unfolding row
      noted up =
          let small : length front + length row < 65536 =
          omega (arith, grown_long, length-append front row, reading_counts, one.few, r.few, r.short) in
          let rose : rises (numbers r.items ++ (one.item.0 ∷ [])) ≡ true = ap rises (sym numbers_more) ∙ up in
          let before : rises (numbers r.items) ≡ true = rises_before (numbers r.items) one.item.0 rose in
          said_more front r.items s (r.says before) one.item one.readable (new_number (numbers r.items) one.item.0 rose) i.rule one.is_rule
          small (take (used + i.nodes) table') i.m.0 used grown_front one.is_number (sym front_long)

      ordered : InOrder (numbers more) (followed_by o i.m.0)
      ordered =
          subst (λ (n : ℕ). InOrder (numbers more) (followed_by o n)) (sym one.is_number)
          (subst (λ (ms : List ℕ). InOrder ms (followed_by o one.item.0)) (sym numbers_more)
          (order_more (numbers r.items) o one.item.0 r.order))

      leads_on : read_items (length text) text ≡ joined more (read_items bounded.0 (drop (at + i.bytes) text))
      leads_on =
          next bounded.0 bounded.1
          ∙ rw (one.reads, rest_all at text, drop-drop i.bytes at text)
          (joined_more r.items one.item (read_items bounded.0 (drop (at + i.bytes) text)))

      pub reading_goes : length x ≡ length room
          → Reading text table' (used + i.nodes) (at + i.bytes) (noted_of s i.m.0 (field_with i.rule used)) (followed_by o i.m.0)
      reading_goes kept =
          let few = one.few in
          let counts = reading_counts in
          record {
            items = more;
            order = ordered;
            fields_long = length-set s.fields i.m.0 (Some (field_with i.rule used)) ∙ r.fields_long;
            says = noted;
            bound = bounded.0;
            enough = omega (arith, bounded.1, r.enough);
            leads = leads_on;
            within = counts.1;
            short = r.short;
            few = omega (arith, r.few);
            long = omega (arith, same_len_mid used (length table - used) table x kept, r.long);
          }

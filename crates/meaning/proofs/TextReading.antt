-- Reading and encoding solution texts are inverse.
--   item    a metavariable with what the text says of it: one field, of tag 8, 9 or 11
use mathlib.Core.Path.{◌≡◌, refl, ap, ap₂, sym, ◌∙◌, subst}
use Prim.Native.Nat.{ℕ, zero, suc, ◌<◌, ◌≤◌}
use mathlib.Core.Bool.{true}
use mathlib.Core.List.{List, [], ◌∷◌, ◌++◌}
use native.Mathlib.Omega.{arith}
use lib.ListN.{length, drop, get_or, length-append}
use lib.Dec.{eqb, ltb}
use borrow.Author.Tests.{ltb-true, lt-ltb, le-ltb, eqb-true}
use Rattle.meaning.specs.Limits.{max_depth, largest_text, metavariable_count}
use Rattle.meaning.specs.Basics.{All, Bytes, Byte}
use Rattle.meaning.specs.Term.{one, NamedTerm}
use Rattle.meaning.specs.Filling.{Entry, absent, left_open, value, body}
use Rattle.meaning.specs.Field.{field, encode}
use Rattle.meaning.specs.Read.{Answer, refused, got, Context, in_expression, in_body, Parts, parts_of, read_term}
use Rattle.meaning.specs.Readable.{Readable, ReadableEntry, ReadableItem}
use Rattle.meaning.specs.Text.{Item, or_twenty, read_numbered, read_open, read_item, read_items, read_text, numbers, rises}
use Rattle.meaning.specs.Encoded.{encode_entry, encode_text}
use Rattle.meaning.proofs.Lists.{all_append}
use Rattle.meaning.proofs.ByteLaws.{got_is, refused_not, by_got, unless_got, when_got, by_choice, none_left, one_byte}
use Rattle.meaning.proofs.ByteLaws.{first_byte, parts_field, field_parts, field_some, field_length, field_bytes, field_content}
use Rattle.meaning.proofs.ByteLaws.{field_later, later_fewer}
use Rattle.meaning.proofs.TermReading.{term_read_readable, term_read_whole, term_encode_whole, term_bytes}

-- An item is the field of that tag and content, and readable
abbrev ItemOf : ℕ → Bytes → Item → Type 0
ItemOf tag c i = (encode_entry i.0 i.1 ≡ field tag c) × ReadableItem i

-- A number before a term, for tags 8 and 9: `says` is what the text says with the term
numbered_faithful : (ctx : Context) (says : NamedTerm → Entry NamedTerm) (tag : ℕ)
    → ((m : ℕ) (t : NamedTerm) → encode_entry m (says t) ≡ field tag (m ∷ encode (one t)))
    → ((t : NamedTerm) → Readable max_depth ctx (one t) → ReadableEntry (says t)) → (c : Bytes) (i : Item) → All Byte c
    → read_numbered ctx says c ≡ got i → ItemOf tag c i
unfolding read_numbered
numbered_faithful ctx says tag encoded readable c i b e =
    let some = when_got (ltb 0 (length c)) 20 _ e in
    let number = when_got (ltb (get_or c 0 0) metavariable_count) 20 _ some.1 in
    let front : get_or c 0 0 ∷ drop 1 c ≡ c = first_byte c (ltb-true 0 (length c) some.0) in
    let bytes : All Byte (drop 1 c) = (subst (All Byte) (sym front) b).1 in
    by_got (read_term max_depth ctx (drop 1 c)) _ number.1 (λ x read e.
    let end = when_got (eqb (length x.1) 0) 20 _ e in
    let whole : get_or c 0 0 ∷ encode (one x.0) ≡ c =
    ap (λ (l : Bytes). get_or c 0 0 ∷ l) (term_read_whole max_depth ctx (drop 1 c) x.0 x.1 bytes read end.0) ∙ front in
    let says-term = readable x.0 (term_read_readable max_depth ctx (drop 1 c) x.0 x.1 bytes read) in
    subst (ItemOf tag c) (got_is end.1)
    (encoded (get_or c 0 0) x.0 ∙ ap (field tag) whole, (ltb-true (get_or c 0 0) metavariable_count number.0, says-term)))

numbered_complete : (ctx : Context) (says : NamedTerm → Entry NamedTerm) (m : ℕ) (t : NamedTerm) → m < metavariable_count
    → Readable max_depth ctx (one t) → read_numbered ctx says (m ∷ encode (one t)) ≡ got (m, says t)
unfolding read_numbered
numbered_complete ctx says m t h r =
    rw (lt-ltb 0 (length (m ∷ encode (one t))) (omega arith), lt-ltb m metavariable_count h, term_encode_whole max_depth ctx t r)

open_faithful : (c : Bytes) (i : Item) → read_open c ≡ got i → ItemOf 11 c i
unfolding read_open
open_faithful c i e =
    let only = when_got (eqb (length c) 1) 20 _ e in
    let number = when_got (ltb (get_or c 0 0) metavariable_count) 20 _ only.1 in
    subst (ItemOf 11 c) (got_is number.1)
    (ap (field 11) (one_byte c (eqb-true (length c) 1 only.0)), (ltb-true (get_or c 0 0) metavariable_count number.0, tt))

open_complete : (m : ℕ) → m < metavariable_count → read_open (m ∷ []) ≡ got (m, left_open)
unfolding read_open
open_complete m h = rw (lt-ltb m metavariable_count h)

-- One item
item_faithful : (p : Parts) (i : Item) → All Byte p.content → read_item p ≡ got i → ItemOf p.tag p.content i
unfolding read_item
item_faithful p i b e =
    let at : (tag : ℕ) → eqb p.tag tag ≡ true → ItemOf tag p.content i → ItemOf p.tag p.content i =
    λ tag t o. rw (eqb-true p.tag tag t) o in
    by_choice (eqb p.tag 8) _ _ e (λ t e. at 8 t (numbered_faithful in_expression value 8 (λ m t. refl) (λ t r. r) p.content i b e))
    (λ _ e.
    by_choice (eqb p.tag 9) _ _ e (λ t e. at 9 t (numbered_faithful in_body body 9 (λ m t. refl) (λ t r. r) p.content i b e)) (λ _ e.
    let only = when_got (eqb p.tag 11) 20 _ e in
    at 11 only.0 (open_faithful p.content i only.1)))

-- An item's field
abbrev item_tag : Entry NamedTerm → ℕ
item_tag absent = 0
item_tag left_open = 11
item_tag (value t) = 8
item_tag (body t) = 9

abbrev item_content : ℕ → Entry NamedTerm → Bytes
item_content m absent = []
item_content m left_open = m ∷ []
item_content m (value t) = m ∷ encode (one t)
item_content m (body t) = m ∷ encode (one t)

item_field : (m : ℕ) (x : Entry NamedTerm) → ReadableEntry x → encode_entry m x ≡ field (item_tag x) (item_content m x)
item_field m absent r = absurd r
item_field m left_open r = refl
item_field m (value t) r = refl
item_field m (body t) r = refl

item_complete : (m : ℕ) (x : Entry NamedTerm) (later : Bytes) → ReadableItem (m, x)
    → read_item (record { tag = item_tag x; content = item_content m x; later = later }) ≡ got (m, x)
unfolding read_item
item_complete m absent later r = absurd r.1
item_complete m left_open later r = open_complete m r.0
item_complete m (value t) later r = numbered_complete in_expression value m t r.0 r.1
item_complete m (body t) later r = numbered_complete in_body body m t r.0 r.1

item_bytes : (m : ℕ) (x : Entry NamedTerm) → ReadableItem (m, x) → length (encode_entry m x) < 65536 → All Byte (encode_entry m x)
unfolding metavariable_count
item_bytes m absent r h = tt
item_bytes m left_open r h = field_bytes 11 (m ∷ []) (omega arith) h (omega arith, tt)
item_bytes m (value t) r h =
    let whole = field_length 8 (m ∷ encode (one t)) in
    field_bytes 8 (m ∷ encode (one t)) (omega arith) h (omega arith, term_bytes max_depth in_expression t r.1 (omega arith))
item_bytes m (body t) r h =
    let whole = field_length 9 (m ∷ encode (one t)) in
    field_bytes 9 (m ∷ encode (one t)) (omega arith) h (omega arith, term_bytes max_depth in_body t r.1 (omega arith))

-- Items
no_items : encode_text [] ≡ []
unfolding encode_text
no_items = refl

more_items : (i : Item) (is : List Item) → encode_text (i ∷ is) ≡ encode_entry i.0 i.1 ++ encode_text is
unfolding encode_text
more_items i is = refl

-- Items that are readable and encode to just these bytes
abbrev Whole : Bytes → List Item → Type 0
Whole s is = (encode_text is ≡ s) × All ReadableItem is

items_faithful : (n : ℕ) (s : Bytes) (is : List Item) → All Byte s → length s ≤ n → read_items n s ≡ got is → Whole s is
unfolding read_items
items_faithful zero s is b h e = subst (Whole s) (got_is e) (no_items ∙ sym (none_left s h), tt)
items_faithful (suc n) s is b h e =
    by_choice (eqb (length s) 0) _ _ e
    (λ t e. let z : length s ≡ 0 = eqb-true (length s) 0 t in subst (Whole s) (got_is e) (no_items ∙ sym (none_left s (omega arith)), tt))
    (λ _ e.
    by_got (parts_of s) _ e (λ p parts e.
    by_got (read_item p) _ e (λ i item e.
    by_got (read_items n p.later) _ e (λ js rest e.
    let whole = parts_field s p b parts in
    let o = item_faithful p i (field_content p.tag p.content p.later s whole b) item in
    let fewer : length p.later ≤ n = omega (arith, later_fewer p.tag p.content p.later s whole) in
    let ih = items_faithful n p.later js (field_later p.tag p.content p.later s whole b) fewer rest in
    subst (Whole s) (got_is e) (more_items i js ∙ ap₂ ◌++◌ o.0 ih.0 ∙ whole, (o.1, ih.1))))))

item_first : (i : Item) (is : List Item) → ReadableItem i
    → encode_text (i ∷ is) ≡ field (item_tag i.1) (item_content i.0 i.1) ++ encode_text is
item_first i is r = more_items i is ∙ ap (λ (l : Bytes). l ++ encode_text is) (item_field i.0 i.1 r.1)

items_complete : (n : ℕ) (is : List Item) → All ReadableItem is → length (encode_text is) ≤ n → read_items n (encode_text is) ≡ got is
unfolding read_items
items_complete zero [] r h = refl
items_complete (suc n) [] r h = rw no_items
items_complete zero (i ∷ is) r h =
    absurd (omega (arith, later_fewer (item_tag i.1) (item_content i.0 i.1) (encode_text is) _ (sym (item_first i is r.0))))
items_complete (suc n) (i ∷ is) r h =
    let tag : ℕ = item_tag i.1 in
    let content : Bytes = item_content i.0 i.1 in
    let fewer = later_fewer tag content (encode_text is) (encode_text (i ∷ is)) (sym (item_first i is r.0)) in
    rw (
      item_first i is r.0,
      field_some tag content (encode_text is),
      field_parts tag content (encode_text is),
      item_complete i.0 i.1 (encode_text is) r.0,
      items_complete n is r.1 (omega arith),
    )

items_bytes : (is : List Item) → All ReadableItem is → length (encode_text is) < 65536 → All Byte (encode_text is)
unfolding encode_text
items_bytes [] r h = tt
items_bytes (i ∷ is) r h =
    let head : Bytes = encode_entry i.0 i.1 in
    let both = length-append head (encode_text is) in
    all_append Byte head (encode_text is) (item_bytes i.0 i.1 r.0 (omega arith)) (items_bytes is r.1 (omega arith))

twenty_got : (a : Answer (List Item)) {is : List Item} → or_twenty a ≡ got is → a ≡ got is
twenty_got (refused r) e = absurd (refused_not e)
twenty_got (got x) e = e

-- What a text was read as: its fields give these items, and their numbers rise
reading : (s : Bytes) (is : List Item) → read_text s ≡ got is → (read_items (length s) s ≡ got is) × (rises (numbers is) ≡ true)
unfolding read_text
reading s is e =
    by_got (or_twenty (read_items (length s) s)) _ (unless_got (ltb largest_text (length s)) 19 _ e).1 (λ js read e.
    let ordered = when_got (rises (numbers js)) 27 _ e in
    subst (λ (ks : List Item). (read_items (length s) s ≡ got ks) × (rises (numbers ks) ≡ true)) (got_is ordered.1)
    (twenty_got (read_items (length s) s) read, ordered.0))

-- The main theorems. Every text of readable items that is not too long and whose numbers rise is read back from its encoding, which
-- consists of bytes
pub read_text_lem : (is : List Item) → All ReadableItem is → rises (numbers is) ≡ true → length (encode_text is) ≤ largest_text
    → read_text (encode_text is) ≡ got is
unfolding read_text
read_text_lem is r o h = rw (le-ltb largest_text (length (encode_text is)) h, items_complete (length (encode_text is)) is r (omega arith), o)

pub text_bytes : (is : List Item) → All ReadableItem is → length (encode_text is) ≤ largest_text → All (λ b. b < 256) (encode_text is)
unfolding largest_text
text_bytes is r h = items_bytes is r (omega arith)

-- The items read from a text encode to exactly its bytes, and are readable
pub text_read : (s : Bytes) (is : List Item) → All (λ b. b < 256) s → read_text s ≡ got is → (encode_text is ≡ s) × All ReadableItem is
text_read s is b e = items_faithful (length s) s is b (omega arith) (reading s is e).0

-- T-07: "metavariable numbers must rise from field to field"
pub text_rises : (s : Bytes) (is : List Item) → read_text s ≡ got is → rises (numbers is) ≡ true
text_rises s is e = (reading s is e).1

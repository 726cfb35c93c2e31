-- What a field that is read says: its number is a metavariable's, its term was read from its content, and so it is readable and takes three
-- bytes or more for each node.
--   FromContent   the entry's term stands in the content, after the number
--   FieldFrom     the item is a field's at the front of the bytes, and the later bytes are those after it
use mathlib.Core.Path.{◌≡◌, ap, sym, ◌∙◌, subst}
use mathlib.Core.List.{List, [], ◌∷◌, ◌++◌}
use Prim.Native.Nat.{ℕ, suc, ◌+◌, ◌-◌, ◌*◌, ◌<◌, ◌≤◌}
use native.Mathlib.Omega.{arith}
use lib.ListN.{length, take, drop, get_or, length-append, length-drop, take-append-drop}
use lib.Seq.{drop_at}
use lib.Dec.{eqb, ltb}
use borrow.Author.Tests.{ltb-true}
use Rattle.meaning.specs.Limits.{max_depth, metavariable_count}
use Rattle.meaning.specs.Basics.{All, Bytes, Byte}
use Rattle.meaning.specs.Term.{NamedTerm, one}
use Rattle.meaning.specs.Field.{field}
use Rattle.meaning.specs.Read.{Context, Parts, got, in_body, in_expression, parts_of, read_term}
use Rattle.meaning.specs.Filling.{Entry, absent, body, left_open, value}
use Rattle.meaning.specs.Readable.{ReadableEntry, ReadableItem}
use Rattle.meaning.specs.Text.{Item, read_item, read_numbered, read_open}
use Rattle.meaning.proofs.Lists.{append_all}
use Rattle.meaning.proofs.ByteLaws.{by_choice, by_got, field_content, field_length, got_is, parts_field, when_got}
use Rattle.meaning.proofs.TermReading.{term_read_readable}
use Rattle.tokens.proofs.TokenParts.{tokens_length}
use Rattle.terms.proofs.Bounds.{term_fine}
use Rattle.items.specs.Fields.{entry_tokens, read_field}

-- What holds of whatever is read from a list holds of its elements
pub all_read : (P : ℕ → Type 0) (s : List ℕ) → ((i : ℕ) → P (get_or s i 0)) → All P s
all_read P [] h = tt
all_read P (x ∷ s) h = (h 0, all_read P s (λ i. h (suc i)))

pub all_drop : (P : ℕ → Type 0) (k : ℕ) (s : List ℕ) → All P s → All P (drop k s)
all_drop P k s a = (append_all P (take k s) (drop k s) (subst (All P) (sym (take-append-drop k s)) a)).1

FromContent : Bytes → Entry NamedTerm → Type 0
FromContent c absent = ⊥
FromContent c left_open = Unit {0}
FromContent c (value t) = (later : Bytes) × (read_term max_depth in_expression (drop 1 c) ≡ got (t, later))
FromContent c (body t) = (later : Bytes) × (read_term max_depth in_body (drop 1 c) ≡ got (t, later))

ItemFrom : Bytes → Item → Type 0
ItemFrom c i = (i.0 < metavariable_count) × FromContent c i.1

-- An item that is read
numbered_from : (ctx : Context) (says : NamedTerm → Entry NamedTerm) (c : Bytes) (i : Item)
    → ((t : NamedTerm) (later : Bytes) → read_term max_depth ctx (drop 1 c) ≡ got (t, later) → FromContent c (says t))
    → read_numbered ctx says c ≡ got i → ItemFrom c i
unfolding read_numbered ItemFrom
numbered_from ctx says c i from e =
    let some = when_got (ltb 0 (length c)) 20 _ e in
    let number = when_got (ltb (get_or c 0 0) metavariable_count) 20 _ some.1 in
    by_got (read_term max_depth ctx (drop 1 c)) _ number.1 (λ x read e.
    let end = when_got (eqb (length x.1) 0) 20 _ e in
    subst (ItemFrom c) (got_is end.1) (ltb-true (get_or c 0 0) metavariable_count number.0, from x.0 x.1 read))

open_from : (c : Bytes) (i : Item) → read_open c ≡ got i → ItemFrom c i
unfolding read_open ItemFrom FromContent
open_from c i e =
    let only = when_got (eqb (length c) 1) 20 _ e in
    let number = when_got (ltb (get_or c 0 0) metavariable_count) 20 _ only.1 in
    subst (ItemFrom c) (got_is number.1) (ltb-true (get_or c 0 0) metavariable_count number.0, tt)

item_from : (p : Parts) (i : Item) → read_item p ≡ got i → ItemFrom p.content i
unfolding read_item FromContent
item_from p i e =
    by_choice (eqb p.tag 8) _ _ e (λ _ e. numbered_from in_expression value p.content i (λ t later r. (later, r)) e) (λ _ e.
    by_choice (eqb p.tag 9) _ _ e (λ _ e. numbered_from in_body body p.content i (λ t later r. (later, r)) e) (λ _ e.
    open_from p.content i (when_got (eqb p.tag 11) 20 _ e).1))

entry_readable : (c : Bytes) (e : Entry NamedTerm) → All Byte c → FromContent c e → ReadableEntry e
unfolding FromContent
entry_readable c absent b f = f
entry_readable c left_open b f = tt
entry_readable c (value t) b f = term_read_readable max_depth in_expression (drop 1 c) t f.0 (all_drop Byte 1 c b) f.1
entry_readable c (body t) b f = term_read_readable max_depth in_body (drop 1 c) t f.0 (all_drop Byte 1 c b) f.1

term_few : (ctx : Context) (c : Bytes) (t : NamedTerm) (later : Bytes) → read_term max_depth ctx (drop 1 c) ≡ got (t, later)
    → 3 * length (entry_tokens (value t)) ≤ length c
term_few ctx c t later e =
    omega (arith, (term_fine max_depth ctx (drop 1 c) (t, later) e).room, tokens_length [] (one t), length-drop 1 c)

entry_few : (c : Bytes) (e : Entry NamedTerm) → FromContent c e → 3 * length (entry_tokens e) ≤ length c
unfolding FromContent
entry_few c absent f = absurd f
entry_few c left_open f = omega arith
entry_few c (value t) f = term_few in_expression c t f.0 f.1
entry_few c (body t) f = term_few in_body c t f.0 f.1

-- A field that is read
pub record FieldFrom (s : Bytes) (i : Item) (later : Bytes) : Type 0 where
  pub readable : ReadableItem i
  pub few : 3 + 3 * length (entry_tokens i.1) + length later ≤ length s
  pub rest : later ≡ drop (length s - length later) s

pub field_from : (s : Bytes) (i : Item) (later : Bytes) → All Byte s → read_field s ≡ got (i, later) → FieldFrom s i later
unfolding read_field ItemFrom
field_from s i later b e =
    by_got (parts_of s) _ e (λ p parts e.
    by_got (read_item p) _ e (λ j item e.
    let whole : field p.tag p.content ++ p.later ≡ s = parts_field s p b parts in
    let from = item_from p j item in
    let front : length (field p.tag p.content) ≡ 3 + length p.content = field_length p.tag p.content in
    let long : length (field p.tag p.content) + length p.later ≡ length s =
    sym (length-append (field p.tag p.content) p.later) ∙ ap length whole in
    let taken : ℕ = length s - length p.later in
    let is : length (field p.tag p.content) ≡ taken = omega arith in
    let content : All Byte p.content = field_content p.tag p.content p.later s whole b in
    subst (λ (x : Item × Bytes). FieldFrom s x.0 x.1) (got_is e)
    (record {
      readable = (from.0, entry_readable p.content j.1 content from.1);
      few = omega (arith, entry_few p.content j.1 from.1);
      rest = sym (ap (drop taken) (sym whole) ∙ drop_at (field p.tag p.content) p.later taken is);
    })))

-- T-07: texts in number order "differ only in bound names exactly when they name the same solution".
--   Agrees        two texts say the same of each metavariable
--   same_filling_lem  of two texts that can be read; of two that pass it is `passing_texts` (EntryLaws)
use mathlib.Core.Path.{◌≡◌, refl, ap, ap₂, sym, ◌∙◌, fun_ext}
use mathlib.Core.Logic.{⊎_elim, ◌↔◌}
use Prim.Native.Nat.{ℕ, ◌<◌}
use mathlib.Core.Bool.{false}
use mathlib.Core.List.Memᴰ
use mathlib.Core.List.{List, [], ◌∷◌}
use native.Mathlib.Omega.{arith}
use lib.Dec.{eqb, ltb}
use borrow.Author.Tests.{ltb-true, ltb-false}
use Rattle.meaning.specs.Basics.{All, Bytes, choose, ◌∈◌, Ordered, more, Byte}
use Rattle.meaning.specs.Term.{NamedTerm}
use Rattle.meaning.specs.Filling.{Entry, absent, left_open, value, body}
use Rattle.meaning.specs.Read.{got}
use Rattle.meaning.specs.Readable.{ReadableEntry, ReadableItem}
use Rattle.meaning.specs.Text.{Item, meant, numbers, read_text, said}
use Rattle.meaning.specs.Textual.{AlphaEntry, AlphaText, both_absent, both_open, values, bodies}
use Rattle.meaning.proofs.Lists.{never, by_test, eqb_self, eqb_eq}
use Rattle.meaning.proofs.Renaming.{equal_is_alpha}
use Rattle.meaning.proofs.TextReading.{text_read, text_rises}
use Rattle.meaning.proofs.FieldOrder.{rises_ordered, said_first, said_later, said_nowhere}

-- Entries mean the same exactly when they differ at most in bound names
meant_alpha : (x y : Entry NamedTerm) → meant x ≡ meant y → AlphaEntry x y
meant_alpha absent absent e = both_absent
meant_alpha left_open left_open e = both_open
meant_alpha (value t) (value u) e = values ((equal_is_alpha t u).0 (cc))
meant_alpha (body t) (body u) e = bodies ((equal_is_alpha t u).0 (cc))
meant_alpha absent left_open e = never (cc)
meant_alpha absent (value u) e = never (cc)
meant_alpha absent (body u) e = never (cc)
meant_alpha left_open absent e = never (cc)
meant_alpha left_open (value u) e = never (cc)
meant_alpha left_open (body u) e = never (cc)
meant_alpha (value t) absent e = never (cc)
meant_alpha (value t) left_open e = never (cc)
meant_alpha (value t) (body u) e = never (cc)
meant_alpha (body t) absent e = never (cc)
meant_alpha (body t) left_open e = never (cc)
meant_alpha (body t) (value u) e = never (cc)

pub alpha_meant : (x y : Entry NamedTerm) → AlphaEntry x y → meant x ≡ meant y
alpha_meant x y both_absent = refl
alpha_meant x y both_open = refl
alpha_meant x y (values {t} {u} a) = ap value ((equal_is_alpha t u).1 a)
alpha_meant x y (bodies {t} {u} a) = ap body ((equal_is_alpha t u).1 a)

-- A field says something
something : (x : Entry NamedTerm) → ReadableEntry x → meant x ≡ absent → ⊥
something absent r e = r
something left_open r e = never (cc)
something (value t) r e = never (cc)
something (body t) r e = never (cc)

-- A number below the first is nowhere
above_not : (m : ℕ) (ns : List ℕ) → ((n : ℕ) → n ∈ ns → m < n) → m ∈ ns → ⊥
above_not m ns g q = let l = g m q in omega arith

below_first : (m : ℕ) (j : Item) (js : List Item) → Ordered ◌<◌ (numbers (j ∷ js)) → m < j.0 → said (j ∷ js) m ≡ absent
below_first m j js (more g o) l =
    said_nowhere (j ∷ js) m (λ q. ⊎_elim (λ (e : m ≡ j.0). omega arith) (λ i. let h = g m i in omega arith) (Memᴰ.cases_cons q))

-- Two texts in number order that name the same filling
abbrev Agrees : List Item → List Item → Type 0
Agrees is js = (m : ℕ) → said is m ≡ said js m

own : (i : Item) (is : List Item) → said (i ∷ is) i.0 ≡ meant i.1
own i is = said_first i is i.0 (eqb_self i.0)

not_below : (i : Item) (is : List Item) (j : Item) (js : List Item) → ReadableItem i → Ordered ◌<◌ (numbers (j ∷ js))
    → Agrees (i ∷ is) (j ∷ js) → ltb i.0 j.0 ≡ false
not_below i is j js r o e =
    by_test (ltb i.0 j.0)
    (λ l. absurd (something i.1 r.1 (sym (own i is) ∙ e i.0 ∙ below_first i.0 j js o (ltb-true i.0 j.0 l))))
    (λ l. l)

same_number : (i : Item) (is : List Item) (j : Item) (js : List Item) → ReadableItem i → ReadableItem j
    → Ordered ◌<◌ (numbers (i ∷ is)) → Ordered ◌<◌ (numbers (j ∷ js)) → Agrees (i ∷ is) (j ∷ js) → i.0 ≡ j.0
same_number i is j js r q o p e =
    let a = ltb-false i.0 j.0 (not_below i is j js r p e) in
    let b = ltb-false j.0 i.0 (not_below j js i is q o (λ m. sym (e m))) in
    omega arith

later_agree : (i : Item) (is : List Item) (j : Item) (js : List Item) → Ordered ◌<◌ (numbers (i ∷ is)) → Ordered ◌<◌ (numbers (j ∷ js))
    → i.0 ≡ j.0 → Agrees (i ∷ is) (j ∷ js) → Agrees is js
later_agree i is j js (more g o) (more h p) same e m =
    by_test (eqb m i.0)
    (λ t.
    let here : m ≡ i.0 = eqb_eq m i.0 t in
    said_nowhere is m (above_not m (numbers is) (λ n q. let l = g n q in omega arith))
    ∙ sym (said_nowhere js m (above_not m (numbers js) (λ n q. let l = h n q in omega arith))))
    (λ f. sym (said_later i is m f) ∙ e m ∙ said_later j js m (ap (eqb m) (sym same) ∙ f))

rest : {m : ℕ} {ms : List ℕ} → Ordered ◌<◌ (m ∷ ms) → Ordered ◌<◌ ms
rest (more g o) = o

same_fields : (is js : List Item) → All ReadableItem is → All ReadableItem js → Ordered ◌<◌ (numbers is) → Ordered ◌<◌ (numbers js)
    → Agrees is js → AlphaText is js
same_fields [] [] r q o p e = tt
same_fields [] (j ∷ js) r q o p e = something j.1 q.0.1 (sym (own j js) ∙ sym (e j.0))
same_fields (i ∷ is) [] r q o p e = something i.1 r.0.1 (sym (own i is) ∙ e i.0)
same_fields (i ∷ is) (j ∷ js) r q o p e =
    let same = same_number i is j js r.0 q.0 o p e in
    let entries = sym (own i is) ∙ e i.0 ∙ said_first j js i.0 (ap (eqb i.0) (sym same) ∙ eqb_self i.0) in
    (same, meant_alpha i.1 j.1 entries, same_fields is js r.1 q.1 (rest o) (rest p) (later_agree i is j js o p same e))

-- Two texts that differ only in bound names
same_said : (is js : List Item) → AlphaText is js → Agrees is js
same_said [] [] a m = refl
same_said [] (j ∷ js) a m = absurd a
same_said (i ∷ is) [] a m = absurd a
same_said (i ∷ is) (j ∷ js) a m =
    ap (λ (n : ℕ). choose (eqb m n) (meant i.1) (said is m)) a.0
    ∙ ap₂ (choose (eqb m j.0)) (alpha_meant i.1 j.1 a.1) (same_said is js a.2 m)

-- TWO TEXTS THAT CAN BE READ name the same filling exactly when they differ only in bound names
pub same_filling_lem : (text text' : Bytes) (is js : List Item) → All Byte text → All Byte text' → read_text text ≡ got is
    → read_text text' ≡ got js → (said is ≡ said js) ↔ AlphaText is js
same_filling_lem text text' is js b c e f = (
  λ q. same_fields is js (text_read text is b e).1 (text_read text' js c f).1 (rises_ordered (numbers is) (text_rises text is e))
      (rises_ordered (numbers js) (text_rises text' js f)) (λ m. ap (λ σ. σ m) q),
  λ a. fun_ext (same_said is js a),
)

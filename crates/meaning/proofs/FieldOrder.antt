-- T-07: "metavariable numbers must rise from field to field", and what a text then says.
--   rises-ordered, ordered-rises   numbers rise, said of neighbours, when they are in order, said of any two
--   never_doubled                  no text that can be read has a metavariable twice
--   said-..                        what a text says of a metavariable: what its field means, and nothing where it has none
use mathlib.Core.Path.{◌≡◌, refl, sym, ◌∙◌, subst}
use mathlib.Core.Logic.{⊎_elim}
use Prim.Native.Nat.{ℕ, ◌<◌}
use mathlib.Core.Bool.{true, false}
use mathlib.Core.List.Memᴰ
use mathlib.Core.List.{List, [], ◌∷◌}
use native.Mathlib.Omega.{arith}
use lib.Dec.{eqb, ltb}
use borrow.Author.Tests.{ltb-true, lt-ltb}
use Rattle.meaning.specs.Basics.{Bytes, Distinct, ◌∈◌, Ordered, empty, more}
use Rattle.meaning.specs.Filling.{absent}
use Rattle.meaning.specs.Read.{got}
use Rattle.meaning.specs.Text.{Item, meant, numbers, read_text, rises, rises_after, said}
use Rattle.meaning.proofs.Lists.{T_true, true_T, and_T, T_and, choose_true, choose_false, eqb_other}
use Rattle.meaning.proofs.Ordered.{ordered_distinct}
use Rattle.meaning.proofs.TextReading.{text_rises}

-- Neighbours that rise, and any two
rises_after_lem : (m : ℕ) (ns : List ℕ) → rises_after m ns ≡ true → Ordered ◌<◌ (m ∷ ns)
rises_after_lem m [] h = more (λ y q. absurd (Memᴰ.not-nil q)) empty
rises_after_lem m (n ∷ ns) h =
    let r = and_T (ltb m n) (rises_after n ns) (true_T h) in
    go (ltb-true m n (T_true r.0)) (rises_after_lem n ns (T_true r.1))
  where
    go : m < n → Ordered ◌<◌ (n ∷ ns) → Ordered ◌<◌ (m ∷ n ∷ ns)
    go l (more g o) =
        more (λ y q. ⊎_elim (λ (e : y ≡ n). subst (λ (k : ℕ). m < k) (sym e) l) (λ i. let h = g y i in omega arith) (Memᴰ.cases_cons q))
        (more g o)

pub rises_ordered : (ms : List ℕ) → rises ms ≡ true → Ordered ◌<◌ ms
rises_ordered [] h = empty
rises_ordered (m ∷ ms) h = rises_after_lem m ms h

ordered_after : (m : ℕ) (ns : List ℕ) → Ordered ◌<◌ (m ∷ ns) → rises_after m ns ≡ true
ordered_after m [] o = refl
ordered_after m (n ∷ ns) (more g o) =
    T_true (T_and (ltb m n) (rises_after n ns) (true_T (lt-ltb m n (g n (Memᴰ.head refl)))) (true_T (ordered_after n ns o)))

pub ordered_rises : (ms : List ℕ) → Ordered ◌<◌ ms → rises ms ≡ true
ordered_rises [] o = refl
ordered_rises (m ∷ ms) o = ordered_after m ms o

-- "A doubled metavariable thus no longer reaches a no"
pub never_doubled : (s : Bytes) (is : List Item) → read_text s ≡ got is → Distinct (numbers is)
never_doubled s is e = ordered_distinct ◌<◌ (λ m l. omega arith) (numbers is) (rises_ordered (numbers is) (text_rises s is e))

-- What a text says of a metavariable
pub said_first : (i : Item) (is : List Item) (m : ℕ) → eqb m i.0 ≡ true → said (i ∷ is) m ≡ meant i.1
said_first i is m e = choose_true (meant i.1) (said is m) e

pub said_later : (i : Item) (is : List Item) (m : ℕ) → eqb m i.0 ≡ false → said (i ∷ is) m ≡ said is m
said_later i is m e = choose_false (meant i.1) (said is m) e

pub said_nowhere : (is : List Item) (m : ℕ) → (m ∈ numbers is → ⊥) → said is m ≡ absent
said_nowhere [] m h = refl
said_nowhere (i ∷ is) m h =
    said_later i is m (eqb_other m i.0 (λ e. h (Memᴰ.head e))) ∙ said_nowhere is m (λ q. h (Memᴰ.tail q))

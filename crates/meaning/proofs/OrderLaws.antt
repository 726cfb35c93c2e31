-- The orders of choices and of rows say what document 01 says of them, are asymmetric, and compare any two of one face or problem.
--   Lexical    S orders lists as R orders their elements at the first place where the lists differ: `Earlier` over `Before`, and
--              `EarlierRow` over `Earlier`
--   Pairwise   two lists of one length, P between the elements at each place
use mathlib.Core.Path.{◌≡◌, refl, ap, ap₂, sym, ◌∙◌, subst}
use mathlib.Core.Logic.{◌↔◌, ◌⊎◌, inl, inr, ⊎_elim}
use Prim.Native.Nat.{ℕ, zero, suc, ◌<◌}
use mathlib.Core.List.{List, [], ◌∷◌}
use mathlib.Core.Option.{none, some, some-injective}
use native.Mathlib.Omega.{arith}
use native.Mathlib.Decide.{dec_lt}
use lib.ListN.{length, get_elem?}
use Rattle.meaning.specs.Problem.{Problem, functions}
use Rattle.meaning.specs.Choice.{Mark, Marks, Before, Earlier, here, later}
use Rattle.meaning.specs.Row.{Row, ChoiceEach, IsRow, EarlierRow, first, next}
use Rattle.meaning.specs.Difference.{ByFirst, Compared}
use Rattle.meaning.proofs.Lists.{never}

abbrev pub Asymmetric : {A : Type 0} → (A → A → Type 0) → Type 0
Asymmetric {A} R = (x y : A) → R x y → R y x → ⊥

record Lexical {A : Type 0} (R : A → A → Type 0) (S : List A → List A → Type 0) : Type 0 where
  differs : {x y : A} {xs ys : List A} → R x y → S (x ∷ xs) (y ∷ ys)
  goes_on : {x : A} {xs ys : List A} → S xs ys → S (x ∷ xs) (x ∷ ys)
  split : {x y : A} {xs ys : List A} → S (x ∷ xs) (y ∷ ys) → R x y ⊎ ((x ≡ y) × S xs ys)
  not_left : {ys : List A} → S [] ys → ⊥
  not_right : {x : A} {xs : List A} → S (x ∷ xs) [] → ⊥

abbrev Pairwise : {A : Type 0} → (A → A → Type 0) → List A → List A → Type 0
Pairwise P [] [] = Unit {0}
Pairwise P [] (y ∷ ys) = ⊥
Pairwise P (x ∷ xs) [] = ⊥
Pairwise P (x ∷ xs) (y ∷ ys) = P x y × Pairwise P xs ys

module _ {A : Type 0} (R : A → A → Type 0) (S : List A → List A → Type 0) (lex : Lexical R S) where
  lexical_asymmetric : Asymmetric R → Asymmetric S
  lexical_asymmetric a [] ys s t = lex.not_left s
  lexical_asymmetric a (x ∷ xs) [] s t = lex.not_right s
  lexical_asymmetric a (x ∷ xs) (y ∷ ys) s t = go (lexical_asymmetric a xs ys) (lex.split s) (lex.split t)
    where
      go : (S xs ys → S ys xs → ⊥) → R x y ⊎ ((x ≡ y) × S xs ys) → R y x ⊎ ((y ≡ x) × S ys xs) → ⊥
      go ih (inl r) (inl q) = a x y r q
      go ih (inl r) (inr q) = let d : R x x = subst (R x) q.0 r in a x x d d
      go ih (inr r) (inl q) = let d : R y y = subst (R y) r.0 q in a y y d d
      go ih (inr r) (inr q) = ih r.1 q.1

  lexical_compared : (xs ys : List A) → Pairwise (Compared R) xs ys → Compared S xs ys
  lexical_compared [] [] h = inl refl
  lexical_compared [] (y ∷ ys) h = absurd h
  lexical_compared (x ∷ xs) [] h = absurd h
  lexical_compared (x ∷ xs) (y ∷ ys) h = go h.0 (lexical_compared xs ys h.1)
    where
      go : Compared R x y → Compared S xs ys → Compared S (x ∷ xs) (y ∷ ys)
      go (inl e) (inl d) = inl (ap₂ ◌∷◌ e d)
      go (inl e) (inr (inl s)) = inr (inl (subst (λ (z : A). S (x ∷ xs) (z ∷ ys)) e (lex.goes_on s)))
      go (inl e) (inr (inr s)) = inr (inr (subst (λ (z : A). S (z ∷ ys) (x ∷ xs)) e (lex.goes_on s)))
      go (inr (inl r)) w = inr (inl (lex.differs r))
      go (inr (inr r)) w = inr (inr (lex.differs r))

  lexical_first : Asymmetric R → (xs ys : List A) → S xs ys → ByFirst R xs ys
  lexical_first a [] ys s = absurd (lex.not_left s)
  lexical_first a (x ∷ xs) [] s = absurd (lex.not_right s)
  lexical_first a (x ∷ xs) (y ∷ ys) s = ⊎_elim now (λ r. on r.0 (lexical_first a xs ys r.1)) (lex.split s)
    where
      now : R x y → ByFirst R (x ∷ xs) (y ∷ ys)
      now r =
          let other : ¬ (x ≡ y) = λ e. let d : R x x = subst (R x) (sym e) r in a x x d d in
          record {
            place = 0;
            first = record { before = λ j h. absurd (omega arith); differ = λ e. other (some-injective x y e) };
            left = x;
            right = y;
            on_left = refl;
            on_right = refl;
            related = r;
          }

      on : x ≡ y → ByFirst R xs ys → ByFirst R (x ∷ xs) (y ∷ ys)
      on e b =
          record {
            place = suc b.place;
            first = record { before = before; differ = b.first.differ };
            left = b.left;
            right = b.right;
            on_left = b.on_left;
            on_right = b.on_right;
            related = b.related;
          }
        where
          before : (j : ℕ) → j < suc b.place → get_elem? (x ∷ xs) j ≡ get_elem? (y ∷ ys) j
          before zero h = ap some e
          before (suc j) h = b.first.before j (omega arith)

  first_lexical_at : (k : ℕ) (xs ys : List A) (x y : A) → ((j : ℕ) → j < k → get_elem? xs j ≡ get_elem? ys j)
      → get_elem? xs k ≡ some x → get_elem? ys k ≡ some y → R x y → S xs ys
  first_lexical_at k [] ys x y b d e r = never (cc)
  first_lexical_at k (z ∷ xs) [] x y b d e r = never (cc)
  first_lexical_at zero (z ∷ xs) (w ∷ ys) x y b d e r =
      let p : z ≡ x = cc in
      let q : w ≡ y = cc in
      lex.differs (rw (p, q) r)
  first_lexical_at (suc k) (z ∷ xs) (w ∷ ys) x y b d e r =
      subst (λ (v : A). S (z ∷ xs) (v ∷ ys)) (some-injective z w (b 0 (omega arith)))
      (lex.goes_on (first_lexical_at k xs ys x y (λ j h. b (suc j) (omega arith)) d e r))

  lexical_words : Asymmetric R → (xs ys : List A) → S xs ys ↔ ByFirst R xs ys
  lexical_words a xs ys = (
    lexical_first a xs ys,
    λ b. first_lexical_at b.place xs ys b.left b.right b.first.before b.on_left b.on_right b.related,
  )

-- Choices
before_asymmetric : Asymmetric Before
before_asymmetric none m h g = h
before_asymmetric (some i) none h g = g
before_asymmetric (some i) (some j) h g = omega arith

before_compared : (m u : Mark) → Compared Before m u
before_compared none none = inl refl
before_compared none (some j) = inr (inr tt)
before_compared (some i) none = inr (inl tt)
before_compared (some i) (some j) = go (dec_lt i j) (dec_lt j i)
  where
    go : Dec (i < j) → Dec (j < i) → Compared Before (some i) (some j)
    go (yes h) w = inr (inl h)
    go (no h) (yes g) = inr (inr g)
    go (no h) (no g) = inl (ap some (omega arith))

marks_paired : (ms us : Marks) → length ms ≡ length us → Pairwise (Compared Before) ms us
marks_paired [] [] l = tt
marks_paired [] (u ∷ us) l = absurd (omega arith)
marks_paired (m ∷ ms) [] l = absurd (omega arith)
marks_paired (m ∷ ms) (u ∷ us) l = (before_compared m u, marks_paired ms us (omega arith))

earlier_split : {m u : Mark} {ms us : Marks} → Earlier (m ∷ ms) (u ∷ us) → Before m u ⊎ ((m ≡ u) × Earlier ms us)
earlier_split (here h) = inl h
earlier_split (later h) = inr (refl, h)

earlier_left : {us : Marks} → Earlier [] us → ⊥
earlier_left h = elim h [ ]

earlier_right : {m : Mark} {ms : Marks} → Earlier (m ∷ ms) [] → ⊥
earlier_right h = elim h [ ]

earlier_lexical : Lexical Before Earlier
earlier_lexical =
    record { differs = λ h. here h; goes_on = λ h. later h; split = earlier_split; not_left = earlier_left; not_right = earlier_right }

-- Main theorems: choices. "Of two choices the earlier is the one that has the lowest node in which they differ", where a hole comes
-- before none and the hole of an earlier place before that of a later one
pub earlier_words : (ms us : Marks) → Earlier ms us ↔ ByFirst Before ms us
earlier_words ms us = lexical_words Before Earlier earlier_lexical before_asymmetric ms us

pub earlier_asymmetric : Asymmetric Earlier
earlier_asymmetric ms us = lexical_asymmetric Before Earlier earlier_lexical before_asymmetric ms us

pub earlier_compared : (ms us : Marks) → length ms ≡ length us → Compared Earlier ms us
earlier_compared ms us l = lexical_compared Before Earlier earlier_lexical ms us (marks_paired ms us l)

-- Rows
each_paired : (p : Problem) (fs : List ℕ) (r s : Row) → ChoiceEach p fs r → ChoiceEach p fs s → Pairwise (Compared Earlier) r s
each_paired p [] [] [] h g = tt
each_paired p [] [] (d ∷ s) h g = absurd g
each_paired p [] (c ∷ r) s h g = absurd h
each_paired p (f ∷ fs) [] s h g = absurd h
each_paired p (f ∷ fs) (c ∷ r) [] h g = absurd g
each_paired p (f ∷ fs) (c ∷ r) (d ∷ s) h g =
    (earlier_compared c d (h.0.long ∙ sym g.0.long), each_paired p fs r s h.1 g.1)

row_split : {c d : Marks} {r s : Row} → EarlierRow (c ∷ r) (d ∷ s) → Earlier c d ⊎ ((c ≡ d) × EarlierRow r s)
row_split (first h) = inl h
row_split (next h) = inr (refl, h)

row_left : {s : Row} → EarlierRow [] s → ⊥
row_left h = elim h [ ]

row_right : {c : Marks} {r : Row} → EarlierRow (c ∷ r) [] → ⊥
row_right h = elim h [ ]

row_lexical : Lexical Earlier EarlierRow
row_lexical = record { differs = λ h. first h; goes_on = λ h. next h; split = row_split; not_left = row_left; not_right = row_right }

-- Main theorems: rows. "rows are ordered by the first function that differs"
pub row_words : (r s : Row) → EarlierRow r s ↔ ByFirst Earlier r s
row_words r s = lexical_words Earlier EarlierRow row_lexical earlier_asymmetric r s

pub row_asymmetric : Asymmetric EarlierRow
row_asymmetric r s = lexical_asymmetric Earlier EarlierRow row_lexical earlier_asymmetric r s

-- Two rows of one problem
pub rows_compared : (p : Problem) (r s : Row) → IsRow p r → IsRow p s → Compared EarlierRow r s
rows_compared p r s h g = lexical_compared Earlier EarlierRow row_lexical r s (each_paired p (functions p) r s h.choice g.choice)

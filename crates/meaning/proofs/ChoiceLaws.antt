-- The lists `choices` and `rows` hold what document 01 calls choices and rows: all of them, in order, each once.
use mathlib.Core.Path.{◌≡◌, refl, ap, sym, ◌∙◌, subst}
use mathlib.Core.Logic.{⊎_elim, ◌↔◌, ◌⊎◌, inl, inr}
use Prim.Native.Nat.{ℕ, zero, suc, ◌+◌, ◌-◌, ◌<◌, ◌≤◌}
use mathlib.Core.Bool.{Bool, true, false, not, false≢true}
use mathlib.Core.List.Memᴰ
use mathlib.Core.List.{List, [], ◌∷◌, map}
use mathlib.Core.Option.{Option, none, some, some-injective, none-ne-some}
use native.Mathlib.Omega.{arith}
use lib.ListN.{length, take, replicate, get_elem?, length-append, length-replicate}
use lib.Dec.{eqb, eqb→eq, T}
use Rattle.meaning.specs.Basics.{choose, up_to, every, All, ◌∈◌, Distinct, is_some, Ordered, empty}
use Rattle.meaning.specs.Term.{nil, cons, size, one, Terms, Term}
use Rattle.meaning.specs.Equal.{View}
use Rattle.meaning.specs.Problem.{Problem, places_of, functions}
use Rattle.meaning.specs.Face.{Face, faces}
use Rattle.meaning.specs.Choice.{Mark, Marks, Owner, below, views_from, views, uses_face, set_size, Apart, Choice, Earlier}
use Rattle.meaning.specs.Choices.{is_place, chosen, same_owned, all_same, fits_place, are_apart, is_choice, all_marks, choices}
use Rattle.meaning.specs.Row.{Row, face_of, ChoiceEach, IsRow, EarlierRow}
use Rattle.meaning.specs.Rows.{rows_over, rows}
use Rattle.meaning.proofs.Lists.{never, T_true, true_T, and_T, T_and, eqb_self, eqb_eq, mem_keep, keep_mem, mem_up_to, all_mem}
use Rattle.meaning.proofs.Lists.{mem_all, every_all, all_every, at_mem, mem_at}
use Rattle.meaning.proofs.Alike.{same_owned_eq, same_owned_refl}
use Rattle.meaning.proofs.Ordered.{keep_ordered, ordered_distinct, Placed, all_marks_ordered, all_marks_are, OneOfEach}
use Rattle.meaning.proofs.Ordered.{product_ordered, product_are, earlier_strict, earlier_row_strict}

-- Where one list has an element, so has each list of the same length
pub at_other : {A B : Type 0} (xs : List A) (ys : List B) (k : ℕ) (x : A) → length xs ≡ length ys → get_elem? xs k ≡ some x
    → (y : B) × (get_elem? ys k ≡ some y)
at_other [] ys k x l e = never (cc)
at_other (z ∷ xs) [] k x l e = absurd (omega arith)
at_other (z ∷ xs) (y ∷ ys) zero x l e = (y, refl)
at_other (z ∷ xs) (y ∷ ys) (suc k) x l e = at_other xs ys k x (omega arith) e

at_replicate : {A : Type 0} (n k : ℕ) (x y : A) → get_elem? (replicate n x) k ≡ some y → x ≡ y
at_replicate zero k x y e = never (cc)
at_replicate (suc n) zero x y e = cc
at_replicate (suc n) (suc k) x y e = at_replicate n k x y e

all_map : {A B : Type 0} (P : B → Type 0) (f : A → B) → ((x : A) → P (f x)) → (xs : List A) → All P (map f xs)
all_map P f h [] = tt
all_map P f h (x ∷ xs) = (h x, all_map P f h xs)

not-true : {b : Bool} → not b ≡ true → b ≡ false
not-true {b = true} e = absurd (false≢true e)
not-true {b = false} e = refl

-- A view for each node
pub length_views : (bs : List ℕ) (n : ℕ) (u : Terms) → length (views_from bs n u) ≡ size u
length_views bs n nil = refl
length_views bs n (cons l c s) =
    ap suc (length-append (views_from (below n l bs) (suc n) c) (views_from bs (suc n + size c) s)
    ∙ (let p = length_views (below n l bs) (suc n) c in let q = length_views bs (suc n + size c) s in omega arith))

-- The views of the nodes that become hole i
pub is_place_eq : (i : ℕ) (m : Mark) → is_place i m ≡ true → m ≡ some i
is_place_eq i none e = absurd (false≢true e)
is_place_eq i (some j) e = ap some (sym (eqb_eq i j e))

mem_choose : {A : Type 0} (b : Bool) (x y : A) (xs : List A) → y ∈ xs → y ∈ choose b (x ∷ xs) xs
mem_choose true x y xs m = Memᴰ.tail m
mem_choose false x y xs m = m

choose_mem : {A : Type 0} (b : Bool) (x y : A) (xs : List A) → y ∈ choose b (x ∷ xs) xs → ((b ≡ true) × (y ≡ x)) ⊎ (y ∈ xs)
choose_mem true x y xs m = ⊎_elim (λ e. inl (refl, e)) inr (Memᴰ.cases_cons m)
choose_mem false x y xs m = inr m

mem_chosen : (i k : ℕ) (ms : Marks) (us : List (View Owner)) (u : View Owner) → get_elem? ms k ≡ some (some i) → get_elem? us k ≡ some u
    → u ∈ chosen i ms us
mem_chosen i k [] us u e d = never (cc)
mem_chosen i k (m ∷ ms) [] u e d = never (cc)
mem_chosen i zero (m ∷ ms) (v ∷ us) u e d =
    let p : m ≡ some i = cc in
    let q : u ≡ v = cc in
    rw (p, eqb_self i) (Memᴰ.head q)
mem_chosen i (suc k) (m ∷ ms) (v ∷ us) u e d = mem_choose (is_place i m) v u (chosen i ms us) (mem_chosen i k ms us u e d)

chosen_mem : (i : ℕ) (ms : Marks) (us : List (View Owner)) (u : View Owner) → u ∈ chosen i ms us
    → (k : ℕ) × (get_elem? ms k ≡ some (some i)) × (get_elem? us k ≡ some u)
chosen_mem i [] us u h = absurd (Memᴰ.not-nil h)
chosen_mem i (m ∷ ms) [] u h = absurd (Memᴰ.not-nil h)
chosen_mem i (m ∷ ms) (v ∷ us) u h = go (chosen_mem i ms us u) (choose_mem (is_place i m) v u (chosen i ms us) h)
  where
    go : (u ∈ chosen i ms us → (k : ℕ) × (get_elem? ms k ≡ some (some i)) × (get_elem? us k ≡ some u))
        → ((is_place i m ≡ true) × (u ≡ v)) ⊎ (u ∈ chosen i ms us)
        → (k : ℕ) × (get_elem? (m ∷ ms) k ≡ some (some i)) × (get_elem? (v ∷ us) k ≡ some u)
    go ih (inl r) = (0, ap some (is_place_eq i m r.0), ap some (sym r.1))
    go ih (inr q) = let (k, e, d) = ih q in (suc k, e, d)

all_same_eq : (us : List (View Owner)) → T (all_same us) → (u v : View Owner) → u ∈ us → v ∈ us → u ≡ v
all_same_eq [] t u v m n = absurd (Memᴰ.not-nil m)
all_same_eq (w ∷ us) t u v m n = sym (from u m) ∙ from v n
  where
    from : (x : View Owner) → x ∈ (w ∷ us) → w ≡ x
    from x h = ⊎_elim (λ e. sym e)
        (λ k. same_owned_eq w x (true_T (all_mem (λ y. same_owned w y ≡ true) x us (every_all (same_owned w) us t) k)))
        (Memᴰ.cases_cons h)

eq_all_same : (us : List (View Owner)) → ((u v : View Owner) → u ∈ us → v ∈ us → u ≡ v) → T (all_same us)
eq_all_same [] h = tt
eq_all_same (w ∷ us) h =
    all_every (same_owned w) us (mem_all (λ y. same_owned w y ≡ true) us
    (λ x m. T_true (subst (λ y. T (same_owned w y)) (h w x (Memᴰ.head refl) (Memᴰ.tail m)) (same_owned_refl w))))

-- What the test of one place says of the marks and the views
abbrev is_free : View Owner → Bool
is_free u = not (uses_face u)

module _ (us : List (View Owner)) (ms : Marks) (i : ℕ) where
  fits_equal : T (fits_place us ms i) → length ms ≡ length us
      → (j k : ℕ) → get_elem? ms j ≡ some (some i) → get_elem? ms k ≡ some (some i) → get_elem? us j ≡ get_elem? us k
  fits_equal t l j k d e =
      let (u, p) = at_other ms us j (some i) l d in
      let (v, q) = at_other ms us k (some i) l e in
      let same = (and_T (all_same (chosen i ms us)) (every is_free (chosen i ms us)) t).0 in
      p ∙ ap some (all_same_eq (chosen i ms us) same u v (mem_chosen i j ms us u d p) (mem_chosen i k ms us v e q)) ∙ sym q

  fits_unbound : T (fits_place us ms i) → (k : ℕ) (u : View Owner) → get_elem? ms k ≡ some (some i) → get_elem? us k ≡ some u
      → uses_face u ≡ false
  fits_unbound t k u d e =
      let free = (and_T (all_same (chosen i ms us)) (every is_free (chosen i ms us)) t).1 in
      not-true (all_mem (λ v. is_free v ≡ true) u (chosen i ms us) (every_all is_free (chosen i ms us) free) (mem_chosen i k ms us u d e))

  fits_made : ((j k : ℕ) → get_elem? ms j ≡ some (some i) → get_elem? ms k ≡ some (some i) → get_elem? us j ≡ get_elem? us k)
      → ((k : ℕ) (u : View Owner) → get_elem? ms k ≡ some (some i) → get_elem? us k ≡ some u → uses_face u ≡ false) → T (fits_place us ms i)
  fits_made same unbound =
      T_and (all_same (chosen i ms us)) (every is_free (chosen i ms us))
      (eq_all_same (chosen i ms us)
      (λ u v m n.
      let (j, d, p) = chosen_mem i ms us u m in
      let (k, e, q) = chosen_mem i ms us v n in
      some-injective u v (sym p ∙ same j k d e ∙ q)))
      (all_every is_free (chosen i ms us) (mem_all (λ v. is_free v ≡ true) (chosen i ms us)
      (λ u m. let (k, d, e) = chosen_mem i ms us u m in ap not (unbound k u d e))))

-- Of the first n nodes none is marked
pub unmarked_front : (n : ℕ) (ms : Marks) → set_size (take n ms) ≡ 0 → (k i : ℕ) → get_elem? ms k ≡ some (some i) → n ≤ k
unmarked_front zero ms e k i q = omega arith
unmarked_front (suc n) [] e k i q = never (cc)
unmarked_front (suc n) (some j ∷ ms) e k i q = absurd (omega arith)
unmarked_front (suc n) (none ∷ ms) e zero i q = never (cc)
unmarked_front (suc n) (none ∷ ms) e (suc k) i q = let h = unmarked_front n ms e k i q in omega arith

front_unmarked : (n : ℕ) (ms : Marks) → ((k i : ℕ) → get_elem? ms k ≡ some (some i) → n ≤ k) → set_size (take n ms) ≡ 0
front_unmarked zero ms f = refl
front_unmarked (suc n) [] f = refl
front_unmarked (suc n) (some j ∷ ms) f = absurd (let h = f 0 j refl in omega arith)
front_unmarked (suc n) (none ∷ ms) f = front_unmarked n ms (λ k i q. let h = f (suc k) i q in omega arith)

-- What the test of nodes below others says of the marks and the views
later_test : (m : Mark) (u : View Owner) (ms : Marks) (us : List (View Owner)) → T (are_apart (m ∷ ms) (u ∷ us)) → T (are_apart ms us)
later_test none u ms us t = t
later_test (some i) u ms us t = (and_T (eqb (set_size (take (size u - 1) ms)) 0) (are_apart ms us) t).1

pub test_apart : (ms : Marks) (us : List (View Owner)) → T (are_apart ms us) → Apart ms us
test_apart [] us t j k h i u d e f l = never (cc)
test_apart (m ∷ ms) [] t j k h i u d e f l = never (cc)
test_apart (m ∷ ms) (v ∷ us) t j zero h i u d e f l = absurd (omega arith)
test_apart (none ∷ ms) (v ∷ us) t zero (suc k) h i u d e f l = never (cc)
test_apart (some x ∷ ms) (v ∷ us) t zero (suc k) h i u d e f l =
    let none_below = eqb→eq (set_size (take (size v - 1) ms)) 0 (and_T (eqb (set_size (take (size v - 1) ms)) 0) (are_apart ms us) t).0 in
    let past = unmarked_front (size v - 1) ms none_below k i e in
    let same : v ≡ u = cc in
    let sizes : size v ≡ size u = ap (λ (w : View Owner). size w) same in
    omega arith
test_apart (m ∷ ms) (v ∷ us) t (suc j) (suc k) h i u d e f l =
    let r = test_apart ms us (later_test m v ms us t) j k h i u d e f (omega arith) in omega arith

later_apart : (m : Mark) (u : View Owner) (ms : Marks) (us : List (View Owner)) → Apart (m ∷ ms) (u ∷ us) → Apart ms us
later_apart m u ms us a j k h i v d e f l = let r = a (suc j) (suc k) h i v d e f (omega arith) in omega arith

pub apart_test : (ms : Marks) (us : List (View Owner)) → Apart ms us → T (are_apart ms us)
apart_test [] us a = tt
apart_test (m ∷ ms) [] a = tt
apart_test (none ∷ ms) (v ∷ us) a = apart_test ms us (later_apart none v ms us a)
apart_test (some i ∷ ms) (v ∷ us) a =
    let past : (k h : ℕ) → get_elem? ms k ≡ some (some h) → size v - 1 ≤ k =
    λ k h e. let r = a 0 (suc k) i h v refl e refl (omega arith) in omega arith in
    T_and (eqb (set_size (take (size v - 1) ms)) 0) (are_apart ms us)
    (true_T (ap (λ (n : ℕ). eqb n 0) (front_unmarked (size v - 1) ms past))) (apart_test ms us (later_apart (some i) v ms us a))

module _ (n : ℕ) (face : Term) (ms : Marks) where
  passes_apart : is_choice n face ms ≡ true → Apart ms (views face)
  passes_apart t = test_apart ms (views face) (and_T (every (fits_place (views face) ms) (up_to n)) (are_apart ms (views face)) (true_T t)).1

  choices_full : Choice n face ms → ms ∈ choices n face
  choices_full c =
      mem_keep (is_choice n face) ms (all_marks n (size (one face)))
      ((all_marks_are n (size (one face)) ms).1 (c.long, mem_all (Placed n) ms (λ m h. let (k, e) = mem_at ms m h in placed m k e)))
      (T_true (T_and (every (fits_place (views face) ms) (up_to n)) (are_apart ms (views face))
      (all_every (fits_place (views face) ms) (up_to n) (mem_all (λ i. fits_place (views face) ms i ≡ true) (up_to n)
      (λ i h. T_true (fits_made (views face) ms i (λ j k d e. c.equal j k i d e) (λ k u d e. c.unbound k i u d e)))))
      (apart_test ms (views face) c.apart)))
    where
      placed : (m : Mark) (k : ℕ) → get_elem? ms k ≡ some m → Placed n m
      placed none k e = tt
      placed (some i) k e = c.places k i e

  choices_sound : ms ∈ choices n face → Choice n face ms
  choices_sound h =
      let (m, t) = keep_mem (is_choice n face) ms (all_marks n (size (one face))) h in
      let (l, a) = (all_marks_are n (size (one face)) ms).0 m in
      let e : length ms ≡ length (views face) = l ∙ sym (length_views [] 0 (one face)) in
      let low : (k i : ℕ) → get_elem? ms k ≡ some (some i) → i < n = λ k i d. all_mem (Placed n) (some i) ms a (at_mem ms k (some i) d) in
      let every-place = (and_T (every (fits_place (views face) ms) (up_to n)) (are_apart ms (views face)) (true_T t)).0 in
      let fits : (i : ℕ) → i < n → T (fits_place (views face) ms i) =
      λ i b. true_T (all_mem (λ j. fits_place (views face) ms j ≡ true) i (up_to n)
      (every_all (fits_place (views face) ms) (up_to n) every-place) (mem_up_to n i b)) in
      record {
        long = l;
        places = low;
        equal = λ j k i d q. fits_equal (views face) ms i (fits i (low j i d)) e j k d q;
        unbound = λ k i u d q. fits_unbound (views face) ms i (fits i (low k i d)) k u d q;
        apart = passes_apart t;
      }

-- One choice of each list
each_choice : (p : Problem) (fs : List ℕ) (r : Row) → OneOfEach (map (λ f. choices (places_of p f) (face_of p f)) fs) r ↔ ChoiceEach p fs r
each_choice p [] [] = (λ h. h, λ h. h)
each_choice p [] (c ∷ r) = (λ h. h, λ h. h)
each_choice p (f ∷ fs) [] = (λ h. h, λ h. h)
each_choice p (f ∷ fs) (c ∷ r) =
    let ih = each_choice p fs r in (
      λ h. (choices_sound (places_of p f) (face_of p f) c h.0, ih.0 h.1),
      λ h. (choices_full (places_of p f) (face_of p f) c h.0, ih.1 h.1),
    )

over_are : (p : Problem) (w : Option (List Face)) (r : Row) → (r ∈ rows_over p w) ↔ ((is_some w ≡ true) × ChoiceEach p (functions p) r)
over_are p none r = (λ m. absurd (Memᴰ.not-nil m), λ h. absurd (false≢true h.0))
over_are p (some xs) r =
    let q = product_are (map (λ f. choices (places_of p f) (face_of p f)) (functions p)) r in
    let t = each_choice p (functions p) r in
    (λ m. (refl, t.0 (q.0 m)), λ h. q.1 (t.1 h.1))

-- Main theorems: choices
pub choices_are : (n : ℕ) (face : Term) (ms : Marks) → (ms ∈ choices n face) ↔ Choice n face ms
choices_are n face ms = (choices_sound n face ms, choices_full n face ms)

pub choices_ordered : (n : ℕ) (face : Term) → Ordered Earlier (choices n face)
choices_ordered n face = keep_ordered Earlier (is_choice n face) (all_marks n (size (one face))) (all_marks_ordered n (size (one face)))

pub choices_once : (n : ℕ) (face : Term) → Distinct (choices n face)
choices_once n face = ordered_distinct Earlier earlier_strict (choices n face) (choices_ordered n face)

-- "The empty set is a choice"
pub empty_choice : (n : ℕ) (face : Term) → Choice n face (replicate (size (one face)) none)
empty_choice n face =
    record {
      long = length-replicate (size (one face)) none;
      places = λ k i e. absurd (unmarked k i e);
      equal = λ j k i d e. absurd (unmarked k i e);
      unbound = λ k i u d e. absurd (unmarked k i d);
      apart = λ j k h i u d e f l. absurd (unmarked k i e);
    }
  where
    unmarked : (k i : ℕ) → get_elem? (replicate (size (one face)) none) k ≡ some (some i) → ⊥
    unmarked k i e = none-ne-some i (at_replicate (size (one face)) k none (some i) e)

-- Main theorems: rows
pub rows_ordered : (p : Problem) → Ordered EarlierRow (rows p)
unfolding rows
rows_ordered p = go (faces p)
  where
    go : (w : Option (List Face)) → Ordered EarlierRow (rows_over p w)
    go none = empty
    go (some xs) =
        product_ordered (map (λ f. choices (places_of p f) (face_of p f)) (functions p))
        (all_map (Ordered Earlier) (λ f. choices (places_of p f) (face_of p f)) (λ f. choices_ordered (places_of p f) (face_of p f))
        (functions p))

pub rows_once : (p : Problem) → Distinct (rows p)
rows_once p = ordered_distinct EarlierRow earlier_row_strict (rows p) (rows_ordered p)

pub rows_are : (p : Problem) (r : Row) → (r ∈ rows p) ↔ IsRow p r
unfolding rows
rows_are p r =
    let q = over_are p (faces p) r in
    (λ m. let h = q.0 m in record { has_rows = h.0; choice = h.1 }, λ h. q.1 (h.has_rows, h.choice))

-- Places and their values: every place has just one value, and a value names at most one place of an accepted problem.
use mathlib.Core.Path.{◌≡◌, refl, ap, ap₂, sym, ◌∙◌, subst}
use mathlib.Core.Logic.{◌⊎◌, inl, inr, ⊎_elim}
use mathlib.Core.Bool.{Bool, true, false, ◌&&◌, not, false≢true, Bool-discrete}
use mathlib.Core.List.Memᴰ
use mathlib.Core.List.{List, [], ◌∷◌, ◌++◌, map, append-nil, List-discrete}
use mathlib.Core.Option.{Option, none, some}
use Prim.Native.Nat.{ℕ, zero, suc, ◌-◌, ◌^◌, ◌<◌, ◌≤◌}
use native.Mathlib.Nat.{pow-suc}
use native.Mathlib.Decide.{ℕ_discrete}
use native.Mathlib.Omega.{arith}
use lib.ListN.{length, replicate, get_elem?, length-append, length-map, length-replicate}
use lib.Pow.{pow_pos}
use lib.Dec.{ltb}
use borrow.Author.Tests.{ltb-false, not-true, not-false}
use Rattle.meaning.specs.Limits.{max_functions, max_face_nodes}
use Rattle.meaning.specs.Basics.{every, is_some, ◌∈◌}
use Rattle.meaning.specs.Term.{one, size}
use Rattle.meaning.specs.Problem.{Problem, places_of, functions}
use Rattle.meaning.specs.Face.{Face, faces}
use Rattle.meaning.specs.Choice.{Marks, Choice}
use Rattle.meaning.specs.Row.{Row, face_of, IsRow, ChoiceEach}
use Rattle.meaning.specs.Rows.{rows}
use Rattle.meaning.specs.Read.{got}
use Rattle.meaning.specs.Accept.{overlarge, check_problem}
use Rattle.meaning.specs.Readable.{Accepted}
use Rattle.meaning.specs.Search.{Place, at, past, From}
use Rattle.meaning.specs.PlaceValue.{mask_of, PlaceValue, masks_of, place_value, IsPlace, Names}
use Rattle.meaning.proofs.Lists.{true_T, all_mem, every_all, mem_split}
use Rattle.meaning.proofs.ByteLaws.{unless_got}
use Rattle.meaning.proofs.Proper.{one_place, functions_applied}
use Rattle.meaning.proofs.ChoiceLaws.{rows_are}

-- 14 is looked for only where there are faces
pub not_large : (limit : ℕ) (p : Problem) → faces p ≡ none → overlarge limit p ≡ false
unfolding overlarge
not_large limit p e =
    ap (λ (o : Option (List Face)). is_some o && not (every (λ f. not (ltb limit (size (one (face_of p f))))) (functions p))) e

-- What a problem is like that passes the checks, whatever the limit of a face's nodes
pub checked_few : (limit : ℕ) (p : Problem) → check_problem limit p ≡ got p → length (functions p) ≤ max_functions
unfolding check_problem
checked_few limit p e =
    ltb-false max_functions (length (functions p)) (unless_got (ltb max_functions (length (functions p))) 13 _ e).0

pub checked_small : (limit : ℕ) (p : Problem) → check_problem limit p ≡ got p → is_some (faces p) ≡ true
    → (f : ℕ) → f ∈ functions p → size (one (face_of p f)) ≤ limit
unfolding check_problem overlarge
checked_small limit p c agree f m =
    let few = (unless_got (ltb max_functions (length (functions p))) 13 _ c).1 in
    let fits : ℕ → Bool = λ g. not (ltb limit (size (one (face_of p g)))) in
    let e : not (every fits (functions p)) ≡ false =
    ap (λ (b : Bool). b && not (every fits (functions p))) (sym agree) ∙ (unless_got (overlarge limit p) 14 _ few).0 in
    let all = all_mem (λ g. fits g ≡ true) f (functions p)
    (every_all fits (functions p) (true_T (not-false (every fits (functions p)) e))) m in
    ltb-false limit (size (one (face_of p f))) (not-true (ltb limit (size (one (face_of p f)))) all)

-- ... and an accepted one
pub few_functions : (p : Problem) → Accepted p → length (functions p) ≤ max_functions
few_functions p a = checked_few max_face_nodes p a.checked

pub small_faces : (p : Problem) → Accepted p → is_some (faces p) ≡ true
    → (f : ℕ) → f ∈ functions p → size (one (face_of p f)) ≤ max_face_nodes
small_faces p a = checked_small max_face_nodes p a.checked

-- Masks of one place: a mark is there or not
abbrev pub OnePlace : Marks → Type 0
OnePlace ms = (k i : ℕ) → get_elem? ms k ≡ some (some i) → i ≡ 0

pub mask_small : (w : ℕ) (ms : Marks) → mask_of w ms < 2 ^ w
unfolding mask_of
mask_small w [] = pow_pos w
mask_small zero (m ∷ ms) = omega arith
mask_small (suc w) (none ∷ ms) = omega (arith, mask_small w ms, pow-suc 2 w, pow_pos w)
mask_small (suc w) (some i ∷ ms) = omega (arith, mask_small w ms, pow-suc 2 w)

pub mask_injective : (w : ℕ) (ms us : Marks) → length ms ≤ w → length ms ≡ length us → OnePlace ms → OnePlace us
    → mask_of w ms ≡ mask_of w us → ms ≡ us
unfolding mask_of
mask_injective w [] [] h l o q e = refl
mask_injective w [] (u ∷ us) h l o q e = absurd (omega arith)
mask_injective w (m ∷ ms) [] h l o q e = absurd (omega arith)
mask_injective zero (m ∷ ms) (u ∷ us) h l o q e = absurd (omega arith)
mask_injective (suc w) (none ∷ ms) (none ∷ us) h l o q e =
    ap {B = Marks} (λ r. none ∷ r)
    (mask_injective w ms us (omega arith) (omega arith) (λ k. o (suc k)) (λ k. q (suc k)) (omega arith))
mask_injective (suc w) (none ∷ ms) (some j ∷ us) h l o q e = absurd (omega (arith, mask_small w ms))
mask_injective (suc w) (some i ∷ ms) (none ∷ us) h l o q e = absurd (omega (arith, mask_small w us))
mask_injective (suc w) (some i ∷ ms) (some j ∷ us) h l o q e =
    ap₂ {C = Marks} (λ (k : ℕ) (r : Marks). some k ∷ r) (o 0 i refl ∙ sym (q 0 j refl))
    (mask_injective w ms us (omega arith) (omega arith) (λ k. o (suc k)) (λ k. q (suc k)) (omega arith))

-- The masks of two choices of a face are two
abbrev Small : Problem → ℕ → Type 0
Small p f = (places_of p f ≡ 1) × (size (one (face_of p f)) ≤ max_face_nodes)

choice_mask : (p : Problem) (f : ℕ) (ms us : Marks) → Small p f
    → Choice (places_of p f) (face_of p f) ms → Choice (places_of p f) (face_of p f) us
    → mask_of max_face_nodes ms ≡ mask_of max_face_nodes us → ms ≡ us
choice_mask p f ms us h c d e =
    let n : places_of p f ≡ 1 = h.0 in
    let s : size (one (face_of p f)) ≤ max_face_nodes = h.1 in
    mask_injective max_face_nodes ms us (omega (arith, c.long)) (c.long ∙ sym d.long)
    (λ k i q. omega (arith, c.places k i q)) (λ k i q. omega (arith, d.places k i q)) e

choices_injective : (p : Problem) (fs : List ℕ) → ((f : ℕ) → f ∈ fs → Small p f) → (r s : Row)
    → ChoiceEach p fs r → ChoiceEach p fs s
    → (xs ys : List ℕ) → map (mask_of max_face_nodes) r ++ xs ≡ map (mask_of max_face_nodes) s ++ ys → r ≡ s
choices_injective p [] h [] [] c d xs ys e = refl
choices_injective p [] h [] (m ∷ s) c d xs ys e = absurd d
choices_injective p [] h (m ∷ r) s c d xs ys e = absurd c
choices_injective p (f ∷ fs) h [] s c d xs ys e = absurd c
choices_injective p (f ∷ fs) h (m ∷ r) [] c d xs ys e = absurd d
choices_injective p (f ∷ fs) h (m ∷ r) (u ∷ s) c d xs ys e =
    ap₂ {C = Row} (λ x y. x ∷ y)
    (choice_mask p f m u (h f (Memᴰ.head refl)) c.0 d.0
    (let q : mask_of max_face_nodes m ≡ mask_of max_face_nodes u = cc in q))
    (choices_injective p fs (λ g k. h g (Memᴰ.tail k)) r s c.1 d.1 xs ys
    (let q : map (mask_of max_face_nodes) r ++ xs ≡ map (mask_of max_face_nodes) s ++ ys = cc in q))

-- Two rows never have the same masks
pub masks_injective : (p : Problem) → Accepted p → (r s : Row) → IsRow p r → IsRow p s → masks_of r ≡ masks_of s → r ≡ s
unfolding masks_of
masks_injective p a r s c d e =
    choices_injective p (functions p)
    (λ f m. (one_place p a.within f (functions_applied p f m), small_faces p a c.has_rows f m)) r s c.choice d.choice
    (replicate (max_functions - length r) 0) (replicate (max_functions - length s) 0) e

-- A row has a choice for each function, and a place a mask for each that there may be
row_long : (p : Problem) (fs : List ℕ) (r : Row) → ChoiceEach p fs r → length r ≡ length fs
row_long p [] [] c = refl
row_long p [] (m ∷ r) c = absurd c
row_long p (f ∷ fs) [] c = absurd c
row_long p (f ∷ fs) (m ∷ r) c = ap suc (row_long p fs r c.1)

pub masks_long : (p : Problem) (r : Row) → Accepted p → IsRow p r → length (masks_of r) ≡ max_functions
unfolding masks_of
masks_long p r a c =
    let few : length r ≤ max_functions = omega (arith, row_long p (functions p) r c.choice, few_functions p a) in
    let joined = length-append (map (mask_of max_face_nodes) r) (replicate (max_functions - length r) 0) in
    let front = length-map r (mask_of max_face_nodes) in
    let rest = length-replicate {A = ℕ} (max_functions - length r) 0 in
    omega arith

pub place_long : (p : Problem) (place : Place Row) → Accepted p → IsPlace p place → length (place_value place).masks ≡ max_functions
unfolding place_value
place_long p (at r) a i = masks_long p r a i
place_long p past a i = length-replicate {A = ℕ} max_functions 0

-- A value says whether it is past the last
row_not_past : (r : Row) → place_value (at r) ≡ place_value past → ⊥
unfolding place_value
row_not_past r e = false≢true (ap (λ (v : PlaceValue). v.is_past) e)

value_masks : (r s : Row) → place_value (at r) ≡ place_value (at s) → masks_of r ≡ masks_of s
unfolding place_value
value_masks r s e = ap (λ (v : PlaceValue). v.masks) e

-- Whether a value is that of one of the rows
same_value : (v w : PlaceValue) → Dec (v ≡ w)
same_value v w = go (List-discrete ℕ_discrete v.masks w.masks) (Bool-discrete v.is_past w.is_past)
  where
    go : Dec (v.masks ≡ w.masks) → Dec (v.is_past ≡ w.is_past) → Dec (v ≡ w)
    go (yes e) (yes f) = yes (λ i. record { masks = e i; is_past = f i })
    go (yes e) (no f) = no (λ g. f (ap (λ (x : PlaceValue). x.is_past) g))
    go (no e) f = no (λ g. e (ap (λ (x : PlaceValue). x.masks) g))

find_row : (v : PlaceValue) (rs : List Row)
    → ((r : Row) × (r ∈ rs) × (v ≡ place_value (at r))) ⊎ ((r : Row) → r ∈ rs → v ≡ place_value (at r) → ⊥)
find_row v [] = inr (λ r m e. Memᴰ.not-nil m)
find_row v (r ∷ rs) = go (same_value v (place_value (at r))) (find_row v rs)
  where
    go : Dec (v ≡ place_value (at r)) → ((q : Row) × (q ∈ rs) × (v ≡ place_value (at q))) ⊎ ((q : Row) → q ∈ rs → v ≡ place_value (at q) → ⊥)
        → ((q : Row) × (q ∈ r ∷ rs) × (v ≡ place_value (at q))) ⊎ ((q : Row) → q ∈ r ∷ rs → v ≡ place_value (at q) → ⊥)
    go (yes e) h = inl (r, Memᴰ.head refl, e)
    go (no e) (inl x) = inl (x.0, Memᴰ.tail x.1, x.2)
    go (no e) (inr h) = inr (λ q m f.
        ⊎_elim (λ (s : q ≡ r). e (f ∙ ap (λ (y : Row). place_value (at y)) s)) (λ (s : q ∈ rs). h q s f) (Memᴰ.cases_cons m))

-- The main theorems

-- EVERY PLACE HAS JUST ONE VALUE
pub record OnlyValue (p : Problem) (place : Place Row) : Type 0 where
  pub value : PlaceValue
  pub names : Names p value place
  pub only : (v : PlaceValue) → Names p v place → v ≡ value

pub place_has_value : (p : Problem) (place : Place Row) → IsPlace p place → OnlyValue p place
place_has_value p place i =
    record { value = place_value place; names = record { is_place = i; is_value = refl }; only = λ v n. n.is_value }

-- A VALUE NAMES AT MOST ONE PLACE
pub value_names_one : (p : Problem) (v : PlaceValue) (x y : Place Row) → Accepted p → Names p v x → Names p v y → x ≡ y
value_names_one p v (at r) (at s) a n m =
    ap at (masks_injective p a r s n.is_place m.is_place (value_masks r s (sym n.is_value ∙ m.is_value)))
value_names_one p v (at r) past a n m = absurd (row_not_past r (sym n.is_value ∙ m.is_value))
value_names_one p v past (at s) a n m = absurd (row_not_past s (sym m.is_value ∙ n.is_value))
value_names_one p v past past a n m = refl

pub value_names_row : (p : Problem) (v : PlaceValue) (r s : Row) → Accepted p → Names p v (at r) → Names p v (at s) → r ≡ s
value_names_row p v r s a n m = let z : ◌≡◌ {A = Place Row} (at r) (at s) = value_names_one p v (at r) (at s) a n m in cc

-- ... and which, if any, can be told
pub named_row : (p : Problem) (v : PlaceValue) → ((r : Row) × Names p v (at r)) ⊎ ((r : Row) → Names p v (at r) → ⊥)
named_row p v = go (find_row v (rows p))
  where
    go : ((r : Row) × (r ∈ rows p) × (v ≡ place_value (at r))) ⊎ ((r : Row) → r ∈ rows p → v ≡ place_value (at r) → ⊥)
        → ((r : Row) × Names p v (at r)) ⊎ ((r : Row) → Names p v (at r) → ⊥)
    go (inl x) = inl (x.0, record { is_place = (rows_are p x.0).0 x.1; is_value = x.2 })
    go (inr h) = inr (λ r n. h r ((rows_are p r).1 n.is_place) n.is_value)

pub named_place : (p : Problem) (v : PlaceValue)
    → ((place : Place Row) × Names p v place) ⊎ ((place : Place Row) → Names p v place → ⊥)
named_place p v = go (named_row p v) (same_value v (place_value past))
  where
    go : ((r : Row) × Names p v (at r)) ⊎ ((r : Row) → Names p v (at r) → ⊥) → Dec (v ≡ place_value past)
        → ((place : Place Row) × Names p v place) ⊎ ((place : Place Row) → Names p v place → ⊥)
    go (inl x) d = inl (at x.0, x.1)
    go (inr h) (yes e) = inl (past, record { is_place = tt; is_value = e })
    go (inr h) (no e) = inr none
      where
        none : (place : Place Row) → Names p v place → ⊥
        none (at r) n = h r n
        none past n = e n.is_value

-- The rows from a place on
pub rows_from : (p : Problem) (place : Place Row) → IsPlace p place → (from : List Row) × From (rows p) place from
rows_from p (at r) i =
    let s = mem_split r (rows p) ((rows_are p r).1 i) in
    (r ∷ s.1, record { before = s.0; whole = s.2; begins = refl })
rows_from p past i = ([], record { before = rows p; whole = sym (append-nil (rows p)); begins = refl })

-- A place that rows begin at is one of the problem
pub from_place : (p : Problem) (place : Place Row) (from : List Row) → From (rows p) place from → IsPlace p place
from_place p place [] f = subst (IsPlace p) (sym f.begins) tt
from_place p place (r ∷ later) f =
    subst (IsPlace p) (sym f.begins)
    ((rows_are p r).0 (subst (λ (l : List Row). r ∈ l) (sym f.whole) (Memᴰ.append_right f.before (Memᴰ.head refl))))

-- Stepping from one row of masks to the next, whatever the choices of each function are.
--   cs         the choices of each function, in order; in each list none stands twice
--   all_from    all rows of n functions from function f on
--   rows_after  the rows after a given one
--   firsts_from the first choice of each of so many functions; Fresh: from some function on a row has these
--   Carried    what a step knows on its way from the last function to the first
use mathlib.Core.Path.{◌≡◌, refl, ap, ap₂, sym, ◌∙◌}
use mathlib.Core.Logic.{◌⊎◌, inl, inr, ◌↔◌}
use mathlib.Core.Bool.{Bool, true, false, false≢true}
use mathlib.Core.List.Memᴰ
use mathlib.Core.List.{List, [], ◌∷◌, ◌++◌, map, append_assoc, map-append}
use Prim.Native.Nat.{ℕ, zero, suc, ◌+◌, ◌-◌, ◌≤◌, ◌<◌}
use native.Mathlib.Nat.{suc-add, add-suc, add-zero}
use native.Mathlib.Omega.{arith}
use lib.Dec.{eqb}
use lib.ListN.{length, get_or, take, drop, set, length-append, length-drop, length-set, drop_of_length-le}
use lib.Seq.{get_or-take, get_or-set_same, take-set-le, set_split, split_at, drop-cons, take-take, drop-set-lt, length-take-le}
use Rattle.meaning.specs.Basics.{choose, each, count_from, ◌∈◌, Distinct}
use Rattle.meaning.specs.Rows.{product}
use Rattle.meaning.proofs.Lists.{each_append, eqb_eq, eqb_self}
use Rattle.meaning.proofs.Ordered.{OneOfEach, product_are}
use Rattle.choosing.specs.Rows.{MaskRow, behind}
use Rattle.choosing.proofs.Lists.{distinct_fronted, split_once}

abbrev pub all_from : (ℕ → List ℕ) → ℕ → ℕ → List MaskRow
all_from cs f n = product (map cs (count_from f n))

-- ---- no row stands twice

pub all_once : (cs : ℕ → List ℕ) → ((k : ℕ) → Distinct (cs k)) → (f n : ℕ) → Distinct (all_from cs f n)
all_once cs once f zero = (λ m. Memᴰ.not-nil m, tt)
all_once cs once f (suc n) = distinct_fronted (cs f) (all_from cs (suc f) n) (once f) (all_once cs once (suc f) n)

-- ---- the choices after one of them

behind_split : (xs : List ℕ) (m : ℕ) → m ∈ xs → (before : List ℕ) × (xs ≡ before ++ (m ∷ behind xs m))
unfolding behind
behind_split [] m h = absurd (Memᴰ.not-nil h)
behind_split (x ∷ xs) m h = go (eqb x m) refl (behind_split xs m) (Memᴰ.cases_cons h)
  where
    go : (b : Bool) → eqb x m ≡ b → (m ∈ xs → (before : List ℕ) × (xs ≡ before ++ (m ∷ behind xs m))) → (m ≡ x) ⊎ (m ∈ xs)
        → (before : List ℕ) × (x ∷ xs ≡ before ++ (m ∷ choose b xs (behind xs m)))
    go true e ih w = ([], ap {B = List ℕ} (λ (y : ℕ). y ∷ xs) (eqb_eq x m e))
    go false e ih (inl d) = absurd (false≢true (sym e ∙ ap (eqb x) d ∙ eqb_self x))
    go false e ih (inr q) = let (before, d) = ih q in (x ∷ before, ap {B = List ℕ} (λ (ys : List ℕ). x ∷ ys) d)

-- In a list in which no choice stands twice, that is what follows the choice
pub behind_is : (xs before later : List ℕ) (m : ℕ) → Distinct xs → xs ≡ before ++ (m ∷ later) → behind xs m ≡ later
behind_is xs before later m once e =
    let (first, d) = behind_split xs m (rw e (Memᴰ.append_right before (Memᴰ.head refl))) in
    split_once m first (behind xs m) before later (rw d at once) (sym d ∙ e)

-- ---- what is in the list of all rows

-- The masks of a row, each a choice of its function.
pub record Masks (cs : ℕ → List ℕ) (f n : ℕ) (row : MaskRow) : Type 0 where
  pub long : length row ≡ n
  pub choice : (k j : ℕ) → j ≡ f + k → k < n → get_or row k 0 ∈ cs j

module _ (cs : ℕ → List ℕ) where
  masks_front : (f n m : ℕ) (row : MaskRow) → m ∈ cs f → Masks cs (suc f) n row → Masks cs f (suc n) (m ∷ row)
  masks_front f n m row h q = record { long = ap suc q.long; choice = choice }
    where
      choice : (k j : ℕ) → j ≡ f + k → k < suc n → get_or (m ∷ row) k 0 ∈ cs j
      choice zero j d l = let z : j ≡ f = omega arith in rw z h
      choice (suc k) j d l = q.choice k j (omega arith) (omega arith)

  masks_back : (f n m : ℕ) (row : MaskRow) → Masks cs f (suc n) (m ∷ row) → Masks cs (suc f) n row
  masks_back f n m row q = record { long = omega (arith, q.long); choice = λ k j d l. q.choice (suc k) j (omega arith) (omega arith) }

  each_masks : (f n : ℕ) (row : MaskRow) → OneOfEach (map cs (count_from f n)) row → Masks cs f n row
  each_masks f zero [] h = record { long = refl; choice = λ k j d l. absurd (omega arith) }
  each_masks f zero (m ∷ row) h = absurd h
  each_masks f (suc n) [] h = absurd h
  each_masks f (suc n) (m ∷ row) h = masks_front f n m row h.0 (each_masks (suc f) n row h.1)

  masks_each : (f n : ℕ) (row : MaskRow) → Masks cs f n row → OneOfEach (map cs (count_from f n)) row
  masks_each f zero [] q = tt
  masks_each f zero (m ∷ row) q = absurd (omega (arith, q.long))
  masks_each f (suc n) [] q = absurd (omega (arith, q.long))
  masks_each f (suc n) (m ∷ row) q = (q.choice 0 f (omega arith) (omega arith), masks_each (suc f) n row (masks_back f n m row q))

  pub all_are : (f n : ℕ) (row : MaskRow) → (row ∈ all_from cs f n) ↔ Masks cs f n row
  all_are f n row =
      let q = product_are (map cs (count_from f n)) row in
      (λ m. each_masks f n row (q.0 m), λ h. q.1 (masks_each f n row h))

-- ---- the rows after a row

-- The masks before each of the rows, the masks slowest
abbrev spread : List MaskRow → List ℕ → List MaskRow
spread rs ms = each (λ m. map (λ r. m ∷ r) rs) ms

unfoldable pub rows_after : (ℕ → List ℕ) → ℕ → MaskRow → List MaskRow
rows_after cs f [] = []
rows_after cs f (m ∷ ms) = map (λ r. m ∷ r) (rows_after cs (suc f) ms) ++ spread (all_from cs (suc f) (length ms)) (behind (cs f) m)

spread_split : (rs before later : List MaskRow) (ms : MaskRow) (m : ℕ) (xs ys : List ℕ) → rs ≡ before ++ (ms ∷ later)
    → spread rs (xs ++ (m ∷ ys)) ≡ (spread rs xs ++ map (λ r. m ∷ r) before) ++ ((m ∷ ms) ∷ (map (λ r. m ∷ r) later ++ spread rs ys))
spread_split rs before later ms m xs ys e =
    let front : MaskRow → MaskRow = λ r. m ∷ r in
    let tail : List MaskRow = (m ∷ ms) ∷ (map front later ++ spread rs ys) in
    each_append (λ x. map (λ r. x ∷ r) rs) xs (m ∷ ys)
    ∙ ap (λ (u : List MaskRow). spread rs xs ++ (map front u ++ spread rs ys)) e
    ∙ ap (λ (u : List MaskRow). spread rs xs ++ (u ++ spread rs ys)) (map-append front before (ms ∷ later))
    ∙ ap (λ (u : List MaskRow). spread rs xs ++ u) (append_assoc (map front before) ((m ∷ ms) ∷ map front later) (spread rs ys))
    ∙ sym (append_assoc (spread rs xs) (map front before) tail)

module _ (cs : ℕ → List ℕ) where
  -- A row of choices splits the list of all rows.
  row_split : (f : ℕ) (ms : MaskRow) → Masks cs f (length ms) ms
      → (before : List MaskRow) × (all_from cs f (length ms) ≡ before ++ (ms ∷ rows_after cs f ms))
  unfolding rows_after
  row_split f [] q = ([], refl)
  row_split f (m ∷ ms) q =
      let (xs, d) = behind_split (cs f) m (q.choice 0 f (omega arith) (omega arith)) in
      let (b, e) = row_split (suc f) ms (masks_back cs f (length ms) m ms q) in
      let rs : List MaskRow = all_from cs (suc f) (length ms) in
      (spread rs xs ++ map (λ r. m ∷ r) b, ap (spread rs) d ∙ spread_split rs b (rows_after cs (suc f) ms) ms m xs (behind (cs f) m) e)

  -- So what follows a row in the list is the list of the rows after it.
  pub rows_after_lem : ((k : ℕ) → Distinct (cs k)) → (f n : ℕ) (before later : List MaskRow) (row : MaskRow) → all_from cs f n ≡ before ++ (row ∷ later)
      → later ≡ rows_after cs f row
  rows_after_lem once f n before later row e =
      let m : row ∈ all_from cs f n = rw e (Memᴰ.append_right before (Memᴰ.head refl)) in
      let q : Masks cs f n row = (all_are cs f n row).0 m in
      let l : n ≡ length row = sym q.long in
      go (row_split f row (rw l at q)) (ap (all_from cs f) l)
    where
      go : (b : List MaskRow) × (all_from cs f (length row) ≡ b ++ (row ∷ rows_after cs f row))
          → all_from cs f n ≡ all_from cs f (length row)
          → later ≡ rows_after cs f row
      go (b, d) l = split_once row before later b (rows_after cs f row) (rw e at (all_once cs once f n)) (sym e ∙ l ∙ d)

  -- ---- the next row

  -- r is the next row after ms
  abbrev StepsTo : ℕ → MaskRow → MaskRow → Type 0
  StepsTo f ms r = rows_after cs f ms ≡ r ∷ rows_after cs f r

  -- one more function before: its mask stays
  step_keep : (f m : ℕ) (ms r : MaskRow) → length r ≡ length ms → StepsTo (suc f) ms r → StepsTo f (m ∷ ms) (m ∷ r)
  unfolding rows_after
  step_keep f m ms r n e =
      ap₂ {C = List MaskRow} (λ x (y : ℕ). map (λ s. m ∷ s) x ++ spread (all_from cs (suc f) y) (behind (cs f) m)) e (sym n)

  -- the later functions start anew
  step_carry : (f m x : ℕ) (ms r : MaskRow) → length r ≡ length ms → rows_after cs (suc f) ms ≡ [] → behind (cs f) m ≡ x ∷ behind (cs f) x
      → all_from cs (suc f) (length ms) ≡ r ∷ rows_after cs (suc f) r → StepsTo f (m ∷ ms) (x ∷ r)
  unfolding rows_after
  step_carry f m x ms r n e b a =
      ap₂ {C = List MaskRow} (λ u v. map (λ s. m ∷ s) u ++ spread (all_from cs (suc f) (length ms)) v) e b
      ∙ ap (λ (y : List MaskRow). map (λ s. x ∷ s) y ++ spread (all_from cs (suc f) (length ms)) (behind (cs f) x)) a
      ∙ ap (λ (y : ℕ). (x ∷ r) ∷ (map (λ s. x ∷ s) (rows_after cs (suc f) r) ++ spread (all_from cs (suc f) y) (behind (cs f) x))) (sym n)

  -- no row is left where no later one is, and the mask is the last
  step_done : (f m : ℕ) (ms : MaskRow) → rows_after cs (suc f) ms ≡ [] → behind (cs f) m ≡ [] → rows_after cs f (m ∷ ms) ≡ []
  unfolding rows_after
  step_done f m ms e b =
      ap₂ {C = List MaskRow} (λ u v. map (λ s. m ∷ s) u ++ spread (all_from cs (suc f) (length ms)) v) e b

  -- several functions before keep theirs
  steps_under : (xs ms r : MaskRow) (f : ℕ) → length r ≡ length ms → StepsTo (f + length xs) ms r → StepsTo f (xs ++ ms) (xs ++ r)
  steps_under [] ms r f n e = rw (← add-zero f) e
  steps_under (x ∷ xs) ms r f n e =
      step_keep f x (xs ++ ms) (xs ++ r) (simp length-append (omega arith))
      (steps_under xs ms r (suc f) n (rw (suc-add f (length xs), ← add-suc f (length xs)) e))

-- ---- the first row, and the loop that steps

-- a store at j, seen from j
drop_set : (row : MaskRow) (j v : ℕ) → j < length row → drop j (set row j v) ≡ v ∷ drop (suc j) row
drop_set row j v h =
    let l : j < length (set row j v) = rw length-set h in
    drop-cons (set row j v) j 0 l ∙ ap₂ {C = List ℕ} (λ x y. x ∷ y) (get_or-set_same row j v 0 h) (drop-set-lt (suc j) row j v (omega arith))

-- n functions, each with its first choice
module _ (first : ℕ → ℕ) (n : ℕ) where
  abbrev pub firsts_from : ℕ → ℕ → MaskRow
  firsts_from f k = map first (count_from f k)

  length_firsts : (f k : ℕ) → length (firsts_from f k) ≡ k
  length_firsts f zero = refl
  length_firsts f (suc k) = ap suc (length_firsts (suc f) k)

  pub firsts_at : (f k i : ℕ) → i < k → get_or (firsts_from f k) i 0 ≡ first (f + i)
  firsts_at f zero i h = absurd (omega arith)
  firsts_at f (suc k) zero h = let e : f ≡ f + 0 = omega arith in ap first e
  firsts_at f (suc k) (suc i) h = let e : suc f + i ≡ f + suc i = omega arith in firsts_at (suc f) k i (omega arith) ∙ ap first e

  -- From function i on each mask is its function's first choice.
  pub record Fresh (row : MaskRow) (i : ℕ) : Type 0 where
    pub long : length row ≡ n
    pub firsts : drop i row ≡ firsts_from i (n - i)

  pub fresh_all : Fresh (firsts_from 0 n) 0
  fresh_all = let z : n ≡ n - 0 = omega arith in record { long = length_firsts 0 n; firsts = ap (firsts_from 0) z }

  pub fresh_none : (row : MaskRow) → length row ≡ n → Fresh row n
  fresh_none row e =
      let z : n - n ≡ 0 = omega arith in
      record { long = e; firsts = rw z (drop_of_length-le row {i = n} (omega arith)) }

  pub fresh_more : (row : MaskRow) (j : ℕ) → j < n → Fresh row (suc j) → Fresh (set row j (first j)) j
  fresh_more row j h w =
      let e : n - j ≡ suc (n - suc j) = omega arith in
      record {
        long = length-set row j (first j) ∙ w.long;
        firsts = rw e (drop_set row j (first j) (omega (arith, w.long)) ∙ ap {B = List ℕ} (λ r. first j ∷ r) w.firsts);
      }

module _ (cs : ℕ → List ℕ) (first : ℕ → ℕ) (n : ℕ) where
  -- What a step from the row `old` knows before function i: the masks before it are as they were, the others are first choices, and for
  -- those no row was left.
  pub record Carried (old row : MaskRow) (i : ℕ) : Type 0 where
    pub was : length old ≡ n
    pub kept : take i row ≡ take i old
    pub fresh : Fresh first n row i
    pub done : rows_after cs i (drop i old) ≡ []

  pub carried_none : (row : MaskRow) → length row ≡ n → Carried row row n
  unfolding rows_after
  carried_none row e = record {
    was = e;
    kept = refl;
    fresh = fresh_none first n row e;
    done = ap (rows_after cs n) (drop_of_length-le row {i = n} (omega arith));
  }

  -- the mask of function j is still the given one
  pub carried_at : (old row : MaskRow) (j : ℕ) → j < n → Carried old row (suc j) → get_or old j 0 ≡ get_or row j 0
  carried_at old row j h w =
      sym (get_or-take (suc j) old j 0 (omega arith)) ∙ ap (λ (l : List ℕ). get_or l j 0) (sym w.kept)
      ∙ get_or-take (suc j) row j 0 (omega arith)

  carried_kept : (old row : MaskRow) (j : ℕ) → Carried old row (suc j) → take j row ≡ take j old
  carried_kept old row j w = sym (take-take j (suc j) row (omega arith)) ∙ ap (take j) w.kept ∙ take-take j (suc j) old (omega arith)

  -- The last choice of function j: it starts anew, and the step is made further to the front.
  pub carried_more : (old row : MaskRow) (j : ℕ) → j < n → Carried old row (suc j) → behind (cs j) (get_or row j 0) ≡ []
      → Carried old (set row j (first j)) j
  carried_more old row j h w z =
      let l : j < length old = omega (arith, w.was) in
      record {
        was = w.was;
        kept = take-set-le j row j (first j) (omega arith) ∙ carried_kept old row j w;
        fresh = fresh_more first n row j h w.fresh;
        done = rw (drop-cons old j 0 l, carried_at old row j h w) (step_done cs j (get_or row j 0) (drop (suc j) old) w.done z);
      }

  -- No row is left when every function had its last choice.
  pub carried_end : (old row : MaskRow) → Carried old row 0 → rows_after cs 0 old ≡ []
  carried_end old row w = w.done

module _ (cs : ℕ → List ℕ) (first : ℕ → ℕ) (n : ℕ)
    (starts : (f : ℕ) → f < n → cs f ≡ first f ∷ behind (cs f) (first f)) where
  all_firsts : (k f : ℕ) → f + k ≤ n → all_from cs f k ≡ firsts_from first n f k ∷ rows_after cs f (firsts_from first n f k)
  unfolding rows_after
  all_firsts zero f h = refl
  all_firsts (suc k) f h =
      let x : ℕ = first f in
      let r : MaskRow = firsts_from first n (suc f) k in
      ap (spread (all_from cs (suc f) k)) (starts f (omega arith))
      ∙ ap (λ (y : List MaskRow). map (λ s. x ∷ s) y ++ spread (all_from cs (suc f) k) (behind (cs f) x))
      (all_firsts k (suc f) (omega arith))
      ∙ ap (λ (y : ℕ). (x ∷ r) ∷ (map (λ s. x ∷ s) (rows_after cs (suc f) r) ++ spread (all_from cs (suc f) y) (behind (cs f) x)))
      (sym (length_firsts first n (suc f) k))

  -- The first of all rows.
  pub first_of_all : (row : MaskRow) → Fresh first n row 0 → all_from cs 0 n ≡ row ∷ rows_after cs 0 row
  first_of_all row w =
      let z : n - 0 ≡ n = omega arith in
      let e : row ≡ firsts_from first n 0 n = rw z at w.firsts in
      all_firsts n 0 (omega arith) ∙ ap (λ (q : MaskRow). q ∷ rows_after cs 0 q) (sym e)

  -- Another choice of function j: that is the next row.
  pub carried_step : (old row : MaskRow) (j x : ℕ) → j < n → Carried cs first n old row (suc j)
      → behind (cs j) (get_or row j 0) ≡ x ∷ behind (cs j) x
      → rows_after cs 0 old ≡ set row j x ∷ rows_after cs 0 (set row j x)
  carried_step old row j x h w b =
      let l : j < length old = omega (arith, w.was) in
      let k : ℕ = n - suc j in
      let r : MaskRow = firsts_from first n (suc j) k in
      let lr : length r ≡ k = length_firsts first n (suc j) k in
      let ld : length (drop (suc j) old) ≡ k = length-drop (suc j) old ∙ ap (λ (m : ℕ). m - suc j) w.was in
      let lt : 0 + length (take j old) ≡ j = omega (arith, length-take-le j old (omega arith)) in
      let here : StepsTo cs j (get_or old j 0 ∷ drop (suc j) old) (x ∷ r) =
      step_carry cs j (get_or old j 0) x (drop (suc j) old) r (lr ∙ sym ld) w.done (rw (carried_at cs first n old row j h w) b)
      (rw ld (all_firsts k (suc j) (omega arith))) in
      let under : StepsTo cs 0 (take j old ++ get_or old j 0 ∷ drop (suc j) old) (take j old ++ x ∷ r) =
      steps_under cs (take j old) (get_or old j 0 ∷ drop (suc j) old) (x ∷ r) 0 (ap suc (lr ∙ sym ld)) (rw lt here) in
      let a : old ≡ take j old ++ get_or old j 0 ∷ drop (suc j) old = split_at old j 0 l in
      let c : set row j x ≡ take j old ++ x ∷ r =
      set_split row j x (omega (arith, w.fresh.long))
      ∙ ap₂ {C = List ℕ} (λ u v. u ++ x ∷ v) (carried_kept cs first n old row j w) w.fresh.firsts in
      ap (rows_after cs 0) a ∙ under ∙ ap (λ (q : MaskRow). q ∷ rows_after cs 0 q) (sym c)

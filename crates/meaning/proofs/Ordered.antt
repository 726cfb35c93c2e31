-- Lists in order: how the lists of marks and of rows come to be ordered, and what is in them.
--   fronted   each element of one list put before each list of another, the first list slowest
--   OneOfEach a list with one element of each list, in their order
use mathlib.Core.Path.{◌≡◌, refl, ap, ap₂, sym, ◌∙◌, subst}
use mathlib.Core.Logic.{◌⊎◌, inl, inr, ⊎_elim, ◌↔◌}
use Prim.Native.Nat.{ℕ, zero, suc, ◌<◌}
use mathlib.Core.Bool.{Bool, true, false}
use mathlib.Core.List.Memᴰ
use mathlib.Core.List.{List, [], ◌∷◌, ◌++◌, map}
use mathlib.Core.Option.{none, some}
use lib.ListN.{length}
use Rattle.meaning.specs.Basics.{choose, keep, each, count_from, up_to, All, ◌∈◌, Distinct, Ordered, empty, more}
use Rattle.meaning.specs.Choice.{Mark, Marks, Before, Earlier, here, later}
use Rattle.meaning.specs.Choices.{marks_of, all_marks}
use Rattle.meaning.specs.Row.{Row, EarlierRow, first, next}
use Rattle.meaning.specs.Rows.{product}
use Rattle.meaning.proofs.Lists.{mem_map, map_mem, keep_mem, mem_each, each_mem, count_from_mem, mem_up_to, up_to_mem}
use Rattle.meaning.proofs.OrderLaws.{Asymmetric, earlier_asymmetric, row_asymmetric}

module _ {A : Type 0} (R : A → A → Type 0) where
  pub append_ordered : (xs ys : List A) → Ordered R xs → Ordered R ys → ((x y : A) → x ∈ xs → y ∈ ys → R x y) → Ordered R (xs ++ ys)
  append_ordered [] ys o q h = q
  append_ordered (x ∷ xs) ys (more g o) q h =
      more (λ y m. ⊎_elim (g y) (h x y (Memᴰ.head refl)) (Memᴰ.append_cases xs m))
      (append_ordered xs ys o q (λ z y m. h z y (Memᴰ.tail m)))

  pub keep_ordered : (p : A → Bool) (xs : List A) → Ordered R xs → Ordered R (keep p xs)
  keep_ordered p [] o = empty
  keep_ordered p (x ∷ xs) (more g o) = go (p x) (keep_ordered p xs o)
    where
      go : (b : Bool) → Ordered R (keep p xs) → Ordered R (choose b (x ∷ keep p xs) (keep p xs))
      go true q = more (λ y m. g y (keep_mem p y xs m).0) q
      go false q = q

  -- In the order of a strict relation no element stands twice
  pub ordered_distinct : ((x : A) → R x x → ⊥) → (xs : List A) → Ordered R xs → Distinct xs
  ordered_distinct h [] o = tt
  ordered_distinct h (x ∷ xs) (more g o) = ((λ m. h x (g x m)), ordered_distinct h xs o)

  -- and a list in order is known from its elements
  same_first : Asymmetric R → (x y : A) (xs ys : List A) → Ordered R (x ∷ xs) → Ordered R (y ∷ ys) → x ∈ (y ∷ ys) → y ∈ (x ∷ xs) → x ≡ y
  same_first a x y xs ys (more g o) (more h q) i j = go (Memᴰ.cases_cons i) (Memᴰ.cases_cons j)
    where
      go : (x ≡ y) ⊎ (x ∈ ys) → (y ≡ x) ⊎ (y ∈ xs) → x ≡ y
      go (inl e) w = e
      go (inr m) (inl e) = sym e
      go (inr m) (inr n) = absurd (a x y (g y n) (h x m))

  same_rest : Asymmetric R → (x y : A) (xs ys : List A)
      → x ≡ y → Ordered R (x ∷ xs) → ((z : A) → z ∈ (x ∷ xs) → z ∈ (y ∷ ys)) → (z : A) → z ∈ xs → z ∈ ys
  same_rest a x y xs ys e (more g o) f z m =
      ⊎_elim (λ d. absurd (let r : R x x = subst (R x) (d ∙ sym e) (g z m) in a x x r r)) (λ k. k)
      (Memᴰ.cases_cons (f z (Memᴰ.tail m)))

  pub ordered_unique : Asymmetric R → (xs ys : List A) → Ordered R xs → Ordered R ys → ((z : A) → (z ∈ xs) ↔ (z ∈ ys)) → xs ≡ ys
  ordered_unique a [] [] o q f = refl
  ordered_unique a [] (y ∷ ys) o q f = absurd (Memᴰ.not-nil ((f y).1 (Memᴰ.head refl)))
  ordered_unique a (x ∷ xs) [] o q f = absurd (Memᴰ.not-nil ((f x).0 (Memᴰ.head refl)))
  ordered_unique a (x ∷ xs) (y ∷ ys) o q f =
      let e = same_first a x y xs ys o q ((f x).0 (Memᴰ.head refl)) ((f y).1 (Memᴰ.head refl)) in
      ap₂ ◌∷◌ e (ordered_unique a xs ys (rest o) (rest q)
      (λ z. (same_rest a x y xs ys e o (λ w. (f w).0) z, same_rest a y x ys xs (sym e) q (λ w. (f w).1) z)))
    where
      rest : {w : A} {ws : List A} → Ordered R (w ∷ ws) → Ordered R ws
      rest (more h r) = r

module _ {A B : Type 0} (R : A → A → Type 0) (S : B → B → Type 0) where
  pub map_ordered : (f : A → B) → ((x y : A) → R x y → S (f x) (f y)) → (xs : List A) → Ordered R xs → Ordered S (map f xs)
  map_ordered f h [] o = empty
  map_ordered f h (x ∷ xs) (more g o) =
      more (λ z m. let (y, q, e) = map_mem f z xs m in subst (S (f x)) (sym e) (h x y (g y q))) (map_ordered f h xs o)

  pub each_ordered : (f : A → List B) → ((x : A) → Ordered S (f x)) → ((x y : A) (u v : B) → R x y → u ∈ f x → v ∈ f y → S u v)
      → (xs : List A) → Ordered R xs → Ordered S (each f xs)
  each_ordered f i h [] o = empty
  each_ordered f i h (x ∷ xs) (more g o) =
      append_ordered S (f x) (each f xs) (i x) (each_ordered f i h xs o)
      (λ u v m n. let (y, q, e) = each_mem f v xs n in h x y u v (g y q) m e)

abbrev pub fronted : {A : Type 0} → List A → List (List A) → List (List A)
fronted xs yss = each (λ x. map (λ ys. x ∷ ys) yss) xs

module _ {A : Type 0} (R : A → A → Type 0) (S : List A → List A → Type 0) where
  -- S is the order by the first difference
  pub fronted_ordered : ((x y : A) (u v : List A) → R x y → S (x ∷ u) (y ∷ v)) → ((x : A) (u v : List A) → S u v → S (x ∷ u) (x ∷ v))
      → (xs : List A) (yss : List (List A)) → Ordered R xs → Ordered S yss → Ordered S (fronted xs yss)
  fronted_ordered h g xs yss o q =
      each_ordered R S (λ x. map (λ ys. x ∷ ys) yss) (λ x. map_ordered S S (λ ys. x ∷ ys) (g x) yss q) apart xs o
    where
      apart : (x y : A) (u v : List A) → R x y → u ∈ map (λ ys. x ∷ ys) yss → v ∈ map (λ ys. y ∷ ys) yss → S u v
      apart x y u v r m n =
          let (a, i, d) = map_mem (λ ys. x ∷ ys) u yss m in
          let (b, j, e) = map_mem (λ ys. y ∷ ys) v yss n in
          rw (d, e) (h x y a b r)

pub mem_fronted : {A : Type 0} (x : A) (ys : List A) (xs : List A) (yss : List (List A)) → x ∈ xs → ys ∈ yss → (x ∷ ys) ∈ fronted xs yss
mem_fronted x ys xs yss m n = mem_each (λ z. map (λ zs. z ∷ zs) yss) x (x ∷ ys) xs m (mem_map (λ zs. x ∷ zs) n)

pub fronted_mem : {A : Type 0} (zs : List A) (xs : List A) (yss : List (List A)) → zs ∈ fronted xs yss
    → (x : A) × (ys : List A) × (x ∈ xs) × (ys ∈ yss) × (zs ≡ x ∷ ys)
fronted_mem zs xs yss m =
    let (x, i, n) = each_mem (λ z. map (λ ws. z ∷ ws) yss) zs xs m in
    let (ys, j, e) = map_mem (λ ws. x ∷ ws) zs yss n in
    (x, ys, i, j, e)

-- Marks
pub count_from_ordered : (k n : ℕ) → Ordered ◌<◌ (count_from k n)
count_from_ordered k zero = empty
count_from_ordered k (suc n) = more (λ y m. let r = count_from_mem (suc k) n y m in r.0) (count_from_ordered (suc k) n)

-- A mark's place, if it has one, is among the first n
abbrev pub Placed : ℕ → Mark → Type 0
Placed n none = Unit {0}
Placed n (some i) = i < n

placed_none : (n : ℕ) (m : Mark) → m ∈ map some (up_to n) → Before m none × Placed n m
placed_none n m h = let (i, k, e) = map_mem some m (up_to n) h in rw e (tt, up_to_mem n i k)

marks_of_ordered : (n : ℕ) → Ordered Before (marks_of n)
marks_of_ordered n =
    append_ordered Before (map some (up_to n)) (none ∷ []) (map_ordered ◌<◌ Before some (λ i j h. h) (up_to n) (count_from_ordered 0 n))
    (more (λ y m. absurd (Memᴰ.not-nil m)) empty)
    (λ x y m k. rw (Memᴰ.eq_of_singleton k) (placed_none n x m).0)

mem_marks_of : (n : ℕ) (m : Mark) → Placed n m → m ∈ marks_of n
mem_marks_of n none h = Memᴰ.append_right (map some (up_to n)) (Memᴰ.head refl)
mem_marks_of n (some i) h = Memᴰ.append_left (none ∷ []) (mem_map some (mem_up_to n i h))

marks_of_mem : (n : ℕ) (m : Mark) → m ∈ marks_of n → Placed n m
marks_of_mem n m h =
    ⊎_elim (λ k. (placed_none n m k).1) (λ k. subst (Placed n) (sym (Memᴰ.eq_of_singleton k)) tt)
    (Memᴰ.append_cases (map some (up_to n)) h)

mem_all_marks : (n : ℕ) (ms : Marks) → All (Placed n) ms → ms ∈ all_marks n (length ms)
mem_all_marks n [] h = Memᴰ.head refl
mem_all_marks n (m ∷ ms) h = mem_fronted m ms (marks_of n) (all_marks n (length ms)) (mem_marks_of n m h.0) (mem_all_marks n ms h.1)

all_marks_mem : (n k : ℕ) (ms : Marks) → ms ∈ all_marks n k → (length ms ≡ k) × All (Placed n) ms
all_marks_mem n zero ms h = rw (Memᴰ.eq_of_singleton h) (refl, tt)
all_marks_mem n (suc k) ms h =
    let (m, r, i, j, e) = fronted_mem ms (marks_of n) (all_marks n k) h in
    let (l, a) = all_marks_mem n k r j in
    rw e (ap suc l, (marks_of_mem n m i, a))

-- Lists with one element of each list
abbrev pub OneOfEach : {A : Type 0} → List (List A) → List A → Type 0
OneOfEach [] [] = Unit {0}
OneOfEach [] (y ∷ ys) = ⊥
OneOfEach (xs ∷ xss) [] = ⊥
OneOfEach (xs ∷ xss) (y ∷ ys) = (y ∈ xs) × OneOfEach xss ys

mem_product : {A : Type 0} (xss : List (List A)) (ys : List A) → OneOfEach xss ys → ys ∈ product xss
mem_product [] [] h = Memᴰ.head refl
mem_product [] (y ∷ ys) h = absurd h
mem_product (xs ∷ xss) [] h = absurd h
mem_product (xs ∷ xss) (y ∷ ys) h = mem_fronted y ys xs (product xss) h.0 (mem_product xss ys h.1)

product_mem : {A : Type 0} (xss : List (List A)) (ys : List A) → ys ∈ product xss → OneOfEach xss ys
product_mem [] ys h = rw (Memᴰ.eq_of_singleton h) tt
product_mem (xs ∷ xss) ys h = let (z, zs, i, j, e) = fronted_mem ys xs (product xss) h in rw e (i, product_mem xss zs j)

-- Main theorems: all lists of marks, and products
pub all_marks_ordered : (n k : ℕ) → Ordered Earlier (all_marks n k)
all_marks_ordered n zero = more (λ y m. absurd (Memᴰ.not-nil m)) empty
all_marks_ordered n (suc k) =
    fronted_ordered Before Earlier (λ x y u v h. here h) (λ x u v h. later h) (marks_of n) (all_marks n k) (marks_of_ordered n)
    (all_marks_ordered n k)

pub all_marks_are : (n k : ℕ) (ms : Marks) → (ms ∈ all_marks n k) ↔ ((length ms ≡ k) × All (Placed n) ms)
all_marks_are n k ms = (all_marks_mem n k ms, λ h. subst (λ (j : ℕ). ms ∈ all_marks n j) h.0 (mem_all_marks n ms h.1))

pub product_ordered : (xss : List (List Marks)) → All (Ordered Earlier) xss → Ordered EarlierRow (product xss)
product_ordered [] h = more (λ y m. absurd (Memᴰ.not-nil m)) empty
product_ordered (xs ∷ xss) h =
    fronted_ordered Earlier EarlierRow (λ x y u v g. first g) (λ x u v g. next g) xs (product xss) h.0 (product_ordered xss h.1)

pub product_are : {A : Type 0} (xss : List (List A)) (ys : List A) → (ys ∈ product xss) ↔ OneOfEach xss ys
product_are xss ys = (product_mem xss ys, mem_product xss ys)

-- Nothing is earlier than itself
pub earlier_strict : (ms : Marks) → Earlier ms ms → ⊥
earlier_strict ms h = earlier_asymmetric ms ms h h

pub earlier_row_strict : (r : Row) → EarlierRow r r → ⊥
earlier_row_strict r h = row_asymmetric r r h h

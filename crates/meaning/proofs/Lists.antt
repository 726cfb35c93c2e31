-- Laws of the lists, answers and tests of `Basics`.
use mathlib.Core.Path.{◌≡◌, refl, ap, ap₂, sym, ◌∙◌, subst}
use mathlib.Core.Logic.{◌⊎◌, inl, inr, ⊎_elim}
use Prim.Native.Nat.{ℕ, zero, suc, ◌+◌, ◌<◌, ◌≤◌}
use mathlib.Core.Bool.{Bool, true, false, ◌||◌, ◌&&◌, true≢false, false≢true}
use mathlib.Core.List.Memᴰ
use mathlib.Core.List.{List, [], ◌∷◌, ◌++◌, map, append_assoc}
use mathlib.Core.Option.{Option, none, some}
use native.Mathlib.Nat.{suc-add}
use native.Mathlib.Omega.{arith}
use lib.ListN.{length, drop, get_elem?, length-append}
use lib.Dec.{eqb, eqb→eq, eqb_refl, T}
use Rattle.meaning.specs.Basics.{choose, keep, each, count_from, up_to, is_in, every, All, ◌∈◌, Distinct, is_some, join, guard, AllO}

-- Two constructors are never equal: `cc` gives 0 ≡ 1 from an equation of two
pub never : {A : Type 0} → ◌≡◌ {A = ℕ} 0 1 → A
never e = absurd (omega arith)

-- Tests as types and as equations
pub T_true : {b : Bool} → T b → b ≡ true
T_true {b = true} t = refl
T_true {b = false} t = absurd t

pub true_T : {b : Bool} → b ≡ true → T b
true_T e = subst T (sym e) tt

pub not_T : {b : Bool} → (T b → ⊥) → b ≡ false
not_T {b = true} f = absurd (f tt)
not_T {b = false} f = refl

pub or-false : (a b : Bool) → (a || b) ≡ false → (a ≡ false) × (b ≡ false)
or-false true b e = absurd (true≢false e)
or-false false b e = (refl, e)

pub and_T : (a b : Bool) → T (a && b) → T a × T b
and_T true b t = (tt, t)
and_T false b t = absurd t

pub T_and : (a b : Bool) → T a → T b → T (a && b)
T_and true b s t = t
T_and false b s t = absurd s

pub or_cases : (a b : Bool) → (a || b) ≡ true → (a ≡ true) ⊎ (b ≡ true)
or_cases true b e = inl refl
or_cases false b e = inr e

pub or_left : (a b : Bool) → a ≡ true → (a || b) ≡ true
or_left a b e = ap (λ (x : Bool). x || b) e

pub or_right : (a b : Bool) → b ≡ true → (a || b) ≡ true
or_right true b e = refl
or_right false b e = e

pub eqb_self : (n : ℕ) → eqb n n ≡ true
eqb_self n = T_true (eqb_refl n)

pub eqb_eq : (m n : ℕ) → eqb m n ≡ true → m ≡ n
eqb_eq m n e = eqb→eq m n (true_T e)

pub eqb_other : (m n : ℕ) → (m ≡ n → ⊥) → eqb m n ≡ false
eqb_other m n f = not_T (λ t. f (eqb→eq m n t))

-- By cases on a test that is kept as an equation
pub by_test : {A : Type 0} (b : Bool) → (b ≡ true → A) → (b ≡ false → A) → A
by_test true f g = f refl
by_test false f g = g refl

pub choose_true : {A : Type 0} {b : Bool} (x y : A) → b ≡ true → choose b x y ≡ x
choose_true {A} x y e = ap (λ (c : Bool). choose c x y) e

pub choose_false : {A : Type 0} {b : Bool} (x y : A) → b ≡ false → choose b x y ≡ y
choose_false {A} x y e = ap (λ (c : Bool). choose c x y) e

-- Membership
pub mem_map : {A B : Type 0} (f : A → B) {x : A} {xs : List A} → x ∈ xs → f x ∈ map f xs
mem_map f (Memᴰ.head e) = Memᴰ.head (ap f e)
mem_map f (Memᴰ.tail m) = Memᴰ.tail (mem_map f m)

pub map_mem : {A B : Type 0} (f : A → B) (y : B) (xs : List A) → y ∈ map f xs → (x : A) × (x ∈ xs) × (y ≡ f x)
map_mem f y [] m = absurd (Memᴰ.not-nil m)
map_mem {A} {B} f y (x ∷ xs) m = go (map_mem f y xs) (Memᴰ.cases_cons m)
  where
    go : (y ∈ map f xs → (x : A) × (x ∈ xs) × (y ≡ f x)) → (y ≡ f x) ⊎ (y ∈ map f xs) → (z : A) × (z ∈ (x ∷ xs)) × (y ≡ f z)
    go ih (inl e) = (x, Memᴰ.head refl, e)
    go ih (inr q) = let r = ih q in (r.0, Memᴰ.tail r.1, r.2)

-- Maps that agree on a list
pub map_same : {A B : Type 0} (f g : A → B) (xs : List A) → ((x : A) → x ∈ xs → f x ≡ g x) → map f xs ≡ map g xs
map_same f g [] h = refl
map_same {B = B} f g (x ∷ xs) h =
    ap₂ {C = List B} (λ y ys. y ∷ ys) (h x (Memᴰ.head refl)) (map_same f g xs (λ z m. h z (Memᴰ.tail m)))

pub mem_keep : {A : Type 0} (p : A → Bool) (x : A) (xs : List A) → x ∈ xs → p x ≡ true → x ∈ keep p xs
mem_keep p x [] m e = m
mem_keep {A} p x (y ∷ ys) m e = go (p y) refl (λ q. mem_keep p x ys q e) (Memᴰ.cases_cons m)
  where
    go : (b : Bool) → p y ≡ b → (x ∈ ys → x ∈ keep p ys) → (x ≡ y) ⊎ (x ∈ ys) → x ∈ choose b (y ∷ keep p ys) (keep p ys)
    go true q ih (inl h) = Memᴰ.head h
    go true q ih (inr h) = Memᴰ.tail (ih h)
    go false q ih (inl h) = absurd (true≢false (sym e ∙ ap p h ∙ q))
    go false q ih (inr h) = ih h

pub keep_mem : {A : Type 0} (p : A → Bool) (x : A) (xs : List A) → x ∈ keep p xs → (x ∈ xs) × (p x ≡ true)
keep_mem p x [] m = absurd (Memᴰ.not-nil m)
keep_mem {A} p x (y ∷ ys) m = go (p y) refl (keep_mem p x ys) m
  where
    under : (x ∈ ys) × (p x ≡ true) → (x ∈ (y ∷ ys)) × (p x ≡ true)
    under r = (Memᴰ.tail r.0, r.1)

    go : (b : Bool) → p y ≡ b → (x ∈ keep p ys → (x ∈ ys) × (p x ≡ true)) → x ∈ choose b (y ∷ keep p ys) (keep p ys)
        → (x ∈ (y ∷ ys)) × (p x ≡ true)
    go true q ih h = ⊎_elim (λ (e : x ≡ y). (Memᴰ.head e, ap p e ∙ q)) (λ k. under (ih k)) (Memᴰ.cases_cons h)
    go false q ih h = under (ih h)

pub keep_length : {A : Type 0} (p : A → Bool) (xs : List A) → length (keep p xs) ≤ length xs
keep_length p [] = omega arith
keep_length {A} p (x ∷ xs) = go (p x) (keep_length p xs)
  where
    go : (b : Bool) → length (keep p xs) ≤ length xs → length (choose b (x ∷ keep p xs) (keep p xs)) ≤ suc (length xs)
    go true h = omega arith
    go false h = omega arith

pub mem_each : {A B : Type 0} (f : A → List B) (x : A) (y : B) (xs : List A) → x ∈ xs → y ∈ f x → y ∈ each f xs
mem_each f x y [] m h = absurd (Memᴰ.not-nil m)
mem_each {A} {B} f x y (z ∷ zs) m h = go (λ k. mem_each f x y zs k h) (Memᴰ.cases_cons m)
  where
    go : (x ∈ zs → y ∈ each f zs) → (x ≡ z) ⊎ (x ∈ zs) → y ∈ (f z ++ each f zs)
    go ih (inl e) = Memᴰ.append_left (each f zs) (subst (λ (w : A). y ∈ f w) e h)
    go ih (inr k) = Memᴰ.append_right (f z) (ih k)

pub each_mem : {A B : Type 0} (f : A → List B) (y : B) (xs : List A) → y ∈ each f xs → (x : A) × (x ∈ xs) × (y ∈ f x)
each_mem f y [] m = absurd (Memᴰ.not-nil m)
each_mem {A} {B} f y (z ∷ zs) m = go (each_mem f y zs) (Memᴰ.append_cases (f z) m)
  where
    go : (y ∈ each f zs → (x : A) × (x ∈ zs) × (y ∈ f x)) → (y ∈ f z) ⊎ (y ∈ each f zs) → (x : A) × (x ∈ (z ∷ zs)) × (y ∈ f x)
    go ih (inl h) = (z, Memᴰ.head refl, h)
    go ih (inr h) = let r = ih h in (r.0, Memᴰ.tail r.1, r.2)

pub is_in_mem : (m : ℕ) (xs : List ℕ) → is_in m xs ≡ true → m ∈ xs
is_in_mem m [] e = absurd (false≢true e)
is_in_mem m (x ∷ xs) e = go (eqb m x) refl (is_in_mem m xs) e
  where
    go : (b : Bool) → eqb m x ≡ b → (is_in m xs ≡ true → m ∈ xs) → (b || is_in m xs) ≡ true → m ∈ (x ∷ xs)
    go true q ih h = Memᴰ.head (eqb_eq m x q)
    go false q ih h = Memᴰ.tail (ih h)

pub mem_is_in : (m : ℕ) (xs : List ℕ) → m ∈ xs → is_in m xs ≡ true
mem_is_in m [] h = absurd (Memᴰ.not-nil h)
mem_is_in m (x ∷ xs) h = go (eqb m x) refl (mem_is_in m xs) (Memᴰ.cases_cons h)
  where
    go : (b : Bool) → eqb m x ≡ b → (m ∈ xs → is_in m xs ≡ true) → (m ≡ x) ⊎ (m ∈ xs) → (b || is_in m xs) ≡ true
    go true q ih k = refl
    go false q ih (inl k) = absurd (false≢true (sym q ∙ ap (eqb m) (sym k) ∙ eqb_self m))
    go false q ih (inr k) = ih k

pub not_is_in : (m : ℕ) (xs : List ℕ) → (m ∈ xs → ⊥) → is_in m xs ≡ false
not_is_in m xs f = not_T (λ t. f (is_in_mem m xs (T_true t)))

pub mem_count_from : (k n m : ℕ) → k ≤ m → m < k + n → m ∈ count_from k n
mem_count_from k zero m h g = absurd (omega arith)
mem_count_from k (suc n) m h g =
    by_test (eqb m k) (λ e. Memᴰ.head (eqb_eq m k e)) (λ e. Memᴰ.tail (mem_count_from (suc k) n m (strict e) (omega arith)))
  where
    strict : eqb m k ≡ false → suc k ≤ m
    strict e = let d : (m ≡ k → ⊥) = λ q. false≢true (sym e ∙ ap (λ (x : ℕ). eqb x k) q ∙ eqb_self k) in omega arith

pub count_from_mem : (k n m : ℕ) → m ∈ count_from k n → (k ≤ m) × (m < k + n)
count_from_mem k zero m h = absurd (Memᴰ.not-nil h)
count_from_mem k (suc n) m h = go (count_from_mem (suc k) n m) (Memᴰ.cases_cons h)
  where
    go : (m ∈ count_from (suc k) n → (suc k ≤ m) × (m < suc k + n)) → (m ≡ k) ⊎ (m ∈ count_from (suc k) n) → (k ≤ m) × (m < k + suc n)
    go ih (inl e) = omega arith
    go ih (inr q) = let r = ih q in omega arith

pub distinct_count_from : (k n : ℕ) → Distinct (count_from k n)
distinct_count_from k zero = tt
distinct_count_from k (suc n) =
    (λ m. let r = count_from_mem (suc k) n k m in let h : suc k ≤ k = r.0 in omega arith, distinct_count_from (suc k) n)

pub mem_up_to : (n m : ℕ) → m < n → m ∈ up_to n
mem_up_to n m h = mem_count_from 0 n m (omega arith) (omega arith)

pub up_to_mem : (n m : ℕ) → m ∈ up_to n → m < n
up_to_mem n m h = let r = count_from_mem 0 n m h in omega arith

-- The element at a number
pub at_mem : {A : Type 0} (xs : List A) (k : ℕ) (x : A) → get_elem? xs k ≡ some x → x ∈ xs
at_mem [] k x e = never (cc)
at_mem (y ∷ xs) zero x e = Memᴰ.head (let p : x ≡ y = cc in p)
at_mem (y ∷ xs) (suc k) x e = Memᴰ.tail (at_mem xs k x e)

mem_number : {A : Type 0} (x : A) (xs : List A) → x ∈ xs → (k : ℕ) × (get_elem? xs k ≡ some x)
mem_number x xs (Memᴰ.head e) = (0, ap some (sym e))
mem_number x xs (Memᴰ.tail m) = let (k, e) = mem_number x _ m in (suc k, e)

pub mem_at : {A : Type 0} (xs : List A) (x : A) → x ∈ xs → (k : ℕ) × (get_elem? xs k ≡ some x)
mem_at xs x m = mem_number x xs m

pub at_past : {A : Type 0} (xs : List A) (k : ℕ) → length xs ≤ k → get_elem? xs k ≡ none
at_past [] k h = refl
at_past (x ∷ xs) zero h = absurd (omega arith)
at_past (x ∷ xs) (suc k) h = at_past xs k (omega arith)

pub at_append : {A : Type 0} (xs ys : List A) (k : ℕ) (x : A) → get_elem? (xs ++ ys) k ≡ some x
    → ((k < length xs) × (get_elem? xs k ≡ some x)) ⊎ ((i : ℕ) × (k ≡ length xs + i) × (get_elem? ys i ≡ some x))
at_append [] ys k x e = inr (k, omega arith, e)
at_append (z ∷ xs) ys zero x e = inl (omega arith, e)
at_append (z ∷ xs) ys (suc k) x e =
    ⊎_elim (λ r. inl (let h = r.0 in omega arith, r.1)) (λ r. inr (r.0, (let h = r.1 in omega arith), r.2)) (at_append xs ys k x e)

pub at_drop : {A : Type 0} (n : ℕ) (xs : List A) (i : ℕ) → get_elem? (drop n xs) i ≡ get_elem? xs (n + i)
at_drop zero xs i = ap (get_elem? xs) (let e : i ≡ 0 + i = omega arith in e)
at_drop (suc n) [] i = refl
at_drop (suc n) (x ∷ xs) i = rw (suc-add n i) (at_drop n xs i)

pub drop_mem : {A : Type 0} (x : A) (n : ℕ) (xs : List A) → x ∈ drop n xs → x ∈ xs
drop_mem x zero xs q = q
drop_mem x (suc n) [] q = q
drop_mem x (suc n) (y ∷ ys) q = Memᴰ.tail (drop_mem x n ys q)

pub each_append : {A B : Type 0} (f : A → List B) (xs ys : List A) → each f (xs ++ ys) ≡ each f xs ++ each f ys
each_append f [] ys = refl
each_append {A} {B} f (x ∷ xs) ys = ap (λ (r : List B). f x ++ r) (each_append f xs ys) ∙ sym (append_assoc (f x) (each f xs) (each f ys))

-- What stands before an element, and after it
pub mem_split : {A : Type 0} (x : A) (xs : List A) → x ∈ xs → (before later : List A) × (xs ≡ before ++ (x ∷ later))
mem_split x [] m = absurd (Memᴰ.not-nil m)
mem_split {A} x (y ∷ ys) m = ⊎_elim here (λ q. there (mem_split x ys q)) (Memᴰ.cases_cons m)
  where
    here : x ≡ y → (before later : List A) × (y ∷ ys ≡ before ++ (x ∷ later))
    here e = ([], ys, ap {B = List A} (λ z. z ∷ ys) (sym e))

    there : (before later : List A) × (ys ≡ before ++ (x ∷ later)) → (before later : List A) × (y ∷ ys ≡ before ++ (x ∷ later))
    there r = (y ∷ r.0, r.1, ap {B = List A} (λ z. y ∷ z) r.2)

-- No element twice: what passes a test, images that are told apart, and that a list which has all of them is no shorter
pub keep_distinct : {A : Type 0} (p : A → Bool) (xs : List A) → Distinct xs → Distinct (keep p xs)
keep_distinct p [] d = tt
keep_distinct {A} p (x ∷ xs) d = go (p x) (keep_distinct p xs d.1)
  where
    go : (b : Bool) → Distinct (keep p xs) → Distinct (choose b (x ∷ keep p xs) (keep p xs))
    go true h = (λ q. d.0 (keep_mem p x xs q).0, h)
    go false h = h

pub distinct_map : {A B : Type 0} (f : A → B) (xs : List A) → ((x y : A) → x ∈ xs → y ∈ xs → f x ≡ f y → x ≡ y) → Distinct xs → Distinct (map f xs)
distinct_map f [] h d = tt
distinct_map {A} f (x ∷ xs) h d = (
  λ m.
      let (y, i, e) = map_mem f (f x) xs m in
      d.0 (subst (λ (z : A). z ∈ xs) (sym (h x y (Memᴰ.head refl) (Memᴰ.tail i) e)) i),
  distinct_map f xs (λ y z i j. h y z (Memᴰ.tail i) (Memᴰ.tail j)) d.1,
)

-- Without one of its elements a list still has the others
other_left : {A : Type 0} (x y : A) (before later : List A) → (x ≡ y → ⊥) → x ∈ before ++ (y ∷ later) → x ∈ before ++ later
other_left x y before later other m =
    ⊎_elim (λ i. Memᴰ.append_left later i)
    (λ i. ⊎_elim (λ e. absurd (other e)) (λ j. Memᴰ.append_right before j) (Memᴰ.cases_cons i))
    (Memᴰ.append_cases before m)

pub distinct_within : {A : Type 0} (xs ys : List A) → Distinct xs → ((x : A) → x ∈ xs → x ∈ ys) → length xs ≤ length ys
distinct_within [] ys d h = omega arith
distinct_within {A} (x ∷ xs) ys d h =
    let (before, later, e) = mem_split x ys (h x (Memᴰ.head refl)) in
    let others = distinct_within xs (before ++ later) d.1
    (λ y m. other_left y x before later (λ q. d.0 (subst (λ (z : A). z ∈ xs) q m))
    (subst (λ (zs : List A). y ∈ zs) e (h y (Memᴰ.tail m)))) in
    omega (arith, ap length e, length-append before (x ∷ later), length-append before later)

-- Every element
pub all_mem : {A : Type 0} (P : A → Type 0) (x : A) (xs : List A) → All P xs → x ∈ xs → P x
all_mem P x [] a m = absurd (Memᴰ.not-nil m)
all_mem P x (y ∷ ys) a m = ⊎_elim (λ (e : x ≡ y). subst P (sym e) a.0) (λ k. all_mem P x ys a.1 k) (Memᴰ.cases_cons m)

pub mem_all : {A : Type 0} (P : A → Type 0) (xs : List A) → ((x : A) → x ∈ xs → P x) → All P xs
mem_all P [] f = tt
mem_all P (x ∷ xs) f = (f x (Memᴰ.head refl), mem_all P xs (λ y m. f y (Memᴰ.tail m)))

pub all_append : {A : Type 0} (P : A → Type 0) (xs ys : List A) → All P xs → All P ys → All P (xs ++ ys)
all_append P [] ys a b = b
all_append P (x ∷ xs) ys a b = (a.0, all_append P xs ys a.1 b)

pub append_all : {A : Type 0} (P : A → Type 0) (xs ys : List A) → All P (xs ++ ys) → All P xs × All P ys
append_all P [] ys a = (tt, a)
append_all P (x ∷ xs) ys a = let r = append_all P xs ys a.1 in ((a.0, r.0), r.1)

pub every_all : {A : Type 0} (p : A → Bool) (xs : List A) → T (every p xs) → All (λ x. p x ≡ true) xs
every_all p [] t = tt
every_all p (x ∷ xs) t = let r = and_T (p x) (every p xs) t in (T_true r.0, every_all p xs r.1)

pub all_every : {A : Type 0} (p : A → Bool) (xs : List A) → All (λ x. p x ≡ true) xs → T (every p xs)
all_every p [] a = tt
all_every p (x ∷ xs) a = T_and (p x) (every p xs) (true_T a.0) (all_every p xs a.1)

-- Answers
pub is_some_lem : {A : Type 0} (o : Option A) → is_some o ≡ true → (a : A) × (o ≡ some a)
is_some_lem none e = absurd (false≢true e)
is_some_lem (some a) e = (a, refl)

pub join_in : {A : Type 0} (P : A → Type 0) (x y : Option (List A)) → AllO P x → AllO P y → AllO P (join x y)
join_in P none y h g = h
join_in P (some x) none h g = g
join_in P (some x) (some y) h g = all_append P x y h g

pub join_out : {A : Type 0} (P : A → Type 0) (x y : Option (List A)) → AllO P (join x y) → AllO P x × AllO P y
join_out P none y h = absurd h
join_out P (some x) none h = absurd h
join_out P (some x) (some y) h = append_all P x y h

pub guard_in : {A : Type 0} (P : A → Type 0) (b : Bool) (w : Option (List A)) → T b → AllO P w → AllO P (guard b w)
guard_in P true w t h = h
guard_in P false w t h = absurd t

pub guard_out : {A : Type 0} (P : A → Type 0) (b : Bool) (w : Option (List A)) → AllO P (guard b w) → T b × AllO P w
guard_out P true w h = (tt, h)
guard_out P false w h = absurd h

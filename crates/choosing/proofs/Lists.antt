-- Laws of lists: what stands at a number, lists in which no element stands twice, and products.
use mathlib.Core.Path.{◌≡◌, refl, ap, sym, ◌∙◌, subst}
use mathlib.Core.Logic.{⊎_elim}
use mathlib.Core.List.Memᴰ
use mathlib.Core.List.{List, [], ◌∷◌, ◌++◌, map, map-append, map-map}
use mathlib.Core.Option.{some}
use Prim.Native.Nat.{ℕ, zero, suc, ◌<◌}
use native.Mathlib.Omega.{arith}
use lib.ListN.{length, get_elem?, replicate}
use Rattle.meaning.specs.Basics.{each, ◌∈◌, Distinct}
use Rattle.meaning.specs.Rows.{product}
use Rattle.meaning.proofs.Lists.{distinct_map, map_mem, never}
use Rattle.meaning.proofs.Ordered.{fronted, fronted_mem}
use Rattle.paths.proofs.WordLaws.{each_same}

pub at_low : {A : Type 0} (xs : List A) (k : ℕ) (x : A) → get_elem? xs k ≡ some x → k < length xs
at_low [] k x e = never (cc)
at_low (y ∷ xs) zero x e = omega arith
at_low (y ∷ xs) (suc k) x e = let h = at_low xs k x e in omega arith

pub low_at : {A : Type 0} (xs : List A) (k : ℕ) → k < length xs → (x : A) × (get_elem? xs k ≡ some x)
low_at [] k h = absurd (omega arith)
low_at (x ∷ xs) zero h = (x, refl)
low_at (x ∷ xs) (suc k) h = low_at xs k (omega arith)

-- What follows an element of a list without repeats is the same however the list is split at it.
pub split_once : {A : Type 0} (x : A) (xs ys us vs : List A) → Distinct (xs ++ (x ∷ ys)) → xs ++ (x ∷ ys) ≡ us ++ (x ∷ vs) → ys ≡ vs
split_once x [] ys [] vs d e = cc
split_once x [] ys (u ∷ us) vs d e = absurd (d.0 (let q : ys ≡ us ++ (x ∷ vs) = cc in rw q (Memᴰ.append_right us (Memᴰ.head refl))))
split_once x (y ∷ xs) ys [] vs d e =
    absurd (d.0 (let q : y ≡ x = cc in rw q (Memᴰ.append_right xs (Memᴰ.head refl))))
split_once x (y ∷ xs) ys (u ∷ us) vs d e = split_once x xs ys us vs d.1 (let q : xs ++ (x ∷ ys) ≡ us ++ (x ∷ vs) = cc in q)

-- No element twice: in two lists joined, and with each element of one list before each list of another
distinct_append : {A : Type 0} (xs ys : List A) → Distinct xs → Distinct ys → ((x : A) → x ∈ xs → x ∈ ys → ⊥) → Distinct (xs ++ ys)
distinct_append [] ys d e h = e
distinct_append (x ∷ xs) ys d e h = (
  λ m. ⊎_elim d.0 (h x (Memᴰ.head refl)) (Memᴰ.append_cases xs m),
  distinct_append xs ys d.1 e (λ y i. h y (Memᴰ.tail i)),
)

pub distinct_fronted : {A : Type 0} (xs : List A) (yss : List (List A)) → Distinct xs → Distinct yss → Distinct (fronted xs yss)
distinct_fronted [] yss d e = tt
distinct_fronted {A} (x ∷ xs) yss d e =
    distinct_append (map (λ ys. x ∷ ys) yss) (fronted xs yss) (distinct_map (λ ys. x ∷ ys) yss (λ ys zs i j q. let r : ys ≡ zs = cc in r) e)
    (distinct_fronted xs yss d.1 e) apart
  where
    apart : (zs : List A) → zs ∈ map (λ ys. x ∷ ys) yss → zs ∈ fronted xs yss → ⊥
    apart zs i j =
        let (us, k, q) = map_mem (λ ys. x ∷ ys) zs yss i in
        let (y, vs, l, n, r) = fronted_mem zs xs yss j in
        let same : y ≡ x = cc in
        d.0 (subst (λ (z : A). z ∈ xs) same l)

each_map : {A B C : Type 0} (f : A → B) (g : B → List C) (xs : List A) → each g (map f xs) ≡ each (λ x. g (f x)) xs
each_map f g [] = refl
each_map f g (x ∷ xs) = ap (λ r. g (f x) ++ r) (each_map f g xs)

map_each : {A B C : Type 0} (f : B → C) (g : A → List B) (xs : List A) → map f (each g xs) ≡ each (λ x. map f (g x)) xs
map_each f g [] = refl
map_each f g (x ∷ xs) = map-append f (g x) (each g xs) ∙ ap (λ r. map f (g x) ++ r) (map_each f g xs)

-- The product of mapped lists.
pub product_map : {A B : Type 0} (f : A → B) (xss : List (List A)) → product (map (map f) xss) ≡ map (map f) (product xss)
product_map f [] = refl
product_map {A} {B} f (xs ∷ xss) =
    each_map f (λ y. map (λ ys. y ∷ ys) (product (map (map f) xss))) xs
    ∙ each_same (λ x. map (λ ys. f x ∷ ys) (product (map (map f) xss))) (λ x. map (map f) (map (λ ys. x ∷ ys) (product xss)))
    (λ x. ap (map (λ ys. f x ∷ ys)) (product_map f xss) ∙ map-map (λ ys. f x ∷ ys) (map f) (product xss)
    ∙ sym (map-map (map f) (λ ys. x ∷ ys) (product xss))) xs
    ∙ sym (map_each (map f) (λ x. map (λ ys. x ∷ ys) (product xss)) xs)

product_singles : {A : Type 0} (x : A) (n : ℕ) → product (replicate n (x ∷ [])) ≡ replicate n x ∷ []
product_singles x zero = refl
product_singles x (suc n) = rw (product_singles x n)

-- With lists of one element after the others, each list of the product has these elements after it.
pub product_padded : {A : Type 0} (x : A) (n : ℕ) (xss : List (List A))
    → product (xss ++ replicate n (x ∷ [])) ≡ map (λ ys. ys ++ replicate n x) (product xss)
product_padded x n [] = product_singles x n
product_padded {A} x n (xs ∷ xss) =
    each_same (λ y. map (λ ys. y ∷ ys) (product (xss ++ replicate n (x ∷ [])))) (λ y. map after (map (λ ys. y ∷ ys) (product xss)))
    (λ y. ap (map (λ ys. y ∷ ys)) (product_padded x n xss) ∙ map-map (λ ys. y ∷ ys) after (product xss)
    ∙ sym (map-map after (λ ys. y ∷ ys) (product xss))) xs
    ∙ sym (map_each after (λ y. map (λ ys. y ∷ ys) (product xss)) xs)
  where
    after : List A → List A
    after ys = ys ++ replicate n x

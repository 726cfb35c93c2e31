-- Lists, answers and tests that the definitions share.
--   choose   if .. then .. else
--   keep     the elements that pass a test, in order
--   each     a list for each element, joined in order
--   up_to     0, 1, .., n - 1
--   All      every element
--   Distinct no element twice
--   Ordered  each element before all that come after it
--   Pairwise two lists, one element against the other
use Rattle.std.specs.Prelude.{ℕ, zero, suc, ◌<◌, Bool, true, false, ◌||◌, ◌&&◌, eqb}
use mathlib.Core.List.{List, [], ◌∷◌, ◌++◌, Memᴰ}
use Rattle.std.proofs.Math.Option.{Option, none, some}

abbrev pub choose : {A : Type 0} → Bool → A → A → A
choose true a b = a
choose false a b = b

abbrev pub keep : {A : Type 0} → (A → Bool) → List A → List A
keep p [] = []
keep p (x ∷ xs) = choose (p x) (x ∷ keep p xs) (keep p xs)

abbrev pub each : {A B : Type 0} → (A → List B) → List A → List B
each f [] = []
each f (x ∷ xs) = f x ++ each f xs

abbrev pub count_from : ℕ → ℕ → List ℕ
count_from k zero = []
count_from k (suc n) = k ∷ count_from (suc k) n

abbrev pub up_to : ℕ → List ℕ
up_to n = count_from 0 n

abbrev pub is_in : ℕ → List ℕ → Bool
is_in m [] = false
is_in m (x ∷ xs) = eqb m x || is_in m xs

abbrev pub every : {A : Type 0} → (A → Bool) → List A → Bool
every p [] = true
every p (x ∷ xs) = p x && every p xs

abbrev pub All : {A : Type 0} → (A → Type 0) → List A → Type 0
All P [] = Unit {0}
All P (x ∷ xs) = P x × All P xs

abbrev pub ◌∈◌ : {A : Type 0} → A → List A → Type 0
x ∈ xs = Memᴰ x xs

infix 40 ◌∈◌
-- No element twice
abbrev pub Distinct : {A : Type 0} → List A → Type 0
Distinct [] = Unit {0}
Distinct (x ∷ xs) = (x ∈ xs → ⊥) × Distinct xs

-- A list in the order R: each element stands in R to all that come after it
pub data Ordered {A : Type 0} (R : A → A → Type 0) : List A → Type 0 where
  empty : Ordered R []
  more : {x : A} {xs : List A} → ((y : A) → y ∈ xs → R x y) → Ordered R xs → Ordered R (x ∷ xs)

-- Two lists of one length whose elements stand in R, each to the one across
abbrev pub Pairwise : {A B : Type 0} → (A → B → Type 0) → List A → List B → Type 0
Pairwise R [] [] = Unit {0}
Pairwise R [] (y ∷ ys) = ⊥
Pairwise R (x ∷ xs) [] = ⊥
Pairwise R (x ∷ xs) (y ∷ ys) = R x y × Pairwise R xs ys

-- An answer that may be missing, and what follows from it
abbrev pub and_then : {A B : Type 0} → Option A → (A → Option B) → Option B
and_then none f = none
and_then (some a) f = f a

abbrev pub or_none : {A : Type 0} → Option (List A) → List A
or_none none = []
or_none (some xs) = xs

abbrev pub is_some : {A : Type 0} → Option A → Bool
is_some none = false
is_some (some a) = true

-- A change by the value that is there, if one is; the first of two that is there; a test of it; a condition on it
abbrev pub if_some : {A B : Type 0} → Option A → (A → B → B) → B → B
if_some none f b = b
if_some (some a) f b = f a b

abbrev pub or_else : {A : Type 0} → Option A → Option A → Option A
or_else none o = o
or_else (some a) o = some a

abbrev pub holds : {A : Type 0} → (A → Bool) → Option A → Bool
holds p none = false
holds p (some a) = p a

abbrev pub AllOf : {A : Type 0} → (A → Type 0) → Option A → Type 0
AllOf P none = Unit {0}
AllOf P (some a) = P a

-- Two answers that are lists: both must be there
abbrev pub join : {A : Type 0} → Option (List A) → Option (List A) → Option (List A)
join none y = none
join (some x) none = none
join (some x) (some y) = some (x ++ y)

abbrev pub guard : {A : Type 0} → Bool → Option A → Option A
guard true w = w
guard false w = none

-- Every element of a list that is there
abbrev pub AllO : {A : Type 0} → (A → Type 0) → Option (List A) → Type 0
AllO P none = ⊥
AllO P (some xs) = All P xs

abbrev pub Bytes : Type 0
Bytes = List ℕ

abbrev pub Byte : ℕ → Type 0
Byte b = b < 256

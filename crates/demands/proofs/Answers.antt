-- Laws of answers that may be missing: every element of one, and what a joined one is made of.
use mathlib.Core.Path.{◌≡◌, refl, ap₂, sym, ◌∙◌, subst}
use mathlib.Core.Logic.{⊎_elim}
use mathlib.Core.List.Memᴰ
use mathlib.Core.List.{List, [], ◌∷◌, ◌++◌}
use mathlib.Core.Option.{Option, none, some}
use Rattle.meaning.specs.Basics.{each, All, AllO, ◌∈◌, and_then, join}
use Rattle.meaning.proofs.Lists.{never, all_append, append_all, join_in, join_out}
use Rattle.demands.specs.Demand.{each_some}

-- Every element
module _ {A B : Type 0} (P : B → Type 0) (f : A → Option (List B)) where
  pub each-some-in : (xs : List A) → ((x : A) → x ∈ xs → AllO P (f x)) → AllO P (each_some f xs)
  each-some-in [] h = tt
  each-some-in (x ∷ xs) h =
      join_in P (f x) (each_some f xs) (h x (Memᴰ.head refl)) (each-some-in xs (λ y q. h y (Memᴰ.tail q)))

  pub each-some-out : (xs : List A) → AllO P (each_some f xs) → (x : A) → x ∈ xs → AllO P (f x)
  each-some-out [] h x q = absurd (Memᴰ.not-nil q)
  each-some-out (y ∷ ys) h x q =
      let r = join_out P (f y) (each_some f ys) h in
      ⊎_elim (λ (e : x ≡ y). subst (λ (z : A). AllO P (f z)) (sym e) r.0) (each-some-out ys r.1 x) (Memᴰ.cases_cons q)

pub then-in : {A B : Type 0} (P : B → Type 0) (o : Option A) (f : A → Option (List B)) (a : A)
    → o ≡ some a → AllO P (f a) → AllO P (and_then o f)
then-in {A} P o f a e h = subst (λ (x : Option A). AllO P (and_then x f)) (sym e) h

pub then-out : {A B : Type 0} (P : B → Type 0) (o : Option A) (f : A → Option (List B))
    → AllO P (and_then o f) → (a : A) × (o ≡ some a) × AllO P (f a)
then-out P none f h = absurd h
then-out P (some a) f h = (a, refl, h)

pub all-some : {B : Type 0} (P : B → Type 0) (o : Option (List B)) → AllO P o → (xs : List B) × (o ≡ some xs) × All P xs
all-some P none h = absurd h
all-some P (some xs) h = (xs, refl, h)

pub all-each : {A B : Type 0} (P : B → Type 0) (f : A → List B) (xs : List A) → ((x : A) → x ∈ xs → All P (f x)) → All P (each f xs)
all-each P f [] h = tt
all-each P f (x ∷ xs) h = all_append P (f x) (each f xs) (h x (Memᴰ.head refl)) (all-each P f xs (λ y q. h y (Memᴰ.tail q)))

pub each_all : {A B : Type 0} (P : B → Type 0) (f : A → List B) (xs : List A) → All P (each f xs) → (x : A) → x ∈ xs → All P (f x)
each_all P f [] h x q = absurd (Memᴰ.not-nil q)
each_all {A} P f (y ∷ ys) h x q =
    let r = append_all P (f y) (each f ys) h in
    ⊎_elim (λ (e : x ≡ y). subst (λ (z : A). All P (f z)) (sym e) r.0) (each_all P f ys r.1 x) (Memᴰ.cases_cons q)

-- An answer that is there
pub then_some : {A B : Type 0} (o : Option A) (f : A → Option B) (b : B) → and_then o f ≡ some b → (a : A) × (o ≡ some a) × (f a ≡ some b)
then_some none f b e = never (cc)
then_some (some a) f b e = (a, refl, e)

pub joined : {A : Type 0} (x y : Option (List A)) (zs : List A) → join x y ≡ some zs
    → (xs ys : List A) × (x ≡ some xs) × (y ≡ some ys) × (zs ≡ xs ++ ys)
joined none y zs e = never (cc)
joined (some xs) none zs e = never (cc)
joined (some xs) (some ys) zs e = (xs, ys, refl, refl, cc)

pub each-some-is : {A B : Type 0} (f : A → Option (List B)) (g : A → List B) (xs : List A) (zs : List B)
    → ((x : A) (ys : List B) → f x ≡ some ys → ys ≡ g x) → each_some f xs ≡ some zs → zs ≡ each g xs
each-some-is f g [] zs h e = cc
each-some-is {A} {B} f g (x ∷ xs) zs h e =
    let (us, vs, d, q, w) = joined (f x) (each_some f xs) zs e in
    w ∙ ap₂ (λ (y z : List B). y ++ z) (h x us d) (each-some-is f g xs vs h q)

-- The words of a system are those of all words that it accepts, in order (`words_kept`).
use mathlib.Core.Path.{◌≡◌, refl, ap, ap₂, sym, ◌∙◌}
use mathlib.Core.Bool.{Bool, true, false}
use mathlib.Core.List.{List, [], ◌∷◌, ◌++◌, map}
use mathlib.Core.Option.{Option, none, some}
use lib.ListN.{length}
use Rattle.meaning.specs.Basics.{choose, keep, each, holds}
use Rattle.paths.specs.Words.{list_of, all_words, accepts, words}

-- What passes a test, of lists joined and of lists with one element in front
keep_joined : {A : Type 0} (p : A → Bool) (xs ys zs : List A) → keep p ys ≡ zs → keep p (xs ++ ys) ≡ keep p xs ++ zs
keep_joined p [] ys zs e = e
keep_joined {A} p (x ∷ xs) ys zs e = go (p x) (keep_joined p xs ys zs e)
  where
    go : (b : Bool) → keep p (xs ++ ys) ≡ keep p xs ++ zs
        → choose b (x ∷ keep p (xs ++ ys)) (keep p (xs ++ ys)) ≡ choose b (x ∷ keep p xs) (keep p xs) ++ zs
    go true ih = ap (λ (ws : List A). x ∷ ws) ih
    go false ih = ih

keep_each : {A B : Type 0} (p : B → Bool) (f : A → List B) (xs : List A) → keep p (each f xs) ≡ each (λ x. keep p (f x)) xs
keep_each p f [] = refl
keep_each {A} {B} p f (x ∷ xs) = keep_joined p (f x) (each f xs) (each (λ y. keep p (f y)) xs) (keep_each p f xs)

keep_map : {A B : Type 0} (p : B → Bool) (f : A → B) (xs : List A) → keep p (map f xs) ≡ map f (keep (λ x. p (f x)) xs)
keep_map p f [] = refl
keep_map {A} {B} p f (x ∷ xs) = go (p (f x)) (keep_map p f xs)
  where
    go : (b : Bool) → keep p (map f xs) ≡ map f (keep (λ y. p (f y)) xs)
        → choose b (f x ∷ keep p (map f xs)) (keep p (map f xs)) ≡ map f (choose b (x ∷ keep (λ y. p (f y)) xs) (keep (λ y. p (f y)) xs))
    go true ih = ap (λ (zs : List B). f x ∷ zs) ih
    go false ih = ih

keep_nothing : {A : Type 0} (xs : List A) → keep (λ x. false) xs ≡ []
keep_nothing [] = refl
keep_nothing (x ∷ xs) = keep_nothing xs

pub each_same : {A B : Type 0} (f g : A → List B) → ((x : A) → f x ≡ g x) → (xs : List A) → each f xs ≡ each g xs
each_same f g h [] = refl
each_same f g h (x ∷ xs) = ap₂ ◌++◌ (h x) (each_same f g h xs)

module _ {S X L : Type 0} (step : S → X → L → Option S) (letters : List L) where
  -- THE WORDS ARE THOSE THAT ARE ACCEPTED
  pub words_kept : (s : S) (xs : List X) → words step letters s xs ≡ keep (accepts step s xs) (all_words letters (length xs))
  unfolding words accepts
  words_kept s [] = refl
  words_kept s (x ∷ xs) =
      each_same (λ m. list_of (λ t. map (λ ms. m ∷ ms) (words step letters t xs)) (step s x m))
      (λ m. keep (accepts step s (x ∷ xs)) (map (λ ms. m ∷ ms) (all_words letters (length xs))))
      (λ m. go m (step s x m) (λ t. words_kept t xs)
      ∙ sym (keep_map (accepts step s (x ∷ xs)) (λ ms. m ∷ ms) (all_words letters (length xs))))
      letters
      ∙ sym (keep_each (accepts step s (x ∷ xs)) (λ m. map (λ ms. m ∷ ms) (all_words letters (length xs))) letters)
    where
      go : (m : L) (w : Option S) → ((t : S) → words step letters t xs ≡ keep (accepts step t xs) (all_words letters (length xs)))
          → list_of (λ t. map (λ ms. m ∷ ms) (words step letters t xs)) w
          ≡ map (λ ms. m ∷ ms) (keep (λ ms. holds (λ t. accepts step t xs ms) w) (all_words letters (length xs)))
      go m none ih = ap (map (λ (ms : List L). m ∷ ms)) (sym (keep_nothing (all_words letters (length xs))))
      go m (some t) ih = ap (map (λ (ms : List L). m ∷ ms)) (ih t)

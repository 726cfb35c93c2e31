-- Words that a system reads: a state, and at each of a list of things one letter, which leads to a next state or is refused.
--   step      the next state, if the letter is allowed
--   accepts   whether a word is one of the system
--   words     all of them; in the order of the letters, the first letter slowest
--   greedy    the one that takes at each thing the first letter that is allowed
--   following the next one after a word: the last letter that can gives way to a later one, and then it is greedy again
--   all_words  all words of a length, whatever the system
use Rattle.std.specs.Prelude.{ℕ, zero, suc, Bool, true, false, List, [], ◌∷◌, map}
use Rattle.std.proofs.Math.Option.{Option, none, some}
use Rattle.meaning.specs.Basics.{and_then, each, holds, or_else}

-- What follows from an answer that may be missing
abbrev pub list_of : {A B : Type 0} → (A → List B) → Option A → List B
list_of f none = []
list_of f (some a) = f a

abbrev pub all_words : {L : Type 0} → List L → ℕ → List (List L)
all_words letters zero = [] ∷ []
all_words letters (suc k) = each (λ m. map (λ ms. m ∷ ms) (all_words letters k)) letters

unfoldable pub accepts : {S X L : Type 0} → (S → X → L → Option S) → S → List X → List L → Bool
accepts step s [] [] = true
accepts step s [] (m ∷ ms) = false
accepts step s (x ∷ xs) [] = false
accepts step s (x ∷ xs) (m ∷ ms) = holds (λ t. accepts step t xs ms) (step s x m)

unfoldable pub words : {S X L : Type 0} → (S → X → L → Option S) → List L → S → List X → List (List L)
words step letters s [] = [] ∷ []
words step letters s (x ∷ xs) =
    each (λ m. list_of (λ t. map (λ ms. m ∷ ms) (words step letters t xs)) (step s x m)) letters

-- The first letter that is allowed, with the state after it
abbrev pub or_later : {S L : Type 0} → L → Option S → Option (L × S) → Option (L × S)
or_later m none w = w
or_later m (some t) w = some (m, t)

abbrev pub first_step : {S L : Type 0} → (L → Option S) → List L → Option (L × S)
first_step f [] = none
first_step f (m ∷ ms) = or_later m (f m) (first_step f ms)

unfoldable pub greedy : {S X L : Type 0} → (S → X → L → Option S) → List L → S → List X → List L
greedy step letters s [] = []
greedy step letters s (x ∷ xs) = list_of (λ r. r.0 ∷ greedy step letters r.1 xs) (first_step (step s x) letters)

-- `later`: the letters after a letter
unfoldable pub following : {S X L : Type 0} → (S → X → L → Option S) → List L → (L → List L) → S → List X → List L → Option (List L)
following step letters later s [] ms = none
following step letters later s (x ∷ xs) [] = none
following step letters later s (x ∷ xs) (m ∷ ms) =
    or_else (and_then (step s x m) (λ t. and_then (following step letters later t xs ms) (λ ws. some (m ∷ ws))))
    (and_then (first_step (step s x) (later m)) (λ r. some (r.0 ∷ greedy step letters r.1 xs)))

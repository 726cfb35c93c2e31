-- The list of all choices of a face. It is determined by what a choice is and by the order (`choices_are`, `choices_ordered`,
-- `choices_determined`), so that nobody has to believe how it is made.
--   is_choice   the test of a choice
--   all_marks   all ways to mark so many nodes, in order
use Rattle.std.specs.Prelude.{ℕ, zero, suc, ◌-◌, Bool, true, false, ◌&&◌, not, List, [], ◌∷◌, ◌++◌, map, take, eqb}
use Rattle.std.proofs.Math.Option.{none, some}
use Rattle.meaning.specs.Basics.{choose, each, every, keep, up_to}
use Rattle.meaning.specs.Term.{Term, one, size}
use Rattle.meaning.specs.Equal.{View}
use Rattle.meaning.specs.Choice.{Mark, Marks, Owner, above_face, node_of_face, set_size, uses_face, views}
use Rattle.meaning.specs.Same.{same_view}

abbrev pub same_owner : Owner → Owner → Bool
same_owner (node_of_face m) (node_of_face n) = eqb m n
same_owner (node_of_face m) (above_face n) = false
same_owner (above_face m) (node_of_face n) = false
same_owner (above_face m) (above_face n) = eqb m n

-- The same as a test. The views of the nodes that become hole i
abbrev pub is_place : ℕ → Mark → Bool
is_place i none = false
is_place i (some j) = eqb i j

abbrev pub chosen : ℕ → Marks → List (View Owner) → List (View Owner)
chosen i [] us = []
chosen i (m ∷ ms) [] = []
chosen i (m ∷ ms) (u ∷ us) = choose (is_place i m) (u ∷ chosen i ms us) (chosen i ms us)

abbrev pub same_owned : View Owner → View Owner → Bool
same_owned u v = same_view same_owner u v

abbrev pub all_same : List (View Owner) → Bool
all_same [] = true
all_same (u ∷ us) = every (same_owned u) us

abbrev pub fits_place : List (View Owner) → Marks → ℕ → Bool
fits_place us ms i = all_same (chosen i ms us) && every (λ u. not (uses_face u)) (chosen i ms us)

-- Of the nodes that follow a marked one, those below it are not marked
abbrev pub are_apart : Marks → List (View Owner) → Bool
are_apart [] us = true
are_apart (m ∷ ms) [] = true
are_apart (none ∷ ms) (u ∷ us) = are_apart ms us
are_apart (some i ∷ ms) (u ∷ us) = eqb (set_size (take (size u - 1) ms)) 0 && are_apart ms us

abbrev pub is_choice : ℕ → Term → Marks → Bool
is_choice n face ms = every (fits_place (views face) ms) (up_to n) && are_apart ms (views face)

-- All ways to mark so many nodes, in that order
abbrev pub marks_of : ℕ → List Mark
marks_of n = map some (up_to n) ++ (none ∷ [])

abbrev pub all_marks : ℕ → ℕ → List Marks
all_marks n zero = [] ∷ []
all_marks n (suc size) = each (λ (m : Mark). map (λ (ms : Marks). m ∷ ms) (all_marks n size)) (marks_of n)

-- The choices of a face in order
abbrev pub choices : ℕ → Term → List Marks
choices n face = keep (is_choice n face) (all_marks n (size (one face)))

-- A choice is a path: the nodes of a face in preorder are gone through once, and each is passed or becomes a hole.
--   Node     what a path knows of a node: its size, and its class, none if no choice takes the node
--   State    how many of the next nodes lie below a hole, and for each place its class, none as long as it has no hole
--   next     the state after a node with this mark, if that is allowed
--   paths    the marks of all paths, in the order of document 01: `paths_choices` says that they are its choices
--   first_path, next_path    the first of them, and the one after a path
--   Tells    the nodes tell the views of a face: sizes, equality, and which use a variable bound inside the face above them
use Rattle.std.specs.Prelude.{◌≡◌, ◌↔◌, ℕ, zero, suc, ◌-◌, Bool, true, false, not, List, [], ◌∷◌, ◌++◌, map, length, replicate, set, eqb}
use Rattle.std.proofs.Math.Option.{Option, none, some}
use Rattle.std.proofs.Math.ListN.{get_elem?}
use Rattle.meaning.specs.Basics.{and_then, count_from, guard, is_some}
use Rattle.meaning.specs.Term.{size}
use Rattle.meaning.specs.Equal.{View}
use Rattle.meaning.specs.Choice.{Mark, Marks, Owner, uses_face}
use Rattle.meaning.specs.Choices.{marks_of}
use Rattle.paths.specs.Words.{following, greedy, words}

pub record Node : Type 0 where
  pub size : ℕ
  pub class : Option ℕ

pub record State : Type 0 where
  pub skip : ℕ
  pub classes : List (Option ℕ)

-- No hole so far, with n places
abbrev pub unset : ℕ → State
unset n = record { skip = 0; classes = replicate n none }

-- One place
abbrev pub one_place : ℕ → Option ℕ → State
one_place skip c = record { skip = skip; classes = c ∷ [] }

-- Of a place as it is found among the classes: one that is not there takes no node, one without a hole takes any class, another its own
abbrev pub takes : Option (Option ℕ) → ℕ → Bool
takes none c = false
takes (some none) c = true
takes (some (some d)) c = eqb d c

-- After a node that is passed, and after a hole of place q at a node of this size and class: what lies below it is no hole
abbrev pub passed : State → State
passed s = record { skip = s.skip - 1; classes = s.classes }

abbrev pub holed : State → ℕ → ℕ → ℕ → State
holed s q size c = record { skip = size - 1; classes = set s.classes q (some c) }

unfoldable pub next : State → Node → Mark → Option State
next s x none = some (passed s)
next s x (some q) =
    guard (eqb s.skip 0) (and_then x.class (λ c. guard (takes (get_elem? s.classes q) c) (some (holed s q x.size c))))

abbrev pub letters : State → List Mark
letters s = marks_of (length s.classes)

abbrev pub paths : State → List Node → List Marks
paths s xs = words next (letters s) s xs

abbrev pub first_path : State → List Node → Marks
first_path s xs = greedy next (letters s) s xs

-- After the hole of a place come the holes of later places, and then none
abbrev pub later_marks : ℕ → Mark → List Mark
later_marks n none = []
later_marks n (some q) = map some (count_from (suc q) (n - suc q)) ++ (none ∷ [])

abbrev pub next_path : State → List Node → Marks → Option Marks
next_path s xs ms = following next (letters s) (later_marks (length s.classes)) s xs ms

-- Size and class by the number of a node
abbrev pub size_at : List Node → ℕ → ℕ
size_at [] k = 0
size_at (x ∷ xs) zero = x.size
size_at (x ∷ xs) (suc k) = size_at xs k

abbrev pub class_at : List Node → ℕ → Option ℕ
class_at [] k = none
class_at (x ∷ xs) zero = x.class
class_at (x ∷ xs) (suc k) = class_at xs k

pub record Tells (us : List (View Owner)) (xs : List Node) : Type 0 where
  pub long : length xs ≡ length us
  pub sizes : (k : ℕ) (u : View Owner) → get_elem? us k ≡ some u → size_at xs k ≡ size u
  pub usable : (k : ℕ) (u : View Owner) → get_elem? us k ≡ some u → is_some (class_at xs k) ≡ not (uses_face u)
  pub same : (j k c : ℕ) (u v : View Owner) → get_elem? us j ≡ some u → get_elem? us k ≡ some v → class_at xs j ≡ some c
      → (class_at xs k ≡ some c) ↔ (u ≡ v)

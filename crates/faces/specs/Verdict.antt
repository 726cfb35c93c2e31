-- What the answers of this crate mean for a problem.
--   FirstAt   the node j is that of the function f's first face, and the term there is its face
--   Says      a refusal is document 01's; else the problem passes the checks, and its faces are as told
use Rattle.std.specs.Prelude.{◌≡◌, ℕ, List, [], ◌∷◌, length, take, Ok, Err, Some, None}
use Rattle.std.proofs.Math.Option.{none, some}
use Rattle.meaning.specs.Limits.{max_face_nodes}
use Rattle.meaning.specs.Term.{node_at}
use Rattle.meaning.specs.Problem.{Problem, expressions}
use Rattle.meaning.specs.Face.{Face, faces, first_face}
use Rattle.meaning.specs.Row.{face_of}
use Rattle.meaning.specs.Read.{Answer, refused, got}
use Rattle.meaning.specs.Limits.{max_face_nodes}
use Rattle.meaning.specs.Accept.{check_problem}
use Rattle.faces.specs.Recorded.{Recorded}
use Rattle.refusal.specs.Number.{number}
use Rattle.faces.specs.Check.{Checked}

pub record FirstAt (p : Problem) (xs : List Face) (f j : ℕ) : Type 0 where
  pub face : Face
  pub is_first : first_face f xs ≡ some face
  pub node : j ≡ face.node
  pub term : node_at j (expressions p) ≡ some (face_of p f)

-- One node for each function, in order
abbrev pub FirstsAt : Problem → List Face → List ℕ → List ℕ → Type 0
FirstsAt p xs [] [] = Unit {0}
FirstsAt p xs [] (j ∷ js) = ⊥
FirstsAt p xs (f ∷ fs) [] = ⊥
FirstsAt p xs (f ∷ fs) (j ∷ js) = FirstAt p xs f j × FirstsAt p xs fs js

-- The faces of an accepted problem, recorded at the front of a list
pub record Told (p : Problem) (new : List ℕ) (n : ℕ) : Type 0 where
  pub passes : check_problem max_face_nodes p ≡ got p
  pub found : List Face
  pub agree : faces p ≡ some found
  pub count : length found ≡ n
  pub recorded : Recorded p (take n new) found

-- A refusal, or that the problem passes
abbrev pub answer_of : Problem → Checked → Answer Problem
answer_of p (Err r) = refused (number r)
answer_of p (Ok o) = got p

abbrev pub Says : Problem → List ℕ → Checked → Type 0
Says p new (Err r) = check_problem max_face_nodes p ≡ refused (number r)
Says p new (Ok None) = (check_problem max_face_nodes p ≡ got p) × (faces p ≡ none)
Says p new (Ok (Some n)) = Told p new n

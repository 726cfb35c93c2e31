-- Rows as masks: one choice for each of so many functions.
--   nodes      the node of each function's face, for the functions that are there
--   mask row   a list of masks, one for each function; a function that is not there has one choice, the empty one
--   first_at    the first choice of a function
--   mask_rows   all of them in order: the first function slowest, each function's choices in the order of their paths
--   Steps      what a step from one mask row leads to: the next, or none
use Rattle.std.specs.Prelude.{◌≡◌, Bool, true, false, List, [], ◌∷◌, ◌++◌, map, ℕ, eqb, ltb}
use Rattle.meaning.specs.Limits.{max_face_nodes, max_functions}
use Rattle.meaning.specs.Basics.{choose, up_to}
use Rattle.meaning.specs.Rows.{product}
use Rattle.meaning.specs.Search.{Place, at, past, place_of}
use Rattle.meaning.specs.PlaceValue.{mask_of}
use Rattle.tokens.specs.Key as table
use Rattle.paths.specs.Paths.{first_path, paths, unset}
use Rattle.choosing.specs.FaceNodes.{nodes_from}

abbrev pub MaskRow : Type 0
MaskRow = List ℕ

-- The masks of the choices of the face at a root, in order
unfoldable pub choices_from : List ℕ → List ℕ → ℕ → List ℕ
choices_from ns es root = map (mask_of max_face_nodes) (paths (unset 1) (nodes_from ns es root))

-- Those of function k
unfoldable pub choices_at : List ℕ → List ℕ → List ℕ → ℕ → ℕ → List ℕ
choices_at ns es nodes count k = choose (ltb k count) (choices_from ns es (table.at nodes k)) (0 ∷ [])

abbrev pub first_from : List ℕ → List ℕ → ℕ → ℕ
first_from ns es root = mask_of max_face_nodes (first_path (unset 1) (nodes_from ns es root))

unfoldable pub first_at : List ℕ → List ℕ → List ℕ → ℕ → ℕ → ℕ
first_at ns es nodes count k = choose (ltb k count) (first_from ns es (table.at nodes k)) 0

-- The choices of a list that come after one of them
unfoldable pub behind : List ℕ → ℕ → List ℕ
behind [] m = []
behind (x ∷ xs) m = choose (eqb x m) xs (behind xs m)

-- x is the choice after m
abbrev pub Next : List ℕ → ℕ → ℕ → Type 0
Next cs m x = behind cs m ≡ x ∷ behind cs x

unfoldable pub mask_rows : List ℕ → List ℕ → List ℕ → ℕ → List MaskRow
mask_rows ns es nodes count = product (map (choices_at ns es nodes count) (up_to max_functions))

-- The answer of a step that leads to a place: whether there is a row, and the row; where there is none it may be any.
pub record Leads (place : Place MaskRow) (more : Bool) (row : MaskRow) : Type 0 where
  pub goes : more ≡ true → place ≡ at row
  pub ends : more ≡ false → place ≡ past

-- The answer of the step from a row: it leads to the place after the row, wherever in the list of all rows the row stands.
unfoldable pub Steps : List ℕ → List ℕ → List ℕ → ℕ → MaskRow → Bool → MaskRow → Type 0
Steps ns es nodes count row more next =
    (before later : List MaskRow) → mask_rows ns es nodes count ≡ before ++ (row ∷ later) → Leads (place_of later) more next

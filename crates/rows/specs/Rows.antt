-- Rows as sets of nodes: one for each function, by the faces of the functions that are there.
--   Faced      what the code asks of the tables: the faces lie in the table of expressions, and each of its nodes has a number
--   rows_of     the masks of all rows, in order
--   StepsFrom  what a step from a row leads to
--   StepsTo    the same of an answer that is the next row, or none
--   begun      a row in which the functions from one on are at their first choices again
--   StepsAt    the function that steps is the last with a node, and so many functions there are up to it
use Rattle.std.specs.Prelude.{◌≡◌, Bool, true, false, List, ℕ, zero, suc, ◌-◌, ◌<◌, ◌≤◌, length, get_or, set, Option, Some, None}
use Rattle.masks.specs.Sets.{masks_in}
use Rattle.masks.specs.declared.NodeSet.{NodeSet}
use Rattle.faces.specs.declared.first.Firsts.{Firsts}
use Rattle.choosing.specs.FaceNodes.{Faces}
use Rattle.choosing.specs.Rows.{MaskRow, Steps, choices_at, mask_rows}

pub record Faced (es ns : List ℕ) (firsts : Firsts) : Type 0 where
  pub faces : Faces es firsts.nodes firsts.count
  pub numbers : length ns ≡ length es

abbrev pub choices_of : List ℕ → List ℕ → Firsts → ℕ → List ℕ
choices_of es ns firsts k = choices_at ns es firsts.nodes firsts.count k

unfoldable pub rows_of : List ℕ → List ℕ → Firsts → List MaskRow
rows_of es ns firsts = mask_rows ns es firsts.nodes firsts.count

unfoldable pub StepsFrom : List ℕ → List ℕ → Firsts → MaskRow → Bool → MaskRow → Type 0
StepsFrom es ns firsts row more next = Steps ns es firsts.nodes firsts.count row more next

abbrev pub StepsTo : List ℕ → List ℕ → Firsts → MaskRow → Option (List NodeSet) → Type 0
StepsTo es ns firsts row (Some next) = StepsFrom es ns firsts row true (masks_in next)
StepsTo es ns firsts row None = (next : MaskRow) → StepsFrom es ns firsts row false next

-- d functions from k on
unfoldable pub begun_from : MaskRow → MaskRow → ℕ → ℕ → MaskRow
begun_from first row k zero = row
begun_from first row k (suc d) = set (begun_from first row (suc k) d) k (get_or first k 0)

abbrev pub begun : ℕ → MaskRow → ℕ → MaskRow → MaskRow
begun count first k row = begun_from first row k (count - k)

pub record StepsAt (count : ℕ) (row : MaskRow) (r : ℕ) : Type 0 where
  pub few : r ≤ count
  pub moves : 0 < r → 0 < get_or row (r - 1) 0
  pub passed : (j : ℕ) → r ≤ j → j < count → get_or row j 0 ≡ 0

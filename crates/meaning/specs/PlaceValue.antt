-- Places as a host holds them.
--   mask         a set of nodes as one number: "node set as a 64-bit mask", with T-10 one of 256 bits. A host holds it as four words of 64
--                bits, node 0 the highest bit of the first (`node_bits`)
--   PlaceValue   a mask for each function by ascending number, and whether the place is past the last
--   Names        which place of a problem a value names
use Rattle.std.specs.Prelude.{◌≡◌, ℕ, zero, suc, ◌+◌, ◌-◌, ◌*◌, ◌^◌, Bool, true, false, List, [], ◌∷◌, ◌++◌, map, length, replicate}
use Rattle.std.proofs.Math.Option.{none, some}
use Rattle.meaning.specs.Limits.{max_face_nodes, max_functions}
use Rattle.meaning.specs.Problem.{Problem}
use Rattle.meaning.specs.Choice.{Mark, Marks}
use Rattle.meaning.specs.Row.{IsRow, Row}
use Rattle.meaning.specs.Search.{Place, at, past}

-- Node k of a face is the bit of weight 2 ^ (width - 1 - k)
abbrev pub bit : Mark → ℕ
bit none = 0
bit (some i) = 1

unfoldable pub mask_of : ℕ → Marks → ℕ
mask_of w [] = 0
mask_of zero (m ∷ ms) = 0
mask_of (suc w) (m ∷ ms) = bit m * 2 ^ w + mask_of w ms

pub record PlaceValue : Type 0 where
  pub masks : List ℕ
  pub is_past : Bool

-- The mask of each function's choice, and 0 for each function that the problem does not have
unfoldable pub masks_of : Row → List ℕ
masks_of r = map (mask_of max_face_nodes) r ++ replicate (max_functions - length r) 0

unfoldable pub place_value : Place Row → PlaceValue
place_value (at r) = record { masks = masks_of r; is_past = false }
place_value past = record { masks = replicate max_functions 0; is_past = true }

-- "A place is a row, or past the last"
abbrev pub IsPlace : Problem → Place Row → Type 0
IsPlace p (at r) = IsRow p r
IsPlace p past = Unit {0}

-- A value that names no place of the problem is "no such place" (16)
pub record Names (p : Problem) (v : PlaceValue) (place : Place Row) : Type 0 where
  pub is_place : IsPlace p place
  pub is_value : v ≡ place_value place

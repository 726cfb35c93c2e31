-- Places as the code holds them.
--   value_of   the place value of `meaning`
--   Tells     what a value names, by the functions of a problem that has rows
--   Begins    the first place
--   Starts    the answer of the start for any bytes
use Rattle.std.specs.Prelude.{◌≡◌, true, false, List, replicate, Option, Some, None, Result, Ok, Err}
use Rattle.meaning.specs.Limits.{max_functions}
use Rattle.meaning.specs.Basics.{◌∈◌}
use Rattle.meaning.specs.Read.{Answer, refused, got}
use Rattle.meaning.specs.Search.{at, place_of}
use Rattle.meaning.specs.PlaceValue.{PlaceValue}
use Rattle.masks.specs.Sets.{masks_in}
use Rattle.masks.specs.declared.NodeSet.{NodeSet}
use Rattle.rows.specs.Functions.{rows_in}
use Rattle.rows.specs.declared.functions.Functions.{Functions}
use Rattle.places.specs.declared.Place.{Place}
use Rattle.places.specs.declared.Named.{Named}
use Rattle.places.specs.declared.Named.TheVariants as named
use Rattle.refusal.specs.Number.{number}
use Rattle.refusal.specs.declared.Refusal.{Refusal}
use Rattle.refusal.specs.declared.Refusal.TheVariants.{NoSuchPlace}

abbrev pub value_of : Place → PlaceValue
value_of p = record { masks = masks_in p.sets; is_past = p.past }

pub record AtRow (row : List NodeSet) (r : Place) : Type 0 where
  pub sets : r.sets ≡ row
  pub here : r.past ≡ false

pub record AtPast (r : Place) : Type 0 where
  pub masks : masks_in r.sets ≡ replicate max_functions 0
  pub past : r.past ≡ true

-- A row of the problem
pub record IsRowOf (v : Place) (f : Functions) : Type 0 where
  pub here : v.past ≡ false
  pub member : masks_in v.sets ∈ rows_in f

-- Neither a row nor past the last: "16 no such place"
pub record IsNoPlace (v : Place) (o : Option Functions) (r : Refusal) : Type 0 where
  pub refusal : r ≡ NoSuchPlace
  pub no_row : (f : Functions) → o ≡ Some f → IsRowOf v f → ⊥
  pub not_past : AtPast v → ⊥

abbrev pub Tells : Place → Option Functions → Result Named Refusal → Type 0
Tells v o (Ok (named.Row f)) = (o ≡ Some f) × IsRowOf v f
Tells v o (Ok named.Past) = AtPast v
Tells v o (Err r) = IsNoPlace v o r

abbrev pub Begins : Option Functions → Place → Type 0
Begins (Some f) r = (row : List NodeSet) × (place_of (rows_in f) ≡ at (masks_in row)) × AtRow row r
Begins None r = AtPast r

-- Document 01's refusal with its number, or the value of the start
abbrev pub Starts : Answer PlaceValue → Result Place Refusal → Type 0
Starts x (Err r) = x ≡ refused (number r)
Starts x (Ok v) = x ≡ got (value_of v)

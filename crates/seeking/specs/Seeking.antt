-- Judging rows one after the other, in terms of the tables.
--   judged     whether a row of masks is a solution row, by the test on the tables
--   Judged     it is
--   Grounded   the tables are those of an accepted problem that has rows, and what the functions choose from are its rows
--   mask_reply  an answer in terms of rows of masks
--   Seeks      the promise of one call (`Keeps`) over the rows of the tables from a row on
use Rattle.std.specs.Prelude.{◌≡◌, Bool, not, true, List, ◌∷◌, ◌++◌, map, ℕ, replicate}
use Rattle.meaning.specs.Limits.{max_functions}
use Rattle.meaning.specs.Basics.{choose, is_some}
use Rattle.meaning.specs.Problem.{Problem}
use Rattle.meaning.specs.Rows.{rows}
use Rattle.meaning.specs.PlaceValue.{masks_of}
use Rattle.meaning.specs.Search.{at, past, Reply, found, end, paused, Keeps}
use Rattle.meaning.specs.Search as meant
use Rattle.masks.specs.Sets.{masks_in}
use Rattle.masks.specs.declared.NodeSet.{NodeSet}
use Rattle.choosing.specs.Rows.{MaskRow}
use Rattle.rows.specs.Rows.{StepsFrom}
use Rattle.rows.specs.Functions.{tokens_in, numbers_in, rows_in}
use Rattle.places.specs.Places.{AtRow, AtPast}
use Rattle.places.specs.declared.Place.{Place}
use Rattle.fit.specs.Laid.{Laid}
use Rattle.fit.specs.Tables.{asked, judged_in}
use Rattle.seeking.specs.declared.fixed.Fixed.{Fixed}
use Rattle.seeking.specs.declared.Answer.{Answer}
use Rattle.seeking.specs.declared.Answer.TheVariants as answers
use Rattle.seeking.specs.declared.Searched.{Searched}

abbrev pub judged : Fixed → MaskRow → Bool
judged fixed row = is_some (judged_in fixed.tables row)

abbrev pub Judged : Fixed → MaskRow → Type 0
Judged fixed row = judged fixed row ≡ true

-- The rows of the tables
abbrev pub all_rows : Fixed → List MaskRow
all_rows fixed = rows_in fixed.functions

pub record Grounded (fixed : Fixed) : Type 0 where
  pub problem : Problem
  pub laid : Laid problem (asked fixed.tables) fixed.tables.patterns.now fixed.tables.nodes.tokens.now fixed.tables.faces.now
      fixed.tables.functions fixed.tables.firsts
  pub listed : all_rows fixed ≡ map masks_of (rows problem)

-- Past the last no mask has a node
abbrev pub Clean : Place → Type 0
Clean v = v.past ≡ true → masks_in v.sets ≡ replicate max_functions 0

-- What a step from a row leads to
abbrev pub StepsOn : Fixed → MaskRow → Bool → MaskRow → Type 0
StepsOn fixed row more next = StepsFrom (tokens_in fixed.functions) (numbers_in fixed.functions) fixed.functions.firsts row more next

-- The answers of a search from a row on
pub record Passed (fixed : Fixed) (row : List NodeSet) (r : Searched) : Type 0 where
  pub answer : r.answer ≡ answers.Found row
  pub after : StepsOn fixed (masks_in row) (not r.place.past) (masks_in r.place.sets)
  pub clean : Clean r.place

pub record Ended (r : Searched) : Type 0 where
  pub answer : r.answer ≡ answers.End
  pub place : AtPast r.place

pub record Paused (row : List NodeSet) (r : Searched) : Type 0 where
  pub answer : r.answer ≡ answers.Paused
  pub place : AtRow row r.place

-- A place and an answer in terms of rows of masks
abbrev pub mask_place : Place → meant.Place MaskRow
mask_place v = choose v.past past (at (masks_in v.sets))

abbrev pub mask_reply : Answer → Place → Reply MaskRow (meant.Place MaskRow)
mask_reply (answers.Found row) v = found (masks_in row) (mask_place v)
mask_reply answers.End v = end (mask_place v)
mask_reply answers.Paused v = paused (mask_place v)

pub record Seeks (fixed : Fixed) (row : MaskRow) (n : ℕ) (r : Searched) : Type 0 where
  pub keeps : (before later : List MaskRow) → all_rows fixed ≡ before ++ (row ∷ later)
      → Keeps (Judged fixed) n (row ∷ later) (mask_reply r.answer r.place)
  pub clean : Clean r.place

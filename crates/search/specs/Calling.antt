-- One search call, in document 01's terms.
--   host_reply   an answer as `meaning` has it: the row of a Found and the place left are place values
--   place_left   the place that the caller holds after the call
--   Answers     what a call owes: the answer is one that document 01 allows, and the place left is the one that it leaves
use Rattle.std.specs.Prelude.{◌≡◌, false, List, ℕ, Some, Result, Ok, Err}
use Rattle.meaning.specs.Basics.{Bytes}
use Rattle.meaning.specs.Accept.{accept}
use Rattle.meaning.specs.Search.{found, end, paused, refused_call}
use Rattle.meaning.specs.PlaceValue.{PlaceValue}
use Rattle.meaning.specs.Entry.{HostReply, SearchCall}
use Rattle.meaning.specs.Calls.{left}
use Rattle.masks.specs.Sets.{masks_in}
use Rattle.choosing.specs.Rows.{MaskRow}
use Rattle.rows.specs.declared.functions.Functions.{Functions}
use Rattle.fit.specs.Tables.{Room}
use Rattle.prepare.specs.Prepared.{Ready}
use Rattle.prepare.specs.declared.Prepared.{Prepared}
use Rattle.places.specs.Places.{value_of, IsRowOf}
use Rattle.places.specs.declared.Place.{Place}
use Rattle.refusal.specs.Number.{number}
use Rattle.refusal.specs.declared.Refusal.{Refusal}
use Rattle.seeking.specs.Seeking.{Seeks}
use Rattle.seeking.specs.declared.fixed.Fixed.{Fixed}
use Rattle.seeking.specs.declared.Answer.{Answer}
use Rattle.seeking.specs.declared.Answer.TheVariants as answers
use Rattle.seeking.specs.declared.Searched.{Searched}

abbrev pub row_value : MaskRow → PlaceValue
row_value row = record { masks = row; is_past = false }

abbrev pub reply_with : Answer → PlaceValue → HostReply
reply_with (answers.Found row) v = found (row_value (masks_in row)) v
reply_with answers.End v = end v
reply_with answers.Paused v = paused v

abbrev pub host_reply : Result Searched Refusal → HostReply
host_reply (Ok r) = reply_with r.answer (value_of r.place)
host_reply (Err e) = refused_call (number e)

-- "A refusal returns its number only": the caller still has the place that it handed in
abbrev pub place_left : Place → Result Searched Refusal → Place
place_left place (Ok r) = r.place
place_left place (Err e) = place

pub record Answers (s : Bytes) (place : Place) (n : ℕ) (r : Result Searched Refusal) : Type 0 where
  pub call : SearchCall s (value_of place) n (host_reply r)
  -- "the same place after a refusal"
  pub leaves : value_of (place_left place r) ≡ left (value_of place) (host_reply r)

-- What a call on a prepared problem requires, and owes
pub record Callable (prepared : Prepared) (scratch : List ℕ) : Type 0 where
  pub bytes : Bytes
  pub ready : Ready (accept bytes) prepared
  pub room : Room prepared.tables scratch

-- The place is a row of the problem, which its functions choose
abbrev pub RowThere : Prepared → Functions → Place → Type 0
RowThere prepared f place = (prepared.functions ≡ Some f) × IsRowOf place f

pub record Sought (prepared : Prepared) (f : Functions) (row : MaskRow) (n : ℕ) (r : Searched) : Type 0 where
  pub fixed : Fixed
  pub tables : fixed.tables ≡ prepared.tables
  pub functions : fixed.functions ≡ f
  pub seeks : Seeks fixed row n r

unfoldable pub Placed : Prepared → Place → ℕ → Result Searched Refusal → Type 0
Placed prepared place n r = (s : Bytes) → Ready (accept s) prepared → Answers s place n r

-- A search call with the text of what it finds.
--   searched_of   the answer of the search call alone
--   Handed        the text that is handed over: of a Found that of its row, at the buffer's front; else the buffer stays as it was
--   Finds         the answer of a search call, and the text
use Rattle.std.specs.Prelude.{◌≡◌, ℕ, Result, Ok, Err}
use Rattle.meaning.specs.Basics.{Bytes}
use Rattle.meaning.specs.Read.{got}
use Rattle.meaning.specs.Entry.{WriteCall}
use Rattle.masks.specs.Sets.{masks_in}
use Rattle.places.specs.declared.Place.{Place}
use Rattle.refusal.specs.declared.Refusal.{Refusal}
use Rattle.seeking.specs.declared.Answer.{Answer}
use Rattle.seeking.specs.declared.Answer.TheVariants as answers
use Rattle.seeking.specs.declared.Searched.{Searched}
use Rattle.search.specs.Calling.{Answers, row_value}
use Rattle.finding.specs.declared.Finding.{Finding}

abbrev pub searched_of : Result Finding Refusal → Result Searched Refusal
searched_of (Ok f) = Ok f.searched
searched_of (Err e) = Err e

abbrev pub Handed : Bytes → Bytes → Bytes → ℕ → Answer → Type 0
Handed s before after n (answers.Found row) = WriteCall s (row_value (masks_in row)) before (got n) after
Handed s before after n answers.End = after ≡ before
Handed s before after n answers.Paused = after ≡ before

abbrev pub HandedBy : Bytes → Bytes → Bytes → Result Finding Refusal → Type 0
HandedBy s before after (Ok f) = Handed s before after f.length f.searched.answer
HandedBy s before after (Err e) = after ≡ before

pub record Finds (s : Bytes) (place : Place) (n : ℕ) (before after : Bytes) (r : Result Finding Refusal) : Type 0 where
  pub call : Answers s place n (searched_of r)
  pub text : HandedBy s before after r

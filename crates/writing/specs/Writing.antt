-- What writing promises.
--   Writes     the answer for any bytes and any row, with the whole buffer
use Rattle.std.specs.Prelude.{◌≡◌, ℕ, ◌<◌, ◌≤◌, List, length, Result, Ok, Err}
use Rattle.meaning.specs.Basics.{Bytes}
use Rattle.meaning.specs.Accept.{accept}
use Rattle.meaning.specs.Entry.{WriteCall}
use Rattle.rows.specs.declared.functions.Functions.{Functions}
use Rattle.prepare.specs.Prepared.{Ready}
use Rattle.prepare.specs.declared.Prepared.{Prepared}
use Rattle.places.specs.Places.{value_of}
use Rattle.places.specs.declared.Place.{Place}
use Rattle.search.specs.Calling.{Callable, RowThere}
use Rattle.copying.specs.Fixed.{Wrote}
use Rattle.copying.specs.Answered.{answer_of}
use Rattle.composing.specs.Entries.{DenotesAll, Entries, fields_of}
use Rattle.composing.specs.declared.entry.Plan.{Plan}
use Rattle.refusal.specs.declared.Refusal.{Refusal}
use Rattle.refusal.specs.declared.Refusal.TheVariants.{BufferTooShort}

-- "18 buffer too short", or the text at the front
abbrev pub TextAnswer : Bytes → Bytes → Bytes → Result ℕ Refusal → Type 0
TextAnswer text before after (Err r) = (r ≡ BufferTooShort) × (length before < length text) × (after ≡ before)
TextAnswer text before after (Ok n) = (length text ≤ length before) × Wrote text before after n

pub record TextWritten (es : List ℕ) (plan : Plan) (before after : Bytes) (r : Result ℕ Refusal) : Type 0 where
  pub answer : (says : Entries) → DenotesAll es plan says → TextAnswer (fields_of says 0) before after r

-- Document 01's answer
abbrev pub Writes : Bytes → Place → Bytes → Bytes → Result ℕ Refusal → Type 0
Writes s row before after r = WriteCall s (value_of row) before (answer_of r) after

-- On a prepared problem: of a row of it, and of any row
pub record RowCallable (a : Prepared) (row : Place) (scratch : List ℕ) : Type 0 where
  pub callable : Callable a scratch
  pub functions : Functions
  pub is_row : RowThere a functions row

pub record RowWritten (a : Prepared) (row : Place) (before after : Bytes) (r : Result ℕ Refusal) : Type 0 where
  pub answer : (s : Bytes) → Ready (accept s) a → (f : Functions) → RowThere a f row → Writes s row before after r

pub record NamedWritten (a : Prepared) (row : Place) (before after : Bytes) (r : Result ℕ Refusal) : Type 0 where
  pub answer : (s : Bytes) → Ready (accept s) a → Writes s row before after r

-- What reading a solution text promises. "19 text over 8,192 bytes; 20 not fields 8, 9, 11 with contents as above, .."; T-07: "27 when a
-- number isn't above the one before it".
--   text_room     the entries of a table that has room for the terms of every text
--   FieldsDone   a field cannot be read, and the refusal is 20; or whether the numbers rise, and, if they do, what the items say is held,
--                with their terms at the front of the table
--   TextDone     the refusal; or the same of the whole text
use Rattle.std.specs.Prelude.{◌≡◌, ℕ, ◌≤◌, true, List, length, take, Result, Ok, Err}
use Rattle.meaning.specs.Limits.{largest_text}
use Rattle.meaning.specs.Basics.{Bytes}
use Rattle.meaning.specs.Text.{Item, numbers, rises}
use Rattle.meaning.specs.Read.{Answer, refused, got}
use Rattle.refusal.specs.Number.{number}
use Rattle.refusal.specs.declared.Refusal.{Refusal}
use Rattle.refusal.specs.declared.Refusal.TheVariants.{TextMalformed}
use Rattle.said.specs.Said.{SaidBy}
use Rattle.items.specs.declared.Fields.{Fields}
use Rattle.items.specs.declared.Text.{Text}

-- 8,192 bytes have at most 2,730 nodes
abbrev pub text_room : ℕ
text_room = 2731

pub record TextSpace (text : Bytes) (table : List ℕ) : Type 0 where
  pub short : length text ≤ largest_text
  pub room : text_room ≤ length table

pub record FieldsRead (a : Answer (List Item)) (table : List ℕ) (r : Fields) : Type 0 where
  pub items : List Item
  pub answer : a ≡ got items
  pub rising : r.rising ≡ rises (numbers items)
  pub within : r.text.used ≤ length table
  pub says : rises (numbers items) ≡ true → SaidBy (take r.text.used table) items r.text.said

abbrev pub FieldsDone : Answer (List Item) → List ℕ → Result Fields Refusal → Type 0
FieldsDone a table (Err e) = (e ≡ TextMalformed) × ((n : ℕ) × (a ≡ refused n))
FieldsDone a table (Ok r) = FieldsRead a table r

pub record TextRead (a : Answer (List Item)) (table : List ℕ) (r : Text) : Type 0 where
  pub items : List Item
  pub answer : a ≡ got items
  pub within : r.used ≤ length table
  pub says : SaidBy (take r.used table) items r.said

abbrev pub TextDone : Answer (List Item) → List ℕ → Result Text Refusal → Type 0
TextDone a table (Err e) = a ≡ refused (number e)
TextDone a table (Ok r) = TextRead a table r

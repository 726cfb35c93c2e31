-- A list of calls, one for each allowance, from the start of a problem on.
--   words_of_rows rows as the buffer holds them: the words of their masks, one row after the other
--   left_by      the place that a list of calls leaves
--   Called      what one call more owes
--   FromPlace   what the calls from a place on owe: there is a list of calls that is a run from there
--   Runs        what the calls from the start owe: the third demand
use Rattle.std.specs.Prelude.{◌≡◌, ◌⊎◌, ◌↔◌, true, List, [], ◌∷◌, ◌++◌, map, ℕ, ◌+◌, ◌*◌, length, take, drop, Result, Ok, Err}
use Rattle.meaning.specs.Basics.{Bytes, each}
use Rattle.meaning.specs.Problem.{Problem}
use Rattle.meaning.specs.Read.{Answer, refused, got}
use Rattle.refusal.specs.Number.{number}
use Rattle.refusal.specs.declared.Refusal.{Refusal}
use Rattle.meaning.specs.Search.{end}
use Rattle.meaning.specs.PlaceValue.{PlaceValue}
use Rattle.meaning.specs.Entry.{HostReply, SearchCall}
use Rattle.meaning.specs.Calls.{left, Run, HostCall, Carried, found_in, founds, HasEnd, ThirdDemandOf}
use Rattle.masks.specs.Sets.{words_of}
use Rattle.choosing.specs.Rows.{MaskRow}
use Rattle.places.specs.Places.{value_of}
use Rattle.places.specs.declared.Place.{Place}
use Rattle.words.specs.Words.{row_words}
use Rattle.calls.specs.declared.Progress.{Progress}
use Rattle.calls.specs.declared.Ran.{Ran}

abbrev pub words_of_row : MaskRow → List ℕ
words_of_row row = each words_of row

abbrev pub words_of_rows : List PlaceValue → List ℕ
words_of_rows vs = each (λ v. words_of_row v.masks) vs

abbrev pub IsEnd : HostReply → Type 0
IsEnd reply = (v : PlaceValue) × (reply ≡ end v)

-- The reply is one that document 01 allows at the place at hand; the place that it leaves, its row and its End are added
pub record Called (s : Bytes) (at : Progress) (n : ℕ) (before after : List ℕ) (r : Progress) : Type 0 where
  pub reply : HostReply
  pub call : SearchCall s (value_of at.place) n reply
  pub leaves : value_of r.place ≡ left (value_of at.place) reply
  pub found : r.found ≡ at.found + length (found_in reply)
  pub ended : (r.ended ≡ true) ↔ ((at.ended ≡ true) ⊎ IsEnd reply)
  pub long : length (words_of_rows (found_in reply)) ≡ row_words * length (found_in reply)
  pub rows : after ≡ take (row_words * at.found) before ++ words_of_rows (found_in reply) ++ drop (row_words * r.found) before

abbrev pub left_by : PlaceValue → List HostCall → PlaceValue
left_by v [] = v
left_by v (c ∷ cs) = left_by (left v c.reply) cs

pub record FromPlace (s : Bytes) (place : Place) (ns before after : List ℕ) (r : Progress) : Type 0 where
  pub calls : List HostCall
  pub allowances : map (λ c. c.allowance) calls ≡ ns
  pub run : Run (SearchCall s) (value_of place) calls
  pub leaves : value_of r.place ≡ left_by (value_of place) calls
  pub found : r.found ≡ length (founds calls)
  pub ended : (r.ended ≡ true) ↔ HasEnd calls
  pub long : length (words_of_rows (founds calls)) ≡ row_words * length (founds calls)
  pub rows : after ≡ words_of_rows (founds calls) ++ drop (row_words * r.found) before

-- "0 or more search calls on one accepted problem. The first gets the start": for any allowances the calls made meet the third demand, and
-- the buffer, the count and the flag tell their Founds and whether they have an End
pub record Demanded (s : Bytes) (p : Problem) (ns before after : List ℕ) (r : Ran) : Type 0 where
  pub calls : List HostCall
  pub allowances : map (λ c. c.allowance) calls ≡ ns
  pub carried : Carried s p calls
  pub demand : ThirdDemandOf p calls
  pub found : r.found ≡ length (founds calls)
  pub ended : (r.ended ≡ true) ↔ HasEnd calls
  pub rows : after ≡ words_of_rows (founds calls) ++ drop (row_words * r.found) before

-- "A refusal returns its number only. The output buffer and open search stay"
unfoldable pub Runs : Answer Problem → Bytes → List ℕ → List ℕ → List ℕ → Result Ran Refusal → Type 0
Runs x s ns before after (Err e) = (x ≡ refused (number e)) × (after ≡ before)
Runs x s ns before after (Ok r) = (p : Problem) × (x ≡ got p) × Demanded s p ns before after r

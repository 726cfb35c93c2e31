-- Calls on an open search: "A host keeps one open search and hands it to each call, which moves its place."
--   OpenAt        the open search holds the place
--   searched_by    the same call as if the place were handed in and handed back
--   OpenAnswers   what one call owes: just what a call owes that is handed a place, and that a refusal leaves the place
use Rattle.std.specs.Prelude.{◌≡◌, ℕ, Result, Ok, Err}
use Rattle.meaning.specs.Basics.{Bytes}
use Rattle.meaning.specs.Calls.{left}
use Rattle.meaning.specs.Entry.{SearchCall}
use Rattle.places.specs.Places.{value_of}
use Rattle.places.specs.declared.Place.{Place}
use Rattle.refusal.specs.declared.Refusal.{Refusal}
use Rattle.search.specs.Calling.{host_reply}
use Rattle.seeking.specs.declared.Answer.{Answer}
use Rattle.seeking.specs.declared.Searched.{Searched}
use Rattle.matcher.specs.declared.OpenSearch.{OpenSearch}

abbrev pub OpenAt : Place → OpenSearch → Type 0
OpenAt place kept = kept.place ≡ place

abbrev pub searched_by : Place → Result Answer Refusal → Result Searched Refusal
searched_by after (Ok a) = Ok (record { answer = a; place = after })
searched_by after (Err e) = Err e

pub record OpenAnswers (s : Bytes) (before : Place) (n : ℕ) (after : Place) (r : Result Answer Refusal) : Type 0 where
  pub call : SearchCall s (value_of before) n (host_reply (searched_by after r))
  pub leaves : value_of after ≡ left (value_of before) (host_reply (searched_by after r))
  -- "The output buffer and open search stay" on a refusal
  pub stays : (e : Refusal) → r ≡ Err e → after ≡ before

-- Lists of calls, "whether the caller carries it or the open search keeps it", in Rattle and in C. Each is known by what the host sees: what
-- it handed in, what came back, and what its buffers hold.
--   Carried..   `search`, each call with the place that the one before it left
--   Kept..      `search_open` and `search_owned`, on one open search that is lent or handed over and back
--   C..         `matcher_search`, on one buffer for the place
--   ..Run       each call begins where the one before it left off
--   ..Found     the rows of the Founds, in the order of the calls, as they are handed to the writer
--   ..End       one of the calls answered End
--   ..Allowed   how many of the calls have an allowance above 0
use Rattle.std.specs.Prelude.{◌≡◌, ◌⊎◌, false, List, [], ◌∷◌, ◌++◌, map, ℕ, ◌+◌, eqb, length, Result, Ok, Err}
use Rattle.meaning.specs.Basics.{Bytes, choose, ◌∈◌}
use Rattle.meaning.specs.Calls.{allowed}
use Rattle.places.specs.declared.Place.{Place}
use Rattle.refusal.specs.declared.Refusal.{Refusal}
use Rattle.search.specs.Calling.{place_left}
use Rattle.seeking.specs.declared.Answer.{Answer}
use Rattle.seeking.specs.declared.Answer.TheVariants as answers
use Rattle.seeking.specs.declared.Searched.{Searched}
use Rattle.matcher.specs.Opened.{searched_by}
use Rattle.matcher.specs.declared.OpenSearch.{OpenSearch}
use Rattle.words.specs.Words.{has_place}
use Rattle.promises.specs.Called.{CSearchCalled, OpenCalled, OwnedCalled, SearchCalled}

-- The caller carries the place: after a refusal the one that it handed in
pub record CarriedCall : Type 0 where
  pub allowance : ℕ
  pub gave : Result Searched Refusal

abbrev pub CarriedRun : Bytes → Place → List CarriedCall → Type 0
CarriedRun s place [] = Unit {0}
CarriedRun s place (c ∷ cs) = SearchCalled s place c.allowance c.gave × CarriedRun s (place_left place c.gave) cs

abbrev pub row_in : Answer → List Place
row_in (answers.Found row) = record { sets = row; past = false } ∷ []
row_in answers.End = []
row_in answers.Paused = []

abbrev pub row_found : Result Searched Refusal → List Place
row_found (Ok r) = row_in r.answer
row_found (Err e) = []

abbrev pub carried_found : List CarriedCall → List Place
carried_found [] = []
carried_found (c ∷ cs) = row_found c.gave ++ carried_found cs

abbrev pub AnsweredEnd : Result Searched Refusal → Type 0
AnsweredEnd (Ok r) = r.answer ≡ answers.End
AnsweredEnd (Err e) = ⊥

abbrev pub CarriedEnd : List CarriedCall → Type 0
CarriedEnd cs = (c : CarriedCall) × (c ∈ cs) × AnsweredEnd c.gave

abbrev pub carried_allowed : List CarriedCall → ℕ
carried_allowed [] = 0
carried_allowed (c ∷ cs) = allowed c.allowance + carried_allowed cs

-- The open search keeps it
pub record KeptCall : Type 0 where
  pub allowance : ℕ
  pub answer : Result Answer Refusal
  -- the open search as the call leaves it
  pub leaves : OpenSearch

abbrev pub KeptCalled : Bytes → OpenSearch → KeptCall → Type 0
KeptCalled s kept c =
    OpenCalled kept s c.allowance c.answer c.leaves
    ⊎ OwnedCalled kept s c.allowance (record { search = c.leaves; answer = c.answer })

abbrev pub KeptRun : Bytes → OpenSearch → List KeptCall → Type 0
KeptRun s kept [] = Unit {0}
KeptRun s kept (c ∷ cs) = KeptCalled s kept c × KeptRun s c.leaves cs

-- The same calls as if the place were handed in and handed back
abbrev pub kept_calls : List KeptCall → List CarriedCall
kept_calls cs = map (λ c. record { allowance = c.allowance; gave = searched_by c.leaves.place c.answer }) cs

-- In C
pub record CCall : Type 0 where
  pub allowance : ℕ
  -- the row buffer before the call
  pub row : List ℕ
  pub answer : ℕ
  -- the place and the row buffer after it
  pub place' : List ℕ
  pub row' : List ℕ

abbrev pub CRun : Bytes → List ℕ → List CCall → Type 0
CRun s place [] = Unit {0}
CRun s place (c ∷ cs) = CSearchCalled s place c.row c.allowance c.answer c.place' c.row' × CRun s c.place' cs

-- "MATCHER_FOUND 256"
abbrev pub c_found : List CCall → List (List ℕ)
c_found [] = []
c_found (c ∷ cs) = choose (eqb c.answer 256) (c.row' ∷ c_found cs) (c_found cs)

-- "MATCHER_END 258"
abbrev pub CEnd : List CCall → Type 0
CEnd cs = (c : CCall) × (c ∈ cs) × (c.answer ≡ 258)

-- A call whose row buffer is too short for a row is refused (18) whatever its allowance, so that it does not count
abbrev pub c_allowed : List CCall → ℕ
c_allowed [] = 0
c_allowed (c ∷ cs) = choose (has_place (length c.row)) (allowed c.allowance) 0 + c_allowed cs

-- Lists of calls: "0 or more search calls on one accepted problem. The first gets the start. Each later one gets the place that the call
-- before it left, whether the caller carries it or the open search keeps it".
--   Call         an allowance and the answer to it; R is how a row is held, P how a place is
--   left         the place that a call leaves
--   Run          a list of calls in which the caller carries the place; `answers` says what one call may answer
--   Kept         a list of calls on an open search, with the place that it holds after each
--   Carried, Held   the same for the search call of a host, on one accepted problem from its start
--   ThirdDemand  what a list of calls owes as a whole
use Rattle.std.specs.Prelude.{◌≡◌, ℕ, zero, suc, ◌+◌, ◌<◌, List, [], ◌∷◌, ◌++◌, map, length, take}
use Rattle.meaning.specs.Basics.{Bytes, ◌∈◌}
use Rattle.meaning.specs.Problem.{Problem}
use Rattle.meaning.specs.Read.{got}
use Rattle.meaning.specs.Row.{AreRows, Row}
use Rattle.meaning.specs.FullList.{IsFullList, Listed}
use Rattle.meaning.specs.Accept.{accept}
use Rattle.meaning.specs.Search.{Reply, at, end, found, paused, refused_call, start}
use Rattle.meaning.specs.PlaceValue.{PlaceValue, place_value}
use Rattle.meaning.specs.Entry.{SearchCall}

pub record Call (R P : Type 0) : Type 0 where
  pub allowance : ℕ
  pub reply : Reply R P

-- "the new place after Found or Paused, past the last after End, the same place after a refusal (15)"
abbrev pub left : {R P : Type 0} → P → Reply R P → P
left place (found r next) = next
left place (end next) = next
left place (paused next) = next
left place (refused_call r) = place

abbrev pub Run : {R P : Type 0} → (P → ℕ → Reply R P → Type 0) → P → List (Call R P) → Type 0
Run answers place [] = Unit {0}
Run answers place (c ∷ cs) = answers place c.allowance c.reply × Run answers (left place c.reply) cs

pub record KeptCall (R P : Type 0) : Type 0 where
  pub call : Call R P
  -- what the open search holds when the call has returned
  pub holds : P

abbrev pub Kept : {R P : Type 0} → (P → ℕ → Reply R P → Type 0) → P → List (KeptCall R P) → Type 0
Kept answers place [] = Unit {0}
Kept answers place (c ∷ cs) =
    answers place c.call.allowance c.call.reply × (c.holds ≡ left place c.call.reply) × Kept answers c.holds cs

abbrev pub calls_of : {R P : Type 0} → List (KeptCall R P) → List (Call R P)
calls_of cs = map (λ c. c.call) cs

abbrev pub HostCall : Type 0
HostCall = Call PlaceValue PlaceValue

-- "on one accepted problem. The first gets the start."
pub record Carried (s : Bytes) (p : Problem) (cs : List HostCall) : Type 0 where
  pub accepted : accept s ≡ got p
  pub run : Run (SearchCall s) (place_value (start p)) cs

pub record Held (s : Bytes) (p : Problem) (cs : List (KeptCall PlaceValue PlaceValue)) : Type 0 where
  pub accepted : accept s ≡ got p
  pub kept : Kept (SearchCall s) (place_value (start p)) cs

-- The rows of the Founds, in the order of the calls
abbrev pub found_in : {R P : Type 0} → Reply R P → List R
found_in (found r next) = r ∷ []
found_in (end next) = []
found_in (paused next) = []
found_in (refused_call r) = []

abbrev pub founds : {R P : Type 0} → List (Call R P) → List R
founds [] = []
founds (c ∷ cs) = found_in c.reply ++ founds cs

pub record HasEnd {R P : Type 0} (cs : List (Call R P)) : Type 0 where
  pub call : Call R P
  pub is_in : call ∈ cs
  pub place : P
  pub is_end : call.reply ≡ end place

-- How many calls have an allowance above 0
abbrev pub allowed : ℕ → ℕ
allowed zero = 0
allowed (suc n) = 1

abbrev pub positive : {R P : Type 0} → List (Call R P) → ℕ
positive [] = 0
positive (c ∷ cs) = allowed c.allowance + positive cs

-- The value of the row of a solution in the full list
abbrev pub given_row : Listed → PlaceValue
given_row x = place_value (at x.0)

-- "The third demand is a single claim about the whole list of calls, and not one for each call". A list of calls is known here by what is
-- seen of it: the rows of its Founds in their order, whether it has an End, and how many of its calls have n above 0
pub record ThirdDemand (p : Problem) (given : List PlaceValue) (ended : Type 0) (allowances : ℕ) : Type 0 where
  pub rows : List Row
  pub are_rows : AreRows p rows
  pub full : List Listed
  pub is_full : IsFullList p full
  -- "with k Founds in it, their rows in the order of the calls equal the first k rows of the full list"
  pub prefix : given ≡ map given_row (take (length given) full)
  -- "If it has an End, k is the full list's length"
  pub whole : ended → given ≡ map given_row full
  -- "If more of its calls have n above 0 than the problem has rows, it has an End"
  pub ends : length rows < allowances → ended

abbrev pub ThirdDemandOf : Problem → List HostCall → Type 0
ThirdDemandOf p cs = ThirdDemand p (founds cs) (HasEnd cs) (positive cs)

-- THE THREE DEMANDS, on one page, of the functions that a host calls. What is quoted are the demands' own words. That all of it holds is one
-- theorem each: `first_demand`, `second_demand` and `second_demand_in_c`, `third_demand` (proofs/Kept). T-12 is what the third says of the full
-- list in the words of source document 000. T-13 stands below them: `longest_list` and `longest_list_in_c`.
--   Interface     how a host holds a row, and what its calls of the writers and the checker come to, in Rattle or in C
--   Owed          what is owed for a list of calls
--   LongestList   T-13: how long the list of (P(X), e) can be, and the problem whose list is as long
use Rattle.std.specs.Prelude.{◌≡◌, ◌↔◌, Bool, true, false, List, map, ℕ, ◌+◌, ◌-◌, ◌^◌, ◌<◌, ◌≤◌, length, take, Result, Ok, Err}
use Rattle.meaning.specs.Limits.{largest_problem, largest_written, max_face_nodes}
use Rattle.meaning.specs.Basics.{All, Byte, Bytes, Distinct, Ordered, Pairwise, ◌∈◌}
use Rattle.meaning.specs.Term.{IsExpression, NamedTerm, one, size}
use Rattle.meaning.specs.Problem.{Problem}
use Rattle.meaning.specs.Read.{Answer, got, refused}
use Rattle.meaning.specs.Accept.{accept}
use Rattle.meaning.specs.Filling.{Filling}
use Rattle.meaning.specs.Solution.{Solution}
use Rattle.meaning.specs.Row.{AreRows, HasBodies, IsRow, Row}
use Rattle.meaning.specs.FullList.{EarlierListed, IsFullList, Listed}
use Rattle.meaning.specs.Textbook.{Textbook, left_out}
use Rattle.meaning.specs.Text.{Item, read_text, said}
use Rattle.meaning.specs.Textual.{AlphaText}
use Rattle.meaning.specs.Search.{at, past}
use Rattle.meaning.specs.PlaceValue.{Names, PlaceValue, place_value}
use Rattle.meaning.specs.Entry.{SearchCall, WriteCall, check_call, start_call}
use Rattle.meaning.specs.Calls.{given_row}
use Rattle.meaning.specs.Given.{named_by}
use Rattle.meaning.specs.Longest.{LongestCall, applied_to, heaviest, longest_problem}
use Rattle.masks.specs.declared.NodeSet.{NodeSet}
use Rattle.places.specs.Places.{value_of}
use Rattle.places.specs.declared.Place.{Place}
use Rattle.refusal.specs.Number.{number}
use Rattle.refusal.specs.declared.Refusal.{Refusal}
use Rattle.search.specs.Calling.{host_reply, place_left}
use Rattle.seeking.specs.declared.Answer as code
use Rattle.seeking.specs.declared.Searched.{Searched}
use Rattle.copying.specs.Answered as writing
use Rattle.checking.specs.Checking as checking
use Rattle.checking.specs.declared.Verdict.{Verdict}
use Rattle.matcher.specs.Opened.{searched_by}
use Rattle.matcher.specs.declared.Moved.{Moved}
use Rattle.matcher.specs.declared.OpenSearch.{OpenSearch}
use Rattle.words.specs.Words.{place_of_words}
use Rattle.tivagyesz.specs.Exported.{CheckExport, LongestExport, SearchExport, StartExport, WriteExport}
use Rattle.promises.specs.Called.{CCheckCalled, CLongestCalled, CSearchCalled, CStartCalled, CWriteCalled, CheckCalled, Ends}
use Rattle.promises.specs.Called.{LongestCalled, OpenCalled, OpenContract, OpenedCalled, OwnedCalled, PastLastCalled, RowAtCalled}
use Rattle.promises.specs.Called.{SearchCalled, StartCalled, Unasked, WriteCalled}
use Rattle.promises.specs.Numbers.{check_answer, write_answer}
use Rattle.promises.specs.Lists.{CCall, CEnd, CRun, CarriedCall, CarriedEnd, CarriedRun, KeptCall, KeptRun, c_allowed, c_found}
use Rattle.promises.specs.Lists.{carried_allowed, carried_found, kept_calls}

abbrev pub start_answer : Result Place Refusal → Answer PlaceValue
start_answer (Ok place) = got (value_of place)
start_answer (Err e) = refused (number e)

-- 1.
pub record FirstDemand : Type 2 where
  -- "Every entry point takes any bytes, place, row and allowance"
  pub anything : Unasked
  pub anything_open : OpenContract
  -- "and gives the answer or the refusal that document 01 fixes"
  pub rows_at : (row : List NodeSet) (r : Place) → RowAtCalled row r → r ≡ record { sets = row; past = false }
  pub past_last : (r : Place) → PastLastCalled r → value_of r ≡ place_value past
  pub opens : (place : Place) (r : OpenSearch) → OpenedCalled place r → r.place ≡ place
  pub starts : (s : Bytes) (r : Result Place Refusal) → StartCalled s r → start_answer r ≡ start_call s
  pub searches : (s : Bytes) (place : Place) (n : ℕ) (r : Result Searched Refusal) → SearchCalled s place n r
      → SearchCall s (value_of place) n (host_reply r)
  pub owned : (s : Bytes) (kept : OpenSearch) (n : ℕ) (r : Moved) → OwnedCalled kept s n r
      → SearchCall s (value_of kept.place) n (host_reply (searched_by r.search.place r.answer))
  pub opened : (s : Bytes) (kept kept' : OpenSearch) (n : ℕ) (r : Result code.Answer Refusal) → OpenCalled kept s n r kept'
      → SearchCall s (value_of kept.place) n (host_reply (searched_by kept'.place r))
  pub writes : (s : Bytes) (row : Place) (out out' : Bytes) (r : Result ℕ Refusal) → WriteCalled s row out r out'
      → WriteCall s (value_of row) out (writing.answer_of r) out'
  pub writes_longest : (n : ℕ) (out out' : Bytes) (r : Result ℕ Refusal) → LongestCalled n out r out'
      → LongestCall n out (writing.answer_of r) out'
  pub checks : (s text : Bytes) (r : Result Verdict Refusal) → CheckCalled s text r → checking.answer_of r ≡ check_call s text
  pub starts_in_c : (s : Bytes) (place place' : List ℕ) (r : ℕ) → CStartCalled s place r place' → StartExport s place place' r
  pub searches_in_c : (s : Bytes) (n : ℕ) (place row place' row' : List ℕ) (r : ℕ) → CSearchCalled s place row n r place' row'
      → SearchExport s n place row place' row' r
  pub writes_in_c : (s : Bytes) (row : List ℕ) (out out' : Bytes) (n n' r : ℕ) → CWriteCalled s row out n r out' n'
      → WriteExport s row out n out' n' r
  pub writes_longest_in_c : (n : ℕ) (out out' : Bytes) (k k' r : ℕ) → CLongestCalled n out k r out' k' → LongestExport n out k out' k' r
  pub checks_in_c : (s text : Bytes) (r : ℕ) → CCheckCalled s text r → CheckExport s text r
  -- "each call ends"
  pub ends : Ends
  -- "a refused call changes neither the output buffer nor the open search": with a refusal comes no place, and the caller has its own
  pub search_stays : (s : Bytes) (place : Place) (n : ℕ) (e : Refusal) (r : Result Searched Refusal) → SearchCalled s place n r → r ≡ Err e
      → place_left place r ≡ place
  pub owned_stays : (s : Bytes) (kept : OpenSearch) (n : ℕ) (e : Refusal) (r : Moved) → OwnedCalled kept s n r → r.answer ≡ Err e
      → r.search.place ≡ kept.place
  pub open_stays : (s : Bytes) (kept kept' : OpenSearch) (n : ℕ) (e : Refusal) (r : Result code.Answer Refusal) → OpenCalled kept s n r kept'
      → r ≡ Err e → kept'.place ≡ kept.place
  pub write_stays : (s : Bytes) (row : Place) (out out' : Bytes) (e : Refusal) → WriteCalled s row out (Err e) out' → out' ≡ out
  pub longest_stays : (n : ℕ) (out out' : Bytes) (e : Refusal) → LongestCalled n out (Err e) out' → out' ≡ out
  pub start_stays_in_c : (s : Bytes) (place place' : List ℕ) (r : ℕ) → CStartCalled s place r place' → 0 < r → place' ≡ place
  pub search_stays_in_c : (s : Bytes) (n : ℕ) (place row place' row' : List ℕ) (r : ℕ) → CSearchCalled s place row n r place' row' → r < 256
      → (place' ≡ place) × (row' ≡ row)
  pub write_stays_in_c : (s : Bytes) (row : List ℕ) (out out' : Bytes) (n n' r : ℕ) → CWriteCalled s row out n r out' n' → 0 < r
      → (out' ≡ out) × (n' ≡ n)
  pub longest_stays_in_c : (n : ℕ) (out out' : Bytes) (k k' r : ℕ) → CLongestCalled n out k r out' k' → 0 < r → (out' ≡ out) × (k' ≡ k)

-- A host's calls of the writer and the checker: bytes, a row as it is held, the buffer before, the answer, the buffer after; and of T-13's
-- writer, by the number of nodes
pub record Interface : Type 1 where
  pub Held : Type 0
  pub value : Held → PlaceValue
  pub Writing : Bytes → Held → Bytes → Answer ℕ → Bytes → Type 0
  pub Checking : Bytes → Bytes → Answer Bool → Type 0
  pub Longest : ℕ → Bytes → Answer ℕ → Bytes → Type 0

abbrev pub in_rattle : Interface
in_rattle = record {
  Held = Place;
  value = value_of;
  Writing = λ s row out a out'. (r : Result ℕ Refusal) × WriteCalled s row out r out' × (a ≡ writing.answer_of r);
  Checking = λ s text a. (r : Result Verdict Refusal) × CheckCalled s text r × (a ≡ checking.answer_of r);
  Longest = λ n out a out'. (r : Result ℕ Refusal) × LongestCalled n out r out' × (a ≡ writing.answer_of r);
}

abbrev pub in_c : Interface
in_c = record {
  Held = List ℕ;
  value = place_of_words;
  Writing = λ s row out a out'. (n n' r : ℕ) × CWriteCalled s row out n r out' n' × (a ≡ write_answer r n');
  Checking = λ s text a. (r : ℕ) × CCheckCalled s text r × (a ≡ check_answer r);
  Longest = λ n out a out'. (k k' r : ℕ) × CLongestCalled n out k r out' k' × (a ≡ write_answer r k');
}

-- What a written text is read back as: the solution of its row
pub record ReadBack (s : Bytes) (row : PlaceValue) (text : Bytes) : Type 0 where
  pub problem : Problem
  pub accepted : accept s ≡ got problem
  pub choices : Row
  pub named : Names problem row (at choices)
  pub filling : Filling
  pub reads : named_by text ≡ got filling
  pub solution : Solution problem filling
  pub bodies : HasBodies problem choices filling

-- 2.
pub record SecondDemand (host : Interface) : Type 0 where
  -- "A solution text passes exactly when the filling it names is a solution (capture-free, up to bound names, values for just the
  -- metavariables that need one)": terms are compared without names, and `Solution` has the rest
  pub passes : (s text : Bytes) (a : Answer Bool) → host.Checking s text a → (p : Problem) (is : List Item) → accept s ≡ got p
      → read_text text ≡ got is → (a ≡ got true) ↔ Solution p (said is)
  -- "Every written text reads back as its solution"
  pub reads_back : (s : Bytes) (row : host.Held) (out out' : Bytes) (n : ℕ) → All Byte s → host.Writing s row out (got n) out'
      → ReadBack s (host.value row) (take n out')
  pub written_passes : (s : Bytes) (row : host.Held) (out out' : Bytes) (n : ℕ) (a : Answer Bool) → All Byte s
      → host.Writing s row out (got n) out' → host.Checking s (take n out') a → a ≡ got true
  -- "every filling that passes has a row whose text names it"
  pub has_row : (s text : Bytes) → All Byte s → host.Checking s text (got true)
      → (row : host.Held) × ((out out' : Bytes) (a : Answer ℕ) → largest_written ≤ length out → host.Writing s row out a out'
      → (n : ℕ) × (a ≡ got n) × (named_by (take n out') ≡ named_by text))
  -- T-07: "Two passing texts of one problem then differ only in bound names exactly when they name the same solution"
  pub only_names : (s text text' : Bytes) (is is' : List Item) → All Byte text → All Byte text' → host.Checking s text (got true)
      → host.Checking s text' (got true) → read_text text ≡ got is → read_text text' ≡ got is' → (said is ≡ said is') ↔ AlphaText is is'

-- The text of a row, as a host holds it
abbrev pub TextOf : (host : Interface) → Bytes → host.Held → Bytes → Type 0
TextOf host s row text = (out out' : Bytes) × (n : ℕ) × host.Writing s row out (got n) out' × (text ≡ take n out')

-- By the rows of the Founds in their order, whether there is an End, and how many allowances are above 0
pub record Owed (host : Interface) (s : Bytes) (given : List host.Held) (ended : Type 0) (allowances : ℕ) : Type 1 where
  pub problem : Problem
  pub accepted : accept s ≡ got problem
  -- the full list: every solution, each once up to bound names, nothing else, in row order
  pub full : List Listed
  pub every_solution : (σ : Filling) → Solution problem σ → σ ∈ map (λ (x : Listed). x.1) full
  pub each_once : Distinct (map (λ (x : Listed). x.1) full)
  pub nothing_else : (x : Listed) → x ∈ full → IsRow problem x.0 × Solution problem x.1 × HasBodies problem x.0 x.1
  pub in_row_order : Ordered EarlierListed full
  -- T-12: "the listed solutions are exactly the minimal complete ones", with what is open left out
  pub textbook : Textbook problem (map (λ (x : Listed). left_out x.1) full)
  -- "the Founds are the first of the full list in order"
  pub first : map host.value given ≡ map given_row (take (length given) full)
  -- and so are the texts that a host holds of them: that of the k-th Found names filling k
  pub texts : (ts : List Bytes) → Pairwise (TextOf host s) given ts
      → map named_by ts ≡ map (λ (x : Listed). got x.1) (take (length given) full)
  pub written : (row : host.Held) → row ∈ given → (out out' : Bytes) (a : Answer ℕ) → largest_written ≤ length out
      → host.Writing s row out a out' → (n : ℕ) × (a ≡ got n)
  -- "End only when all were given"
  pub all : ended → map host.value given ≡ map given_row full
  -- "more allowances above zero than rows always reaches End"
  pub rows : List Row
  pub are_rows : AreRows problem rows
  pub reaches_end : length rows < allowances → ended

-- 3. "Over any list of calls, with any allowances and refused calls among them"
pub record ThirdDemand : Type 1 where
  -- the caller carries the place, from what `Place::start` gave
  pub carried : (s : Bytes) (place : Place) (cs : List CarriedCall) → All Byte s → StartCalled s (Ok place)
      → CarriedRun s place cs → Owed in_rattle s (carried_found cs) (CarriedEnd cs) (carried_allowed cs)
  -- the open search keeps it, from what `OpenSearch::at` made of that
  pub kept : (s : Bytes) (place : Place) (kept : OpenSearch) (cs : List KeptCall) → All Byte s → StartCalled s (Ok place)
      → OpenedCalled place kept → KeptRun s kept cs
      → Owed in_rattle s (carried_found (kept_calls cs)) (CarriedEnd (kept_calls cs)) (carried_allowed (kept_calls cs))
  -- a program in C carries its words, from what `matcher_start` wrote
  pub exported : (s : Bytes) (words place : List ℕ) (cs : List CCall) → All Byte s → CStartCalled s words 0 place → CRun s place cs
      → Owed in_c s (c_found cs) (CEnd cs) (c_allowed cs)

-- T-13: "The longest list for a given length"
pub record LongestList (host : Interface) : Type 1 where
  -- "For n from 1 to 256 the tool writes the problem (P(X), e)": wherever there is room for any problem; and what is written is accepted
  pub writes : (n : ℕ) (out out' : Bytes) (a : Answer ℕ) → 1 ≤ n → n ≤ max_face_nodes → largest_problem ≤ length out → host.Longest n out a out'
      → (k : ℕ) × (a ≡ got k)
  pub accepted : (n k : ℕ) (out out' : Bytes) → host.Longest n out (got k) out' → accept (take k out') ≡ got (longest_problem n)
  -- "where e has n nodes"
  pub nodes : (n : ℕ) → 1 ≤ n → size (one (heaviest n)) ≡ n
  pub expression : (n : ℕ) → 1 ≤ n → IsExpression (one (heaviest n))
  -- "It has 2^(n-1) + 1 solutions": its full list has as many entries, and a list of calls with an End as many Founds
  pub has : (n : ℕ) → 1 ≤ n → (full : List Listed) → IsFullList (longest_problem n) full → length full ≡ 2 ^ (n - 1) + 1
  pub given : (n k : ℕ) (out out' : Bytes) → host.Longest n out (got k) out' → (rows : List host.Held) (ended : Type 0) (allowances : ℕ)
      → Owed host (take k out') rows ended allowances → ended → length rows ≡ 2 ^ (n - 1) + 1
  -- "and every other expression of n nodes in such a problem has at most as many": whatever its depth and its numbers, so also where no
  -- input can hold it; there is a full list
  pub listed : (e : NamedTerm) → IsExpression (one e) → (full : List Listed) × IsFullList (applied_to e) full
  pub most : (e : NamedTerm) → IsExpression (one e) → (full : List Listed) → IsFullList (applied_to e) full
      → length full ≤ 2 ^ (size (one e) - 1) + 1

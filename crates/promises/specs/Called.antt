-- The functions that a host calls, in Rattle (`matcher`) and in C (`tivagyesz`). A call is known here by what the function's contract, as it
-- stands in the source, tells of it; that a call is told of means that it has returned.
--   Lent        where what is lent lies, and for how long: nothing that a contract says depends on it
--   ..Called    what is handed in, what comes back, and what each buffer holds before and after
--   Unasked     no contract asks anything of its caller: any bytes, places, rows, allowances, texts, numbers of nodes and buffers may be
--               handed in
--   OpenContract   the same of `search_open`, and that what the page takes for its contract is what stands in the source
--   Ends        each call ends, without a fault, and then its contract holds: the program logic's own statement of the compiled function
use Rattle.std.specs.Prelude.{◌≡◌, List, Result, ℕ}
use Rattle.std.specs.Borrow.{GName, Bor, MutBor}
use base.Logic.{SProp, emp}
use contract.Lifetimes.{Lfts}
use contract.Monad.{Fun, fact}
use denote.Triple.Clauses.{AtExit}
use denote.Triple.Entry.{Args, Res}
use types.Logic.{Logic}
use seplogic.Ra.Ura.{Ura}
use prog.Memory.{Memory}
use prog.Routine.{Routine}
use Rattle.meaning.specs.Basics.{Bytes}
use Rattle.masks.specs.declared.NodeSet.{NodeSet}
use Rattle.places.specs.declared.Place.{Place}
use Rattle.refusal.specs.declared.Refusal.{Refusal}
use Rattle.seeking.specs.declared.Answer.{Answer}
use Rattle.seeking.specs.declared.Searched.{Searched}
use Rattle.checking.specs.declared.Verdict.{Verdict}
use Rattle.matcher.specs.Opened.{OpenAnswers}
use Rattle.matcher.specs.declared.OpenSearch.{OpenSearch}
use Rattle.matcher.specs.declared.Moved.{Moved}
use Rattle.places.proofs.Place.start.Reads as start
use Rattle.places.proofs.Place.at.Reads as row_at
use Rattle.places.proofs.Place.past_last.Reads as past-last
use Rattle.search.proofs.call.search.Reads as search
use Rattle.writing.proofs.write.write.Reads as write
use Rattle.longest.proofs.write_longest.Reads as longest
use Rattle.checking.proofs.check.Reads as check
use Rattle.matcher.proofs.OpenSearch.at.Reads as opened
use Rattle.matcher.proofs.search_owned.Reads as owned
use Rattle.matcher.specs.contracts.search_open as open-search
use Rattle.tivagyesz.proofs.matcher_start.Reads as c-start
use Rattle.tivagyesz.proofs.matcher_search.Reads as c-search
use Rattle.tivagyesz.proofs.matcher_write.Reads as c-write
use Rattle.tivagyesz.proofs.matcher_longest.Reads as c-longest
use Rattle.tivagyesz.proofs.matcher_check.Reads as c-check
use Rattle.places.proofs.Place.start.Statement as start-code
use Rattle.places.proofs.Place.at.Statement as row-at-code
use Rattle.places.proofs.Place.past_last.Statement as past-last-code
use Rattle.search.proofs.call.search.Statement as search-code
use Rattle.writing.proofs.write.write.Statement as write-code
use Rattle.longest.proofs.write_longest.Statement as longest-code
use Rattle.checking.proofs.check.Statement as check-code
use Rattle.matcher.proofs.OpenSearch.at.Statement as opened-code
use Rattle.matcher.proofs.search_owned.Statement as owned-code
use Rattle.matcher.proofs.search_open.Statement as open_code
use Rattle.tivagyesz.proofs.matcher_start.Statement as c-start-code
use Rattle.tivagyesz.proofs.matcher_search.Statement as c-search-code
use Rattle.tivagyesz.proofs.matcher_write.Statement as c-write-code
use Rattle.tivagyesz.proofs.matcher_longest.Statement as c-longest-code
use Rattle.tivagyesz.proofs.matcher_check.Statement as c-check-code

pub record Lent (references : ℕ) : Type 0 where
  pub spans : Lfts references
  pub pointer : ℕ → ℕ × ℕ
  pub name : ℕ → GName

-- What the k-th reference refers to, where it is lent to be read, and where it is lent to be written
abbrev pub lent : {n : ℕ} {A : Type 0} → Lent n → ℕ → A → Bor A
lent l k x = record { ref_ptr = l.pointer k; now = x }

abbrev pub lent_mut : {n : ℕ} {A : Type 0} → Lent n → ℕ → A → MutBor A
lent_mut l k x = record { ref_ptr = l.pointer k; ghost_name = l.name k; now = x }

-- In Rattle: places and open searches are made, and handed to the calls
abbrev pub RowAtCalled : List NodeSet → Place → Type 0
RowAtCalled row r = row_at.Learnt tt (row, tt) r (row, tt)

abbrev pub PastLastCalled : Place → Type 0
PastLastCalled r = past-last.Learnt tt tt r tt

abbrev pub OpenedCalled : Place → OpenSearch → Type 0
OpenedCalled place r = opened.Learnt tt (place, tt) r (place, tt)

abbrev pub StartCalled : Bytes → Result Place Refusal → Type 0
StartCalled s r = (l : Lent 1) × start.Learnt l.spans (lent l 0 s, tt) r (lent l 0 s, tt)

abbrev pub SearchCalled : Bytes → Place → ℕ → Result Searched Refusal → Type 0
SearchCalled s place n r =
    (l : Lent 1) × search.Learnt l.spans (lent l 0 s, (place, (n, tt))) r (lent l 0 s, (place, (n, tt)))

abbrev pub WriteCalled : Bytes → Place → Bytes → Result ℕ Refusal → Bytes → Type 0
WriteCalled s row out r out' =
    (l : Lent 2) × write.Learnt l.spans (lent l 0 s, (row, (lent_mut l 1 out, tt))) r (lent l 0 s, (row, (lent_mut l 1 out', tt)))

abbrev pub LongestCalled : ℕ → Bytes → Result ℕ Refusal → Bytes → Type 0
LongestCalled n out r out' = (l : Lent 1) × longest.Learnt l.spans (n, (lent_mut l 0 out, tt)) r (n, (lent_mut l 0 out', tt))

abbrev pub CheckCalled : Bytes → Bytes → Result Verdict Refusal → Type 0
CheckCalled s text r =
    (l : Lent 2) × check.Learnt l.spans (lent l 0 s, (lent l 1 text, tt)) r (lent l 0 s, (lent l 1 text, tt))

abbrev pub OwnedCalled : OpenSearch → Bytes → ℕ → Moved → Type 0
OwnedCalled kept s n r = (l : Lent 1) × owned.Learnt l.spans (kept, (lent l 0 s, (n, tt))) r (kept, (lent l 0 s, (n, tt)))

-- What the page takes for the contract of `search_open`: `OpenContract` says that it is what stands in the source
abbrev pub OpenCalled : OpenSearch → Bytes → ℕ → Result Answer Refusal → OpenSearch → Type 0
OpenCalled kept s n r kept' = OpenAnswers s kept.place n kept'.place r

-- In C
abbrev pub CStartCalled : Bytes → List ℕ → ℕ → List ℕ → Type 0
CStartCalled s place r place' =
    (l : Lent 2) × c-start.Learnt l.spans (lent l 0 s, (lent_mut l 1 place, tt)) r (lent l 0 s, (lent_mut l 1 place', tt))

abbrev pub CSearchCalled : Bytes → List ℕ → List ℕ → ℕ → ℕ → List ℕ → List ℕ → Type 0
CSearchCalled s place row n r place' row' =
    (l : Lent 3)
    × c-search.Learnt l.spans (lent l 0 s, (lent_mut l 1 place, (lent_mut l 2 row, (n, tt)))) r
    (lent l 0 s, (lent_mut l 1 place', (lent_mut l 2 row', (n, tt))))

abbrev pub CWriteCalled : Bytes → List ℕ → Bytes → ℕ → ℕ → Bytes → ℕ → Type 0
CWriteCalled s row out written r out' written' =
    (l : Lent 4)
    × c-write.Learnt l.spans (lent l 0 s, (lent l 1 row, (lent_mut l 2 out, (lent_mut l 3 written, tt)))) r
    (lent l 0 s, (lent l 1 row, (lent_mut l 2 out', (lent_mut l 3 written', tt))))

abbrev pub CLongestCalled : ℕ → Bytes → ℕ → ℕ → Bytes → ℕ → Type 0
CLongestCalled n out written r out' written' =
    (l : Lent 2)
    × c-longest.Learnt l.spans (n, (lent_mut l 0 out, (lent_mut l 1 written, tt))) r (n, (lent_mut l 0 out', (lent_mut l 1 written', tt)))

abbrev pub CCheckCalled : Bytes → Bytes → ℕ → Type 0
CCheckCalled s text r =
    (l : Lent 2) × c-check.Learnt l.spans (lent l 0 s, (lent l 1 text, tt)) r (lent l 0 s, (lent l 1 text, tt))

-- Whatever they are handed
pub record Unasked : Type 0 where
  pub rows_at : (spans : Lfts 0) (handed : _) → row_at.Asked spans handed
  pub past_last : (spans : Lfts 0) (handed : _) → past-last.Asked spans handed
  pub opens : (spans : Lfts 0) (handed : _) → opened.Asked spans handed
  pub starts : (spans : Lfts 1) (handed : _) → start.Asked spans handed
  pub searches : (spans : Lfts 1) (handed : _) → search.Asked spans handed
  pub writes : (spans : Lfts 2) (handed : _) → write.Asked spans handed
  pub writes_longest : (spans : Lfts 1) (handed : _) → longest.Asked spans handed
  pub checks : (spans : Lfts 2) (handed : _) → check.Asked spans handed
  pub owned : (spans : Lfts 1) (handed : _) → owned.Asked spans handed
  pub starts_in_c : (spans : Lfts 2) (handed : _) → c-start.Asked spans handed
  pub searches_in_c : (spans : Lfts 3) (handed : _) → c-search.Asked spans handed
  pub writes_in_c : (spans : Lfts 4) (handed : _) → c-write.Asked spans handed
  pub writes_longest_in_c : (spans : Lfts 2) (handed : _) → c-longest.Asked spans handed
  pub checks_in_c : (spans : Lfts 2) (handed : _) → c-check.Asked spans handed

-- For `search_open`: what is asked is nothing, and what is ensured is `OpenCalled`
abbrev pub OpenContract : Type 2
OpenContract = (M : Type 1) (𝓤 : Ura M) (𝓛 : Logic 𝓤) (mem : Memory → SProp 𝓤) (run : Routine → Fun 𝓤) (spans : Lfts 2)
    (handed : Args open-search.signature spans) (r : Res open-search.signature spans) (last : AtExit open-search.ended spans)
    → ((open-search.clauses 𝓛 mem run spans handed).requires tt ≡ emp 𝓤)
    × ((open-search.clauses 𝓛 mem run spans handed).ensures tt r last
    ≡ fact 𝓤 (OpenCalled handed.0.now handed.1.0.now handed.1.1.0 r last.0.now))

pub record Ends : Type 2 where
  pub rows_at : {M : Type 1} → row-at-code.statement M
  pub past_last : {M : Type 1} → past-last-code.statement M
  pub opens : {M : Type 1} → opened-code.statement M
  pub starts : {M : Type 1} → start-code.statement M
  pub searches : {M : Type 1} → search-code.statement M
  pub writes : {M : Type 1} → write-code.statement M
  pub writes_longest : {M : Type 1} → longest-code.statement M
  pub checks : {M : Type 1} → check-code.statement M
  pub owned : {M : Type 1} → owned-code.statement M
  pub opened : {M : Type 1} → open_code.statement M
  pub starts_in_c : {M : Type 1} → c-start-code.statement M
  pub searches_in_c : {M : Type 1} → c-search-code.statement M
  pub writes_in_c : {M : Type 1} → c-write-code.statement M
  pub writes_longest_in_c : {M : Type 1} → c-longest-code.statement M
  pub checks_in_c : {M : Type 1} → c-check-code.statement M

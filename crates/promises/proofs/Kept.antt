-- THE PROMISES ARE KEPT: the three demands hold of the functions that a host calls. Of these nothing is used but their contracts.
use mathlib.Core.Path.{◌≡◌, refl, ap, ap₂, sym, ◌∙◌, subst}
use mathlib.Core.Logic.{◌↔◌}
use mathlib.Core.Bool.{Bool, false}
use mathlib.Core.List.{List, [], map}
use Prim.Native.Nat.{ℕ, ◌<◌}
use native.Mathlib.Omega.{arith}
use Rattle.std.proofs.Common.{Result, Ok, Err}
use lib.ListN.{length, take}
use Rattle.meaning.specs.Basics.{All, Byte, Bytes}
use Rattle.meaning.specs.Problem.{Problem}
use Rattle.meaning.specs.Read.{Answer, after, got, refused}
use Rattle.meaning.specs.Accept.{accept}
use Rattle.meaning.specs.Search.{at, end, found, past, paused, refused_call, start}
use Rattle.meaning.specs.Row.{Row}
use Rattle.meaning.specs.PlaceValue.{PlaceValue, masks_of, place_value}
use Rattle.meaning.specs.Entry.{HostReply, SearchCall, WriteCall, check_call, start_call}
use Rattle.meaning.specs.Calls.{Run, ThirdDemand, given_row}
use Rattle.meaning.specs.Longest.{LongestCall}
use Rattle.meaning.proofs.Lists.{never}
use Rattle.meaning.proofs.CallLaws as calls
use Rattle.meaning.proofs.PlaceLaws.{place_long}
use Rattle.meaning.proofs.WriteLaws.{refused_leaves}
use Rattle.masks.specs.declared.NodeSet.{NodeSet}
use Rattle.places.specs.Places.{AtPast, AtRow, Starts, value_of}
use Rattle.places.specs.declared.Place.{Place}
use Rattle.places.proofs.Naming.{row_value_lem}
use Rattle.refusal.specs.Number.{number}
use Rattle.refusal.specs.declared.Refusal.{Refusal}
use Rattle.search.specs.Calling.{place_left}
use Rattle.seeking.specs.declared.Searched.{Searched}
use Rattle.words.specs.Words.{has_place, place_of_words, placed}
use Rattle.words.proofs.WordLaws.{Small, place_small, placed_back, set_of, sets_back}
use Rattle.longest.proofs.CallLaws.{refused_stays}
use Rattle.tivagyesz.specs.Exported.{LongestExport, SearchExport, StartExport, WriteExport, length_after, place_after, reply_code, row_after}
use Rattle.tivagyesz.specs.Exported.{start_after, start_code, start_into, with_row, write_code}
use Rattle.places.proofs.Place.start.Met as start-met
use Rattle.places.proofs.Place.at.Met as row-at-met
use Rattle.places.proofs.Place.past_last.Met as past-last-met
use Rattle.search.proofs.call.search.Met as search-met
use Rattle.writing.proofs.write.write.Met as write-met
use Rattle.longest.proofs.write_longest.Met as longest-met
use Rattle.checking.proofs.check.Met as check-met
use Rattle.matcher.proofs.OpenSearch.at.Met as opened-met
use Rattle.matcher.proofs.search_owned.Met as owned-met
use Rattle.matcher.proofs.search_open.Met as open-met
use Rattle.tivagyesz.proofs.matcher_start.Met as c-start-met
use Rattle.tivagyesz.proofs.matcher_search.Met as c-search-met
use Rattle.tivagyesz.proofs.matcher_write.Met as c-write-met
use Rattle.tivagyesz.proofs.matcher_longest.Met as c-longest-met
use Rattle.tivagyesz.proofs.matcher_check.Met as c-check-met
use Rattle.promises.specs.Called.{Ends, OpenContract, Unasked}
use Rattle.promises.specs.Numbers.{check_answer, write_answer}
use Rattle.promises.specs.Lists.{CEnd, CarriedCall, CarriedEnd, c_allowed, c_found, carried_allowed, carried_found, kept_calls}
use Rattle.promises.specs.Promises.{FirstDemand, LongestList, SecondDemand, in_c, in_rattle, start_answer}
use Rattle.promises.specs.Promises as page
use Rattle.promises.proofs.RefusalNumbers.{check_numbers, check_read, longest_read, write_numbers, write_read}
use Rattle.promises.proofs.CallLists.{allowed_carried, call_of, carried_run, end_carried, founds_carried, kept_run}
use Rattle.promises.proofs.CLists.{as_calls, c_started}
use Rattle.promises.proofs.HostTexts.{Lawful, owed, texts_kept}
use Rattle.promises.proofs.Longest.{longest_kept}

-- The contract of `search_open`
open_contract : OpenContract
open_contract M 𝓤 𝓛 mem run spans handed r last = (refl, refl)

-- Places that are made
at_row : {row : List NodeSet} {r : Place} → AtRow row r → r ≡ record { sets = row; past = false }
at_row h = ap₂ (λ (sets : List NodeSet) (past : Bool). record { sets = sets; past = past }) h.sets h.here

at_past : {r : Place} → AtPast r → value_of r ≡ place_value past
unfolding place_value
at_past h = ap₂ (λ (masks : List ℕ) (past : Bool). record { masks = masks; is_past = past }) h.masks h.past

-- The start
started : (s : Bytes) (r : Result Place Refusal) → Starts (start_call s) r → start_answer r ≡ start_call s
started s (Ok place) h = sym h
started s (Err e) h = sym h

begins_at : (s : Bytes) (place : Place) → Starts (start_call s) (Ok place)
    → (p : Problem) × (accept s ≡ got p) × (value_of place ≡ place_value (start p))
unfolding start_call
begins_at s place h = go (accept s) refl h
  where
    go : (a : Answer Problem) → accept s ≡ a → after a (λ p. got (place_value (start p))) ≡ got (value_of place)
        → (p : Problem) × (accept s ≡ got p) × (value_of place ≡ place_value (start p))
    go (refused n) f g = never (cc)
    go (got p) f g = (p, f, let e : value_of place ≡ place_value (start p) = cc in e)

-- "a refused call changes neither the output buffer nor the open search"
place_stays : (place : Place) (e : Refusal) (r : Result Searched Refusal) → r ≡ Err e → place_left place r ≡ place
place_stays place e r h = ap (place_left place) h

words_stay : (words : List ℕ) (a : Answer PlaceValue) → 0 < start_code a → start_after words a ≡ words
words_stay words (got v) h = absurd (omega arith)
words_stay words (refused n) h = refl

buffers_stay : (words row : List ℕ) (reply : HostReply) → reply_code reply < 256
    → (place_after words reply ≡ words) × (row_after row reply ≡ row)
buffers_stay words row (found v next) h = absurd (omega arith)
buffers_stay words row (end next) h = absurd (omega arith)
buffers_stay words row (paused next) h = absurd (omega arith)
buffers_stay words row (refused_call r) h = (refl, refl)

text_stays : (s : Bytes) (v : PlaceValue) (out out' : Bytes) (before : ℕ) (a : Answer ℕ) → 0 < write_code a → WriteCall s v out a out'
    → (out' ≡ out) × (length_after before a ≡ before)
text_stays s v out out' before (got n) h w = absurd (omega arith)
text_stays s v out out' before (refused n) h w = (refused_leaves s v out out' n w, refl)

longest_stays_lem : (n : ℕ) (out out' : Bytes) (before : ℕ) (a : Answer ℕ) → 0 < write_code a → LongestCall n out a out'
    → (out' ≡ out) × (length_after before a ≡ before)
longest_stays_lem n out out' before (got k) h w = absurd (omega arith)
longest_stays_lem n out out' before (refused k) h w = (refused_stays w, refl)

unasked : Unasked
unasked = record {
  rows_at = λ spans handed. tt;
  past_last = λ spans handed. tt;
  opens = λ spans handed. tt;
  starts = λ spans handed. tt;
  searches = λ spans handed. tt;
  writes = λ spans handed. tt;
  writes_longest = λ spans handed. tt;
  checks = λ spans handed. tt;
  owned = λ spans handed. tt;
  starts_in_c = λ spans handed. tt;
  searches_in_c = λ spans handed. tt;
  writes_in_c = λ spans handed. tt;
  writes_longest_in_c = λ spans handed. tt;
  checks_in_c = λ spans handed. tt;
}

ending : Ends
ending = record {
  rows_at = row-at-met.met;
  past_last = past-last-met.met;
  opens = opened-met.met;
  starts = start-met.met;
  searches = search-met.met;
  writes = write-met.met;
  writes_longest = longest-met.met;
  checks = check-met.met;
  owned = owned-met.met;
  opened = open-met.met;
  starts_in_c = c-start-met.met;
  searches_in_c = c-search-met.met;
  writes_in_c = c-write-met.met;
  writes_longest_in_c = c-longest-met.met;
  checks_in_c = c-check-met.met;
}

-- THE FIRST DEMAND
pub first_demand : FirstDemand
first_demand = record {
  anything = unasked;
  anything_open = open_contract;
  rows_at = λ row r c. at_row c;
  past_last = λ r c. at_past c;
  opens = λ place r c. c;
  starts = λ s r c. started s r c.1;
  searches = λ s place n r c. c.1.call;
  owned = λ s kept n r c. c.1.call;
  opened = λ s kept kept' n r c. c.call;
  writes = λ s row out out' r c. c.1;
  writes_longest = λ n out out' r c. c.1;
  checks = λ s text r c. c.1;
  starts_in_c = λ s place place' r c. c.1;
  searches_in_c = λ s n place row place' row' r c. c.1;
  writes_in_c = λ s row out out' n n' r c. c.1;
  writes_longest_in_c = λ n out out' k k' r c. c.1;
  checks_in_c = λ s text r c. c.1;
  ends = ending;
  search_stays = λ s place n e r c h. place_stays place e r h;
  owned_stays = λ s kept n e r c h. c.1.stays e h;
  open_stays = λ s kept kept' n e r c h. c.stays e h;
  write_stays = λ s row out out' e c. refused_leaves s (value_of row) out out' (number e) c.1;
  longest_stays = λ n out out' e c. refused_stays c.1;
  start_stays_in_c = λ s place place' r c above.
      let h : StartExport s place place' r = c.1 in
      h.place ∙ words_stay place (start_into place s) (omega (arith, h.code, above));
  search_stays_in_c = λ s n place row place' row' r c below.
      let h : SearchExport s n place row place' row' r = c.1 in
      let still = buffers_stay place row (with_row (has_place (length row)) h.reply) (omega (arith, h.code, below)) in
      (h.leaves ∙ still.0, h.gives ∙ still.1);
  write_stays_in_c = λ s row out out' n n' r c above.
      let h : WriteExport s row out n out' n' r = c.1 in
      let still = text_stays s (place_of_words row) out out' n h.answer (omega (arith, h.code, above)) h.call in
      (still.0, h.length ∙ still.1);
  longest_stays_in_c = λ n out out' k k' r c above.
      let h : LongestExport n out k out' k' r = c.1 in
      let still = longest_stays_lem n out out' k h.answer (omega (arith, h.code, above)) h.call in
      (still.0, h.length ∙ still.1);
}

-- THE SECOND DEMAND, in Rattle and in C

-- The sets of a row: its masks are small enough for them
held : (r : Row) → (place : Place) × (value_of place ≡ place_value (at r))
held r =
    let small : Small (masks_of r) = subst (λ (v : PlaceValue). Small v.masks) (row_value_lem r) (place_small (at r)) in (
      record { sets = map set_of (masks_of r); past = false },
      ap (λ (ms : List ℕ). record { masks = ms; is_past = false }) (sets_back (masks_of r) small) ∙ sym (row_value_lem r),
    )

rattle_lawful : Lawful in_rattle
rattle_lawful = record {
  writes = λ s row out out' a w. subst (λ (y : Answer ℕ). WriteCall s (value_of row) out y out') (sym w.2) w.1.1;
  checks = λ s text a c. c.2 ∙ c.1.1;
  holds = λ p r a i. held r;
}

c_lawful : Lawful in_c
c_lawful = record {
  writes = λ s row out out' a (n, n', r, c, e).
      let h : WriteExport s row out n out' n' r = c.1 in
      let same : a ≡ h.answer =
      e ∙ ap₂ write_answer h.code h.length
      ∙ write_read h.answer n (write_numbers s (place_of_words row) out out' h.answer h.call) in
      subst (λ (y : Answer ℕ). WriteCall s (place_of_words row) out y out') (sym same) h.call;
  checks = λ s text a (r, c, e). e ∙ ap check_answer c.1 ∙ check_read (check_call s text) (check_numbers s text);
  holds = λ p r a i. (placed [] (place_value (at r)), placed_back [] (place_value (at r)) (place_long p (at r) a i) (place_small (at r)));
}

pub second_demand : SecondDemand in_rattle
second_demand = texts_kept in_rattle rattle_lawful

pub second_demand_in_c : SecondDemand in_c
second_demand_in_c = texts_kept in_c c_lawful

-- THE THIRD DEMAND
demand_as : {p : Problem} {given given' : List PlaceValue} {ended ended' : Type 0} {n n' : ℕ} → given ≡ given' → (ended' ↔ ended) → n ≡ n'
    → ThirdDemand p given ended n → ThirdDemand p given' ended' n'
demand_as {p} {given} {given'} {ended} {ended'} {n} {n'} e f m d =
    record {
      rows = d.rows;
      are_rows = d.are_rows;
      full = d.full;
      is_full = d.is_full;
      prefix = sym e ∙ d.prefix ∙ ap (λ (l : List PlaceValue). map given_row (take (length l) d.full)) e;
      whole = λ h. sym e ∙ d.whole (f.0 h);
      ends = λ h. f.1 (d.ends (omega (arith, m)));
    }

carried_demand : (s : Bytes) (p : Problem) (cs : List CarriedCall) → All Byte s → accept s ≡ got p
    → Run (SearchCall s) (place_value (start p)) (map call_of cs)
    → ThirdDemand p (map value_of (carried_found cs)) (CarriedEnd cs) (carried_allowed cs)
carried_demand s p cs b e r =
    demand_as (founds_carried cs) (end_carried cs) (allowed_carried cs)
    (calls.third_demand s p (map call_of cs) b (record { accepted = e; run = r }))

pub third_demand : page.ThirdDemand
third_demand = record {
  carried = λ s place cs b c run.
      let (p, a, here) = begins_at s place c.1 in
      owed in_rattle rattle_lawful s b p a (carried_found cs) (CarriedEnd cs) (carried_allowed cs)
      (carried_demand s p cs b a (subst (λ (v : PlaceValue). Run (SearchCall s) v (map call_of cs)) here (carried_run s place cs run)));
  kept = λ s place kept cs b c o run.
      let (p, a, here) = begins_at s place c.1 in
      let ds = kept_calls cs in
      owed in_rattle rattle_lawful s b p a (carried_found ds) (CarriedEnd ds) (carried_allowed ds)
      (carried_demand s p ds b a
      (subst (λ (v : PlaceValue). Run (SearchCall s) v (map call_of ds)) (ap value_of o ∙ here) (kept_run s kept cs run)));
  exported = λ s words place cs b c run.
      let (p, a, here) = c_started s words place b c.1 in
      let h = as_calls s place cs b run in
      owed in_c c_lawful s b p a (c_found cs) (CEnd cs) (c_allowed cs)
      (demand_as (sym h.founds_are) h.ends_are (sym h.allowances_are)
      (calls.third_demand s p h.calls b
      (record { accepted = a; run = subst (λ (v : PlaceValue). Run (SearchCall s) v h.calls) here h.run })));
}

-- T-13, in Rattle and in C
pub longest_list : LongestList in_rattle
longest_list = longest_kept in_rattle (λ n out out' a w. subst (λ (y : Answer ℕ). LongestCall n out y out') (sym w.2) w.1.1)

pub longest_list_in_c : LongestList in_c
longest_list_in_c =
    longest_kept in_c
    (λ n out out' a (k, k', r, c, e).
    let h : LongestExport n out k out' k' r = c.1 in
    let same : a ≡ h.answer =
    e ∙ ap₂ write_answer h.code h.length
    ∙ ap (λ (y : Answer ℕ). write_answer (write_code y) (length_after k y)) h.call.answers ∙ longest_read n k out ∙ sym h.call.answers in
    subst (λ (y : Answer ℕ). LongestCall n out y out') (sym same) h.call)

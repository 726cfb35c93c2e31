-- One call: a law for each answer, in document 01's terms.
use mathlib.Core.Path.{◌≡◌, refl, ap, sym, ◌∙◌, subst}
use mathlib.Core.Logic.{◌↔◌}
use mathlib.Core.Bool.{Bool, true, false}
use mathlib.Core.List.Memᴰ
use mathlib.Core.List.{List, [], ◌∷◌, ◌++◌, map, map-append, append-nil}
use mathlib.Core.Option.{Option}
use Prim.Native.Nat.{ℕ, zero, suc, ◌<◌, ◌≤◌}
use native.Mathlib.Omega.{arith}
use lib.ListN.{length, replicate}
use Rattle.meaning.specs.Limits.{max_functions}
use Rattle.meaning.specs.Basics.{Bytes, choose, is_some, ◌∈◌}
use Rattle.meaning.specs.Problem.{Problem}
use Rattle.meaning.specs.Row.{Row, SolutionRow}
use Rattle.meaning.specs.Rows.{rows}
use Rattle.meaning.specs.Candidate.{solves}
use Rattle.meaning.specs.Read.{refused}
use Rattle.meaning.specs.Accept.{accept}
use Rattle.meaning.specs.Search.{Place, at, past, place_of, Reply, end, refused_call, Keeps, finds, ends, pauses}
use Rattle.meaning.specs.PlaceValue.{PlaceValue, masks_of, place_value}
use Rattle.meaning.specs.Entry.{HostReply, reply_value, SearchCall, not_accepted, on_accepted, no_allowance, no_such_place, searches}
use Rattle.meaning.specs.Calls.{left}
use Rattle.meaning.proofs.Proper.{accepted_proper}
use Rattle.meaning.proofs.Lists.{mem_split, never}
use Rattle.meaning.proofs.Solutions.{solves_is_right}
use Rattle.masks.specs.Sets.{masks_in}
use Rattle.numbers.specs.Tests.{Tests}
use Rattle.faces.specs.declared.first.Firsts.{Firsts}
use Rattle.choosing.specs.Rows.{MaskRow}
use Rattle.rows.specs.Functions.{rows_in}
use Rattle.rows.specs.declared.functions.Functions.{Functions}
use Rattle.sources.specs.Demand.{Nodes}
use Rattle.sources.specs.Kept.{sources_of}
use Rattle.fit.specs.Laid as fit
use Rattle.fit.specs.Judging.{judged_at}
use Rattle.fit.specs.Tables.{asked, judged_in}
use Rattle.fit.specs.declared.tables.Tables.{Tables}
use Rattle.fit.proofs.Meaning.{answers_some, judge_means}
use Rattle.table.specs.Whole.{table_room}
use Rattle.prepare.specs.Prepared.{PreparesLent, Ready}
use Rattle.prepare.specs.declared.Prepared.{Prepared}
use Rattle.prepare.proofs.PreparedLaws.{prepared_lent_accepted, prepared_lent_refused, ready_few, ready_laid, ready_rows}
use Rattle.places.specs.Places.{value_of, AtPast, IsNoPlace}
use Rattle.places.specs.declared.Place as code
use Rattle.places.proofs.Naming.{FunctionsIn, row_value_lem, past_value_lem, same_value, row_named, past_named, nothing_named, ready_functions}
use Rattle.std.specs.Prelude.{Some, Result, Ok, Err}
use Rattle.refusal.specs.Number.{number}
use Rattle.refusal.specs.declared.Refusal.{Refusal}
use Rattle.refusal.specs.declared.Refusal.TheVariants as refusals
use Rattle.seeking.specs.Seeking.{Judged, all_rows, Grounded, Ended, Clean, mask_place, mask_reply}
use Rattle.search.specs.Calling.{row_value, reply_with, Answers, Callable, RowThere, Sought, Placed}
use Rattle.seeking.specs.declared.fixed.Fixed.{Fixed}
use Rattle.seeking.specs.declared.Answer.{Answer}
use Rattle.seeking.specs.declared.Answer.TheVariants as answers
use Rattle.seeking.specs.declared.Searched.{Searched}
use Rattle.search.proofs.RowsBack.{place_to, reply_to, keeps_back}

-- The test of a row, as the code makes it, tells the solution rows
judged_solves : (p : Problem) (q : Tests) (ps es fs : List ℕ) (functions : ℕ) (firsts : Firsts) → fit.Laid p q ps es fs functions firsts
    → (r : Row) → r ∈ rows p → (is_some (judged_at q ps es fs functions firsts (masks_of r)) ≡ true) ↔ SolutionRow p r
judged_solves p q ps es fs functions firsts h r m =
    let o : Option Nodes = judged_at q ps es fs functions firsts (masks_of r) in
    let same : is_some o ≡ solves p r =
    let there : fit.RowOf p (masks_of r) = record { choices = r; is_row = m; masks = refl } in
    sym (answers_some o (sources_of o) refl)
    ∙ (judge_means p q ps es fs functions firsts h (masks_of r) there (sources_of o) refl).solution in
    let right = solves_is_right p r (accepted_proper p h.accepted) m in
    (λ e. right.0 (sym same ∙ e), λ x. same ∙ right.1 x)

positive : (n : ℕ) → (n ≡ 0 → ⊥) → 0 < n
positive zero f = absurd (f refl)
positive (suc n) f = omega arith

-- Refusals: the place stays with the caller
refuses_answers : (s : Bytes) (place : code.Place) (n : ℕ) (e : Refusal) → SearchCall s (value_of place) n (refused_call (number e))
    → Answers s place n (Err e)
refuses_answers s place n e c = record { call = c; leaves = refl }

-- 1 to 14, 25
pub answers_refused : (s : Bytes) (place : code.Place) (n : ℕ) (e : Refusal) → accept s ≡ refused (number e) → Answers s place n (Err e)
answers_refused s place n e a = refuses_answers s place n e (not_accepted (number e) a)

-- A place of masks as a value
place_back : (v : code.Place) (next : Place Row) → Clean v → mask_place v ≡ place_to masks_of next → value_of v ≡ place_value next
place_back v next c e = go v.past refl next e
  where
    go : (b : Bool) → v.past ≡ b → (next : Place Row) → mask_place v ≡ place_to masks_of next → value_of v ≡ place_value next
    go true q (at r) e = never (let z = ap (λ (x : Bool). choose x past (at (masks_in v.sets))) (sym q) ∙ e in cc)
    go true q past e =
        same_value v (record { masks = replicate max_functions 0; is_past = true }) (c q) q ∙ sym past_value_lem
    go false q (at r) e =
        let z : ◌≡◌ {A = Place MaskRow} (at (masks_in v.sets)) (at (masks_of r)) =
        ap (λ (x : Bool). choose x past (at (masks_in v.sets))) (sym q) ∙ e in
        let m : masks_in v.sets ≡ masks_of r = cc in
        same_value v (record { masks = masks_of r; is_past = false }) m q ∙ sym (row_value_lem r)
    go false q past e = never (let z = ap (λ (x : Bool). choose x past (at (masks_in v.sets))) (sym q) ∙ e in cc)

-- An answer of masks as a host sees it
record Seen (reply : HostReply) (v : code.Place) (place : PlaceValue) (answer : Reply Row (Place Row)) : Type 0 where
  same : reply ≡ reply_value answer
  leaves : value_of v ≡ left place reply

module _ (p : Problem) (n : ℕ) (place : PlaceValue) where
  seen : {from : List Row} {answer : Reply Row (Place Row)} (x : Answer) (v : code.Place) → Keeps (SolutionRow p) n from answer
      → Clean v
      → mask_reply x v ≡ reply_to masks_of answer → Seen (reply_with x (value_of v)) v place answer
  seen (answers.Found row) v (finds skipped r later a t l) c e =
      let m : masks_in row ≡ masks_of r = cc in
      let q : mask_place v ≡ place_to masks_of (place_of later) = cc in
      let w : value_of v ≡ place_value (place_of later) = place_back v (place_of later) c q in
      let f : row_value (masks_in row) ≡ place_value (at r) = ap row_value m ∙ sym (row_value_lem r) in
      record { same = cc; leaves = refl }
  seen (answers.Found row) v (ends from a l) c e = never (cc)
  seen (answers.Found row) v (pauses passed r later a l) c e = never (cc)
  seen answers.End v (finds skipped r later a t l) c e = never (cc)
  seen answers.End v (ends from a l) c e =
      let q : mask_place v ≡ place_to masks_of past = cc in
      let w : value_of v ≡ place_value past = place_back v past c q in
      record { same = cc; leaves = refl }
  seen answers.End v (pauses passed r later a l) c e = never (cc)
  seen answers.Paused v (finds skipped r later a t l) c e = never (cc)
  seen answers.Paused v (ends from a l) c e = never (cc)
  seen answers.Paused v (pauses passed r later a l) c e =
      let q : mask_place v ≡ place_to masks_of (at r) = cc in
      let w : value_of v ≡ place_value (at r) = place_back v (at r) c q in
      record { same = cc; leaves = refl }

-- A prepared problem
module _ (s : Bytes) (prepared : Prepared) (ready : Ready (accept s) prepared) where
  abbrev p : Problem
  p = ready.problem

  functions_in : FunctionsIn p prepared.functions
  functions_in = ready_functions (accept s) prepared ready

  -- The test of a row, as the code makes it, tells the solution rows
  alike : (f : Functions) → prepared.functions ≡ Some f → (fixed : Fixed) → fixed.tables ≡ prepared.tables
      → (r : Row) → r ∈ rows p → Judged fixed (masks_of r) ↔ SolutionRow p r
  alike f e fixed g r m =
      let t = prepared.tables in
      subst (λ (t : Tables). (is_some (judged_in t (masks_of r)) ≡ true) ↔ SolutionRow p r) (sym g)
      (judged_solves p (asked t) t.patterns.now t.nodes.tokens.now t.faces.now t.functions t.firsts (ready_laid (accept s) prepared ready f e) r m)

  -- What `seek` requires
  pub ready_grounded : (f : Functions) → prepared.functions ≡ Some f → (fixed : Fixed) → fixed.tables ≡ prepared.tables → fixed.functions ≡ f
      → Grounded fixed
  ready_grounded f e fixed g h =
      record {
        problem = p;
        laid = subst
            (λ (t : Tables). fit.Laid p (asked t) t.patterns.now t.nodes.tokens.now t.faces.now t.functions t.firsts) (sym g)
            (ready_laid (accept s) prepared ready f e);
        listed = ap rows_in h ∙ ready_rows (accept s) prepared ready f e;
      }

  module _ (place : code.Place) (n : ℕ) (above : 0 < n) where
    -- "16 no such place"
    pub answers_nowhere : (e : Refusal) → IsNoPlace place prepared.functions e → Answers s place n (Err e)
    answers_nowhere e t =
        subst (λ (x : Refusal). Answers s place n (Err x)) (sym t.refusal)
        (refuses_answers s place n refusals.NoSuchPlace
        (on_accepted p ready.answer (no_such_place above (nothing_named p prepared.functions functions_in place t.no_row t.not_past))))

    -- Past the last there is nothing to find
    pub answers_past : (r : Searched) → AtPast place → Ended r → Answers s place n (Ok r)
    answers_past r h d =
        let w : value_of r.place ≡ place_value past = (past_named p prepared.functions functions_in r.place d.place).is_value in
        let e : reply_with r.answer (value_of r.place) ≡ reply_value (end past) =
        ap (λ (x : Answer). reply_with x (value_of r.place)) d.answer ∙ ap {B = HostReply} end w in
        record {
          call =
              subst (SearchCall s (value_of place) n) (sym e)
              (on_accepted p ready.answer (searches above past (past_named p prepared.functions functions_in place h) []
              (record { before = rows p; whole = sym (append-nil (rows p)); begins = refl }) (ends [] tt (omega arith))));
          leaves = w ∙ ap (left (value_of place)) (sym e);
        }

    -- From a row on
    pub answers_row : (f : Functions) (r : Searched) → RowThere prepared f place → Sought prepared f (masks_in place.sets) n r
        → Answers s place n (Ok r)
    answers_row f r (there, h) d =
        let (r₀, m, e, named) = row_named p prepared.functions functions_in place f there h in
        let (before, later, split) = mem_split r₀ (rows p) m in
        let listed : all_rows d.fixed ≡ map masks_of before ++ (masks_in place.sets ∷ map masks_of later) =
        ap rows_in d.functions ∙ ready_rows (accept s) prepared ready f there
        ∙ ap (map masks_of) split ∙ map-append masks_of before (r₀ ∷ later)
        ∙ ap (λ (x : MaskRow). map masks_of before ++ (x ∷ map masks_of later)) (sym e) in
        let each = λ (x : Row) (i : x ∈ r₀ ∷ later). alike f there d.fixed d.tables x
        (subst (λ (l : List Row). x ∈ l) (sym split) (Memᴰ.append_right before i)) in
        let back = keeps_back masks_of (Judged d.fixed) (SolutionRow p) (r₀ ∷ later) each
        (ap (λ (x : MaskRow). x ∷ map masks_of later) (sym e)) (d.seeks.keeps (map masks_of before) (map masks_of later) listed) in
        let told = seen p n (value_of place) r.answer r.place back.keeps d.seeks.clean back.same in
        record {
          call =
              subst (SearchCall s (value_of place) n) (sym told.same)
              (on_accepted p ready.answer (searches above (at r₀) named (r₀ ∷ later)
              (record { before = before; whole = split; begins = refl }) back.keeps));
          leaves = told.leaves;
        }

-- The answers of `from_place`
module _ (prepared : Prepared) (place : code.Place) (n : ℕ) where
  pub placed_zero : n ≡ 0 → Placed prepared place n (Err refusals.NoAllowance)
  unfolding Placed
  placed_zero e s ready = refuses_answers s place n refusals.NoAllowance (on_accepted ready.problem ready.answer (no_allowance e))

  module _ (some : n ≡ 0 → ⊥) where
    pub placed_nowhere : (e : Refusal) → IsNoPlace place prepared.functions e → Placed prepared place n (Err e)
    unfolding Placed
    placed_nowhere e t s ready = answers_nowhere s prepared ready place n (positive n some) e t

    pub placed_past : (r : Searched) → AtPast place → Ended r → Placed prepared place n (Ok r)
    unfolding Placed
    placed_past r t h s ready = answers_past s prepared ready place n (positive n some) r t h

    pub placed_row : (f : Functions) (r : Searched) → RowThere prepared f place → Sought prepared f (masks_in place.sets) n r
        → Placed prepared place n (Ok r)
    unfolding Placed
    placed_row f r t h s ready = answers_row s prepared ready place n (positive n some) f r t h

-- What `search` learns of a prepared problem
module _ (s : Bytes) where
  pub prepared_callable : (prepared : Prepared) → PreparesLent (accept s) (Ok prepared) → (scratch : List ℕ) → table_room ≤ length scratch
      → Callable prepared scratch
  prepared_callable prepared h scratch l =
      let ready = prepared_lent_accepted (accept s) prepared h in
      record { bytes = s; ready = ready; room = omega (arith, ready_few (accept s) prepared ready) }

  module _ (place : code.Place) (n : ℕ) where
    pub search_refused : (e : Refusal) → PreparesLent (accept s) (Err e) → Answers s place n (Err e)
    search_refused e h = answers_refused s place n e (prepared_lent_refused (accept s) e h)

    pub search_accepted : (prepared : Prepared) (r : Result Searched Refusal) → PreparesLent (accept s) (Ok prepared) → Placed prepared place n r
        → Answers s place n r
    unfolding Placed
    search_accepted prepared r h q = q s (prepared_lent_accepted (accept s) prepared h)

-- What the call of `seek` requires
pub callable_grounded : (prepared : Prepared) (scratch : List ℕ) → Callable prepared scratch → (f : Functions) → prepared.functions ≡ Some f
    → (fixed : Fixed) → fixed.tables ≡ prepared.tables → fixed.functions ≡ f → Grounded fixed
callable_grounded prepared scratch h f e fixed g k = ready_grounded h.bytes prepared h.ready f e fixed g k

-- ---- what each function cites

pub ruleset placing = (placed_zero, placed_nowhere, placed_past)

pub ruleset searching = (prepared_callable, search_refused, search_accepted)

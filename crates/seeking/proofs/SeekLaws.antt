-- Judging rows one after the other: what each call requires, and a law for each answer.
use mathlib.Core.Path.{◌≡◌, refl, ap, sym, ◌∙◌, subst, subst₂}
use mathlib.Core.Bool.{Bool, true, false, not, true≢false}
use mathlib.Core.List.Memᴰ
use mathlib.Core.List.{List, [], ◌∷◌, ◌++◌, append_assoc}
use Prim.Native.Nat.{ℕ, suc, ◌<◌}
use native.Mathlib.Omega.{arith}
use Rattle.meaning.specs.Basics.{choose, ◌∈◌}
use Rattle.meaning.specs.Search.{at, past, place_of, found, end, paused, Keeps, finds, ends, pauses}
use Rattle.meaning.proofs.Lists.{mem_split, never}
use Rattle.meaning.proofs.OneCall.{one_before}
use Rattle.masks.specs.Sets.{masks_in}
use Rattle.masks.specs.declared.NodeSet.{NodeSet}
use Rattle.choosing.specs.Rows.{MaskRow, Leads, Steps}
use Rattle.choosing.proofs.Problem.{row_masks}
use Rattle.std.specs.Prelude.{Some, None}
use Rattle.std.specs.Prelude as std
use Rattle.std.specs.Option as answered
use Rattle.sources.specs.Kept.{Answers}
use Rattle.sources.specs.declared.Sources.{Sources}
use Rattle.fit.proofs.Meaning.{answers_some}
use Rattle.rows.specs.Rows.{StepsFrom, StepsTo, rows_of}
use Rattle.rows.specs.Functions.{numbers_in, tokens_in}
use Rattle.places.specs.Places.{AtRow, AtPast}
use Rattle.places.specs.declared.Place as code
use Rattle.fit.specs.Tables.{ReadyIn, Room, judged_in}
use Rattle.fit.proofs.Readiness.{laid_ready}
use Rattle.seeking.specs.Seeking.{Ended, Grounded, Judged, Passed, Paused, Seeks, StepsOn, all_rows, judged, mask_place, mask_reply}
use Rattle.seeking.specs.declared.fixed.Fixed.{Fixed}
use Rattle.seeking.specs.declared.Answer.TheVariants as answers
use Rattle.seeking.specs.declared.Searched.{Searched}

-- What `judge` requires of a row
pub row_ready : (fixed : Fixed) (row : MaskRow) (scratch : List ℕ) → Grounded fixed → row ∈ all_rows fixed → Room fixed.tables scratch
    → ReadyIn fixed.tables row scratch
unfolding rows_of
row_ready fixed row scratch ground here room =
    let t = fixed.tables in
    let f = fixed.functions in
    let (r, m, e) = (row_masks ground.problem (numbers_in f) (tokens_in f) f.firsts.nodes f.firsts.count ground.listed row).0 here in
    laid_ready ground.problem t.patterns.now t.nodes.tokens.now t.nodes.numbers.now t.faces.now t.functions t.firsts ground.laid t.nodes.one_each
    row (record { choices = r; is_row = m; masks = e }) scratch room

-- Where a step leads
abbrev Leading : Fixed → MaskRow → Bool → MaskRow → Type 0
Leading fixed row more next =
    (before later : List MaskRow) → all_rows fixed ≡ before ++ (row ∷ later) → Leads (place_of later) more next

steps_lead : (fixed : Fixed) (row : MaskRow) (more : Bool) (next : MaskRow) → StepsOn fixed row more next → Leading fixed row more next
unfolding StepsFrom Steps rows_of
steps_lead fixed row more next h before later e = h before later e

-- Places
at_place : (v : code.Place) (row : List NodeSet) → AtRow row v → mask_place v ≡ at (masks_in row)
at_place v row h = ap (λ (b : Bool). choose b past (at (masks_in v.sets))) h.here ∙ ap (λ (r : List NodeSet). at (masks_in r)) h.sets

past_place : (v : code.Place) → AtPast v → mask_place v ≡ past
past_place v h = ap (λ (b : Bool). choose b past (at (masks_in v.sets))) h.past

-- The place after a row
later_place : (v : code.Place) (later : List MaskRow) → Leads (place_of later) (not v.past) (masks_in v.sets) → mask_place v ≡ place_of later
later_place v later s = go v.past refl
  where
    go : (b : Bool) → v.past ≡ b → mask_place v ≡ place_of later
    go true q =
        ap (λ (b : Bool). choose b past (at (masks_in v.sets))) q ∙ sym (s.ends (ap not q))
    go false q =
        ap (λ (b : Bool). choose b past (at (masks_in v.sets))) q ∙ sym (s.goes (ap not q))

module _ (fixed : Fixed) (row : MaskRow) where
  abbrev Solves : MaskRow → Type 0
  Solves r = Judged fixed r

  -- What the test of the row answers
  pub judged_here : (r : std.Option Sources) → Answers (judged_in fixed.tables row) r
      → judged fixed row ≡ answered.is_some r
  judged_here r a = sym (answers_some (judged_in fixed.tables row) r a)

  no_solution_lem : judged fixed row ≡ false → Solves row → ⊥
  no_solution_lem s q = true≢false (sym q ∙ s)

  -- A Found
  pub seeks_found : (n : ℕ) (here : List NodeSet) (r : Searched) → 0 < n → masks_in here ≡ row → judged fixed row ≡ true
      → Passed fixed here r → Seeks fixed row n r
  seeks_found n here r l q s p = record {
    keeps = λ before later e.
        let after : StepsOn fixed row (not r.place.past) (masks_in r.place.sets) =
        subst (λ (x : MaskRow). StepsOn fixed x (not r.place.past) (masks_in r.place.sets)) q p.after in
        let leads = steps_lead fixed row _ _ after before later e in
        let reply : mask_reply r.answer r.place ≡ found row (place_of later) =
        rw (p.answer, q, later_place r.place later leads) in
        subst (Keeps Solves n (row ∷ later)) (sym reply) (finds [] row later tt s l);
    clean = p.clean;
  }

  -- A pause, where no allowance is left
  pub seeks_paused : (n : ℕ) (here : List NodeSet) (r : Searched) → n ≡ 0 → masks_in here ≡ row → Paused here r → Seeks fixed row n r
  seeks_paused n here r z q d = record {
    keeps = λ before later e.
        let reply : mask_reply r.answer r.place ≡ paused (at row) =
        rw (d.answer, at_place r.place here d.place, q) in
        subst (Keeps Solves n (row ∷ later)) (sym reply) (pauses [] row later tt (omega arith));
    clean = λ q. absurd (true≢false (sym q ∙ d.place.here));
  }

  begins_with : (next : MaskRow) (later : List MaskRow) → place_of later ≡ at next → (rest : List MaskRow) × (later ≡ next ∷ rest)
  begins_with next [] e = never (cc)
  begins_with next (x ∷ xs) e = (xs, let z : x ≡ next = cc in ap {B = List MaskRow} (λ y. y ∷ xs) z)

  -- No solution row, and a step from it
  module _ (s : judged fixed row ≡ false) (more : Bool) (next : MaskRow) (steps : StepsOn fixed row more next) where
    leads : Leading fixed row more next
    leads = steps_lead fixed row more next steps

    -- An End: no row follows
    no_later : (later : List MaskRow) → Leads (place_of later) more next → more ≡ false → later ≡ []
    no_later [] h m = refl
    no_later (x ∷ xs) h m = never (let z = h.ends m in cc)

    pub seeks_ended : (n : ℕ) (r : Searched) → 0 < n → more ≡ false → Ended r → Seeks fixed row n r
    seeks_ended n r l m d = record {
      keeps = λ before later e.
          let none = no_later later (leads before later e) m in
          let reply : mask_reply r.answer r.place ≡ end past = rw (d.answer, past_place r.place d.place) in
          subst (Keeps Solves n (row ∷ later)) (sym reply)
          (subst (λ (l : List MaskRow). Keeps Solves n (row ∷ l) (end past)) (sym none) (ends (row ∷ []) (no_solution_lem s, tt) (omega arith)));
      clean = λ q. d.place.masks;
    }

    -- One row is passed
    pub seeks_on : (n m : ℕ) (r : Searched) → n ≡ suc m → more ≡ true → Seeks fixed next m r → Seeks fixed row n r
    seeks_on n m r z g k = record {
      keeps = λ before later e.
          let (rest, q) = begins_with next later ((leads before later e).goes g) in
          let on : all_rows fixed ≡ (before ++ (row ∷ [])) ++ (next ∷ rest) =
          e ∙ ap (λ (l : List MaskRow). before ++ (row ∷ l)) q ∙ sym (append_assoc before (row ∷ []) (next ∷ rest)) in
          let kept = one_before Solves row (no_solution_lem s) (k.keeps (before ++ (row ∷ [])) rest on) in
          rw (z, q) kept;
      clean = k.clean;
    }

    -- ... and the next is again one of the tables
    pub next_member : more ≡ true → row ∈ all_rows fixed → next ∈ all_rows fixed
    next_member g m =
        let (before, later, e) = mem_split row (all_rows fixed) m in
        let (rest, q) = begins_with next later ((leads before later e).goes g) in
        subst (λ (l : List MaskRow). next ∈ l) (sym (e ∙ ap (λ (l : List MaskRow). before ++ (row ∷ l)) q))
        (Memᴰ.append_right before (Memᴰ.tail (Memᴰ.head refl)))

-- The answers of `found_at`, by where the step from the row leads
module _ (fixed : Fixed) (row : List NodeSet) (r : Searched) (answer : r.answer ≡ answers.Found row) where
  abbrev StepsThere : std.Option (List NodeSet) → Type 0
  StepsThere x = StepsTo (tokens_in fixed.functions) (numbers_in fixed.functions) fixed.functions.firsts (masks_in row) x

  pub passed_more : (next : List NodeSet) → StepsThere (Some next) → AtRow next r.place
      → Passed fixed row r
  passed_more next steps place = record {
    answer = answer;
    after = subst₂ (StepsOn fixed (masks_in row)) (sym (ap not place.here)) (sym (ap masks_in place.sets)) steps;
    clean = λ q. absurd (true≢false (sym q ∙ place.here));
  }

  pub passed_last : StepsThere None → AtPast r.place → Passed fixed row r
  passed_last steps place = record {
    answer = answer;
    after = subst (λ (b : Bool). StepsOn fixed (masks_in row) b (masks_in r.place.sets)) (sym (ap not place.past))
        (steps (masks_in r.place.sets));
    clean = λ q. place.masks;
  }

-- ---- what each function cites

pub ruleset passing = (passed_more, passed_last)

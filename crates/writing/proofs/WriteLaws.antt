-- A law for each return of the functions of `write`, in document 01's terms.
use mathlib.Core.Path.{◌≡◌, refl, ap, ap₂, sym, ◌∙◌, subst}
use mathlib.Core.Logic.{◌↔◌}
use mathlib.Core.Bool.{true, true≢false}
use mathlib.Core.List.{List, ◌++◌}
use Prim.Native.Nat.{ℕ, ◌<◌, ◌≤◌}
use native.Mathlib.Omega.{arith}
use Rattle.std.proofs.Common.{Option, None, Some, Result, Ok, Err}
use lib.ListN.{length, drop}
use Rattle.std.specs.Option.{ok_or}
use Rattle.meaning.specs.Limits.{largest_text, metavariable_count}
use Rattle.meaning.specs.Basics.{Bytes, ◌∈◌}
use Rattle.meaning.specs.Problem.{Problem}
use Rattle.meaning.specs.Row.{Row, SolutionRow}
use Rattle.meaning.specs.Rows.{rows}
use Rattle.meaning.specs.Value.{lookup, sources}
use Rattle.meaning.specs.Candidate.{solves}
use Rattle.meaning.specs.Read.{got, refused}
use Rattle.meaning.specs.Accept.{accept}
use Rattle.meaning.specs.Search.{at}
use Rattle.meaning.specs.PlaceValue.{Names, masks_of}
use Rattle.meaning.specs.Entry.{WriteCall, no_solution_row, no_such_row, not_accepted, on_accepted, row_text, too_short, writes}
use Rattle.meaning.proofs.Lists.{never}
use Rattle.meaning.proofs.Proper.{accepted_proper}
use Rattle.meaning.proofs.SecondDemand.{text_fits}
use Rattle.meaning.proofs.Solutions.{solves_is_right}
use Rattle.masks.specs.Sets.{masks_in}
use Rattle.tokens.specs.Token.{Table}
use Rattle.tokens.proofs.ProblemTokens.{expression_table_lem}
use Rattle.rows.specs.declared.functions.Functions.{Functions}
use Rattle.prepare.specs.Prepared.{PreparesLent, Ready}
use Rattle.prepare.specs.declared.Prepared.{Prepared}
use Rattle.prepare.proofs.PreparedLaws.{prepared_lent_accepted, prepared_lent_refused, ready_laid}
use Rattle.places.specs.Places.{value_of, Tells}
use Rattle.places.specs.declared.Named.TheVariants as named
use Rattle.places.specs.declared.Place.{Place}
use Rattle.places.proofs.Naming.{named_row, ready_functions, row_named}
use Rattle.fit.specs.Laid.{Laid, RowOf}
use Rattle.fit.specs.Tables.{ReadyIn, asked, judged_in}
use Rattle.fit.specs.declared.tables.Tables.{Tables}
use Rattle.fit.proofs.Meaning.{Judgement, judge_means}
use Rattle.fit.proofs.Readiness.{laid_ready}
use Rattle.search.specs.Calling.{RowThere}
use Rattle.composing.specs.Entries.{DenotesAll, fields_of}
use Rattle.writing.specs.Writing.{NamedWritten, RowCallable, RowWritten, TextAnswer, TextWritten, Writes}
use Rattle.composing.specs.Composing.{Writable}
use Rattle.composing.specs.declared.entry.Plan.{Plan}
use Rattle.refusal.specs.Number.{number}
use Rattle.refusal.specs.declared.Refusal.{Refusal}
use Rattle.refusal.specs.declared.Refusal.TheVariants as refusals
use Rattle.sources.specs.Demand.{first_of}
use Rattle.sources.specs.Kept.{Answers}
use Rattle.sources.specs.declared.Sources.{Sources}
use Rattle.sources.proofs.KeptMeaning.{node_of}
use Rattle.composing.proofs.FieldLaws.{entry_or, row_fields}
use Rattle.writing.proofs.Denoting.{plan_denotes, plan_planned}

abbrev pub plan_with : Prepared → Place → Sources → Plan
plan_with a row kept = record { occurring = a.occurring; nodes = a.tables.firsts.nodes; row = row.sets; sources = kept }

-- What `judge` answers of the row
abbrev pub Judging : Prepared → Place → Option Sources → Type 0
Judging a row judged = Answers (judged_in a.tables (masks_in row.sets)) judged

none_told : {A : Type 0} (o : Option A) (e x : Refusal) → Err e ≡ ok_or o x → (o ≡ None) × (e ≡ x)
none_told None e x h = (refl, cc)
none_told (Some k) e x h = never (cc)

some_told : {A : Type 0} (o : Option A) (k : A) (x : Refusal) → Ok k ≡ ok_or o x → o ≡ Some k
some_told None k x h = never (cc)
some_told (Some l) k x h = cc

-- A prepared problem, and a row of it
module _ (s : Bytes) (a : Prepared) (ready : Ready (accept s) a) (row : Place) (f : Functions)
    (h : RowThere a f row) where
  abbrev p : Problem
  p = ready.problem

  abbrev t : Tables
  t = a.tables

  laid : Laid p (asked t) t.patterns.now t.nodes.tokens.now t.faces.now t.functions t.firsts
  laid = ready_laid (accept s) a ready f h.0

  -- The same by the set of functions that the text is written by
  laid_own : Laid p (asked t) t.patterns.now t.nodes.tokens.now t.faces.now a.occurring.functions t.firsts
  laid_own =
      subst (λ (n : ℕ). Laid p (asked t) t.patterns.now t.nodes.tokens.now t.faces.now n t.firsts) ready.laid.functions laid

  is_named : (r : Row) × (r ∈ rows p) × (masks_in row.sets ≡ masks_of r) × Names p (value_of row) (at r)
  is_named = row_named p a.functions (ready_functions (accept s) a ready) row f h.0 h.1

  abbrev row_of : RowOf p (masks_in row.sets)
  row_of = record { choices = is_named.0; is_row = is_named.1; masks = is_named.2 }

  -- What `judge` requires
  pub row_ready : (scratch : List ℕ) → length t.patterns.now ≤ length scratch → ReadyIn t (masks_in row.sets) scratch
  row_ready scratch room =
      laid_ready p t.patterns.now t.nodes.tokens.now t.nodes.numbers.now t.faces.now t.functions t.firsts laid t.nodes.one_each
      (masks_in row.sets) row_of scratch room

  -- Which rows are solution rows, by the test of a row
  right : (solves p is_named.0 ≡ true) ↔ SolutionRow p is_named.0
  right = solves_is_right p is_named.0 (accepted_proper p ready.laid.accepted) is_named.1

  judgement : (judged : Option Sources) → Judging a row judged → Judgement p is_named.0 judged
  judgement judged j =
      judge_means p (asked t) t.patterns.now t.nodes.tokens.now t.faces.now t.functions t.firsts laid (masks_in row.sets) row_of
      judged j

  -- "17 not a solution row"
  pub no_solution_lem : Judging a row None → (before : Bytes) → Writes s row before before (Err refusals.NotASolution)
  no_solution_lem j before =
      on_accepted p ready.answer (no_solution_row is_named.0 is_named.3
      (λ x. true≢false (sym (right.1 x) ∙ sym (judgement None j).solution)))

  module _ (kept : Sources) (j : Judging a row (Some kept)) where
    solved : solves p is_named.0 ≡ true
    solved = sym (judgement (Some kept) j).solution

    source : (m : ℕ) → m < metavariable_count → first_of kept.nodes m ≡ node_of (lookup m (sources p is_named.0))
    source = (judgement (Some kept) j).source kept refl

    abbrev pub plan_of : Plan
    plan_of = plan_with a row kept

    denotes : DenotesAll t.nodes.tokens.now plan_of (entry_or p is_named.0)
    denotes =
        subst (λ (es : List ℕ). DenotesAll es plan_of (entry_or p is_named.0)) (sym ready.laid.expressions)
        (plan_denotes p (asked t) t.patterns.now t.nodes.tokens.now t.faces.now a.occurring t.firsts laid_own ready.laid.survey is_named.0
        is_named.1 solved
        row.sets is_named.2 kept source)

    -- What `write_text` requires
    pub row_writable : Writable t.nodes.tokens.now plan_of
    unfolding largest_text
    row_writable = record {
      table = subst Table (sym ready.laid.expressions) (expression_table_lem p ready.laid.accepted.within);
      planned =
          plan_planned p (asked t) t.patterns.now t.nodes.tokens.now t.faces.now a.occurring t.firsts laid_own ready.laid.survey is_named.0
          is_named.1 solved
          row.sets is_named.2 kept source;
      says = entry_or p is_named.0;
      denotes = denotes;
      short = omega (arith, ap length (row_fields p is_named.0), text_fits p is_named.0 ready.laid.accepted solved);
    }

    -- "18 buffer too short", or the text
    pub row_written : (before after : Bytes) (r : Result ℕ Refusal) → TextWritten t.nodes.tokens.now plan_of before after r → Writes s row before after r
    row_written before after r w = go r (w.answer (entry_or p is_named.0) denotes)
      where
        go : (r : Result ℕ Refusal) → TextAnswer (fields_of (entry_or p is_named.0) 0) before after r → Writes s row before after r
        go (Err e) (is, short, same) =
            subst (λ (x : Bytes). WriteCall s (value_of row) before (refused (number e)) x) (sym same)
            (subst (λ (x : Refusal). WriteCall s (value_of row) before (refused (number x)) before) (sym is)
            (on_accepted p ready.answer (too_short is_named.0 is_named.3 (right.0 solved)
            (subst (λ (bs : Bytes). length before < length bs) (sym (row_fields p is_named.0)) short))))
        go (Ok n) (fits, (count, same)) =
            let text : row_text p is_named.0 ≡ fields_of (entry_or p is_named.0) 0 = row_fields p is_named.0 in
            let long : n ≡ length (row_text p is_named.0) = count ∙ ap length (sym text) in
            let buffer : after ≡ row_text p is_named.0 ++ drop (length (row_text p is_named.0)) before =
            same ∙ ap₂ (λ (bs : Bytes) (k : ℕ). bs ++ drop k before) (sym text) long in
            subst (λ (x : Bytes). WriteCall s (value_of row) before (got n) x) (sym buffer)
            (subst
            (λ (k : ℕ). WriteCall s (value_of row) before (got k) (row_text p is_named.0 ++ drop (length (row_text p is_named.0)) before))
            (sym long)
            (on_accepted p ready.answer (writes is_named.0 is_named.3 (right.0 solved)
            (subst (λ (bs : Bytes). length bs ≤ length before) (sym text) fits))))

-- `write_row`: what its calls require, and its returns
module _ {a : Prepared} {row : Place} where
  pub row_judgeable : {scratch : List ℕ} → RowCallable a row scratch → ReadyIn a.tables (masks_in row.sets) scratch
  row_judgeable {scratch} h = row_ready h.callable.bytes a h.callable.ready row h.functions h.is_row scratch h.callable.room

  -- no sources were answered
  pub row_seventeen : {judged : Option Sources} {before : Bytes} (e : Refusal) → Judging a row judged
      → Err e ≡ ok_or judged refusals.NotASolution → RowWritten a row before before (Err e)
  row_seventeen {judged} {before} e j is =
      let (none, same) = none_told judged e refusals.NotASolution is in
      subst (λ (x : Refusal). RowWritten a row before before (Err x)) (sym same)
      (record { answer = λ s ready f h. no_solution_lem s a ready row f h (subst (Judging a row) none j) before })

  -- these sources were answered
  module _ {judged : Option Sources} (kept : Sources) (j : Judging a row judged) (is : Ok kept ≡ ok_or judged refusals.NotASolution) where
    pub row_planned : {scratch : List ℕ} → RowCallable a row scratch → Writable a.tables.nodes.tokens.now (plan_with a row kept)
    row_planned h = row_writable h.callable.bytes a h.callable.ready row h.functions h.is_row kept
        (subst (Judging a row) (some_told judged kept refusals.NotASolution is) j)

    pub row_text_lem : {before after : Bytes} {r : Result ℕ Refusal}
        → TextWritten a.tables.nodes.tokens.now (plan_with a row kept) before after r → RowWritten a row before after r
    row_text_lem {before} {after} {r} t = record {
      answer = λ s ready f h. row_written s a ready row f h kept
          (subst (Judging a row) (some_told judged kept refusals.NotASolution is) j) before after r t;
    }

-- The returns of `write_named`
module _ {a : Prepared} {row : Place} where
  no_row_lem : (s : Bytes) → Ready (accept s) a → (before : Bytes) → ((f : Functions) → RowThere a f row → ⊥)
      → Writes s row before before (Err refusals.NoSuchPlace)
  no_row_lem s ready before f =
      on_accepted ready.problem ready.answer
      (no_such_row (λ r n. let (g, e, is) = named_row ready.problem a.functions (ready_functions (accept s) a ready) row r n in f g (e, is)))

  pub named_nothing : {before : Bytes} {e : Refusal} → Tells row a.functions (Err e) → NamedWritten a row before before (Err e)
  named_nothing {before} t =
      subst (λ (x : Refusal). NamedWritten a row before before (Err x)) (sym t.refusal)
      (record { answer = λ s ready. no_row_lem s ready before (λ f h. t.no_row f h.0 h.1) })

  -- "past the last included"
  pub named_past : {before : Bytes} → Tells row a.functions (Ok named.Past)
      → NamedWritten a row before before (Err refusals.NoSuchPlace)
  named_past {before} t = record { answer = λ s ready. no_row_lem s ready before (λ f h. true≢false (sym t.past ∙ h.1.here)) }

-- The returns of `write`
module _ (s : Bytes) (row : Place) {before : Bytes} where
  pub write_refused : (e : Refusal) → PreparesLent (accept s) (Err e) → Writes s row before before (Err e)
  write_refused e h = not_accepted (number e) (prepared_lent_refused (accept s) e h)

  module _ (a : Prepared) (h : PreparesLent (accept s) (Ok a)) where
    pub write_accepted : {after : Bytes} {r : Result ℕ Refusal} → NamedWritten a row before after r → Writes s row before after r
    write_accepted w = w.answer s (prepared_lent_accepted (accept s) a h)

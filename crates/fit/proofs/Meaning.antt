-- What `judge` answers: whether the row is a solution row, and where each value comes from.
use mathlib.Core.Path.{◌≡◌, refl, ap, sym, ◌∙◌, subst}
use mathlib.Core.Bool.{Bool, true, false}
use mathlib.Core.List.{List}
use mathlib.Core.Option.{Option, none, some}
use Prim.Native.Nat.{ℕ, ◌<◌}
use Rattle.meaning.specs.Limits.{metavariable_count}
use Rattle.meaning.specs.Basics.{All, guard, is_some, ◌∈◌, and_then}
use Rattle.meaning.specs.Term.{metavariable, function, hole, Slot, Term}
use Rattle.meaning.specs.Problem.{Problem, functions}
use Rattle.meaning.specs.Face.{Face}
use Rattle.meaning.specs.Shift.{ClosedTerm}
use Rattle.meaning.specs.Row.{Row, row_body}
use Rattle.meaning.specs.Rows.{rows}
use Rattle.meaning.specs.Value.{lookup, sources}
use Rattle.meaning.specs.Candidate.{solves}
use Rattle.meaning.specs.PlaceValue.{masks_of}
use Rattle.meaning.proofs.Lists.{never, all_mem, mem_all, is_some_lem}
use Rattle.meaning.proofs.Proper.{accepted_proper, applied_functions}
use Rattle.meaning.proofs.OneWay.{faces_walk}
use Rattle.meaning.proofs.Slots.{faced_applied}
use Rattle.tokens.specs.Token.{pattern_tokens, expression_tokens}
use Rattle.numbers.specs.Tests.{Tests}
use Rattle.masks.proofs.Cases.{same_truth}
use Rattle.faces.specs.First.{listed}
use Rattle.faces.specs.declared.first.Firsts.{Firsts}
use Rattle.demands.specs.Demand.{lowest_in, lowest_demands}
use Rattle.demands.specs.Fit.{Suits, faced_by, FitsTogether}
use Rattle.demands.proofs.Agreement.{agreeing_tested}
use Rattle.demands.proofs.DemandedSources.{demands_are_sources}
use Rattle.demands.proofs.FitLaws.{faced_by_lem, by_faced, solves_together}
use Rattle.sources.proofs.KeptMeaning as meaning
use Rattle.sources.proofs.KeptMeaning.{node_of}
use Rattle.sources.specs.Demand.{Nodes, first_of}
use Rattle.sources.specs.Kept.{sources_of, Answers}
use Rattle.sources.specs.declared.Sources.{Sources}
use Rattle.sources.proofs.KeptLaws.{answer_some}
use Rattle.fit.specs.Judging.{bodies_closed, demanded_at, judged_at}
use Rattle.fit.specs.Laid.{Laid, RowOf}
use Rattle.std.specs.Prelude.{Some}
use Rattle.std.specs.Prelude as std
use Rattle.std.specs.Option as answered
use Rattle.fit.proofs.Functions.{laid_own, bodies_closed_in, bodies_closed_out}
use Rattle.fit.proofs.FacesMeaning.{SlotFits, demanded_step}

-- A test before an answer
guarded : {A : Type 0} (b : Bool) (o : Option A) (a : A) → guard b o ≡ some a → (b ≡ true) × (o ≡ some a)
guarded true o a e = (refl, e)
guarded false o a e = never (cc)

module _ (p : Problem) (q : Tests) (ns : List ℕ) (s : ℕ) (firsts : Firsts)
    (l : Laid p q (pattern_tokens p) (expression_tokens p) ns s firsts) (r : Row) (i : r ∈ rows p) where
  abbrev es : List ℕ
  es = expression_tokens p

  abbrev answer : Option Nodes
  answer = judged_at q (pattern_tokens p) es ns s firsts (masks_of r)

  abbrev fits : Face → Type 0
  fits x = SlotFits (row_body p r) x x.what

  abbrev b : ℕ → Term
  b = row_body p r

  demands_are : lowest_demands p r ≡ lowest_in b l.found
  unfolding lowest_demands
  demands_are = ap (λ (o : Option (List Face)). and_then o (lowest_in b)) l.agree

  -- An answer is that of a row that fits, and its nodes are those of the sources
  judged_in : (kept : Nodes) → answer ≡ some kept → FitsTogether p r × meaning.Firsts es kept (sources p r)
  unfolding judged_at row_body
  judged_in kept e =
      let (c, d) =
      guarded (bodies_closed es (listed firsts) (masks_of r)) (demanded_at q (pattern_tokens p) es ns s firsts (masks_of r)) kept e in
      let closed = bodies_closed_in p q ns s firsts l r i c in
      let (u, (ds, met, a, f)) = (demanded_step p q ns s firsts l r i closed).into kept d in
      let demanded : lowest_demands p r ≡ some ds = demands_are ∙ met in (
        record {
          alone = λ g m. record { suits = λ t w. suits u.1 g t w; closed = closed g m };
          list = ds;
          demanded = demanded;
          agreeing = (agreeing_tested ds).1 a;
        },
        subst (meaning.Firsts es kept) (demands_are_sources p r ds demanded) f,
      )
    where
      suits : All fits l.found → (g : ℕ) (t : Term) → t ∈ faced_by p g → Suits (row_body p r g) t
      suits v g t w =
          let (x, n, m, z, d) = faced_by_lem p l.found l.agree g t w in
          subst (Suits (row_body p r g)) (sym d) (subst (SlotFits b x) z (all_mem fits x l.found v m))

  judged_out : FitsTogether p r → is_some answer ≡ true
  unfolding judged_at row_body
  judged_out x =
      let closed : (f : ℕ) → f ∈ functions p → ClosedTerm (row_body p r f) = λ f m. (x.alone f m).closed in
      let c : bodies_closed es (listed firsts) (masks_of r) ≡ true = bodies_closed_out p q ns s firsts l r i closed in
      ap (λ (t : Bool). is_some (guard t (demanded_at q (pattern_tokens p) es ns s firsts (masks_of r)))) c
      ∙ (demanded_step p q ns s firsts l r i closed).back (tt, mem_all fits l.found (λ y m. suits y m y.what refl)) x.list
      (sym demands_are ∙ x.demanded) ((agreeing_tested x.list).0 x.agreeing)
    where
      suits : (y : Face) → y ∈ l.found → (z : Slot) → y.what ≡ z → SlotFits b y z
      suits y m (metavariable k) e = tt
      suits y m (hole k) e = tt
      suits y m (function f k) e =
          let proper = accepted_proper p l.accepted in
          let walk = faces_walk p l.found l.agree in
          (x.alone f (applied_functions p proper f (faced_applied p proper l.found walk f k y m e))).suits y.term
          (by_faced p l.found l.agree f y k m e)

  solved : is_some answer ≡ solves p r
  solved =
      let t = solves_together p r l.accepted i in
      same_truth (is_some answer) (solves p r)
      (λ b. let (kept, e) = is_some_lem answer b in t.1 (judged_in kept e).0)
      (λ b. judged_out (t.0 b))

  judged_sources : (kept : Nodes) → answer ≡ some kept → (m : ℕ) → m < metavariable_count → first_of kept m ≡ node_of (lookup m (sources p r))
  judged_sources kept e m h = (judged_in kept e).1.nodes m h

-- The answer for a row
pub record Judgement (p : Problem) (r : Row) (a : std.Option Sources) : Type 0 where
  pub solution : answered.is_some a ≡ solves p r
  -- "A value comes from the metavariable's first occurrence outside arguments, else from the first application ..": its node, or none
  pub source : (t : Sources) → a ≡ Some t → (m : ℕ) → m < metavariable_count → first_of t.nodes m ≡ node_of (lookup m (sources p r))

-- Whether there is an answer
pub answers_some : (o : Option Nodes) (a : std.Option Sources) → Answers o a → answered.is_some a ≡ is_some o
answers_some o a e = ap (λ (x : std.Option Sources). answered.is_some x) e ∙ by_cases o
  where
    by_cases : (w : Option Nodes) → answered.is_some (sources_of w) ≡ is_some w
    by_cases none = refl
    by_cases (some kept) = refl

-- THE THEOREM
pub judge_means : (p : Problem) (q : Tests) (ps es ns : List ℕ) (s : ℕ) (firsts : Firsts) → Laid p q ps es ns s firsts
    → (row : List ℕ) (o : RowOf p row) (a : std.Option Sources)
    → Answers (judged_at q ps es ns s firsts row) a → Judgement p o.choices a
judge_means p q ps es ns s firsts l row o a j =
    let own = laid_own p q ps es ns s firsts l in
    let r : Row = o.choices in
    let mine : Answers (judged_at q (pattern_tokens p) (expression_tokens p) ns s firsts (masks_of r)) a =
    subst (λ (t : List ℕ). Answers (judged_at q (pattern_tokens p) (expression_tokens p) ns s firsts t) a) o.masks
    (subst (λ (t : List ℕ). Answers (judged_at q (pattern_tokens p) t ns s firsts row) a) l.expressions
    (subst (λ (t : List ℕ). Answers (judged_at q t es ns s firsts row) a) l.patterns j)) in
    let judged : Option Nodes = judged_at q (pattern_tokens p) (expression_tokens p) ns s firsts (masks_of r) in
    record {
      solution = answers_some judged a mine ∙ solved p q ns s firsts own r o.is_row;
      source = λ t e m h. judged_sources p q ns s firsts own r o.is_row t.nodes (answer_some judged a mine t e) m h;
    }

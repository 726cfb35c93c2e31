-- A plan made of a solution row's node sets and sources denotes the entries of the row's text.
--   PlanOf   the plan of a row of a problem
use mathlib.Core.Path.{◌≡◌, refl, ap, ap₂, sym, ◌∙◌, subst}
use mathlib.Core.Bool.{Bool, true, false, ◌||◌, true≢false}
use mathlib.Core.List.{List}
use mathlib.Core.Option.{Option, none, some}
use Rattle.std.proofs.Common.{Some, None}
use Rattle.std.specs.Prelude as std
use Prim.Native.Nat.{ℕ, ◌<◌, ◌≤◌}
use native.Mathlib.Omega.{arith}
use lib.ListN.{get_or, length}
use lib.Seq.{get_or-take}
use Rattle.meaning.specs.Limits.{max_face_nodes, metavariable_count}
use Rattle.meaning.specs.Basics.{or_none, ◌∈◌}
use Rattle.meaning.specs.Term.{NamedTerm, Term}
use Rattle.meaning.specs.Problem.{Problem, applied, functions, is_function, is_plain, patterns, plain}
use Rattle.meaning.specs.Filling.{absent, body}
use Rattle.meaning.specs.Filling as meant
use Rattle.meaning.specs.Face.{Face, faces, first_face}
use Rattle.meaning.specs.Choice.{Choice, Marks, punch_term}
use Rattle.meaning.specs.Row.{Row, choice_in, face_of}
use Rattle.meaning.specs.Rows.{rows}
use Rattle.meaning.specs.Value.{Source, lookup, sources}
use Rattle.meaning.specs.Candidate.{solves}
use Rattle.meaning.specs.Text.{entry_of, face_node, term_at, written_body, written_value}
use Rattle.meaning.specs.PlaceValue.{mask_of, masks_of}
use Rattle.meaning.proofs.Lists.{by_test, choose_false, choose_true, is_in_mem, mem_is_in}
use Rattle.meaning.proofs.Proper.{accepted_proper, applied_functions, plain_occurs}
use Rattle.meaning.proofs.TextLaws.{copied, value_copied, written_value_lem}
use Rattle.masks.specs.Sets.{mask, masks_in}
use Rattle.masks.specs.declared.NodeSet.{NodeSet}
use Rattle.masks.proofs.Words.{masks_at, no_nodes}
use Rattle.tokens.specs.Token.{expression_tokens, pattern_tokens}
use Rattle.tokens.specs.Key.{at}
use Rattle.metavariables.specs.Survey.{Surveyed, count, has}
use Rattle.metavariables.specs.declared.Occurring.{Occurring}
use Rattle.metavariables.proofs.SurveyMeaning.{survey_functions, survey_plain}
use Rattle.faces.specs.First.{listed}
use Rattle.faces.specs.declared.first.Firsts.{Firsts}
use Rattle.sources.specs.Demand.{first_of}
use Rattle.sources.specs.declared.Sources.{Sources}
use Rattle.sources.proofs.KeptMeaning.{node_of}
use Rattle.numbers.specs.Tests.{Tests}
use Rattle.fit.specs.Laid.{Laid}
use Rattle.fit.proofs.Ranks.{first_at_lem, rank_at_lem}
use Rattle.fit.proofs.Functions.{function_at, laid_own}
use Rattle.copying.specs.Copied as copying
use Rattle.copying.specs.Copied.{TermIn}
use Rattle.copying.proofs.CopiedMeaning.{copied_choice, expression_in}
use Rattle.composing.specs.Entries.{Denotes, DenotesAll, Planned, body_at, entry_at, value_at, value_from}
use Rattle.composing.specs.declared.entry.Plan.{Plan}
use Rattle.composing.specs.declared.entry.Entry.{Entry}
use Rattle.composing.proofs.FieldLaws.{entry_or}

module _ (p : Problem) (tests : Tests) (ps es ns : List ℕ) (o : Occurring) (firsts : Firsts) (l : Laid p tests ps es ns o.functions firsts)
    (survey : Surveyed (pattern_tokens p) o) (r : Row) (i : r ∈ rows p) (solved : solves p r ≡ true) (sets : List NodeSet)
    (masks : masks_in sets ≡ masks_of r) (kept : Sources)
    (source : (m : ℕ) → m < metavariable_count → first_of kept.nodes m ≡ node_of (lookup m (sources p r))) where
  abbrev pub plan : Plan
  plan = record { occurring = o; nodes = firsts.nodes; row = sets; sources = kept }

  own : Laid p tests (pattern_tokens p) (expression_tokens p) ns o.functions firsts
  own = laid_own p tests ps es ns o.functions firsts l

  function_in_lem : (m : ℕ) → is_function p m ≡ true → m ∈ functions p
  function_in_lem m e =
      applied_functions p (accepted_proper p l.accepted) m (is_in_mem m (applied (patterns p)) e)

  -- Each function has its place
  pub plan_planned : Planned plan
  plan_planned = record {
    rank = λ m small e. (function_at p tests ns o.functions firsts own r i (count m o.functions) m
        (rank_at_lem p o.functions l.set m
        (function_in_lem m (sym (survey_functions p l.accepted.within o survey m small) ∙ e)))).few;
  }

  -- "A function's face is that of its first application": its node is looked up at the function's rank
  module _ (m : ℕ) (e : is_function p m ≡ true) where
    abbrev k : ℕ
    k = count m o.functions

    abbrev marks : Marks
    marks = choice_in (functions p) r m

    abbrev face : NamedTerm
    face = term_at p (at firsts.nodes k)

    body_entry : entry_of p r m ≡ body (punch_term marks face)
    unfolding entry_of
    body_entry =
        let (first, small) = first_at_lem p l.found (functions p) (listed firsts) k m l.nodes
        (rank_at_lem p o.functions l.set m (function_in_lem m e)) in
        let a = function_at p tests ns o.functions firsts own r i k m (rank_at_lem p o.functions l.set m (function_in_lem m e)) in
        let node : face_node (first_face m (or_none (faces p))) ≡ at firsts.nodes k =
        ap (λ (x : Option (List Face)). face_node (first_face m (or_none x))) l.agree ∙ ap face_node first.is_first ∙ sym first.node
        ∙ get_or-take firsts.count firsts.nodes k 0 a.place in
        choose_true (written_body p r m) (written_value p (lookup m (sources p r))) e
        ∙ ap (λ (n : ℕ). body (punch_term marks (term_at p n))) node

    body_denotes : Denotes (expression_tokens p) (Some (body_at plan k)) (entry_of p r m)
    unfolding body_at
    body_denotes =
        let a = function_at p tests ns o.functions firsts own r i k m (rank_at_lem p o.functions l.set m (function_in_lem m e)) in
        let c = copied p (at firsts.nodes k) (face_of p m) a.face in
        let same : mask (get_or sets k (no_nodes)) ≡ mask_of max_face_nodes marks =
        masks_at sets k ∙ ap (λ (row : List ℕ). at row k) masks ∙ a.mask in
        let few : length marks ≤ max_face_nodes = omega (arith, a.choice.long, a.small) in (
          face,
          punch_term marks face,
          expression_in p l.accepted.within (at firsts.nodes k) face c.there,
          body_entry,
          ap (λ (n : ℕ). copying.copied n face) same ∙ copied_choice marks face few a.choice.places,
          record {
            scope = c.scope;
            marks = marks;
            choice = subst (λ (t : Term). Choice 1 t marks) c.means a.choice;
            few = few;
            is_mask = same;
          },
        )

  -- "A value comes from .."
  module _ (m : ℕ) (small : m < metavariable_count) (f : is_function p m ≡ false) (q : is_plain p m ≡ true) where
    no_function : m ∈ applied (patterns p) → ⊥
    no_function a = true≢false (sym (mem_is_in m (applied (patterns p)) a) ∙ f)

    value_entry_lem : entry_of p r m ≡ written_value p (lookup m (sources p r))
    value_entry_lem = written_value_lem p r l.accepted solved m no_function

    value_denotes : Denotes (expression_tokens p) (Some (value_at plan m)) (entry_of p r m)
    unfolding value_at
    value_denotes = go (lookup m (sources p r)) refl
      where
        go : (x : Option Source) → lookup m (sources p r) ≡ x → Denotes (expression_tokens p) (Some (value_at plan m)) (entry_of p r m)
        go none e =
            subst (λ (y : std.Option ℕ). Denotes (expression_tokens p) (Some (value_from y)) (entry_of p r m))
            (sym (source m small ∙ ap node_of e)) (value_entry_lem ∙ ap (written_value p) e)
        go (some s) e =
            let there : TermIn (expression_tokens p) s.node (term_at p s.node) =
            expression_in p l.accepted.within s.node (term_at p s.node)
            (value_copied p r l.accepted solved m s (plain_occurs p (accepted_proper p l.accepted) m
            (is_in_mem m (plain (patterns p)) q)) no_function (is_in_mem m (plain (patterns p)) q) e).1.there in
            subst (λ (y : std.Option ℕ). Denotes (expression_tokens p) (Some (value_from y)) (entry_of p r m))
            (sym (source m small ∙ ap node_of e))
            (term_at p s.node, there, value_entry_lem ∙ ap (written_value p) e)

  -- THE PLAN DENOTES THE ENTRIES OF THE TEXT
  pub plan_denotes : DenotesAll (expression_tokens p) plan (entry_or p r)
  unfolding entry_at
  plan_denotes m small =
      by_test (is_function p m) (λ f. as_function f)
      (λ f. by_test (is_plain p m) (λ q. as_plain f q) (λ q. as_absent f q))
    where
      told_function : has o.functions m ≡ is_function p m
      told_function = survey_functions p l.accepted.within o survey m small

      told_plain : has o.plain m ≡ is_plain p m
      told_plain = survey_plain p l.accepted.within o survey m small

      moved : (x : std.Option Entry) (e : meant.Entry NamedTerm) → entry_at plan m ≡ x → entry_or p r m ≡ e → Denotes (expression_tokens p) x e
          → Denotes (expression_tokens p) (entry_at plan m) (entry_or p r m)
      moved x e a b d =
          subst (λ (y : std.Option Entry). Denotes (expression_tokens p) y (entry_or p r m)) (sym a) (subst (Denotes (expression_tokens p) x) (sym b) d)

      as_function : is_function p m ≡ true → Denotes (expression_tokens p) (entry_at plan m) (entry_or p r m)
      as_function f =
          moved (Some (body_at plan (count m o.functions))) (entry_of p r m) (choose_true _ _ (told_function ∙ f))
          (choose_true _ _ (ap (λ (b : Bool). b || is_plain p m) f)) (body_denotes m f)

      as_plain : is_function p m ≡ false → is_plain p m ≡ true → Denotes (expression_tokens p) (entry_at plan m) (entry_or p r m)
      as_plain f q =
          moved (Some (value_at plan m)) (entry_of p r m) (choose_false _ _ (told_function ∙ f) ∙ choose_true _ _ (told_plain ∙ q))
          (choose_true _ _ (ap₂ (λ (a b : Bool). a || b) f q)) (value_denotes m small f q)

      as_absent : is_function p m ≡ false → is_plain p m ≡ false → Denotes (expression_tokens p) (entry_at plan m) (entry_or p r m)
      as_absent f q =
          moved None absent (choose_false _ _ (told_function ∙ f) ∙ choose_false _ _ (told_plain ∙ q))
          (choose_false _ _ (ap₂ (λ (a b : Bool). a || b) f q)) refl

-- A law for each return of the checker's functions, and for what their calls require.
use mathlib.Core.Path.{◌≡◌, refl, ap, ap₂, sym, ◌∙◌, subst}
use mathlib.Core.Bool.{Bool, true, false, ◌&&◌, not}
use mathlib.Core.List.{List}
use mathlib.Core.Option.{none}
use Prim.Native.Nat.{ℕ, ◌≤◌}
use native.Mathlib.Omega.{arith}
use lib.ListN.{length, take}
use lib.Seq.{length-take-le}
use Rattle.meaning.specs.Basics.{Bytes, is_some}
use Rattle.meaning.specs.Problem.{Problem, both_ways}
use Rattle.meaning.specs.Filling.{Filling}
use Rattle.meaning.specs.Face.{faces}
use Rattle.meaning.specs.Read.{Answer, got, refused}
use Rattle.meaning.specs.Accept.{accept}
use Rattle.meaning.specs.Text.{Item, read_text, said}
use Rattle.meaning.specs.Passing.{kinds, known, meets, open_unneeded, passes, unneeded_open}
use Rattle.meaning.specs.Entry.{check_call, check_on}
use Rattle.meaning.proofs.Lists.{by_test}
use Rattle.meaning.proofs.OneWay.{faces_one_way, faces_walk, walk_faces}
use Rattle.tokens.specs.Token.{Table}
use Rattle.tokens.proofs.ProblemTokens.{pattern_table_lem}
use Rattle.table.specs.Whole.{table_room}
use Rattle.accept.specs.Acceptance.{AcceptsLent, FacesFound, Stands}
use Rattle.accept.specs.declared.Standing.{Standing}
use Rattle.accept.proofs.AcceptanceLaws.{patterns_few, lent_accepted, lent_refused}
use Rattle.said.specs.declared.Said.{Said}
use Rattle.entries.specs.Sets.{SetOf}
use Rattle.entries.specs.Fields.{kinds_at, known_at, open_unneeded_at, unneeded_open_at}
use Rattle.entries.specs.Holes.{holed_at}
use Rattle.entries.specs.Needed.{needed_at}
use Rattle.entries.proofs.Meaning.{kinds_means, known_means, open_unneeded_means, unneeded_open_means}
use Rattle.filled.specs.Filled.{filled_at}
use Rattle.filled.specs.Grounded.{Grounded}
use Rattle.filled.proofs.Meaning.{filled_means, meets_disagree}
use Rattle.items.specs.Texts.{TextDone}
use Rattle.items.specs.declared.Text.{Text}
use Rattle.checking.specs.Checking.{CheckedText, Decidable, FieldsJudged, Ground, Met, OpenJudged, Passed, Told, answer_of}
use Rattle.checking.specs.Checking.{constraints_pass, fields_pass, is_yes}
use Rattle.checking.specs.declared.Verdict.{Verdict}
use Rattle.std.proofs.Common.{Bor}
use Rattle.std.specs.Prelude.{Result, Ok, Err, Some, None, MatchOption}
use Rattle.std.specs.Prelude as std
use Rattle.refusal.specs.Number.{number}
use Rattle.refusal.specs.declared.Refusal.{Refusal}

-- What `needed` requires
pub told_table : (p : Problem) (is : List Item) (a : Standing) (ts : List ℕ) (s : Said) → Told p is a ts s → Table a.patterns.now
told_table p is a ts s t = subst Table (sym t.stands.patterns) (pattern_table_lem p t.stands.accepted.within)

-- Open just where no value is needed
module _ (a : Standing) (ts : List ℕ) (s : Said) (holed : ℕ) (is_holed : SetOf (holed_at ts s) holed) (needed : ℕ)
    (is_needed : SetOf (needed_at a.patterns.now holed) needed) where
  needed_in : (p : Problem) (is : List Item) (t : Told p is a ts s)
      → (open_unneeded_at s needed ≡ open_unneeded p (said is)) × (unneeded_open_at s a.occurring.plain needed ≡ unneeded_open p (said is))
  needed_in p is t =
      let own = subst (λ (x : List ℕ). SetOf (needed_at x holed) needed) t.stands.patterns is_needed in (
        open_unneeded_means p t.stands.accepted ts is s t.says holed is_holed needed own,
        unneeded_open_means p t.stands.accepted ts is s t.says holed is_holed needed own a.occurring t.stands.survey,
      )

  module _ (found : Bool) (is_found : found ≡ open_unneeded_at s needed) where
    open_in : (p : Problem) (is : List Item) → Told p is a ts s
        → found && unneeded_open p (said is) ≡ open_unneeded p (said is) && unneeded_open p (said is)
    open_in p is t = ap (λ (b : Bool). b && unneeded_open p (said is)) (is_found ∙ (needed_in p is t).0)

    pub open_needed : found ≡ false → OpenJudged a ts s found
    open_needed q = record {
      judged = λ p is t. q ∙ sym (ap (λ (b : Bool). b && unneeded_open p (said is)) q) ∙ open_in p is t;
    }

    pub open_judged : (r : Bool) → found ≡ true → r ≡ unneeded_open_at s a.occurring.plain needed → OpenJudged a ts s r
    open_judged r q e = record {
      judged = λ p is t.
          e ∙ (needed_in p is t).1 ∙ sym (ap (λ (b : Bool). b && unneeded_open p (said is)) q) ∙ open_in p is t;
    }

-- The fields
module _ (a : Standing) (ts : List ℕ) (s : Said) (found : Bool) (is_found : found ≡ known_at s a.occurring) where
  abbrev open_in_place : Problem → List Item → Bool
  open_in_place p is = open_unneeded p (said is) && unneeded_open p (said is)

  known_in : (p : Problem) (is : List Item) → Told p is a ts s → found && (kinds p (said is) && open_in_place p is) ≡ fields_pass p is
  known_in p is t =
      ap (λ (b : Bool). b && (kinds p (said is) && open_in_place p is))
      (is_found ∙ known_means p t.stands.accepted ts is s t.says a.occurring t.stands.survey)

  pub fields_foreign : found ≡ false → FieldsJudged a ts s found
  fields_foreign q = record {
    judged = λ p is t. q ∙ sym (ap (λ (b : Bool). b && (kinds p (said is) && open_in_place p is)) q) ∙ known_in p is t;
  }

  module _ (all_known : found ≡ true) (right : Bool) (is_right : right ≡ kinds_at s a.occurring) where
    kinds_in : (p : Problem) (is : List Item) → Told p is a ts s → right && open_in_place p is ≡ fields_pass p is
    kinds_in p is t =
        ap (λ (b : Bool). b && open_in_place p is) (is_right ∙ kinds_means p t.stands.accepted ts is s t.says a.occurring t.stands.survey)
        ∙ sym (ap (λ (b : Bool). b && (kinds p (said is) && open_in_place p is)) all_known)
        ∙ known_in p is t

    pub fields_kinds : right ≡ false → FieldsJudged a ts s right
    fields_kinds q = record {
      judged = λ p is t. q ∙ sym (ap (λ (b : Bool). b && open_in_place p is) q) ∙ kinds_in p is t;
    }

    pub fields_open : (r : Bool) → right ≡ true → OpenJudged a ts s r → FieldsJudged a ts s r
    fields_open r q h = record {
      judged = λ p is t. h.judged p is t ∙ sym (ap (λ (b : Bool). b && open_in_place p is) q) ∙ kinds_in p is t;
    }

-- No letter is used both ways, and each filled pattern equals its expression.
-- A problem without faces uses a letter both ways, or its shapes disagree
faceless : (p : Problem) (σ : Filling) → faces p ≡ none → not (both_ways p) && meets p σ ≡ false
faceless p σ e =
    by_test (both_ways p)
    (λ b. ap (λ (x : Bool). not x && meets p σ) b)
    (λ b. ap (λ (x : Bool). not x && meets p σ) b ∙ meets_disagree p σ (sym (walk_faces p b) ∙ e))

module _ (a : Standing) (ts : List ℕ) (s : Said) where
  abbrev FacesOf : Problem → std.Option (Bor (List ℕ)) → Type 0
  FacesOf p o = MatchOption o (faces p ≡ none) (λ fs. FacesFound p fs.now)

  pub met_never : a.faces ≡ None → Met a ts s false
  met_never e = record { judged = λ p is t. sym (faceless p (said is) (subst (FacesOf p) e t.stands.faces)) }

  module _ (lent : Bor (List ℕ)) (some-rows : a.faces ≡ Some lent) where
    has_faces : (p : Problem) → Stands p a → FacesFound p lent.now
    has_faces p h = subst (FacesOf p) some-rows h.faces

    -- What `filled` requires
    pub met_grounded : (holes scratch : List ℕ) → Decidable a ts s holes scratch
        → Grounded a.patterns.now a.expressions.now lent.now ts s holes scratch
    met_grounded holes scratch d =
        let (p, is, told) = d.told in
        let has = has_faces p told.stands in
        record {
          problem = p;
          accepted = told.stands.accepted;
          patterns = told.stands.patterns;
          expressions = told.stands.expressions;
          found = has.found;
          agree = faces_walk p has.found has.agree;
          recorded = has.recorded;
          items = is;
          says = told.says;
          body_room = d.body_room;
          argument_room = d.argument_room;
        }

    pub met_filled : (r : Bool) → r ≡ filled_at a.patterns.now a.expressions.now lent.now ts s → Met a ts s r
    met_filled r e = record {
      judged = λ p is t.
          let has = has_faces p t.stands in
          e ∙ ap₂ (λ (x y : List ℕ). filled_at x y lent.now ts s) t.stands.patterns t.stands.expressions
          ∙ filled_means p t.stands.accepted lent.now has.found (faces_walk p has.found has.agree) has.recorded ts is s t.says
          ∙ sym (ap (λ (b : Bool). not b && meets p (said is)) (faces_one_way p (ap is_some has.agree)));
    }

  -- The whole decision
  and-false : (b : Bool) → b && false ≡ false
  and-false true = refl
  and-false false = refl

  regroup : (z a b c d e : Bool) → z && (a && (b && (c && (d && e)))) ≡ (a && (b && (c && d))) && (z && e)
  regroup true true true true d e = refl
  regroup true true true false d e = refl
  regroup true true false c d e = refl
  regroup true false b c d e = refl
  regroup false a b c d e = sym (and-false (a && (b && (c && d))))

  module _ (found : Bool) (h : FieldsJudged a ts s found) where
    parts : (p : Problem) (is : List Item) → Told p is a ts s → found && constraints_pass p is ≡ passes p is
    unfolding passes
    parts p is t =
        ap (λ (b : Bool). b && constraints_pass p is) (h.judged p is t)
        ∙ sym (regroup (not (both_ways p)) (known p is) (kinds p (said is)) (open_unneeded p (said is)) (unneeded_open p (said is))
        (meets p (said is)))

    pub passed_never : found ≡ false → Passed a ts s found
    passed_never q = record {
      judged = λ p is t. q ∙ sym (ap (λ (b : Bool). b && constraints_pass p is) q) ∙ parts p is t;
    }

    pub passed_met : (r : Bool) → found ≡ true → Met a ts s r → Passed a ts s r
    passed_met r q m = record {
      judged = λ p is t. m.judged p is t ∙ sym (ap (λ (b : Bool). b && constraints_pass p is) q) ∙ parts p is t;
    }

-- A text that is read, and one that is not
module _ (text : Bytes) (a : Standing) where
  -- 19, 20 and 27
  pub text_refused : (e : Refusal) → read_text text ≡ refused (number e) → CheckedText a text (Err e)
  unfolding check_on
  text_refused e h = record { answer = λ p l. rw h }

  module _ (table : List ℕ) (read : Text) (h : TextDone (read_text text) table (Ok read)) where
    -- What `passes` requires
    pub text_decidable : (holes scratch : List ℕ) → length table ≤ length holes → table_room ≤ length scratch → Ground a
        → Decidable a (take read.used table) read.said holes scratch
    text_decidable holes scratch body argument g = record {
      told = (g.0, h.items, record { stands = g.1; says = h.says });
      body_room = omega (arith, length-take-le read.used table h.within, h.within);
      argument_room = omega (arith, argument, patterns_few g.0 g.1.accepted.within a.patterns.now g.1.patterns);
    }

    pub text_passed : (v : Verdict) → Passed a (take read.used table) read.said (is_yes v) → CheckedText a text (Ok v)
    unfolding check_on
    text_passed v q = record {
      answer = λ p l. rw h.answer (ap got (q.judged p h.items (record { stands = l; says = h.says })));
    }

-- What `check_text` requires
pub accepted_ground : (x : Answer Problem) (a : Standing) → AcceptsLent x (Ok a) → Ground a
accepted_ground x a h = let (p, e, stands) = lent_accepted x a h in (p, stands)

-- The problem, accepted or not
module _ (s text : Bytes) where
  pub check_refused : (e : Refusal) → AcceptsLent (accept s) (Err e) → answer_of (Err e) ≡ check_call s text
  unfolding check_call
  check_refused e h = rw (lent_refused (accept s) e h)

  pub check_accepted : (a : Standing) → AcceptsLent (accept s) (Ok a) → (r : Result Verdict Refusal) → CheckedText a text r
      → answer_of r ≡ check_call s text
  unfolding check_call
  check_accepted a h r t = let (p, e, stands) = lent_accepted (accept s) a h in rw e (t.answer p stands)

-- A potential solution is complete exactly when it meets the constraints by itself, where what is not in its domain stays as it is.
--   Whole      such a potential solution
--   extended   its extension by a symbol x, as value and as body without holes: if x is in no expression of the problem, this one tells
use mathlib.Core.Path.{◌≡◌, refl, ap, sym, ◌∙◌, subst}
use mathlib.Core.Logic.{◌⊎◌, inl, inr, ◌↔◌}
use mathlib.Core.Bool.{Bool, true, false}
use Prim.Native.Nat.{ℕ, zero}
use Rattle.meaning.specs.Basics.{◌∈◌}
use Rattle.meaning.specs.Term.{Term}
use Rattle.meaning.specs.Problem.{Problem, applied, expressions, is_function, is_plain, patterns, places_of, plain}
use Rattle.meaning.specs.Filling.{Entry, Filling, absent, body, filled, left_open, value}
use Rattle.meaning.specs.Textbook.{Complete, CompleteByTotals, EitherOf, ElementOf, ExpressionFunction, Extends, IfGiven, Language}
use Rattle.meaning.specs.Textbook.{PotentialSolution, Satisfies, Total, TypeConsistent}
use Rattle.meaning.proofs.Lists.{mem_is_in, never, not_is_in}
use Rattle.meaning.proofs.Constraints.{meets_each}
use Rattle.meaning.proofs.Unseen.{AllClean, Loud, fresh, loud_absent, loud_body, loud_value, unseen}

pub record Whole (E : Language) (p : Problem) (s : Filling) : Type 0 where
  pub potential : PotentialSolution E p s
  pub meets : filled s (patterns p) ≡ expressions p

-- What is given to a metavariable, or else d
abbrev given_or : Entry Term → Entry Term → Entry Term
given_or absent d = d
given_or left_open d = left_open
given_or (value t) d = value t
given_or (body b) d = body b

given_part : (e d : Entry Term) → (e ≡ absent) ⊎ (e ≡ given_or e d)
given_part absent d = inl refl
given_part left_open d = inr refl
given_part (value t) d = inr refl
given_part (body b) d = inr refl

given_present : (e d : Entry Term) → (d ≡ absent → ⊥) → given_or e d ≡ absent → ⊥
given_present absent d h q = h q
given_present left_open d h q = never (cc)
given_present (value t) d h q = never (cc)
given_present (body b) d h q = never (cc)

given_loud : (x m : ℕ) (e d : Entry Term) → Loud x m d → (e ≡ given_or e d) ⊎ Loud x m (given_or e d)
given_loud x m absent d l = inr l
given_loud x m left_open d l = inl refl
given_loud x m (value t) d l = inl refl
given_loud x m (body b) d l = inl refl

-- What stands for a function, for another metavariable, and for one that does not occur
abbrev stand : ℕ → Bool → Bool → Entry Term
stand x true other = body (fresh x)
stand x false true = value (fresh x)
stand x false false = absent

stand_loud : (x m : ℕ) (function other : Bool) → Loud x m (stand x function other)
stand_loud x m true other = loud_body x m
stand_loud x m false true = loud_value x m
stand_loud x m false false = loud_absent x m

module _ (p : Problem) (x : ℕ) where
  abbrev gap : ℕ → Entry Term
  gap m = stand x (is_function p m) (is_plain p m)

  abbrev extended : Filling → Filling
  extended s m = given_or (s m) (gap m)

  module _ (E : Language) (here : E (fresh x)) (consistent : TypeConsistent p) (s : Filling) (h : PotentialSolution E p s) where
    fresh_function : (places : ℕ) → ExpressionFunction E places (body (fresh x))
    fresh_function places = (fresh x, refl, (tt, tt, tt), (tt, tt, tt), here)

    fresh_element : ElementOf E (value (fresh x))
    fresh_element = (fresh x, refl, (tt, tt, tt), (tt, tt, tt), here)

    gap_function : (f : ℕ) → f ∈ applied (patterns p) → gap f ≡ body (fresh x)
    gap_function f a = ap (λ (b : Bool). stand x b (is_plain p f)) (mem_is_in f (applied (patterns p)) a)

    gap_element : (m : ℕ) → m ∈ plain (patterns p) → gap m ≡ value (fresh x)
    gap_element m q =
        ap (λ (b : Bool). stand x b (is_plain p m)) (not_is_in m (applied (patterns p)) (λ a. consistent m a q))
        ∙ ap (stand x false) (mem_is_in m (plain (patterns p)) q)

    -- What holds of what is given and of what stands in a gap holds of the extension
    either : (P : Entry Term → Type 0) (m : ℕ) → P (s m) → P (gap m) → P (extended s m)
    either P m kept d = go (s m) kept
      where
        go : (e : Entry Term) → P e → P (given_or e (gap m))
        go absent q = d
        go left_open q = q
        go (value t) q = q
        go (body b) q = q

    stand_given : (function other : Bool) → IfGiven (EitherOf E) (stand x function other)
    stand_given true other = inr (inr (zero, fresh_function zero))
    stand_given false true = inr (inl fresh_element)
    stand_given false false = inl refl

    extended_total : Total E p (extended s)
    extended_total = record {
      potential = record {
        given = λ m. either (IfGiven (EitherOf E)) m (h.given m) (stand_given (is_function p m) (is_plain p m));
        functions = λ f a. either (IfGiven (ExpressionFunction E (places_of p f))) f (h.functions f a)
            (inr (subst (ExpressionFunction E (places_of p f)) (sym (gap_function f a)) (fresh_function (places_of p f))));
        elements = λ m q. either (IfGiven (ElementOf E)) m (h.elements m q)
            (inr (subst (ElementOf E) (sym (gap_element m q)) fresh_element));
      };
      all_functions = λ f a. given_present (s f) (gap f) (λ e. let d = gap_function f a in never (cc));
      all_elements = λ m q. given_present (s m) (gap m) (λ e. let d = gap_element m q in never (cc));
    }

  -- ONE EXTENSION TELLS
  extension_meets : (s : Filling) → AllClean x (expressions p) → Satisfies p (extended s) → filled s (patterns p) ≡ expressions p
  extension_meets s clean f =
      let e : filled (extended s) (patterns p) ≡ expressions p = (meets_each (extended s) p).1 f in
      unseen x (extended s) s (λ m. given_loud x m (s m) (gap m) (stand_loud x m (is_function p m) (is_plain p m))) 0 (patterns p)
      (subst (AllClean x) (sym e) clean)
      ∙ e

-- WHAT MEETS THE CONSTRAINTS, each of its extensions satisfies, total or not
module _ (p : Problem) (x : ℕ) (clean : AllClean x (expressions p)) where
  meets_satisfies : (s s' : Filling) → filled s (patterns p) ≡ expressions p → Extends s' s → Satisfies p s'
  meets_satisfies s s' e part =
      (meets_each s' p).0 (unseen x s s' (λ m. agree m (part m)) 0 (patterns p) (subst (AllClean x) (sym e) clean) ∙ e)
    where
      agree : (m : ℕ) → (s m ≡ absent) ⊎ (s m ≡ s' m) → (s' m ≡ s m) ⊎ Loud x m (s m)
      agree m (inl q) = inr (subst (Loud x m) (sym q) (loud_absent x m))
      agree m (inr q) = inl (sym q)

  module _ (E : Language) (s : Filling) where
    -- DEFINITION 16
    pub complete_whole : Complete E p s ↔ Whole E p s
    complete_whole = (
      λ c. record { potential = c.potential; meets = (meets_each s p).1 (c.extended s c.potential (λ m. inr refl)) },
      λ w. record { potential = w.potential; extended = λ s' h part. meets_satisfies s s' w.meets part },
    )

    -- T-12'S WORDS
    pub totals_whole : E (fresh x) → TypeConsistent p → CompleteByTotals E p s ↔ Whole E p s
    totals_whole here consistent = (
      λ c. record {
        potential = c.potential;
        meets = extension_meets p x s clean
            (c.extended (extended p x s) (extended_total p x E here consistent s c.potential) (λ m. given_part (s m) (gap p x m)));
      },
      λ w. record { potential = w.potential; extended = λ s' h part. meets_satisfies s s' w.meets part },
    )

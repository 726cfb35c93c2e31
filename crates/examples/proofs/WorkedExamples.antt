-- Source document 000's worked examples, in its own words, and why a language must be robust.
--   told       the solutions of a case, by its texts, with what is open left out
use mathlib.Core.Path.{◌≡◌, ap, ap₂, refl, sym, ◌∙◌, subst}
use mathlib.Core.Logic.{◌⊎◌, inl, inr}
use mathlib.Core.Bool.{Bool, true}
use mathlib.Core.List.Memᴰ
use mathlib.Core.List.{List, map, map-map}
use Prim.Native.Nat.{ℕ, zero, suc}
use native.Mathlib.Omega.{arith}
use lib.Dec.{ltb}
use borrow.Author.Tests.{ltb-true}
use Rattle.meaning.specs.Basics.{All, Byte, Bytes, every, ◌∈◌}
use Rattle.meaning.specs.Term.{IsExpression, Term, cons, hole, metavariable, nil, one, own, slot, symbol}
use Rattle.meaning.specs.Problem.{Problem, places_of}
use Rattle.meaning.specs.Filling.{Entry, Filling, absent, argument, body, body_or, plug, value, value_or}
use Rattle.meaning.specs.Read.{got}
use Rattle.meaning.specs.Accept.{accept}
use Rattle.meaning.specs.Row.{Row}
use Rattle.meaning.specs.Rows.{rows}
use Rattle.meaning.specs.FullList.{Listed}
use Rattle.meaning.specs.Candidate.{candidate, full_list, solution_rows, solves}
use Rattle.meaning.specs.Text.{Item, said, text_of}
use Rattle.meaning.specs.Readable.{Accepted}
use Rattle.meaning.specs.Textbook.{CompleteByTotals, EitherOf, ElementOf, ExpressionFunction, IfGiven, Language, PotentialSolution}
use Rattle.meaning.specs.Textbook.{Robust, Textbook, TypeConsistent, left_out}
use Rattle.meaning.specs.Case.{Case, one_symbol}
use Rattle.meaning.specs.Starred.{Starred, hex, textbook_examples}
use Rattle.meaning.proofs.Proper.{accepted_proper}
use Rattle.meaning.proofs.Lists.{all_mem, every_all, keep_mem, map_same, mem_all, never, true_T}
use Rattle.meaning.proofs.ProblemReading.{accept_accepted}
use Rattle.meaning.proofs.FullListLaws.{full_list_is}
use Rattle.meaning.proofs.TextLaws.{text_says}
use Rattle.meaning.proofs.Unseen.{fresh}
use Rattle.meaning.proofs.CompleteLaws.{Whole, totals_whole}
use Rattle.meaning.proofs.SpareSymbol.{spare_symbol}
use Rattle.meaning.proofs.TextbookLaws.{textbook}
use Rattle.meaning.proofs.Computed.{accepts, reads, texts}
use Rattle.examples.proofs.StarredExamples.{Holds, HoldsInBytes, starred_hold}

pub textbook_hold : All HoldsInBytes textbook_examples
unfolding accepts texts reads
textbook_hold = (
  (refl, (refl, refl), refl, refl),
  ((refl, (refl, refl), refl, refl), ((refl, (refl, refl), refl, refl), ((refl, (refl, refl), refl, refl), tt))),
)

-- A case's texts, with what is open left out
abbrev pub told : Case → List Filling
told c = map (λ (is : List Item). left_out (said is)) c.texts

case_textbook : (c : Case) → Accepted c.problem → Holds c → Textbook c.problem (told c)
unfolding full_list solution_rows
case_textbook c a (count, written) =
    subst (Textbook c.problem) (same ∙ ap (map (λ (is : List Item). left_out (said is))) written)
    (textbook c.problem a (full_list c.problem) (full_list_is c.problem (accepted_proper c.problem a)))
  where
    p : Problem
    p = c.problem

    says : (r : Row) → r ∈ solution_rows p → left_out (candidate p r) ≡ left_out (said (text_of p r))
    says r i = ap left_out (sym (text_says p r a (keep_mem (solves p) r (rows p) i).1))

    same : map (λ (x : Listed). left_out x.1) (full_list p) ≡ map (λ (is : List Item). left_out (said is)) (map (text_of p) (solution_rows p))
    same =
        map-map (λ (x : Listed). left_out x.1) (λ (r : Row). (r, candidate p r)) (solution_rows p)
        ∙ map_same (λ r. left_out (candidate p r)) (λ r. left_out (said (text_of p r))) (solution_rows p) says
        ∙ sym (map-map (λ (is : List Item). left_out (said is)) (text_of p) (solution_rows p))

-- What is accepted from numbers that are tested to be bytes
abbrev are_bytes : Bytes → Bool
are_bytes s = every (λ b. ltb b 256) s

tested_accepted : (s : Bytes) (p : Problem) → are_bytes s ≡ true → accept s ≡ got p → Accepted p
tested_accepted s p e accepted = (accept_accepted s p (mem_all Byte s small) accepted).0
  where
    small : (b : ℕ) → b ∈ s → Byte b
    small b i = ltb-true b 256 (all_mem (λ b. ltb b 256 ≡ true) b s (every_all (λ b. ltb b 256) s (true_T e)) i)

inputs_bytes : All (λ (s : Starred). are_bytes s.input ≡ true) textbook_examples
inputs_bytes = (refl, (refl, (refl, (refl, tt))))

-- THE FULL SOLUTION SETS OF THE EXAMPLES ARE WHAT 000 SAYS, but for its pairs for bound variables, and of example 3 after its section 7
pub textbook_examples_lem : (s : Starred) → s ∈ textbook_examples → Textbook s.case.problem (told s.case)
textbook_examples_lem s i =
    let (accepted, holds, written, read) = all_mem HoldsInBytes s textbook_examples textbook_hold i in
    let bytes = all_mem (λ (x : Starred). are_bytes x.input ≡ true) s textbook_examples inputs_bytes i in
    case_textbook s.case (tested_accepted s.input s.case.problem bytes accepted) holds

-- WHY A LANGUAGE IS ROBUST, for T-12's wording: "(P(X), s)" with {P: □}, which leaves X out
abbrev five : Term
five = (own (symbol 5), nil)

abbrev box_alone : Filling
box_alone zero = body (slot (hole 0), nil)
box_alone (suc m) = absent

abbrev single : Problem
single = one_symbol.problem

single_accepted : Accepted single
single_accepted = tested_accepted (hex 16 0x07000D06000500050001010100020005) single refl starred_hold.1.0.0

single_consistent : TypeConsistent single
single_consistent m i j = let a = Memᴰ.eq_of_singleton i in let b = Memᴰ.eq_of_singleton j in never (sym a ∙ b)

-- It is not complete, since X may be given what is not s ..
pub box_incomplete : (E : Language) → Robust E → CompleteByTotals E single box_alone → ⊥
box_incomplete E robust c =
    let (x, clean, bytes) = spare_symbol single single_accepted in
    let w : Whole E single box_alone = (totals_whole single x clean E box_alone (robust (fresh x) bytes) single_consistent).0 c in
    let e : cons (slot (metavariable 1)) nil nil ≡ cons (own (symbol 5)) nil nil = w.meets in
    never (cc)

-- .. unless all that X can be given is s, as with the problem's own subexpressions alone
abbrev OnlyFive : Language
OnlyFive t = IsExpression (one t) → t ≡ five

box_potential : PotentialSolution OnlyFive single box_alone
unfolding places_of
box_potential = record {
  given = is;
  functions = λ f i. subst (λ (y : ℕ). IfGiven (ExpressionFunction OnlyFive (places_of single y)) (box_alone y)) (sym (Memᴰ.eq_of_singleton i))
      (inr box);
  elements = λ m i. subst (λ (y : ℕ). IfGiven (ElementOf OnlyFive) (box_alone y)) (sym (Memᴰ.eq_of_singleton i)) (inl refl);
}
  where
    box : ExpressionFunction OnlyFive 1 (body (slot (hole 0), nil))
    box = ((slot (hole 0), nil), refl, ((omega arith, refl), tt, tt), (tt, tt, tt), λ h. absurd h.0)

    is : (m : ℕ) → IfGiven (EitherOf OnlyFive) (box_alone m)
    is zero = inr (inr (1, box))
    is (suc m) = inl refl

pub box_complete_there : CompleteByTotals OnlyFive single box_alone
box_complete_there = record {
  potential = box_potential;
  extended = λ s' total part. (met s' (part 0) (total.potential.elements 1 (Memᴰ.head refl)) (total.all_elements 1 (Memᴰ.head refl)), tt);
}
  where
    met : (s' : Filling) → (box_alone 0 ≡ absent) ⊎ (box_alone 0 ≡ s' 0) → IfGiven (ElementOf OnlyFive) (s' 1) → (s' 1 ≡ absent → ⊥)
        → plug (argument (one (value_or 1 (s' 1)))) (body_or 0 (s' 0)) ≡ five
    met s' (inl e) v given = never (cc)
    met s' (inr e) (inl d) given = absurd (given d)
    met s' (inr e) (inr (t, d, shape, closed, poor)) given =
        ap₂ (λ (x y : Entry Term). plug (argument (one (value_or 1 y))) (body_or 0 x)) (sym e) (d ∙ ap value (poor shape))

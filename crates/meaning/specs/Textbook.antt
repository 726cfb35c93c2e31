-- The full solution set of source document 000 (N. Carter, A Limited First-Order Matching Algorithm) for the problems of document 01, in 000's
-- own words (T-12: "Completeness in the textbook's words"). Terms have no bound names here, so that equal is equal up to bound names, and filling
-- never catches a variable: there is no solution that does not respect free variables (its Definition 18). docs/TRACE.md sets its definitions
-- beside ours and says where they differ.
--   Language           000's E, "the set of all expressions"; of a term with holes it says whether this may be the b of a function λv.b
--   HasBytes           a term that can be written: some solution text gives it to a metavariable
--   PotentialSolution  what is not in its domain is `absent`; what is given is closed: no index points outside it, free variables it may have
--   Total              one whose domain has every metavariable that occurs
--   CompleteByTotals   complete, as T-12 words it
--   left_out            a solution of document 01 as 000 has it: an open metavariable is not in its domain
use Rattle.std.specs.Prelude.{◌≡◌, ◌⊎◌, ◌↔◌, List, [], ◌∷◌, ℕ}
use Rattle.meaning.specs.Basics.{All, Byte, Bytes, Distinct, ◌∈◌}
use Rattle.meaning.specs.Term.{IsExpression, Term, one}
use Rattle.meaning.specs.Scope.{nameless_term}
use Rattle.meaning.specs.Problem.{Constraint, Problem, applied, metavariables, patterns, places_of, plain}
use Rattle.meaning.specs.Read.{got}
use Rattle.meaning.specs.Shift.{ClosedTerm}
use Rattle.meaning.specs.Filling.{Entry, Filling, IsBody, absent, body, fill_handler, fill_term, left_open, value}
use Rattle.meaning.specs.Given.{named_by}

-- Definition 1: "in any language sufficiently robust". Ours has at least what can be written; what more it has is left open
abbrev pub Language : Type 1
Language = Term → Type 0

abbrev pub HasBytes : Term → Type 0
HasBytes t = (text : Bytes) × (s : Filling) × (m : ℕ) × All Byte text × (named_by text ≡ got s) × ((s m ≡ value t) ⊎ (s m ≡ body t))

abbrev pub Robust : Language → Type 0
Robust E = (t : Term) → HasBytes t → E t

-- Definition 13: type inconsistent "if some metavariable .. occurs .. once as the head of an expression function application .. and elsewhere
-- not as the head", "type consistent otherwise"
abbrev pub TypeConsistent : Problem → Type 0
TypeConsistent p = (m : ℕ) → m ∈ applied (patterns p) → m ∈ plain (patterns p) → ⊥

-- "instantiated with an expression function", or "with an element of E"
abbrev pub ExpressionFunction : Language → ℕ → Entry Term → Type 0
ExpressionFunction E places e = (b : Term) × (e ≡ body b) × IsBody places (one b) × ClosedTerm b × E b

abbrev pub ElementOf : Language → Entry Term → Type 0
ElementOf E e = (t : Term) × (e ≡ value t) × IsExpression (one t) × ClosedTerm t × E t

abbrev pub EitherOf : Language → Entry Term → Type 0
EitherOf E e = ElementOf E e ⊎ ((places : ℕ) × ExpressionFunction E places e)

-- Definition 14: "a partial function s : M → E"
abbrev pub IfGiven : (Entry Term → Type 0) → Entry Term → Type 0
IfGiven P e = (e ≡ absent) ⊎ P e

pub record PotentialSolution (E : Language) (p : Problem) (s : Filling) : Type 0 where
  pub given : (m : ℕ) → IfGiven (EitherOf E) (s m)
  -- and what "occurs in C" is given what it "must be instantiated with"
  pub functions : (f : ℕ) → f ∈ applied (patterns p) → IfGiven (ExpressionFunction E (places_of p f)) (s f)
  pub elements : (m : ℕ) → m ∈ plain (patterns p) → IfGiven (ElementOf E) (s m)

-- Definition 15: s extends s' "if, when viewed as sets of ordered pairs, s ⊇ s'", and "properly extends for s ⊋ s'"
abbrev pub Extends : Filling → Filling → Type 0
Extends s s' = (m : ℕ) → (s' m ≡ absent) ⊎ (s' m ≡ s m)

abbrev pub ProperlyExtends : Filling → Filling → Type 0
ProperlyExtends s s' = Extends s s' × ((m : ℕ) × (s' m ≡ absent) × (s m ≡ absent → ⊥))

-- s(c1) is c2, where s(c1) has "all metavariables .. appearing in both e and the domain of s" replaced
abbrev pub Met : Filling → Constraint → Type 0
Met s c = fill_term (fill_handler s) 0 (nameless_term [] c.pattern) ≡ nameless_term [] c.expression

abbrev pub Satisfies : Problem → Filling → Type 0
Satisfies p s = All (Met s) p

-- Definition 16: "a potential solution s such that for any s' extending s, every (c1, c2) ∈ C satisfies s'(c1) = c2"
pub record Complete (E : Language) (p : Problem) (s : Filling) : Type 0 where
  pub potential : PotentialSolution E p s
  pub extended : (s' : Filling) → PotentialSolution E p s' → Extends s' s → Satisfies p s'

-- T-12: "every way of giving values or bodies to what is left open still satisfies all constraints"
pub record Total (E : Language) (p : Problem) (s : Filling) : Type 0 where
  pub potential : PotentialSolution E p s
  pub all_functions : (f : ℕ) → f ∈ applied (patterns p) → s f ≡ absent → ⊥
  pub all_elements : (m : ℕ) → m ∈ plain (patterns p) → s m ≡ absent → ⊥

pub record CompleteByTotals (E : Language) (p : Problem) (s : Filling) : Type 0 where
  pub potential : PotentialSolution E p s
  pub extended : (s' : Filling) → Total E p s' → Extends s' s → Satisfies p s'

-- Definition 17: "minimal if none of its proper subsets is a complete solution"; "the set of all minimal complete solutions"
abbrev pub Minimal : (Filling → Type 0) → Filling → Type 0
Minimal complete s = complete s × ((s' : Filling) → ProperlyExtends s s' → complete s' → ⊥)

abbrev pub FullSolutionSet : (Filling → Type 0) → List Filling → Type 0
FullSolutionSet complete F = (s : Filling) → (s ∈ F) ↔ Minimal complete s

-- Our solutions as 000 has them
abbrev pub without_open : Entry Term → Entry Term
without_open absent = absent
without_open left_open = absent
without_open (value t) = value t
without_open (body b) = body b

abbrev pub left_out : Filling → Filling
left_out σ m = without_open (σ m)

-- "the empty filling"
abbrev pub empty_filling : Filling
empty_filling m = absent

-- T-12, of the listed solutions with what is open left out
pub record Textbook (p : Problem) (F : List Filling) : Type 1 where
  -- "exactly the minimal complete ones there". Where a letter is used both ways there are none
  pub full_solution_set : (E : Language) → Robust E → FullSolutionSet (Complete E p) F
  -- "with no letter used both ways": then by T-12's words too
  pub by_totals : (E : Language) → Robust E → TypeConsistent p → FullSolutionSet (CompleteByTotals E p) F
  pub once : Distinct F
  -- "A problem without metavariables has the empty filling or nothing."
  pub no_metavariables : metavariables p ≡ [] → ((F ≡ empty_filling ∷ []) × Satisfies p empty_filling) ⊎ ((F ≡ []) × (Satisfies p empty_filling → ⊥))

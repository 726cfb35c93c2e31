-- What is written for n from 1 to 256 is accepted, and read as T-13's problem.
use mathlib.Core.Path.{◌≡◌, refl, ap, sym, ◌∙◌, subst}
use Prim.Native.Nat.{ℕ, zero, suc, ◌≤◌}
use mathlib.Core.Bool.{Bool, true, false, ◌&&◌, and-false, not}
use mathlib.Core.List.{List, []}
use native.Mathlib.Omega.{arith}
use lib.ListN.{length}
use lib.Dec.{ltb}
use Rattle.meaning.specs.Limits.{largest_problem, max_constraints, max_depth, max_face_nodes, max_functions, metavariable_count}
use Rattle.meaning.specs.Basics.{every, is_some}
use Rattle.meaning.specs.Term.{NamedTerm, Term, one, own, size, trees}
use Rattle.meaning.specs.Scope.{enter, nameless_label}
use Rattle.meaning.specs.Problem.{Problem, functions}
use Rattle.meaning.specs.Read.{context_below, got, in_expression}
use Rattle.meaning.specs.Face.{faces}
use Rattle.meaning.specs.Row.{face_of}
use Rattle.meaning.specs.Accept.{accept, check_problem, overlarge}
use Rattle.meaning.specs.Readable.{Accepted, Readable, WithinLimits}
use Rattle.meaning.specs.Longest.{applied_to, heaviest, longest_bytes, longest_problem, symbols}
use Rattle.meaning.proofs.Lists.{choose_false}
use Rattle.meaning.proofs.ShiftLaws.{ltb_no, relabel_size}
use Rattle.meaning.proofs.ProblemReading.{accepted_accept}
use Rattle.longest.specs.Writing.{Nodes}
use Rattle.longest.proofs.Applied.{face_is, functions_are}
use Rattle.longest.proofs.EqualSymbols.{heaviest_is, heaviest_size, top}
use Rattle.longest.proofs.LongestBytes.{expression_most, problem_length}

-- 13 and 14 ask how many functions there are, and how many nodes P faces
few_functions : (e : NamedTerm) → ltb max_functions (length (functions (applied_to e))) ≡ false
unfolding max_functions
few_functions e = ap (λ (fs : List ℕ). ltb 8 (length fs)) (functions_are e)

small_face : (e : NamedTerm) → size (one e) ≤ max_face_nodes → overlarge max_face_nodes (applied_to e) ≡ false
unfolding overlarge
small_face e h =
    let p : Problem = applied_to e in
    let nodes : size (one (face_of p 0)) ≡ size (one e) =
    ap (λ (t : Term). size (one t)) (face_is e) ∙ relabel_size enter nameless_label [] (one e) in
    let few : ltb max_face_nodes (size (one (face_of p 0))) ≡ false = ltb_no max_face_nodes (size (one (face_of p 0))) (omega arith) in
    ap (λ (fs : List ℕ). is_some (faces p) && not (every (λ f. not (ltb max_face_nodes (size (one (face_of p f))))) fs)) (functions_are e)
    ∙ ap (λ (b : Bool). is_some (faces p) && not (not b && true)) few
    ∙ and-false (is_some (faces p))

applied_checked : (e : NamedTerm) → size (one e) ≤ max_face_nodes → check_problem max_face_nodes (applied_to e) ≡ got (applied_to e)
unfolding check_problem
applied_checked e h = choose_false _ _ (few_functions e) ∙ choose_false _ _ (small_face e h)

-- The limits of reading
symbols_readable : (levels m : ℕ) → Readable (suc levels) in_expression (symbols m)
symbols_readable levels zero = tt
symbols_readable levels (suc m) = ((omega arith, refl), tt, symbols_readable levels m)

symbols_trees : (m : ℕ) → trees (symbols {X = ℕ} {B = ℕ} m) ≡ m
symbols_trees zero = refl
symbols_trees (suc m) = ap suc (symbols_trees m)

top_readable : (levels m : ℕ) → Readable (suc (suc levels)) in_expression (one (own (top m), symbols m))
unfolding context_below
top_readable levels zero = symbols_readable (suc levels) 1
top_readable levels (suc m) = ((sym (symbols_trees (suc m)), omega arith), symbols_readable levels (suc m), tt)

expression_readable : (m : ℕ) → Readable max_depth in_expression (one (heaviest (suc m)))
unfolding max_depth
expression_readable m = subst (λ (t : NamedTerm). Readable max_depth in_expression (one t)) (sym (heaviest_is m)) (top_readable 30 m)

within : (m : ℕ) → suc m ≤ max_face_nodes → WithinLimits (longest_problem (suc m))
unfolding max_depth metavariable_count context_below max_constraints largest_problem max_face_nodes
within m h =
    record {
      constraints = ((((tt, omega arith, refl, refl), ((tt, omega arith, refl), tt, tt), tt), expression_readable m), tt);
      count = omega arith;
      input = omega (arith, problem_length (suc m), expression_most (suc m) (omega arith));
    }

-- ACCEPTED
pub longest_accepted : (n : ℕ) → Nodes n → Accepted (longest_problem n)
longest_accepted zero h = let some = h.some in absurd (omega arith)
longest_accepted (suc m) h =
    let few = h.few in
    record { within = within m few; checked = applied_checked (heaviest (suc m)) (let nodes = heaviest_size m in omega arith) }

pub longest_accept : (n : ℕ) → Nodes n → accept (longest_bytes n) ≡ got (longest_problem n)
longest_accept n h = accepted_accept (longest_problem n) (longest_accepted n h)

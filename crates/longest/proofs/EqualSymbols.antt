-- T-13's expression of suc m nodes, and as many solutions of (P(X), e) as there are sets that a choice can be.
--   top                its first node
--   heavy              the expression with its names resolved
--   root_filling        P is the hole, X all of the expression
--   below_filling       P has a hole for each symbol of a set, and X is the symbol, or open where the set is empty
--   fillings           all of these: 2^m + 1 (`fillings_count`), none twice (`fillings_distinct`), each a solution (`fillings_solve`)
use mathlib.Core.Path.{◌≡◌, refl, ap, ap₂, ◌∙◌, subst, sym}
use mathlib.Core.Logic.{⊎_elim}
use Prim.Native.Nat.{ℕ, zero, suc, ◌+◌, ◌-◌, ◌^◌, ◌<◌}
use mathlib.Core.Bool.{true, false, true≢false}
use mathlib.Core.List.Memᴰ
use mathlib.Core.List.{List, [], ◌∷◌, map}
use mathlib.Core.Option.{none, some}
use native.Mathlib.Omega.{arith}
use lib.ListN.{length}
use Rattle.meaning.specs.Basics.{All, Distinct, choose, ◌∈◌}
use Rattle.meaning.specs.Term.{IsExpression, NamedTerm, Own, Term, Terms, Variable, application, cons, hole, nil, one, own, size, slot}
use Rattle.meaning.specs.Term.{symbol}
use Rattle.meaning.specs.Scope.{nameless, nameless_term}
use Rattle.meaning.specs.Shift.{ClosedTerm, shift_term}
use Rattle.meaning.specs.Problem.{Problem}
use Rattle.meaning.specs.Filling.{Entry, Filling, body, left_open, value}
use Rattle.meaning.specs.Solution.{Solution, has_hole}
use Rattle.meaning.specs.Choice.{Marks, punch, punch_term}
use Rattle.meaning.specs.Choices.{all_marks}
use Rattle.meaning.specs.Longest.{heaviest, longest_problem, symbols}
use Rattle.meaning.proofs.Lists.{all_mem, by_test, choose_false, choose_true, distinct_map, eqb_other, map_mem, never, or-false}
use Rattle.meaning.proofs.ShiftLaws.{shift_closed_term}
use Rattle.meaning.proofs.ViewLaws.{nameless_closed}
use Rattle.meaning.proofs.Ordered.{Placed, all_marks_are}
use Rattle.meaning.proofs.Punching.{blank, graft_eq, plug_all}
use Rattle.longest.proofs.SetCounts.{all_marks_distinct, one_more, root_alone}
use Rattle.longest.proofs.Applied.{giving, solution_open, solution_valued}

-- Symbols, some of them holes
nameless_symbols : (m : ℕ) → nameless [] (symbols m) ≡ symbols m
nameless_symbols zero = refl
nameless_symbols (suc m) = ap (λ (s : Terms). cons (own (symbol 0)) nil s) (nameless_symbols m)

symbols_expression : (X B : Type 0) (m : ℕ) → IsExpression (symbols {X = X} {B = B} m)
symbols_expression X B zero = tt
symbols_expression X B (suc m) = (tt, tt, symbols_expression X B m)

symbols_size : (X B : Type 0) (m : ℕ) → size (symbols {X = X} {B = B} m) ≡ m
symbols_size X B zero = refl
symbols_size X B (suc m) = let e = symbols_size X B m in omega arith

abbrev the_symbol : Term
the_symbol = (own (symbol 0), nil)

symbols_filled : (a : ℕ → Term) (ms : Marks) (m : ℕ) → All (Placed 1) ms → (has_hole 0 (punch ms (symbols m)) ≡ true → a 0 ≡ the_symbol)
    → plug_all a 0 (punch ms (symbols m)) ≡ symbols m
symbols_filled a ms zero h f = refl
symbols_filled a [] (suc m) h f = ap (λ (s : Terms). cons (own (symbol 0)) nil s) (symbols_filled a [] m h f)
symbols_filled a (none ∷ ms) (suc m) h f = ap (λ (s : Terms). cons (own (symbol 0)) nil s) (symbols_filled a ms m h.1 f)
symbols_filled a (some zero ∷ ms) (suc m) h f = graft_eq (ap (shift_term 0) (f refl)) (symbols_filled a ms m h.1 (λ e. f refl))
symbols_filled a (some (suc i) ∷ ms) (suc m) h f = let l = h.0 in absurd (omega arith)

symbols_told : (ms ns : Marks) (m : ℕ) → length ms ≡ m → length ns ≡ m → ◌≡◌ {A = Terms} (punch ms (symbols m)) (punch ns (symbols m))
    → ms ≡ ns
symbols_told [] [] m l k e = refl
symbols_told [] (y ∷ ns) m l k e = absurd (omega arith)
symbols_told (x ∷ ms) [] m l k e = absurd (omega arith)
symbols_told (x ∷ ms) (y ∷ ns) zero l k e = absurd (omega arith)
symbols_told (none ∷ ms) (none ∷ ns) (suc m) l k e = ap (λ (z : Marks). none ∷ z) (symbols_told ms ns m (omega arith) (omega arith) (cc))
symbols_told (none ∷ ms) (some j ∷ ns) (suc m) l k e = never (cc)
symbols_told (some i ∷ ms) (none ∷ ns) (suc m) l k e = never (cc)
symbols_told (some i ∷ ms) (some j ∷ ns) (suc m) l k e =
    let same : i ≡ j = cc in
    ap₂ (λ (h : ℕ) (z : Marks). some h ∷ z) same (symbols_told ms ns m (omega arith) (omega arith) (cc))

-- The expression: its first node, and the symbols below it
abbrev pub top : {X B : Type 0} → ℕ → Own X B
top zero = symbol 0
top (suc m) = application (suc m)

pub heaviest_is : (m : ℕ) → heaviest (suc m) ≡ (own (top m), symbols m)
heaviest_is zero = refl
heaviest_is (suc m) =
    choose_false _ _ (eqb_other (suc (suc m)) 1 (λ e. omega arith))
    ∙ ap (λ (k : ℕ). (own (application k), symbols k)) (let e : suc (suc m) - 1 ≡ suc m = omega arith in e)

pub heaviest_expression : (m : ℕ) → IsExpression (one (heaviest (suc m)))
heaviest_expression m = subst (λ (t : NamedTerm). IsExpression (one t)) (sym (heaviest_is m)) (tt, symbols_expression ℕ ℕ m, tt)

pub heaviest_size : (m : ℕ) → size (one (heaviest (suc m))) ≡ suc m
heaviest_size m = ap (λ (t : NamedTerm). size (one t)) (heaviest_is m) ∙ (let e = symbols_size ℕ ℕ m in omega arith)

abbrev heavy : ℕ → Term
heavy m = (own (top m), symbols m)

resolved : (m : ℕ) → nameless_term [] (heaviest (suc m)) ≡ heavy m
resolved m = ap (nameless_term []) (heaviest_is m) ∙ names m
  where
    names : (k : ℕ) → nameless_term [] (own (top k), symbols k) ≡ heavy k
    names zero = refl
    names (suc k) = ap (λ (s : Terms). (own (application (suc k)), s)) (nameless_symbols (suc k))

heavy_closed : (m : ℕ) → ClosedTerm (heavy m)
heavy_closed m = subst ClosedTerm (resolved m) (nameless_closed [] (one (heaviest (suc m))))

heavy_expression : (m : ℕ) → IsExpression (one (heavy m))
heavy_expression m = (tt, symbols_expression Variable (Unit {0}) m, tt)

top_filled : (a : ℕ → Term) (ms : Marks) (m : ℕ) → plug_all a 0 (punch ms (symbols m)) ≡ symbols m
    → plug_all a 0 (one (own (top m), punch ms (symbols m))) ≡ one (heavy m)
top_filled a ms zero e = refl
top_filled a ms (suc m) e = ap (λ (s : Terms). one (own (application (suc m)), s)) e

-- The solutions
abbrev root_filling : ℕ → Filling
root_filling m = giving (punch_term (root_alone m) (heavy m)) (value (heavy m))

abbrev below_body : ℕ → Marks → Term
below_body m ms = punch_term (none ∷ ms) (heavy m)

abbrev below_filling : ℕ → Marks → Filling
below_filling m ms = giving (below_body m ms) (choose (has_hole 0 (one (below_body m ms))) (value the_symbol) left_open)

abbrev pub fillings : ℕ → List Filling
fillings m = root_filling m ∷ map (below_filling m) (all_marks 1 m)

pub fillings_count : (m : ℕ) → length (fillings m) ≡ 2 ^ m + 1
fillings_count m = one_more (root_filling m) (below_filling m) m

-- .. their bodies differ
hole_other : (o : Own Variable (Unit {0})) (c : Terms) → ◌≡◌ {A = Entry Term} (body (slot (hole 0), nil)) (body (own o, c)) → ⊥
hole_other o c e =
    let terms : ◌≡◌ {A = Term} (slot (hole 0), nil) (own o, c) = cc in
    let labels = ap (λ (t : Term). t.0) terms in
    never (cc)

below_told : (o : Own Variable (Unit {0})) (c d : Terms) → ◌≡◌ {A = Entry Term} (body (own o, c)) (body (own o, d)) → c ≡ d
below_told o c d e =
    let terms : ◌≡◌ {A = Term} (own o, c) (own o, d) = cc in
    ap (λ (t : Term). t.1) terms

pub fillings_distinct : (m : ℕ) → Distinct (fillings m)
fillings_distinct m = (
  λ i. let (ms, k, e) = map_mem (below_filling m) (root_filling m) (all_marks 1 m) i in
      hole_other (top m) (punch ms (symbols m)) (ap (λ (σ : Filling). σ 0) e),
  distinct_map (below_filling m) (all_marks 1 m)
      (λ ms ns i j e.
      symbols_told ms ns m ((all_marks_are 1 m ms).0 i).0 ((all_marks_are 1 m ns).0 j).0
      (below_told (top m) (punch ms (symbols m)) (punch ns (symbols m)) (ap (λ (σ : Filling). σ 0) e)))
      (all_marks_distinct m),
)

-- .. and they are solutions
module _ (m : ℕ) where
  abbrev p : Problem
  p = longest_problem (suc m)

  root_placed : (i : ℕ) → some i ∈ root_alone m → i < 1
  root_placed i q = all_mem (Placed 1) (some i) (root_alone m) (omega arith, blank_placed m) q
    where
      blank_placed : (k : ℕ) → All (Placed 1) (blank k)
      blank_placed zero = tt
      blank_placed (suc k) = (tt, blank_placed k)

  root_solves : Solution p (root_filling m)
  root_solves =
      solution_valued (heaviest (suc m)) (heavy m) (resolved m) (heaviest_expression m) (root_alone m) root_placed
      (heavy m) (heavy_expression m) (heavy_closed m) refl (ap one (shift_closed_term 0 (heavy m) (heavy_closed m)))

  module _ (ms : Marks) (i : ms ∈ all_marks 1 m) where
    marks : All (Placed 1) ms
    marks = ((all_marks_are 1 m ms).0 i).1

    placed : (k : ℕ) → some k ∈ (none ∷ ms) → k < 1
    placed k q = all_mem (Placed 1) (some k) (none ∷ ms) (tt, marks) q

    abbrev Solves : Entry Term → Type 0
    Solves v = Solution p (giving (below_body m ms) v)

    valued : has_hole 0 (one (below_body m ms)) ≡ true → Solves (value the_symbol)
    valued has =
        solution_valued (heaviest (suc m)) (heavy m) (resolved m) (heaviest_expression m) (none ∷ ms) placed
        the_symbol (tt, tt, tt) (tt, tt, tt) has (top_filled _ ms m (symbols_filled _ ms m marks (λ e. refl)))

    opened : has_hole 0 (one (below_body m ms)) ≡ false → Solves left_open
    opened lacks =
        solution_open (heaviest (suc m)) (heavy m) (resolved m) (heaviest_expression m) (none ∷ ms) placed lacks
        (top_filled _ ms m (symbols_filled _ ms m marks (λ e. absurd (true≢false (sym e ∙ (or-false _ false lacks).0)))))

    below_solves : Solution p (below_filling m ms)
    below_solves =
        by_test (has_hole 0 (one (below_body m ms)))
        (λ h. subst Solves (sym (choose_true (value the_symbol) left_open h)) (valued h))
        (λ h. subst Solves (sym (choose_false (value the_symbol) left_open h)) (opened h))

  pub fillings_solve : (σ : Filling) → σ ∈ fillings m → Solution p σ
  fillings_solve σ i =
      ⊎_elim (λ e. subst (Solution p) (sym e) root_solves)
      (λ k. let (ms, j, e) = map_mem (below_filling m) σ (all_marks 1 m) k in subst (Solution p) (sym e) (below_solves ms j))
      (Memᴰ.cases_cons i)

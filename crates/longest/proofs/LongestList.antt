-- T-13, for every n and whatever the depth of e: "It has 2^(n-1) + 1 solutions, and every other expression of n nodes in such a problem
-- has at most as many."
--   applied_list    (P(X), e) has a full list, also where no input can hold e
--   list_most       with at most 2^(n-1) + 1 entries, where e has n nodes
--   longest_count   that of T-13's problem has as many
use mathlib.Core.Path.{◌≡◌, ap}
use Prim.Native.Nat.{ℕ, zero, suc, ◌+◌, ◌-◌, ◌^◌, ◌≤◌}
use mathlib.Core.List.{List, [], map}
use native.Mathlib.Omega.{arith}
use lib.ListN.{length, length-map}
use Rattle.meaning.specs.Basics.{keep}
use Rattle.meaning.specs.Term.{IsExpression, NamedTerm, one, size}
use Rattle.meaning.specs.Scope.{enter, nameless_label, nameless_term}
use Rattle.meaning.specs.Problem.{Problem}
use Rattle.meaning.specs.Row.{Row}
use Rattle.meaning.specs.Rows.{rows}
use Rattle.meaning.specs.FullList.{IsFullList, Listed}
use Rattle.meaning.specs.Candidate.{candidate, full_list, solution_rows, solves}
use Rattle.meaning.specs.Longest.{applied_to, heaviest, longest_problem}
use Rattle.meaning.proofs.Lists.{distinct_within, keep_length}
use Rattle.meaning.proofs.ShiftLaws.{relabel_size}
use Rattle.meaning.proofs.FullListLaws.{full_list_every, full_list_is, full_list_only}
use Rattle.longest.proofs.SetCounts.{choices_most}
use Rattle.longest.proofs.Applied.{proper, rows_count}
use Rattle.longest.proofs.EqualSymbols.{fillings, fillings_count, fillings_distinct, fillings_solve, heaviest_expression, heaviest_size}

-- A full list is no longer than the list of rows
listed_rows : (p : Problem) → length (full_list p) ≤ length (rows p)
unfolding full_list solution_rows
listed_rows p =
    let few = keep_length (solves p) (rows p) in
    omega (arith, length-map {B = Listed} (keep (solves p) (rows p)) (λ (r : Row). (r, candidate p r)))

module _ (e : NamedTerm) (x : IsExpression (one e)) where
  pub applied_list : IsFullList (applied_to e) (full_list (applied_to e))
  applied_list = full_list_is (applied_to e) (proper e x)

  -- AT MOST
  pub list_most : (full : List Listed) → IsFullList (applied_to e) full → length full ≤ 2 ^ (size (one e) - 1) + 1
  list_most full is_full =
      let nodes = relabel_size enter nameless_label [] (one e) in
      let below : size (nameless_term [] e).1 ≡ size (one e) - 1 = omega arith in
      let powers = ap (λ (n : ℕ). 2 ^ n) below in
      omega (
        arith,
        ap length (full_list_only (applied_to e) (proper e x) full is_full),
        listed_rows (applied_to e),
        rows_count e,
        choices_most (nameless_term [] e),
      )

-- AS MANY
pub longest_count : (n : ℕ) → 1 ≤ n → (full : List Listed) → IsFullList (longest_problem n) full → length full ≡ 2 ^ (n - 1) + 1
longest_count zero h full is_full = absurd (omega arith)
longest_count (suc m) h full is_full =
    let all = distinct_within (fillings m) (map (λ (y : Listed). y.1) full) (fillings_distinct m)
    (λ σ i. full_list_every (longest_problem (suc m)) (proper (heaviest (suc m)) (heaviest_expression m)) full is_full σ (fillings_solve m σ i)) in
    let most = list_most (heaviest (suc m)) (heaviest_expression m) full is_full in
    let powers : 2 ^ (size (one (heaviest (suc m))) - 1) ≡ 2 ^ (suc m - 1) = ap (λ (n : ℕ). 2 ^ (n - 1)) (heaviest_size m) in
    let same : 2 ^ (suc m - 1) ≡ 2 ^ m = ap (λ (n : ℕ). 2 ^ n) (let q : suc m - 1 ≡ m = omega arith in q) in
    omega (arith, fillings_count m, length-map full (λ (y : Listed). y.1))

-- It is an expression of n nodes
pub heaviest_nodes : (n : ℕ) → 1 ≤ n → size (one (heaviest n)) ≡ n
heaviest_nodes zero h = absurd (omega arith)
heaviest_nodes (suc m) h = heaviest_size m

pub heaviest_is_expression : (n : ℕ) → 1 ≤ n → IsExpression (one (heaviest n))
heaviest_is_expression zero h = absurd (omega arith)
heaviest_is_expression (suc m) h = heaviest_expression m

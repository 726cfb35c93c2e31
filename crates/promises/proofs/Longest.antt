-- T-13, for any way in which a host calls its writer.
use mathlib.Core.Path.{◌≡◌, ap, ap₂, sym, ◌∙◌, subst}
use Prim.Native.Nat.{ℕ, ◌+◌, ◌-◌, ◌^◌}
use mathlib.Core.List.{List}
use lib.ListN.{length, length-map, take}
use Rattle.meaning.specs.Basics.{Bytes, ◌∈◌}
use Rattle.meaning.specs.Problem.{Problem}
use Rattle.meaning.specs.Read.{Answer, got}
use Rattle.meaning.specs.Filling.{Filling}
use Rattle.meaning.specs.Solution.{Solution}
use Rattle.meaning.specs.Row.{HasBodies, IsRow, Row}
use Rattle.meaning.specs.FullList.{IsFullList, Listed}
use Rattle.meaning.specs.Candidate.{full_list}
use Rattle.meaning.specs.Accept.{accept}
use Rattle.meaning.specs.Calls.{given_row}
use Rattle.meaning.specs.Longest.{LongestCall, applied_to, longest_problem}
use Rattle.meaning.proofs.Lists.{map_mem}
use Rattle.meaning.proofs.ByteLaws.{got_is}
use Rattle.meaning.proofs.ChoiceLaws.{rows_are}
use Rattle.meaning.proofs.Proper.{Proper, accepted_proper}
use Rattle.meaning.proofs.RowBodies.{row_only}
use Rattle.longest.proofs.LongestList.{applied_list, heaviest_is_expression, heaviest_nodes, list_most, longest_count}
use Rattle.longest.proofs.LongestAccepted.{longest_accept, longest_accepted}
use Rattle.longest.proofs.CallLaws.{Delivered, delivered, roomy_writes}
use Rattle.promises.specs.Promises.{Interface, LongestList, Owed}

-- What is owed for a list of calls is about the full list
module _ {host : Interface} {s : Bytes} {rows : List host.Held} {ended : Type 0} {allowances : ℕ} (o : Owed host s rows ended allowances)
    (c : Proper o.problem) where
  owed_full : IsFullList o.problem o.full
  owed_full = record { ordered = o.in_row_order; members = λ r σ. (λ m. o.nothing_else (r, σ) m, λ x. listed r σ x) }
    where
      listed : (r : Row) (σ : Filling) → IsRow o.problem r × Solution o.problem σ × HasBodies o.problem r σ → (r, σ) ∈ o.full
      listed r σ (is_row, solution, bodies) =
          let (x, m, e) = map_mem (λ (x : Listed). x.1) σ o.full (o.every_solution σ solution) in
          let (is_row', solution', bodies') = o.nothing_else x m in
          let same : r ≡ x.0 =
          row_only o.problem σ c solution r x.0 ((rows_are o.problem r).1 is_row) ((rows_are o.problem x.0).1 is_row') bodies
          (λ f i. ap (λ (τ : Filling). τ f) e ∙ bodies' f i) in
          subst (λ (y : Listed). y ∈ o.full) (ap₂ (λ (q : Row) (τ : Filling). (q, τ)) (sym same) (sym e)) m

  all_given : ended → length rows ≡ length o.full
  all_given h = sym (length-map rows host.value) ∙ ap length (o.all h) ∙ length-map o.full given_row

module _ (host : Interface) (writes : (n : ℕ) (out out' : Bytes) (a : Answer ℕ) → host.Longest n out a out' → LongestCall n out a out') where
  pub longest_kept : LongestList host
  longest_kept = record {
    writes = λ n out out' a some few room c. roomy_writes (record { some = some; few = few }) room (writes n out out' a c);
    accepted = λ n k out out' c. accepts n k out' (delivered (writes n out out' (got k) c));
    nodes = heaviest_nodes;
    expression = heaviest_is_expression;
    has = longest_count;
    given = λ n k out out' c rows ended allowances o e. founds n k out' (delivered (writes n out out' (got k) c)) rows ended allowances o e;
    listed = λ e x. (full_list (applied_to e), applied_list e x);
    most = list_most;
  }
    where
      accepts : (n k : ℕ) (out' : Bytes) → Delivered n k out' → accept (take k out') ≡ got (longest_problem n)
      accepts n k out' d = ap accept d.front ∙ longest_accept n d.nodes

      founds : (n k : ℕ) (out' : Bytes) → Delivered n k out' → (rows : List host.Held) (ended : Type 0) (allowances : ℕ)
          → Owed host (take k out') rows ended allowances → ended → length rows ≡ 2 ^ (n - 1) + 1
      founds n k out' d rows ended allowances o e =
          let same : longest_problem n ≡ o.problem = got_is (sym (accepts n k out' d) ∙ o.accepted) in
          let c : Proper o.problem = subst Proper same (accepted_proper (longest_problem n) (longest_accepted n d.nodes)) in
          all_given o c e
          ∙ longest_count n d.nodes.some o.full (subst (λ (p : Problem). IsFullList p o.full) (sym same) (owed_full o c))

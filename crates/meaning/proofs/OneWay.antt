-- A letter used both ways (T-09): a problem that has one has no faces; the faces of any other are what its walk finds.
use mathlib.Core.Path.{◌≡◌, refl, ap, ap₂, sym, ◌∙◌}
use mathlib.Core.Logic.{◌↔◌}
use mathlib.Core.Bool.{Bool, true, false, ◌&&◌, not, false≢true}
use mathlib.Core.List.{List}
use mathlib.Core.Option.{none, some}
use Prim.Native.Nat.{ℕ, ◌<◌}
use borrow.Author.Tests.{not-false}
use Rattle.meaning.specs.Limits.{metavariable_count}
use Rattle.meaning.specs.Basics.{every, guard, is_some, up_to, ◌∈◌}
use Rattle.meaning.specs.Problem.{Problem, applied, both_ways, is_function, is_plain, patterns, plain}
use Rattle.meaning.specs.Face.{Face, faces, walk_of}
use Rattle.meaning.proofs.Lists.{T_true, all_every, all_mem, by_test, every_all, is_in_mem, mem_all, mem_is_in, mem_up_to, true_T}

module _ (p : Problem) where
  pub walk_faces : both_ways p ≡ false → faces p ≡ walk_of p
  unfolding faces
  walk_faces e = ap (λ (b : Bool). guard (not b) (walk_of p)) e

  pub no_faces_lem : both_ways p ≡ true → faces p ≡ none
  unfolding faces
  no_faces_lem e = ap (λ (b : Bool). guard (not b) (walk_of p)) e

  pub faces_one_way : is_some (faces p) ≡ true → both_ways p ≡ false
  faces_one_way e = by_test (both_ways p) (λ b. absurd (false≢true (sym (ap is_some (no_faces_lem b)) ∙ e))) (λ b. b)

  pub faces_walk : (xs : List Face) → faces p ≡ some xs → walk_of p ≡ some xs
  faces_walk xs e = sym (walk_faces (faces_one_way (ap is_some e))) ∙ e

  -- The test says what T-09 says: no letter "stands both as a function and alone"
  abbrev apart_at : ℕ → Bool
  apart_at m = not (is_function p m && is_plain p m)

  tested : both_ways p ≡ not (every apart_at (up_to metavariable_count))
  unfolding both_ways
  tested = refl

  separated : both_ways p ≡ false → (m : ℕ) → m < metavariable_count → m ∈ applied (patterns p) → m ∈ plain (patterns p) → ⊥
  separated e m small a b =
      let all = every_all apart_at (up_to metavariable_count)
      (true_T (not-false (every apart_at (up_to metavariable_count)) (sym tested ∙ e))) in
      let apart = all_mem (λ k. apart_at k ≡ true) m (up_to metavariable_count) all (mem_up_to metavariable_count m small) in
      false≢true
      (sym (ap₂ (λ (x y : Bool). not (x && y)) (mem_is_in m (applied (patterns p)) a) (mem_is_in m (plain (patterns p)) b)) ∙ apart)

  module _ (apart : (m : ℕ) → m ∈ applied (patterns p) → m ∈ plain (patterns p) → ⊥) where
    apart_at_lem : (m : ℕ) → apart_at m ≡ true
    apart_at_lem m =
        by_test (is_function p m)
        (λ x. by_test (is_plain p m)
        (λ y. absurd (apart m (is_in_mem m (applied (patterns p)) x) (is_in_mem m (plain (patterns p)) y)))
        (λ y. ap₂ (λ (u v : Bool). not (u && v)) x y))
        (λ x. ap (λ (u : Bool). not (u && is_plain p m)) x)

    one_way_lem : both_ways p ≡ false
    one_way_lem =
        tested
        ∙ ap not (T_true {b = every apart_at (up_to metavariable_count)} (all_every apart_at (up_to metavariable_count)
        (mem_all (λ k. apart_at k ≡ true) (up_to metavariable_count) (λ m q. apart_at_lem m))))

  pub one_way_means : ((m : ℕ) → m ∈ applied (patterns p) → m < metavariable_count)
      → (both_ways p ≡ false) ↔ ((m : ℕ) → m ∈ applied (patterns p) → m ∈ plain (patterns p) → ⊥)
  one_way_means small = (λ e m a. separated e m (small m a) a, one_way_lem)

-- T-12: the solutions on the full list, with what is open left out, are the full solution set of source document 000.
--   solutions   they, in the order of the list
use mathlib.Core.Path.{◌≡◌, ap, refl, sym, ◌∙◌, subst, fun_ext}
use mathlib.Core.Logic.{◌⊎◌, inl, inr, ◌↔◌}
use mathlib.Core.List.Memᴰ
use mathlib.Core.List.{List, [], ◌∷◌, map}
use Prim.Native.Nat.{ℕ}
use Rattle.meaning.specs.Basics.{Distinct, ◌∈◌}
use Rattle.meaning.specs.Problem.{Problem, metavariables}
use Rattle.meaning.specs.Filling.{Filling}
use Rattle.meaning.specs.Solution.{Solution}
use Rattle.meaning.specs.FullList.{IsFullList, Listed}
use Rattle.meaning.specs.Readable.{Accepted}
use Rattle.meaning.specs.Textbook.{Complete, CompleteByTotals, FullSolutionSet, HasBytes, Language, Minimal, Robust, Satisfies, Textbook}
use Rattle.meaning.specs.Textbook.{TypeConsistent, empty_filling, left_out, without_open}
use Rattle.meaning.proofs.Lists.{map_mem, mem_map}
use Rattle.meaning.proofs.Constraints.{meets_each}
use Rattle.meaning.proofs.Proper.{accepted_proper, applied_occurs, plain_occurs}
use Rattle.meaning.proofs.FullListLaws.{full_list_every, full_list_once}
use Rattle.meaning.proofs.CompleteLaws.{Whole, complete_whole, totals_whole}
use Rattle.meaning.proofs.SpareSymbol.{spare_symbol}
use Rattle.meaning.proofs.MinimalLaws.{left_out_once, minimal_solution, solution_minimal}

-- A set that is full by one of two words for the same is so by the other
same_set : {C D : Filling → Type 0} {F : List Filling} → ((s : Filling) → C s ↔ D s) → FullSolutionSet D F → FullSolutionSet C F
same_set same full s = (
  λ i. let least = (full s).0 i in ((same s).1 least.0, λ s' part c. least.1 s' part ((same s').0 c)),
  λ least. (full s).1 ((same s).0 least.0, λ s' part c. least.1 s' part ((same s').1 c)),
)

module _ (p : Problem) (a : Accepted p) (full : List Listed) (is_full : IsFullList p full) where
  abbrev solutions : List Filling
  solutions = map (λ (x : Listed). left_out x.1) full

  member_solution : (s : Filling) → s ∈ solutions → (σ : Filling) × Solution p σ × (s ≡ left_out σ)
  member_solution s i =
      let (x, there, e) = map_mem (λ (x : Listed). left_out x.1) s full i in
      (x.1, ((is_full.members x.0 x.1).0 there).1, e)

  solution_member : (σ : Filling) → Solution p σ → left_out σ ∈ solutions
  solution_member σ sol =
      let (x, there, e) = map_mem (λ (x : Listed). x.1) σ full (full_list_every p (accepted_proper p a) full is_full σ sol) in
      subst (λ (τ : Filling). left_out τ ∈ solutions) (sym e) (mem_map (λ (x : Listed). left_out x.1) there)

  whole_set : (E : Language) → Robust E → FullSolutionSet (Whole E p) solutions
  whole_set E robust s = (
    λ i. let (σ, sol, e) = member_solution s i in subst (Minimal (Whole E p)) (sym e) (solution_minimal E robust p a σ sol),
    λ least. let (σ, sol, e) = minimal_solution E robust p a s least in subst (λ (τ : Filling). τ ∈ solutions) (sym e) (solution_member σ sol),
  )

  full_set : (E : Language) → Robust E → FullSolutionSet (Complete E p) solutions
  full_set E robust =
      let (x, clean, bytes) = spare_symbol p a in
      same_set (complete_whole p x clean E) (whole_set E robust)

  totals_set : (E : Language) → Robust E → TypeConsistent p → FullSolutionSet (CompleteByTotals E p) solutions
  totals_set E robust consistent =
      let (x, clean, bytes) = spare_symbol p a in
      same_set (λ s. totals_whole p x clean E s (robust _ bytes) consistent) (whole_set E robust)

  -- No two solutions become one
  solutions_once : Distinct solutions
  solutions_once = once full (λ x i. ((is_full.members x.0 x.1).0 i).1) (full_list_once p (accepted_proper p a) full is_full)
    where
      once : (xs : List Listed) → ((x : Listed) → x ∈ xs → Solution p x.1) → Distinct (map (λ (x : Listed). x.1) xs)
          → Distinct (map (λ (x : Listed). left_out x.1) xs)
      once [] sol d = tt
      once (x ∷ xs) sol d = (
        λ i. let (y, j, e) = map_mem (λ (z : Listed). left_out z.1) (left_out x.1) xs i in
            let same : x.1 ≡ y.1 = left_out_once p x.1 y.1 a (sol x (Memᴰ.head refl)) (sol y (Memᴰ.tail j)) e in
            d.0 (subst (λ (τ : Filling). τ ∈ map (λ (z : Listed). z.1) xs) (sym same) (mem_map (λ (z : Listed). z.1) j)),
        once xs (λ y j. sol y (Memᴰ.tail j)) d.1,
      )

  -- "A problem without metavariables has the empty filling or nothing."
  module _ (none : metavariables p ≡ []) where
    outside : (m : ℕ) → m ∈ metavariables p → ⊥
    outside m i = Memᴰ.not-nil (subst (λ (ms : List ℕ). m ∈ ms) none i)

    is_empty : (s : Filling) → s ∈ solutions → s ≡ empty_filling
    is_empty s i =
        let (σ, sol, e) = member_solution s i in
        let c = accepted_proper p a in
        e ∙ fun_ext (λ m. ap without_open (sol.others m (λ j. outside m (applied_occurs p c m j)) (λ j. outside m (plain_occurs p c m j))))

    satisfied : empty_filling ∈ solutions → Satisfies p empty_filling
    satisfied i = let w = ((whole_set HasBytes (λ t b. b) empty_filling).0 i).0 in (meets_each empty_filling p).0 w.meets

    satisfied_listed : Satisfies p empty_filling → empty_filling ∈ solutions
    satisfied_listed h = (whole_set HasBytes (λ t b. b) empty_filling).1 (
      record {
        potential = record { given = λ m. inl refl; functions = λ f i. inl refl; elements = λ m i. inl refl };
        meets = (meets_each empty_filling p).1 h;
      },
      λ s (part, (m, gone, given)) w. given refl,
    )

    empty_or_nothing : ((solutions ≡ empty_filling ∷ []) × Satisfies p empty_filling) ⊎ ((solutions ≡ []) × (Satisfies p empty_filling → ⊥))
    empty_or_nothing = go solutions is_empty solutions_once satisfied satisfied_listed
      where
        go : (F : List Filling) → ((s : Filling) → s ∈ F → s ≡ empty_filling) → Distinct F → (empty_filling ∈ F → Satisfies p empty_filling)
            → (Satisfies p empty_filling → empty_filling ∈ F)
            → ((F ≡ empty_filling ∷ []) × Satisfies p empty_filling) ⊎ ((F ≡ []) × (Satisfies p empty_filling → ⊥))
        go [] h d f g = inr (refl, λ q. Memᴰ.not-nil (g q))
        go (s ∷ []) h d f g =
            let e = h s (Memᴰ.head refl) in
            inl (ap (λ (τ : Filling). τ ∷ []) e, f (Memᴰ.head (sym e)))
        go (s ∷ t ∷ F) h d f g =
            let e = h s (Memᴰ.head refl) in
            let k = h t (Memᴰ.tail (Memᴰ.head refl)) in
            absurd (d.0 (Memᴰ.head (e ∙ sym k)))

  -- T-12
  pub textbook : Textbook p solutions
  textbook = record { full_solution_set = full_set; by_totals = totals_set; once = solutions_once; no_metavariables = empty_or_nothing }

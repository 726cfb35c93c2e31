-- What the list of all rows and the full list are, that there is only one of each, and what the full list holds: every solution, each once
-- up to bound names, and nothing else.
use mathlib.Core.Path.{◌≡◌, refl, sym, subst}
use mathlib.Core.List.Memᴰ
use mathlib.Core.List.{List, [], ◌∷◌, map}
use Rattle.meaning.specs.Basics.{Distinct, Ordered, empty, more, ◌∈◌}
use Rattle.meaning.specs.Problem.{Problem}
use Rattle.meaning.specs.Filling.{Filling}
use Rattle.meaning.specs.Solution.{Solution}
use Rattle.meaning.specs.Row.{AreRows, EarlierRow, Row}
use Rattle.meaning.specs.Rows.{rows}
use Rattle.meaning.specs.FullList.{EarlierListed, IsFullList, Listed}
use Rattle.meaning.specs.Candidate.{candidate, full_list, solution_rows, solves}
use Rattle.meaning.proofs.Lists.{map_mem, mem_map}
use Rattle.meaning.proofs.OrderLaws.{row_asymmetric}
use Rattle.meaning.proofs.Ordered.{earlier_row_strict, keep_ordered, ordered_unique}
use Rattle.meaning.proofs.ChoiceLaws.{rows_are, rows_ordered}
use Rattle.meaning.proofs.Proper.{Proper}
use Rattle.meaning.proofs.Solutions.{listed_once, listed_solution, row_listed, solution_listed}

map_ordered : {A B : Type 0} (R : A → A → Type 0) (S : B → B → Type 0) (f : A → B) → ((x y : A) → R x y → S (f x) (f y)) → (xs : List A)
    → Ordered R xs → Ordered S (map f xs)
map_ordered R S f h [] o = empty
map_ordered R S f h (x ∷ xs) (more g o) =
    more (λ y m. let (z, i, e) = map_mem f y xs m in subst (S (f x)) (sym e) (h x z (g z i))) (map_ordered R S f h xs o)

-- THE ROWS
pub all_rows_lem : (p : Problem) → AreRows p (rows p)
all_rows_lem p = record { ordered = rows_ordered p; members = rows_are p }

-- THE FULL LIST
listed_ordered : (p : Problem) → Ordered EarlierListed (full_list p)
unfolding full_list solution_rows
listed_ordered p =
    map_ordered EarlierRow EarlierListed (λ (r : Row). (r, candidate p r)) (λ x y h. h) _
    (keep_ordered EarlierRow (solves p) (rows p) (rows_ordered p))

module _ (p : Problem) (c : Proper p) where
  pub full_list_is : IsFullList p (full_list p)
  full_list_is = record {
    ordered = listed_ordered p;
    members = λ r σ. (
      λ m. let x = listed_solution p r σ c m in ((rows_are p r).0 x.0, x.1, x.2),
      λ x. row_listed p r σ c ((rows_are p r).1 x.0) x.1 x.2,
    );
  }

  module _ (full : List Listed) (is_full : IsFullList p full) where
    pub full_list_only : full ≡ full_list p
    full_list_only =
        ordered_unique EarlierListed (λ x y. row_asymmetric x.0 y.0) full (full_list p) is_full.ordered (listed_ordered p)
        (λ x. let f = is_full.members x.0 x.1 in let g = full_list_is.members x.0 x.1 in (λ m. g.1 (f.0 m), λ m. f.1 (g.0 m)))

    -- every solution
    pub full_list_every : (σ : Filling) → Solution p σ → σ ∈ map (λ (x : Listed). x.1) full
    full_list_every σ s =
        let (r, m) = solution_listed p σ c s in
        mem_map (λ (x : Listed). x.1) (subst (λ (l : List Listed). (r, σ) ∈ l) (sym full_list_only) m)

    -- each once: fillings are equal where they differ only in bound names
    pub full_list_once : Distinct (map (λ (x : Listed). x.1) full)
    full_list_once = once full is_full.ordered (λ r r' σ i j. listed_once p r r' σ c (there i) (there j))
      where
        there : {x : Listed} → x ∈ full → x ∈ full_list p
        there {x} m = subst (λ (l : List Listed). x ∈ l) full_list_only m

        once : (xs : List Listed) → Ordered EarlierListed xs
            → ((r r' : Row) (σ : Filling) → (r, σ) ∈ xs → (r', σ) ∈ xs → r ≡ r') → Distinct (map (λ (x : Listed). x.1) xs)
        once [] o h = tt
        once (x ∷ xs) (more g o) h = (
          λ m. let (y, i, e) = map_mem (λ (z : Listed). z.1) x.1 xs m in
              let same = h x.0 y.0 x.1 (Memᴰ.head refl)
              (Memᴰ.tail (subst (λ (τ : Filling). ◌∈◌ {A = Listed} (y.0, τ) xs) (sym e) i)) in
              earlier_row_strict x.0 (subst (EarlierRow x.0) (sym same) (g y i)),
          once xs o (λ r r' σ i j. h r r' σ (Memᴰ.tail i) (Memᴰ.tail j)),
        )

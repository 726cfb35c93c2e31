-- When the masks of several sets are all 0.
use mathlib.Core.Path.{◌≡◌, refl}
use mathlib.Core.Bool.{true}
use mathlib.Core.Logic.{◌↔◌}
use mathlib.Core.List.{List, [], ◌∷◌}
use Prim.Native.Nat.{ℕ, zero, suc}
use lib.ListN.{length, replicate}
use lib.Dec.{eqb}
use borrow.Author.Tests.{eqb-true, eq-eqb}
use Rattle.std.specs.List.{list_all}
use Rattle.std.specs.Cmp.Derive.{both_true}
use Rattle.std.proofs.lemmas.Bool.{and_parts}
use Rattle.masks.specs.Sets.{mask, masks_in}
use Rattle.masks.specs.declared.NodeSet.{NodeSet}

-- No set has a node exactly when all masks are 0
all_zero : (sets : List NodeSet) → list_all (λ s. eqb (mask s) 0) sets ≡ true → masks_in sets ≡ replicate (length sets) 0
all_zero [] e = refl
all_zero (s ∷ sets) e =
    let (here, others) = and_parts _ _ e in
    let z = eqb-true (mask s) 0 here in
    let later = all_zero sets others in
    cc

zero_all : (sets : List NodeSet) (n : ℕ) → masks_in sets ≡ replicate n 0 → list_all (λ s. eqb (mask s) 0) sets ≡ true
zero_all [] n e = refl
zero_all (s ∷ sets) zero e = cc
zero_all (s ∷ sets) (suc n) e =
    let z : mask s ≡ 0 = cc in
    let later : masks_in sets ≡ replicate n 0 = cc in
    both_true (eq-eqb (mask s) 0 z) (zero_all sets n later)

pub empty_masks : (sets : List NodeSet) (n : ℕ) → length sets ≡ n
    → (list_all (λ s. eqb (mask s) 0) sets ≡ true) ↔ (masks_in sets ≡ replicate n 0)
empty_masks sets n l = (λ e. rw (← l) (all_zero sets e), zero_all sets n)

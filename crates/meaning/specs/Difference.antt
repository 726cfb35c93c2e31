-- The orders of choices and of rows in words: by the first place where two lists differ.
--   FirstDifference   "the lowest node in which they differ", "the first function that differs"
--   ByFirst R         two lists that differ, and where they first do, R holds of what stands there
--   HasNode           a set of nodes has this node: its mark is no `none`
--   Compared R        equal, or one in R to the other
use Rattle.std.specs.Prelude.{◌≡◌, ◌⊎◌, ℕ, ◌<◌, List}
use Rattle.std.proofs.Math.Option.{some}
use Rattle.std.proofs.Math.ListN.{get_elem?}
use Rattle.meaning.specs.Choice.{Marks}

pub record FirstDifference {A : Type 0} (xs ys : List A) (k : ℕ) : Type 0 where
  pub before : (j : ℕ) → j < k → get_elem? xs j ≡ get_elem? ys j
  pub differ : ¬ (get_elem? xs k ≡ get_elem? ys k)

pub record ByFirst {A : Type 0} (R : A → A → Type 0) (xs ys : List A) : Type 0 where
  pub place : ℕ
  pub first : FirstDifference xs ys place
  pub left : A
  pub right : A
  pub on_left : get_elem? xs place ≡ some left
  pub on_right : get_elem? ys place ≡ some right
  pub related : R left right

abbrev pub HasNode : ℕ → Marks → Type 0
HasNode k ms = (i : ℕ) × (get_elem? ms k ≡ some (some i))

abbrev pub Compared : {A : Type 0} → (A → A → Type 0) → A → A → Type 0
Compared R x y = (x ≡ y) ⊎ (R x y ⊎ R y x)

-- The lowest node of a choice, and where it stands.
--   LowestMark     node j becomes a hole of place i, and no node before it becomes a hole
--   binders_above   the number of binders above a node
use Rattle.std.specs.Prelude.{◌≡◌, ℕ, zero, suc, ◌-◌, ◌<◌, ltb}
use Rattle.std.proofs.Math.Option.{none, some}
use Rattle.std.proofs.Math.ListN.{get_elem?}
use Rattle.meaning.specs.Basics.{choose}
use Rattle.meaning.specs.Term.{Forest, nil, cons, size, Label, inner}
use Rattle.meaning.specs.Choice.{Marks}

pub record LowestMark (i j : ℕ) (ms : Marks) : Type 0 where
  pub marked : get_elem? ms j ≡ some (some i)
  pub before : (k : ℕ) → k < j → get_elem? ms k ≡ some none

-- Above node n of a forest that has k binders around it; nodes are numbered as in `node_at`
abbrev pub binders_above : {X B : Type 0} → ℕ → ℕ → Forest (Label X B) → ℕ
binders_above k n nil = k
binders_above k zero (cons l c s) = k
binders_above k (suc n) (cons l c s) = choose (ltb n (size c)) (binders_above (inner l k) n c) (binders_above k (n - size c) s)

-- What the recorded faces are: a walk of token tables against the walk of `meaning`.
--   p, e, d      the term at a node of the pattern and of the expression, and the number of binders above a node of the pattern
--   Records      one number for one face: the pattern's node is the slot that faces, the expression's node is what it faces. The slot
--                alone does not tell its node: one and the same slot may stand under more binders and under fewer
--   RecordedBy   as many numbers as faces, in the same order
--   Both         two answers are both missing, or both are there and belong together
use Rattle.std.specs.Prelude.{◌≡◌, ℕ, List, [], ◌∷◌}
use Rattle.std.proofs.Math.Option.{Option, none, some}
use Rattle.meaning.specs.Term.{slot, Term}
use Rattle.meaning.specs.Face.{Face}
use Rattle.lockstep.specs.Walk.{pattern_node, expression_node}

pub record Records (p e : ℕ → Option Term) (d : ℕ → ℕ) (n : ℕ) (x : Face) : Type 0 where
  pub slots : p (pattern_node n) ≡ some (slot x.what, x.children)
  pub under : d (pattern_node n) ≡ x.under
  pub node : expression_node n ≡ x.node
  pub term : e x.node ≡ some x.term

abbrev pub RecordedBy : (ℕ → Option Term) → (ℕ → Option Term) → (ℕ → ℕ) → List ℕ → List Face → Type 0
RecordedBy p e d [] [] = Unit {0}
RecordedBy p e d [] (x ∷ xs) = ⊥
RecordedBy p e d (n ∷ ns) [] = ⊥
RecordedBy p e d (n ∷ ns) (x ∷ xs) = Records p e d n x × RecordedBy p e d ns xs

abbrev pub Both : {A B : Type 0} → (A → B → Type 0) → Option A → Option B → Type 0
Both R none none = Unit {0}
Both R none (some b) = ⊥
Both R (some a) none = ⊥
Both R (some a) (some b) = R a b

-- T-02: two subexpressions compared node by node, and how far. T-08: a number for each node, which tells the same.
--   preorder         a forest's labels from the top: the label of node k is the element k
--   agree            two nodes agree: in "kind, number, binder [and] child count", of a bound variable in its binder
--   pairs            "the number of node pairs compared"
--   subexpressions   each node of a problem's expressions, as it is seen from outside it (`Choice`): the face is here all expressions, in
--                    which nothing is bound outside, so that a binder outside a node is known by its own node
--   Comparison       what a comparison of two subexpressions answers: yes or no, and with it the number of pairs
--   Numbers          the nodes' numbers in a list, node by node; past the last node there is neither a number nor a subexpression
use Rattle.std.specs.Prelude.{◌≡◌, ◌↔◌, ℕ, suc, Bool, true, List, [], ◌∷◌, ◌++◌}
use Rattle.std.proofs.Math.ListN.{get_elem?}
use Rattle.meaning.specs.Basics.{choose}
use Rattle.meaning.specs.Term.{Forest, Label, cons, nil}
use Rattle.meaning.specs.Equal.{Seen, View}
use Rattle.meaning.specs.Problem.{Problem, expressions}
use Rattle.meaning.specs.Choice.{Owner, views_from}
use Rattle.meaning.specs.Choices.{same_owner}
use Rattle.meaning.specs.Same.{same_label, same_seen}

abbrev pub preorder : {L : Type 0} → Forest L → List L
preorder nil = []
preorder (cons l c s) = l ∷ (preorder c ++ preorder s)

-- A label has "kind, number, binder [and] child count" and nothing else; yes exactly for equal labels (`agree_equal`)
abbrev pub agree : Label (Seen Owner) (Unit {0}) → Label (Seen Owner) (Unit {0}) → Bool
agree l m = same_label (same_seen same_owner) l m

-- "taken together from the top, up to and with the first pair [that] disagrees, or all of them if none does"
abbrev pub pairs : {L M : Type 0} → (L → M → Bool) → List L → List M → ℕ
pairs agrees [] ys = 0
pairs agrees (x ∷ xs) [] = 0
pairs agrees (x ∷ xs) (y ∷ ys) = suc (choose (agrees x y) (pairs agrees xs ys) 0)

unfoldable pub pairs_of : View Owner → View Owner → ℕ
pairs_of u v = pairs agree (preorder u) (preorder v)

unfoldable pub subexpressions : Problem → List (View Owner)
subexpressions p = views_from [] 0 (expressions p)

-- "Its yes and no keep their meaning, and with them it returns the number of node pairs compared"
pub record Comparison (u v : View Owner) (equal : Bool) (n : ℕ) : Type 0 where
  pub verdict : (equal ≡ true) ↔ (u ≡ v)
  pub count : n ≡ pairs_of u v

-- "a number, the same for two nodes exactly when their subexpressions are equal"
abbrev pub Numbers : Problem → List ℕ → Type 0
Numbers p ns = (a b : ℕ) → (get_elem? ns a ≡ get_elem? ns b) ↔ (get_elem? (subexpressions p) a ≡ get_elem? (subexpressions p) b)

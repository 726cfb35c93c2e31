-- Choices: which nodes of a face become holes.
--   Marks     one mark for each node of the face in preorder: none, or the place of the argument whose hole the node becomes
--   Owner     a binder outside a node, seen from the face: a node of the face, or a binder above the face (0 the innermost)
--   punch     "the face with these nodes as holes"
use Rattle.std.specs.Prelude.{◌≡◌, ℕ, zero, suc, ◌+◌, ◌<◌, ◌≤◌, Bool, true, false, ◌||◌, List, [], ◌∷◌, ◌++◌, length, drop}
use Rattle.std.proofs.Math.Option.{Option, none, some}
use Rattle.std.proofs.Math.ListN.{get_elem?}
use Rattle.meaning.specs.Basics.{holds, if_some}
use Rattle.meaning.specs.Term.{Forest, Label, Nameless, Term, Terms, Tree, binder_of, cons, function, hole, metavariable, nil, one}
use Rattle.meaning.specs.Term.{own, size, slot, variable_of}
use Rattle.meaning.specs.Equal.{Seen, View, inside, outside, seen_free, view}

abbrev pub Mark : Type 0
Mark = Option ℕ

abbrev pub Marks : Type 0
Marks = List Mark

abbrev pub mark : Marks → Mark
mark [] = none
mark (m ∷ ms) = m

abbrev pub rest : Marks → Marks
rest [] = []
rest (m ∷ ms) = ms

-- "The body of a choice is the face with these nodes as holes"
abbrev pub punch_node : {X B : Type 0} → Mark → Label X B → Forest (Label X B) → Forest (Label X B) → Forest (Label X B)
punch_node none l c s = cons l c s
punch_node (some i) l c s = cons (slot (hole i)) nil s

abbrev pub punch : {X B : Type 0} → Marks → Forest (Label X B) → Forest (Label X B)
punch ms nil = nil
punch ms (cons l c s) = punch_node (mark ms) l (punch (rest ms) c) (punch (drop (size c) (rest ms)) s)

-- "a body's number of holes is the size of its set": the size of a set, and the holes of a body
abbrev pub set_size : Marks → ℕ
set_size [] = 0
set_size (none ∷ ms) = set_size ms
set_size (some i ∷ ms) = suc (set_size ms)

abbrev pub holes_in : {X B : Type 0} → Forest (Label X B) → ℕ
holes_in nil = 0
holes_in (cons (own o) c s) = holes_in c + holes_in s
holes_in (cons (slot (metavariable m)) c s) = holes_in c + holes_in s
holes_in (cons (slot (function f n)) c s) = holes_in c + holes_in s
holes_in (cons (slot (hole i)) c s) = suc (holes_in c + holes_in s)

-- Which binder an index that reaches out of a node belongs to; above the node stand these binders of the face, the innermost first
pub data Owner : Type 0 where
  node_of_face : ℕ → Owner
  above_face : ℕ → Owner

abbrev pub owner_of : List ℕ → ℕ → Owner
owner_of [] i = above_face i
owner_of (b ∷ bs) zero = node_of_face b
owner_of (b ∷ bs) (suc i) = owner_of bs i

-- The binders above the children of node n
abbrev pub below : ℕ → Nameless → List ℕ → List ℕ
below n l bs = if_some (binder_of l) (λ x ns. n ∷ ns) bs

-- Each node's subexpression as it is seen from outside it, in preorder; n is the number of the first
abbrev pub views_from : List ℕ → ℕ → Terms → List (View Owner)
views_from bs n nil = []
views_from bs n (cons l c s) =
    view (owner_of bs) (one (l, c)) ∷ (views_from (below n l bs) (suc n) c ++ views_from bs (suc n + size c) s)

abbrev pub views : Term → List (View Owner)
views face = views_from [] 0 (one face)

-- Whether a view has a variable that is "bound inside the face above it"
abbrev pub of_face : Seen Owner → Bool
of_face (seen_free x) = false
of_face (inside i) = false
of_face (outside (node_of_face n)) = true
of_face (outside (above_face j)) = false

abbrev pub uses_label : Label (Seen Owner) (Unit {0}) → Bool
uses_label l = holds of_face (variable_of l)

abbrev pub uses_face : View Owner → Bool
uses_face nil = false
uses_face (cons l c s) = uses_label l || (uses_face c || uses_face s)

-- No marked node lies below another: the nodes of the subexpression u at node j are numbered from j on, and a later marked node k comes
-- after them
abbrev pub Apart : Marks → List (View Owner) → Type 0
Apart ms us =
    (j k h i : ℕ) (u : View Owner) → get_elem? ms j ≡ some (some h) → get_elem? ms k ≡ some (some i) → get_elem? us j ≡ some u → j < k → j + size u ≤ k

-- "A choice for a function is a set of nodes of its face whose subexpressions are all equal. A node that uses a variable bound inside
-- the face above it is in no choice." With n places: equal among the nodes of one place, and none below another of whatever place
pub record Choice (n : ℕ) (face : Term) (ms : Marks) : Type 0 where
  pub long : length ms ≡ size (one face)
  pub places : (k i : ℕ) → get_elem? ms k ≡ some (some i) → i < n
  pub equal : (j k i : ℕ) → get_elem? ms j ≡ some (some i) → get_elem? ms k ≡ some (some i) → get_elem? (views face) j ≡ get_elem? (views face) k
  pub unbound : (k i : ℕ) (u : View Owner) → get_elem? ms k ≡ some (some i) → get_elem? (views face) k ≡ some u → uses_face u ≡ false
  pub apart : Apart ms (views face)

-- "Of two choices the earlier is the one that has the lowest node in which they differ": a hole comes before none, and the hole of an
-- earlier place before that of a later one
abbrev pub Before : Mark → Mark → Type 0
Before none m = ⊥
Before (some i) none = Unit {0}
Before (some i) (some j) = i < j

pub data Earlier : Marks → Marks → Type 0 where
  here : {m m' : Mark} {ms ms' : Marks} → Before m m' → Earlier (m ∷ ms) (m' ∷ ms')
  later : {m : Mark} {ms ms' : Marks} → Earlier ms ms' → Earlier (m ∷ ms) (m ∷ ms')

-- A tree with these nodes as holes
abbrev pub punch_top : {X B : Type 0} → Mark → Label X B → Forest (Label X B) → Tree (Label X B)
punch_top none l c = (l, c)
punch_top (some i) l c = (slot (hole i), nil)

abbrev pub punch_term : {X B : Type 0} → Marks → Tree (Label X B) → Tree (Label X B)
punch_term ms t = punch_top (mark ms) t.0 (punch (rest ms) t.1)

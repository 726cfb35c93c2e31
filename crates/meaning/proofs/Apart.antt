-- Nodes that lie apart: what a choice says of its nodes by their numbers, said of a forest's nodes from the top, and which nodes always do.
use mathlib.Core.Path.{◌≡◌, refl, ap, sym, ◌∙◌, subst}
use mathlib.Core.Logic.{◌⊎◌, inl, inr, ⊎_elim}
use Prim.Native.Nat.{ℕ, zero, suc, ◌+◌, ◌-◌, ◌<◌, ◌≤◌}
use mathlib.Core.Bool.{Bool, ◌&&◌, and_assoc}
use mathlib.Core.List.{List, [], ◌∷◌, ◌++◌}
use mathlib.Core.Option.{none, some}
use native.Mathlib.Omega.{arith}
use lib.ListN.{length, take, drop, get_elem?, length-drop}
use lib.Dec.{eqb, eqb→eq, T}
use Rattle.meaning.specs.Term.{nil, cons, one, size, Nameless, Terms, Term, inner}
use Rattle.meaning.specs.Shift.{with_variable}
use Rattle.meaning.specs.Equal.{View, see, view}
use Rattle.meaning.specs.Choice.{Marks, Owner, owner_of, below, views_from, views, set_size, Apart, Choice}
use Rattle.meaning.specs.Choices.{are_apart}
use Rattle.meaning.proofs.Lists.{never, true_T, and_T, T_and, at_append}
use Rattle.meaning.proofs.ShiftLaws.{relabel_size}
use Rattle.meaning.proofs.ChoiceLaws.{length_views, test_apart, apart_test}
use Rattle.meaning.proofs.Punching.{Clear, blank, size_blank}

-- Marks of which the first are none
blank_front : (n : ℕ) (ms : Marks) → n ≤ length ms → set_size (take n ms) ≡ 0 → take n ms ≡ blank n
blank_front zero ms l e = refl
blank_front (suc n) [] l e = absurd (omega arith)
blank_front (suc n) (none ∷ ms) l e = ap (λ (x : Marks). none ∷ x) (blank_front n ms (omega arith) e)
blank_front (suc n) (some i ∷ ms) l e = absurd (omega arith)

blank_apart : (ms : Marks) (us : List (View Owner)) → take (length us) ms ≡ blank (length us) → T (are_apart ms us)
blank_apart [] us e = tt
blank_apart (m ∷ ms) [] e = tt
blank_apart (none ∷ ms) (u ∷ us) e = blank_apart ms us (cc)
blank_apart (some i ∷ ms) (u ∷ us) e = never (cc)

apart_append : (ms : Marks) (us vs : List (View Owner)) → are_apart ms (us ++ vs) ≡ (are_apart ms us && are_apart (drop (length us) ms) vs)
apart_append [] [] vs = refl
apart_append (m ∷ ms) [] vs = refl
apart_append [] (u ∷ us) vs = refl
apart_append (none ∷ ms) (u ∷ us) vs = apart_append ms us vs
apart_append (some i ∷ ms) (u ∷ us) vs =
    let here : Bool = eqb (set_size (take (size u - 1) ms)) 0 in
    ap (λ (b : Bool). here && b) (apart_append ms us vs) ∙ sym (and_assoc here (are_apart ms us) (are_apart (drop (length us) ms) vs))

-- A node's view has the node's size
size_view : (bs : List ℕ) (t : Term) → size (view (owner_of bs) (one t)) ≡ size (one t)
size_view bs t = relabel_size inner (λ k. with_variable (see (owner_of bs) k)) 0 (one t)

-- One node of a forest, its children and its later siblings
module _ (bs : List ℕ) (n : ℕ) (l : Nameless) (c s : Terms) (ms : Marks) where
  abbrev in_children : List (View Owner)
  in_children = views_from (below n l bs) (suc n) c

  abbrev in_later : List (View Owner)
  in_later = views_from bs (suc n + size c) s

  apart_node : are_apart ms (in_children ++ in_later) ≡ (are_apart ms in_children && are_apart (drop (size c) ms) in_later)
  apart_node =
      apart_append ms in_children in_later
      ∙ ap (λ (k : ℕ). are_apart ms in_children && are_apart (drop k ms) in_later) (length_views (below n l bs) (suc n) c)

  node_apart : T (are_apart ms in_children) → T (are_apart (drop (size c) ms) in_later) → T (are_apart ms (in_children ++ in_later))
  node_apart x y = subst T (sym apart_node) (T_and (are_apart ms in_children) (are_apart (drop (size c) ms) in_later) x y)

  children_later : T (are_apart ms (in_children ++ in_later)) → T (are_apart ms in_children) × T (are_apart (drop (size c) ms) in_later)
  children_later t = and_T (are_apart ms in_children) (are_apart (drop (size c) ms) in_later) (subst T apart_node t)

  nodes_below : size (view (owner_of bs) (one (l, c))) - 1 ≡ size c
  nodes_below = let e = size_view bs (l, c) in omega arith

  marked_apart : take (size c) ms ≡ blank (size c) → T (are_apart (drop (size c) ms) in_later)
      → T (eqb (set_size (take (size (view (owner_of bs) (one (l, c))) - 1) ms)) 0 && are_apart ms (in_children ++ in_later))
  marked_apart b y =
      let none_below : set_size (take (size (view (owner_of bs) (one (l, c))) - 1) ms) ≡ 0 =
      ap (λ (k : ℕ). set_size (take k ms)) nodes_below ∙ ap set_size b ∙ size_blank (size c) in
      T_and (eqb (set_size (take (size (view (owner_of bs) (one (l, c))) - 1) ms)) 0) (are_apart ms (in_children ++ in_later))
      (true_T (ap (λ (k : ℕ). eqb k 0) none_below))
      (node_apart (blank_apart ms in_children (rw (length_views (below n l bs) (suc n) c) b)) y)

  apart_marked : size c ≤ length ms
      → T (eqb (set_size (take (size (view (owner_of bs) (one (l, c))) - 1) ms)) 0 && are_apart ms (in_children ++ in_later))
      → (take (size c) ms ≡ blank (size c)) × T (are_apart (drop (size c) ms) in_later)
  apart_marked h t =
      let r = and_T (eqb (set_size (take (size (view (owner_of bs) (one (l, c))) - 1) ms)) 0) (are_apart ms (in_children ++ in_later)) t in
      let none_below = eqb→eq (set_size (take (size (view (owner_of bs) (one (l, c))) - 1) ms)) 0 r.0 in
      (blank_front (size c) ms h (ap (λ (k : ℕ). set_size (take k ms)) (sym nodes_below) ∙ none_below), (children_later r.1).1)

clear_test : (bs : List ℕ) (n : ℕ) (ms : Marks) (w : Terms) → Clear ms w → T (are_apart ms (views_from bs n w))
clear_test bs n ms nil g = blank_apart ms [] refl
clear_test bs n [] (cons l c s) g = tt
clear_test bs n (none ∷ ms) (cons l c s) g =
    node_apart bs n l c s ms (clear_test (below n l bs) (suc n) ms c g.0) (clear_test bs (suc n + size c) (drop (size c) ms) s g.1)
clear_test bs n (some i ∷ ms) (cons l c s) g =
    marked_apart bs n l c s ms g.0 (clear_test bs (suc n + size c) (drop (size c) ms) s g.1)

test_clear : (bs : List ℕ) (n : ℕ) (ms : Marks) (w : Terms) → size w ≤ length ms → T (are_apart ms (views_from bs n w)) → Clear ms w
test_clear bs n ms nil h t = tt
test_clear bs n [] (cons l c s) h t = absurd (omega arith)
test_clear bs n (none ∷ ms) (cons l c s) h t =
    let r = children_later bs n l c s ms t in (
      test_clear (below n l bs) (suc n) ms c (omega arith) r.0,
      test_clear bs (suc n + size c) (drop (size c) ms) s (rw length-drop (omega arith)) r.1,
    )
test_clear bs n (some i ∷ ms) (cons l c s) h t =
    let r = apart_marked bs n l c s ms (omega arith) t in
    (r.0, test_clear bs (suc n + size c) (drop (size c) ms) s (rw length-drop (omega arith)) r.1)

-- NO NODE OF A CHOICE LIES BELOW ANOTHER: by the nodes' numbers, and from the top
pub clear_apart : (face : Term) (ms : Marks) → Clear ms (one face) → Apart ms (views face)
clear_apart face ms g = test_apart ms (views face) (clear_test [] 0 ms (one face) g)

pub choice_clear : (n : ℕ) (face : Term) (ms : Marks) → Choice n face ms → Clear ms (one face)
choice_clear n face ms c =
    let l : length ms ≡ size (one face) = c.long in
    test_clear [] 0 ms (one face) (omega arith) (apart_test ms (views face) c.apart)

-- The nodes of a subexpression are among those of the forest
view_within : (bs : List ℕ) (n : ℕ) (w : Terms) (k : ℕ) (u : View Owner) → get_elem? (views_from bs n w) k ≡ some u → k + size u ≤ size w
view_within bs n nil k u e = never (cc)
view_within bs n (cons l c s) zero u e =
    let sizes : size u ≡ size (one (l, c)) =
    ap (λ (v : View Owner). size v) (let q : u ≡ view (owner_of bs) (one (l, c)) = cc in q) ∙ size_view bs (l, c) in
    omega arith
view_within bs n (cons l c s) (suc k) u e =
    ⊎_elim
    (λ x. let r = view_within (below n l bs) (suc n) c k u x.1 in omega arith)
    (λ x. let r = view_within bs (suc n + size c) s x.0 u x.2 in let m = length_views (below n l bs) (suc n) c in let y = x.1 in
    omega arith)
    (at_append (views_from (below n l bs) (suc n) c) (views_from bs (suc n + size c) s) k u e)

-- Of two subexpressions the later comes after the earlier one, or is a part of it
view_nested : (bs : List ℕ) (n : ℕ) (w : Terms) (j k : ℕ) (u v : View Owner) → get_elem? (views_from bs n w) j ≡ some u
    → get_elem? (views_from bs n w) k ≡ some v
    → j < k → (j + size u ≤ k) ⊎ (k + size v ≤ j + size u)
view_nested bs n nil j k u v d e h = never (cc)
view_nested bs n (cons l c s) j zero u v d e h = absurd (omega arith)
view_nested bs n (cons l c s) zero (suc k) u v d e h =
    let sizes : size u ≡ size (one (l, c)) =
    ap (λ (x : View Owner). size x) (let q : u ≡ view (owner_of bs) (one (l, c)) = cc in q) ∙ size_view bs (l, c) in
    let m = length_views (below n l bs) (suc n) c in
    ⊎_elim
    (λ x. let r = view_within (below n l bs) (suc n) c k v x.1 in inr (omega arith))
    (λ x. let y = x.1 in inl (omega arith))
    (at_append (views_from (below n l bs) (suc n) c) (views_from bs (suc n + size c) s) k v e)
view_nested bs n (cons l c s) (suc j) (suc k) u v d e h =
    let m = length_views (below n l bs) (suc n) c in
    ⊎_elim
    (λ x. ⊎_elim
    (λ y. ⊎_elim (λ r. inl (omega arith)) (λ r. inr (omega arith))
    (view_nested (below n l bs) (suc n) c j k u v x.1 y.1 (omega arith)))
    (λ y. let r = view_within (below n l bs) (suc n) c j u x.1 in let z = y.1 in inl (omega arith))
    (at_append (views_from (below n l bs) (suc n) c) (views_from bs (suc n + size c) s) k v e))
    (λ x. let a = x.1 in ⊎_elim
    (λ y. let b = y.0 in absurd (omega arith))
    (λ y. let b = y.1 in ⊎_elim (λ r. inl (omega arith)) (λ r. inr (omega arith))
    (view_nested bs (suc n + size c) s x.0 y.0 u v x.2 y.2 (omega arith)))
    (at_append (views_from (below n l bs) (suc n) c) (views_from bs (suc n + size c) s) k v e))
    (at_append (views_from (below n l bs) (suc n) c) (views_from bs (suc n + size c) s) j u d)

-- EQUAL SUBEXPRESSIONS NEVER NEST, since they have equal size: with one place, the nodes of a choice lie apart by themselves
pub equal_apart : (face : Term) (j k : ℕ) (u : View Owner) → get_elem? (views face) j ≡ some u → get_elem? (views face) k ≡ some u → j < k
    → j + size u ≤ k
equal_apart face j k u d e h = ⊎_elim (λ x. x) (λ x. absurd (omega arith)) (view_nested [] 0 (one face) j k u u d e h)

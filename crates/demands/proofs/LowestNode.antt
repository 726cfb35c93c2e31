-- The lowest hole of a body stands, in what is faced, where the lowest node of the choice stands in the function's own face: before it
-- the two agree node by node.
--   Unmarked   the first n nodes become no holes
--   HoleAt     the lowest hole of a place, and the node where it stands
use mathlib.Core.Path.{◌≡◌, refl, ap, sym, ◌∙◌, subst}
use Prim.Native.Nat.{ℕ, zero, suc, ◌+◌, ◌-◌, ◌<◌, ◌≤◌}
use mathlib.Core.Bool.{Bool, true, false}
use mathlib.Core.List.{List, [], ◌∷◌, ◌++◌}
use mathlib.Core.Option.{none, some}
use native.Mathlib.Omega.{arith}
use native.Mathlib.Decide.{dec_lt}
use lib.ListN.{drop, get_elem?}
use lib.Dec.{eqb, T}
use Rattle.meaning.specs.Basics.{choose}
use Rattle.meaning.specs.Term.{nil, cons, one, size, node_at, own, slot, hole, Own, Variable, Nameless, Terms, Term, inner, IsExpression}
use Rattle.meaning.specs.Face.{Face, agrees, walk}
use Rattle.meaning.specs.Choice.{Marks, punch, punch_term}
use Rattle.meaning.specs.Value.{is_hole, lowest_hole}
use Rattle.meaning.proofs.Lists.{never, at_drop, choose_true, choose_false, eqb_self}
use Rattle.meaning.proofs.ShiftLaws.{ltb_yes, ltb_no}
use Rattle.meaning.proofs.Lockstep.{agrees_eq}
use Rattle.meaning.proofs.RowBodies.{punch_one}
use Rattle.meaning.proofs.Nodes.{stands_size, node_stands, WalkedOwn, walked_own, walked_slot}
use Rattle.demands.specs.LowestMark.{LowestMark, binders_above}

abbrev pub Unmarked : ℕ → Marks → Type 0
Unmarked n ms = (k : ℕ) → k < n → get_elem? ms k ≡ some none

module _ (i j n : ℕ) (ms : Marks) (low : LowestMark i j ms) where
  lowest_drop : n ≤ j → LowestMark i (j - n) (drop n ms)
  lowest_drop h = record {
    marked = at_drop n ms (j - n) ∙ ap (get_elem? ms) (let e : n + (j - n) ≡ j = omega arith in e) ∙ low.marked;
    before = λ k l. at_drop n ms k ∙ low.before (n + k) (omega arith);
  }

-- The first hole of two lists
lowest_left : (i : ℕ) (xs ys : List Face) (h : Face) → lowest_hole i xs ≡ some h → lowest_hole i (xs ++ ys) ≡ some h
lowest_left i [] ys h e = never (cc)
lowest_left i (x ∷ xs) ys h e = go (is_hole i x.what) (lowest_left i xs ys h) e
  where
    go : (t : Bool) → (lowest_hole i xs ≡ some h → lowest_hole i (xs ++ ys) ≡ some h)
        → choose t (some x) (lowest_hole i xs) ≡ some h → choose t (some x) (lowest_hole i (xs ++ ys)) ≡ some h
    go true ih q = q
    go false ih q = ih q

-- WITHOUT A MARK the walk finds no hole, and passes node by node
pub unmarked_walk : (k n : ℕ) (ms : Marks) (u e : Terms) (hs : List Face) → IsExpression u → Unmarked (size u) ms
    → walk k n (punch ms u) e ≡ some hs → (hs ≡ []) × (size u ≡ size e)
unmarked_walk k n ms nil nil hs x f w = (cc, refl)
unmarked_walk k n ms nil (cons t d r) hs x f w = never (cc)
unmarked_walk k n ms (cons (slot z) c s) e hs x f w = absurd x.0
unmarked_walk k n [] (cons (own o) c s) e hs x f w = let q : none ≡ some none = f 0 (omega arith) in never (cc)
unmarked_walk k n (some i ∷ ms) (cons (own o) c s) e hs x f w = let q : some (some i) ≡ some none = f 0 (omega arith) in never (cc)
unmarked_walk k n (none ∷ ms) (cons (own o) c s) nil hs x f w = never (cc)
unmarked_walk k n (none ∷ ms) (cons (own o) c s) (cons t d r) hs x f w =
    let y = walked_own k n o (punch ms c) (punch (drop (size c) ms) s) (t, d) r hs w in
    let (none_inside, same_inside) =
    unmarked_walk (inner (own o) k) (suc n) ms c d y.inside x.1 (λ a l. f (suc a) (omega arith)) y.are_inside in
    let (none_later, same_later) =
    unmarked_walk k (suc n + size d) (drop (size c) ms) s r y.later x.2
    (λ a l. at_drop (size c) ms a ∙ f (suc (size c + a)) (omega arith)) y.are_later in
    (y.whole ∙ ap (λ (l : List Face). l ++ y.later) none_inside ∙ none_later, omega arith)

-- The hole of place i stands at node j of e; hs are the faces of a walk that gives e's first node the number n, with k binders around it
pub record HoleAt (i j k n : ℕ) (e : Terms) (hs : List Face) : Type 0 where
  pub face : Face
  pub is_lowest : lowest_hole i hs ≡ some face
  pub is_node : face.node ≡ n + j
  pub is_term : node_at j e ≡ some face.term
  pub is_under : face.under ≡ binders_above k j e

-- One node on: the hole is below the node, or beside it
module _ (i j k n : ℕ) (o : Own Variable (Unit {0})) (t : Nameless) (d r : Terms) (hs inside later : List Face) (agree : T (agrees o t))
    (whole : hs ≡ inside ++ later) where
  hole_below : HoleAt i j (inner (own o) k) (suc n) d inside → HoleAt i (suc j) k n (cons t d r) hs
  hole_below h =
      let small : j < size d = stands_size (node_stands j d h.face.term h.is_term) in
      let number : h.face.node ≡ suc n + j = h.is_node in
      record {
        face = h.face;
        is_lowest = ap (lowest_hole i) whole ∙ lowest_left i inside later h.face h.is_lowest;
        is_node = omega arith;
        is_term = choose_true (node_at j d) (node_at (j - size d) r) (ltb_yes j (size d) small) ∙ h.is_term;
        is_under = h.is_under
            ∙ ap (λ (l : Nameless). binders_above (inner l k) j d) (agrees_eq o t agree)
            ∙ sym (choose_true (binders_above (inner t k) j d) (binders_above k (j - size d) r) (ltb_yes j (size d) small));
      }

  hole_beside : inside ≡ [] → size d ≤ j → HoleAt i (j - size d) k (suc n + size d) r later → HoleAt i (suc j) k n (cons t d r) hs
  hole_beside empty large h =
      let number : h.face.node ≡ suc n + size d + (j - size d) = h.is_node in
      record {
        face = h.face;
        is_lowest = ap (lowest_hole i) (whole ∙ ap (λ (l : List Face). l ++ later) empty) ∙ h.is_lowest;
        is_node = omega arith;
        is_term = choose_false (node_at j d) (node_at (j - size d) r) (ltb_no j (size d) large) ∙ h.is_term;
        is_under = h.is_under
            ∙ sym (choose_false (binders_above (inner t k) j d) (binders_above k (j - size d) r) (ltb_no j (size d) large));
      }

lowest_at : (i j k n : ℕ) (ms : Marks) (u e : Terms) (hs : List Face) → IsExpression u → j < size u → LowestMark i j ms
    → walk k n (punch ms u) e ≡ some hs → HoleAt i j k n e hs
lowest_at i j k n ms nil e hs x h l w = absurd (omega arith)
lowest_at i j k n ms (cons (slot z) c s) e hs x h l w = absurd x.0
lowest_at i j k n [] (cons (own o) c s) e hs x h l w = never (cc l.marked)
lowest_at i j k n (none ∷ ms) (cons (own o) c s) nil hs x h l w = never (cc)
lowest_at i j k n (some m ∷ ms) (cons (own o) c s) nil hs x h l w = never (cc)
lowest_at i zero k n (none ∷ ms) (cons (own o) c s) (cons t d r) hs x h l w = never (cc l.marked)
lowest_at i zero k n (some m ∷ ms) (cons (own o) c s) (cons t d r) hs x h l w =
    let f : Face = record { under = k; what = hole m; children = nil; node = n; term = (t, d) } in
    let y = walked_slot k n (hole m) nil (punch (drop (size c) ms) s) (t, d) r hs w in
    let same : m ≡ i = cc l.marked in
    record {
      face = f;
      is_lowest = ap (lowest_hole i) y.whole ∙ choose_true (some f) (lowest_hole i y.later) (ap (eqb i) same ∙ eqb_self i);
      is_node = omega arith;
      is_term = refl;
      is_under = refl;
    }
lowest_at i (suc j) k n (some m ∷ ms) (cons (own o) c s) (cons t d r) hs x h l w =
    let q : some (some m) ≡ some none = l.before 0 (omega arith) in never (cc)
lowest_at i (suc j) k n (none ∷ ms) (cons (own o) c s) (cons t d r) hs x h l w =
    let y : WalkedOwn k n o (punch ms c) (punch (drop (size c) ms) s) (t, d) r hs =
    walked_own k n o (punch ms c) (punch (drop (size c) ms) s) (t, d) r hs w in
    let low : LowestMark i j ms = record { marked = l.marked; before = λ a q. l.before (suc a) (omega arith) } in
    elim (dec_lt j (size c)) [
      | yes a ↦
          hole_below i j k n o t d r hs y.inside y.later y.agree y.whole
          (lowest_at i j (inner (own o) k) (suc n) ms c d y.inside x.1 a low y.are_inside)
      | no a ↦
          let (empty, same) =
          unmarked_walk (inner (own o) k) (suc n) ms c d y.inside x.1 (λ b q. low.before b (omega arith)) y.are_inside in
          hole_beside i j k n o t d r hs y.inside y.later y.agree y.whole empty (omega arith)
          (lowest_at i (j - size d) k (suc n + size d) (drop (size c) ms) s r y.later x.2 (omega arith)
          (subst (λ (b : ℕ). LowestMark i (j - b) (drop (size c) ms)) same (lowest_drop i j (size c) ms low (omega arith))) y.are_later)
    ]

-- THE LOWEST HOLE: node j of what is faced, counted from the node that the application faces
pub lowest_hole_lem : (i j n : ℕ) (ms : Marks) (face e : Term) (hs : List Face) → IsExpression (one face) → j < size (one face)
    → LowestMark i j ms → walk 0 n (one (punch_term ms face)) (one e) ≡ some hs → HoleAt i j 0 n (one e) hs
lowest_hole_lem i j n ms face e hs x h l w =
    lowest_at i j 0 n ms (one face) (one e) hs x h l (ap (λ (u : Terms). walk 0 n u (one e)) (sym (punch_one ms face)) ∙ w)

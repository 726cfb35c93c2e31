-- The nodes that a table and its numbers tell of a face are the face's own, so that the paths through them are the face's choices.
use mathlib.Core.Path.{◌≡◌, refl, ap, sym, ◌∙◌, subst}
use mathlib.Core.Logic.{◌↔◌}
use mathlib.Core.Bool.{Bool, true, false, not}
use mathlib.Core.List.{List, [], ◌∷◌, map}
use mathlib.Core.Option.{none, some, some-injective}
use Prim.Native.Nat.{ℕ, zero, suc, ◌+◌, ◌-◌, ◌≤◌, ◌<◌}
use native.Mathlib.Omega.{arith}
use lib.ListN.{length, drop, get_elem?}
use lib.Seq.{drop-drop}
use lib.Dec.{eqb}
use Rattle.meaning.specs.Limits.{max_face_nodes}
use Rattle.meaning.specs.Basics.{choose, count_from, is_some}
use Rattle.meaning.specs.Term.{inner, one, size, Term}
use Rattle.meaning.specs.Scope.{enter, nameless_label, nameless_term}
use Rattle.meaning.specs.Lower.{lower_term}
use Rattle.meaning.specs.Shift.{Closed, with_variable}
use Rattle.meaning.specs.Equal.{View, see, view, Equal}
use Rattle.meaning.specs.Choice.{Owner, owner_of, views, uses_face}
use Rattle.meaning.specs.Choices.{choices}
use Rattle.meaning.proofs.Lists.{choose_false, eqb_eq, eqb_self, never}
use Rattle.meaning.proofs.ShiftLaws.{relabel_size}
use Rattle.meaning.proofs.ViewLaws.{nameless_closed}
use Rattle.meaning.proofs.ChoiceLaws.{length_views}
use Rattle.meaning.proofs.Lowered.{lowered_none}
use Rattle.tokens.specs.Token.{depth_in, size_in}
use Rattle.tokens.specs.Key.{at, same_at, uses_at, Held, Stands}
use Rattle.tokens.proofs.KeyLaws.{stands_depth, stands_size, stands_inside, uses_means, same_means}
use Rattle.tokens.proofs.Spots.{Spot, spot, forest_deep}
use Rattle.tokens.proofs.Owners.{equal_levels}
use Rattle.numbers.specs.Tests.{Beneath, Tells, told}
use Rattle.masks.proofs.Cases.{same_truth}
use Rattle.paths.specs.Paths as node
use Rattle.paths.specs.Paths.{class_at, paths, size_at, unset}
use Rattle.paths.proofs.PathLaws.{paths_choices}
use Rattle.choosing.proofs.Lists.{at_low}
use Rattle.choosing.specs.FaceNodes.{FaceAt, Whole, class_from, node_from, nodes_from, size_from}

-- What the list has at a node
made_long : (f : ℕ → node.Node) (k n : ℕ) → length (map f (count_from k n)) ≡ n
made_long f k zero = refl
made_long f k (suc n) = ap suc (made_long f (suc k) n)

made_at : {A : Type 0} (g : List node.Node → ℕ → A) (h : node.Node → A) → ((x : node.Node) (xs : List node.Node) → g (x ∷ xs) 0 ≡ h x)
    → ((x : node.Node) (xs : List node.Node) (i : ℕ) → g (x ∷ xs) (suc i) ≡ g xs i) → (f : ℕ → node.Node) (k n i : ℕ) → i < n
    → g (map f (count_from k n)) i ≡ h (f (k + i))
made_at g h first later f k zero i l = absurd (omega arith)
made_at g h first later f k (suc n) zero l =
    let z : k ≡ k + 0 = omega arith in
    first (f k) (map f (count_from (suc k) n)) ∙ ap (λ (j : ℕ). h (f j)) z
made_at g h first later f k (suc n) (suc i) l =
    let z : suc k + i ≡ k + suc i = omega arith in
    later (f k) (map f (count_from (suc k) n)) i ∙ made_at g h first later f (suc k) n i (omega arith) ∙ ap (λ (j : ℕ). h (f j)) z

module _ (ns es : List ℕ) (root : ℕ) where
  pub nodes_long_lem : length (nodes_from ns es root) ≡ size_from es root
  unfolding nodes_from
  nodes_long_lem = made_long (node_from ns es root) 0 (size_from es root)

  pub nodes_size : (i : ℕ) → i < size_from es root → size_at (nodes_from ns es root) i ≡ size_in (at es (root + i))
  unfolding nodes_from
  nodes_size i l =
      let z : 0 + i ≡ i = omega arith in
      made_at size_at (λ x. x.size) (λ x xs. refl) (λ x xs j. refl) (node_from ns es root) 0 (size_from es root) i l
      ∙ ap (λ (j : ℕ). size_in (at es (root + j))) z

  pub nodes_class : (i : ℕ) → i < size_from es root → class_at (nodes_from ns es root) i ≡ class_from ns es root i
  unfolding nodes_from
  nodes_class i l =
      let z : 0 + i ≡ i = omega arith in
      made_at class_at (λ x. x.class) (λ x xs. refl) (λ x xs j. refl) (node_from ns es root) 0 (size_from es root) i l
      ∙ ap (class_from ns es root) z

-- A class that is a number where a test is false
class_some : (b : Bool) (n : ℕ) → is_some (choose b none (some n)) ≡ not b
class_some true n = refl
class_some false n = refl

class_is : (b : Bool) (n c : ℕ) → choose b none (some n) ≡ some c → (b ≡ false) × (n ≡ c)
class_is true n c e = never (cc)
class_is false n c e = (refl, let z : n ≡ c = cc in z)

-- The face in the table
module _ (es : List ℕ) (root : ℕ) (face : Term) (h : FaceAt es root face) where
  -- the number of binders above the face
  abbrev above : ℕ
  above = length h.scope

  abbrev Node : ℕ → Type 0
  Node i = Spot above (size (one h.named)) (drop root es) i (drop root es) (views face) (one face) i

  face_size : size (one face) ≡ size (one h.named)
  face_size = ap (λ (t : Term). size (one t)) (sym h.is) ∙ relabel_size enter nameless_label h.scope (one h.named)

  node_of : (i : ℕ) → i < size (one face) → Node i
  node_of i l = subst (λ (t : Term). Spot above (size (one h.named)) (drop root es) i (drop root es) (views t) (one t) i) h.is here
    where
      here : Spot above (size (one h.named)) (drop root es) i (drop root es) (views (nameless_term h.scope h.named))
          (one (nameless_term h.scope h.named)) i
      here =
          rw h.stands.split
          (spot above h.levels h.ctx h.scope [] 0 (one h.named) h.stands.after _ i i (omega arith) (omega (arith, face_size))
          h.held.readable h.held.depths (omega arith) refl tt)

  module _ (i : ℕ) (s : Node i) where
    abbrev term : Term
    term = nameless_term s.scope s.named

    abbrev seen_at : View Owner
    seen_at = view (owner_of s.binders) (one term)

    node_held : Held s.levels s.ctx s.scope s.named
    node_held = record { readable = s.readable; depths = s.depths; sizes = omega (arith, s.sizes, h.held.sizes) }

    node_stands : Stands es (root + i) s.scope s.named
    node_stands = record { after = s.after; split = sym (drop-drop i root es) ∙ s.split }

    node_closed : Closed (length s.scope) (one term)
    node_closed = nameless_closed s.scope (one s.named)

    node_size : size_in (at es (root + i)) ≡ size seen_at
    node_size =
        stands_size s.levels s.ctx es (root + i) s.scope s.named node_held node_stands
        ∙ sym (relabel_size enter nameless_label s.scope (one s.named))
        ∙ sym (relabel_size inner (λ k. with_variable (see (owner_of s.binders) k)) 0 (one term))

    -- the table's test of binders in between is document 01's
    node_uses : uses_at es (root + i) above ≡ uses_face seen_at
    node_uses =
        let n : length s.scope - above ≡ length s.binders = omega (arith, s.deep) in
        let m = uses_means s.levels s.ctx es (root + i) s.scope s.named node_held node_stands above in
        let l = lowered_none s.binders term in
        same_truth (uses_at es (root + i) above) (uses_face seen_at)
        (λ e. l.0 (ap (λ (k : ℕ). lower_term k term) (sym n) ∙ m.0 e)) (λ e. m.1 (ap (λ (k : ℕ). lower_term k term) n ∙ l.1 e))

  -- the table's test of equality too, for a node that may be in a choice
  node_same : (i j : ℕ) (s : Node i) (r : Node j) → uses_face (seen_at i s) ≡ false
      → (same_at es (root + i) (root + j) ≡ true) ↔ Equal (owner_of s.binders) (owner_of r.binders) (term i s) (term j r)
  node_same i j s r f =
      let m = same_means s.levels r.levels s.ctx r.ctx es (root + i) (root + j) s.scope r.scope s.named r.named
      (node_held i s) (node_held j r) (node_stands i s) (node_stands j r) in
      let e =
      equal_levels above s.scope s.binders r.scope r.binders (term i s) (term j r) s.deep r.deep (node_closed i s)
      (node_closed j r) f in
      (λ q. e.1 (m.0 q), λ q. m.1 (e.0 q))

  root_depth : depth_in (at es root) ≡ above
  root_depth = stands_depth h.levels h.ctx es root h.scope h.named h.held h.stands

  root_size : size_from es root ≡ size (one face)
  root_size = stands_size h.levels h.ctx es root h.scope h.named h.held h.stands ∙ sym face_size

  root_ends : root + size (one face) ≤ length es
  root_ends = omega (arith, (stands_inside h.levels h.ctx es root h.scope h.named h.held h.stands).ends, root_size)

  -- No node of the face is less deep than its root
  nodes_deep : (i j : ℕ) → i < size (one face) → j < size (one face) → Beneath es above (root + i) (root + j)
  nodes_deep i j l g y p q =
      forest_deep h.levels h.ctx h.scope (one h.named) h.held.readable h.held.depths es root h.stands.after
      h.stands.split y (omega arith) (omega (arith, face_size))

  module _ (ns : List ℕ) (tells : Tells es (told ns)) where
    asked_uses : (i : ℕ) → i < size (one face) → (told ns).uses (root + i) (depth_in (at es root)) ≡ uses_at es (root + i) above
    asked_uses i l = ap ((told ns).uses (root + i)) root_depth ∙ tells.uses (root + i) above (omega (arith, root_ends))

    -- A view of the face, and the node that it is of
    abbrev Seen : ℕ → View Owner → Type 0
    Seen i u = get_elem? (views face) i ≡ some u

    low : (i : ℕ) (u : View Owner) → Seen i u → i < size (one face)
    low i u e = omega (arith, at_low (views face) i u e, length_views [] 0 (one face))

    is_seen : (i : ℕ) (u : View Owner) (e : Seen i u) → seen_at i (node_of i (low i u e)) ≡ u
    is_seen i u e = some-injective (seen_at i (node_of i (low i u e))) u (sym (node_of i (low i u e)).seen ∙ e)

    -- whether the node is in a class, and in which
    uses_seen : (i : ℕ) (u : View Owner) → Seen i u → (told ns).uses (root + i) (depth_in (at es root)) ≡ uses_face u
    uses_seen i u e = asked_uses i (low i u e) ∙ node_uses i (node_of i (low i u e)) ∙ ap uses_face (is_seen i u e)

    class_seen : (i : ℕ) (u : View Owner) → Seen i u
        → class_at (nodes_from ns es root) i ≡ choose (uses_face u) none (some (at ns (root + i)))
    unfolding class_from
    class_seen i u e =
        nodes_class ns es root i (omega (arith, low i u e, root_size))
        ∙ ap (λ (b : Bool). choose b none (some (at ns (root + i)))) (uses_seen i u e)

    -- equal numbers, of a node that may be in a choice and another: equal views
    number_same : (i j : ℕ) (u v : View Owner) → Seen i u → Seen j v → uses_face u ≡ false
        → (eqb (at ns (root + i)) (at ns (root + j)) ≡ true) ↔ (u ≡ v)
    number_same i j u v d e f =
        let s = node_of i (low i u d) in
        let r = node_of j (low j v e) in
        let p = is_seen i u d in
        let q = is_seen j v e in
        let m = node_same i j s r (ap uses_face p ∙ f) in
        let t =
        tells.same above (root + i) (root + j) (omega (arith, low i u d, root_ends)) (omega (arith, low j v e, root_ends))
        (nodes_deep i j (low i u d) (low j v e)) (node_uses i s ∙ ap uses_face p ∙ f) in
        (λ z. sym p ∙ m.0 (sym t ∙ z) ∙ q, λ z. t ∙ m.1 (p ∙ z ∙ sym q))

    -- THE NODES TELL THE FACE
    pub face_nodes : node.Tells (views face) (nodes_from ns es root)
    face_nodes = record {
      long = nodes_long_lem ns es root ∙ root_size ∙ sym (length_views [] 0 (one face));
      sizes = λ k u e. nodes_size ns es root k (omega (arith, low k u e, root_size)) ∙ node_size k (node_of k (low k u e)) ∙ ap size (is_seen k u e);
      usable = λ k u e. ap is_some (class_seen k u e) ∙ class_some (uses_face u) (at ns (root + k));
      same = same;
    }
      where
        same : (j k c : ℕ) (u v : View Owner) → Seen j u → Seen k v → class_at (nodes_from ns es root) j ≡ some c
            → (class_at (nodes_from ns es root) k ≡ some c) ↔ (u ≡ v)
        same j k c u v p q e =
            let (f, n) = class_is (uses_face u) (at ns (root + j)) c (sym (class_seen j u p) ∙ e) in
            let m = number_same j k u v p q f in (
              λ d.
                  let (g, o) = class_is (uses_face v) (at ns (root + k)) c (sym (class_seen k v q) ∙ d) in
                  m.0 (ap (eqb (at ns (root + j))) (o ∙ sym n) ∙ eqb_self (at ns (root + j))),
              λ d.
                  class_seen k v q ∙ choose_false none (some (at ns (root + k))) (ap uses_face (sym d) ∙ f)
                  ∙ ap some (sym (eqb_eq (at ns (root + j)) (at ns (root + k)) (m.1 d)) ∙ n),
            )

    -- SO THE PATHS THROUGH THEM ARE ITS CHOICES
    pub face_paths : paths (unset 1) (nodes_from ns es root) ≡ choices 1 face
    face_paths = paths_choices 1 face (nodes_from ns es root) face_nodes

-- A face that stands at a node, and is not too large, can be gone through.
pub face_whole : (es : List ℕ) (root : ℕ) (face : Term) → FaceAt es root face → size (one face) ≤ max_face_nodes → Whole es root
face_whole es root face h fits =
    let e = root_size es root face h in
    let inside = stands_inside h.levels h.ctx es root h.scope h.named h.held h.stands in
    record { starts = inside.starts; fits = omega arith; ends = inside.ends }

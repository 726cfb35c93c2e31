-- Filling a set: from a node on each node that may become a hole does, which is the first path from there on.
use mathlib.Core.Path.{◌≡◌, refl, sym, ap, ap₂, ◌∙◌, subst}
use mathlib.Core.Bool.{true, false}
use mathlib.Core.List.{List, [], ◌∷◌, ◌++◌, append_assoc, append-nil}
use mathlib.Core.Option.{none, some}
use Rattle.std.specs.Prelude as code
use Prim.Native.Nat.{ℕ, suc, ◌-◌, ◌≤◌, ◌<◌}
use native.Mathlib.Omega.{arith}
use lib.ListN.{length, drop, length-append}
use Rattle.meaning.specs.Limits.{max_face_nodes}
use Rattle.meaning.specs.Choice.{Mark, Marks}
use Rattle.meaning.specs.PlaceValue.{mask_of}
use Rattle.masks.specs.Mask.{join}
use Rattle.masks.specs.Sets.{width, mask, nodes}
use Rattle.masks.specs.declared.NodeSet.{NodeSet}
use Rattle.paths.specs.Paths.{first_path, one_place}
use Rattle.paths.proofs.OnePlace.{first_at_end}
use Rattle.choosing.specs.FaceNodes.{size_from, nodes_from}
use Rattle.choosing.specs.Rows.{first_from}
use Rattle.choosing.specs.Walk.{Begun, Filled, HoledAt, Marked, class_in, class_of, opens_at, state_of}
use Rattle.choosing.specs.declared.Walk.{Walk}
use Rattle.choosing.proofs.FaceNodes.{nodes_long_lem}
use Rattle.choosing.proofs.SetMarks.{same_room, mask_marked, marked_mask, marked_passed, marked_holed}
use Rattle.choosing.proofs.WalkLaws.{first_opened, first_passed}

-- The marks before node i, of which the set has just the marked ones; with the first path from there on they are all marks
pub record Marking (all : Marks) (ns es : List ℕ) (root : ℕ) (s : NodeSet) (w : Walk) (i : ℕ) : Type 0 where
  pub front : Marks
  pub long : length front ≡ i
  pub marked : Marked s front
  pub whole : all ≡ front ++ first_path (state_of w i) (drop i (nodes_from ns es root))

-- What filling from node `from` on has come to
unfoldable pub Filling : List ℕ → List ℕ → ℕ → NodeSet → Walk → ℕ → NodeSet → Walk → ℕ → Type 0
Filling ns es root s₀ w₀ from s w i =
    (ms : Marks) → length ms ≡ from → Marked s₀ ms
    → Marking (ms ++ first_path (state_of w₀ from) (drop from (nodes_from ns es root))) ns es root s w i

module _ (ns es : List ℕ) (root : ℕ) (s₀ : NodeSet) (w₀ : Walk) (from : ℕ) where
  pub filling_begun : Filling ns es root s₀ w₀ from s₀ w₀ from
  unfolding Filling
  filling_begun ms l m = record { front = ms; long = l; marked = m; whole = refl }

  -- One mark more, at a node of the face
  module _ (fits : size_from es root ≤ max_face_nodes) (s : NodeSet) (w : Walk) (i : ℕ) (h : i < size_from es root) where
    room : i < width
    room = subst (λ (n : ℕ). i < n) same_room (omega (arith, fits))

    abbrev left : Walk → ℕ → Marks
    left u k = first_path (state_of u k) (drop k (nodes_from ns es root))

    more : (all front : Marks) (m : Mark) (u : Walk) → all ≡ front ++ left w i → left w i ≡ m ∷ left u (suc i)
        → all ≡ (front ++ (m ∷ [])) ++ left u (suc i)
    more all front m u e d = e ∙ ap (λ (r : Marks). front ++ r) d ∙ sym (append_assoc front (m ∷ []) (left u (suc i)))

    longer : (front : Marks) (m : Mark) → length front ≡ i → length (front ++ (m ∷ [])) ≡ suc i
    longer front m l = length-append front (m ∷ []) ∙ omega arith

    pub filling_opened : (r : NodeSet) (u : Walk) → Filling ns es root s₀ w₀ from s w i → opens_at ns es root w i ≡ true
        → nodes r ≡ join (nodes s) i → HoledAt ns es root i u → Filling ns es root s₀ w₀ from r u (suc i)
    unfolding Filling
    filling_opened r u f o j g ms l m =
        let b = f ms l m in
        record {
          front = b.front ++ (some 0 ∷ []);
          long = longer b.front (some 0) b.long;
          marked = marked_holed s r b.front i (sym b.long) (subst (λ (n : ℕ). n < width) (sym b.long) room) b.marked j;
          whole = more _ b.front (some 0) u b.whole (first_opened ns es root i w h u o g);
        }

    pub filling_passed : Filling ns es root s₀ w₀ from s w i → opens_at ns es root w i ≡ false → Filling ns es root s₀ w₀ from s w (suc i)
    unfolding Filling
    filling_passed f o ms l m =
        let b = f ms l m in
        record {
          front = b.front ++ (none ∷ []);
          long = longer b.front none b.long;
          marked = marked_passed s b.front (subst (λ (n : ℕ). n < width) (sym b.long) room) b.marked;
          whole = more _ b.front none w b.whole (first_passed ns es root i w h o);
        }

  -- Past the last node
  pub filling_done : size_from es root ≤ max_face_nodes → (s : NodeSet) (w : Walk) (i : ℕ) → i ≡ size_from es root
      → Filling ns es root s₀ w₀ from s w i → Filled ns es root s₀ w₀ from s
  unfolding Filling Filled
  filling_done fits s w i e f ms l m =
      let b = f ms l m in
      let none_left = first_at_end (nodes_from ns es root) i w.end (class_of w) (omega (arith, e, nodes_long_lem ns es root)) in
      marked_mask s b.front (omega (arith, b.long, e, fits)) b.marked
      ∙ ap (mask_of max_face_nodes) (sym (b.whole ∙ ap (λ (r : Marks). b.front ++ r) none_left ∙ append-nil b.front))

-- From the first node on, with no hole so far
pub first_is : (ns es : List ℕ) (root : ℕ) (s : NodeSet) (w : Walk) (r : NodeSet) → mask s ≡ 0 → Begun w → Filled ns es root s w 0 r
    → mask r ≡ first_from ns es root
unfolding Filled mask_of
first_is ns es root s w r e b f =
    let z : w.end - 0 ≡ 0 = omega (arith, b.end) in
    f [] refl (mask_marked s [] (omega arith) e)
    ∙ ap₂ (λ (k : ℕ) (o : code.Option ℕ). mask_of max_face_nodes (first_path (one_place k (class_in o)) (nodes_from ns es root))) z b.class

-- The choice after another: its last node gives way, and from there on the path is the first again.
use mathlib.Core.Path.{◌≡◌, refl, sym, ap, ap₂, ◌∙◌, subst}
use mathlib.Core.Logic.{⊎_elim}
use mathlib.Core.Bool.{Bool, true, false, true≢false, false≢true}
use mathlib.Core.List.{List, [], ◌∷◌, ◌++◌, map, append_assoc}
use mathlib.Core.Option.{Option, none, some}
use Prim.Native.Nat.{ℕ, zero, suc, ◌+◌, ◌-◌, ◌≤◌, ◌<◌}
use native.Mathlib.Nat.{eq-or-lt_of_le}
use native.Mathlib.Omega.{arith}
use lib.ListN.{length, get_or, get_elem?, take, drop, set, length-append, length-map, get_or-append}
use lib.Seq.{get_or-append-add, get_or-set_same, get_or-set_other, length-take-le, take-append-le}
use lib.Pow.{pow_pos}
use lib.Dec.{T}
use Rattle.meaning.specs.Limits.{max_face_nodes}
use Rattle.meaning.specs.Basics.{choose, is_some, ◌∈◌}
use Rattle.meaning.specs.Choice.{Mark, Marks}
use Rattle.meaning.specs.PlaceValue.{mask_of}
use Rattle.meaning.proofs.Lists.{never}
use Rattle.tokens.specs.Token.{depth_in}
use Rattle.tokens.specs.Key as table
use Rattle.numbers.specs.Tests.{told}
use Rattle.masks.specs.Mask.{value, empty, leave}
use Rattle.masks.specs.Sets.{width, mask, nodes}
use Rattle.masks.specs.declared.NodeSet.{NodeSet}
use Rattle.masks.proofs.Cases.{by_order}
use Rattle.masks.proofs.Marks.{length_marks}
use Rattle.masks.proofs.Words.{mask_nodes}
use Rattle.paths.specs.Words.{accepts}
use Rattle.paths.specs.Paths.{Node, class_at, first_path, next, one_place, unset}
use Rattle.paths.proofs.Walking.{accepted_walked}
use Rattle.paths.proofs.OnePlace.{ClearFrom, ClearTo, last_gives_way}
use Rattle.choosing.specs.FaceNodes.{class_from, nodes_from, size_from}
use Rattle.choosing.specs.Rows.{choices_from, Next}
use Rattle.choosing.specs.Walk.{Ending, Filled, Last, LeftAt, Marked, class_of}
use Rattle.choosing.specs.declared.Walk.{Walk}
use Rattle.choosing.proofs.Lists.{at_low, low_at}
use Rattle.choosing.proofs.FaceNodes.{nodes_long_lem, nodes_class}
use Rattle.choosing.proofs.RowSteps.{choice_path, choices_next, path_place}
use Rattle.choosing.proofs.SetMarks.{same_room, mask_marked, marked_passed}

-- One node down
pub none_down : (l : List Bool) (i : ℕ) → 0 < i → ((k : ℕ) → i ≤ k → get_or l k false ≡ false) → get_or l (i - 1) false ≡ false
    → (k : ℕ) → i - 1 ≤ k → get_or l k false ≡ false
none_down l i h clear here k g =
    ⊎_elim (λ (e : i - 1 ≡ k). subst (λ (j : ℕ). get_or l j false ≡ false) e here) (λ (q : i - 1 < k). clear k (omega arith)) (eq-or-lt_of_le g)

-- A set that is not empty has a node
none_value : (l : List Bool) → ((k : ℕ) → get_or l k false ≡ false) → value l ≡ 0
unfolding value
none_value [] h = refl
none_value (true ∷ l) h = absurd (true≢false (h 0))
none_value (false ∷ l) h = none_value l (λ k. h (suc k))

pub some_node : (s : NodeSet) → 0 < mask s → ((k : ℕ) → get_or (nodes s) k false ≡ false) → ⊥
some_node s h clear = let e = mask_nodes s ∙ none_value (nodes s) clear in omega arith

-- A set that has a node is not empty
node_value : (l : List Bool) (k : ℕ) → get_or l k false ≡ true → 0 < value l
unfolding value
node_value [] k e = absurd (false≢true e)
node_value (true ∷ l) k e = omega (arith, pow_pos (length l))
node_value (false ∷ l) zero e = absurd (false≢true e)
node_value (false ∷ l) (suc k) e = node_value l k e

-- ---- the set that is left

-- All nodes from node i on are left out
cut : (l : List Bool) (i : ℕ) → i < length l → ((k : ℕ) → i < k → get_or l k false ≡ false) → set l i false ≡ take i l ++ empty (length l - i)
cut [] i h clear = absurd (omega arith)
cut (b ∷ l) zero h clear =
    let e : suc (length l) - 0 ≡ suc (length l) = omega arith in
    ap {B = List Bool} (λ r. false ∷ r) (all_clear l (λ k. clear (suc k) (omega arith))) ∙ ap empty (sym e)
  where
    all_clear : (r : List Bool) → ((k : ℕ) → get_or r k false ≡ false) → r ≡ empty (length r)
    all_clear [] f = refl
    all_clear (true ∷ r) f = absurd (true≢false (f 0))
    all_clear (false ∷ r) f = ap {B = List Bool} (λ q. false ∷ q) (all_clear r (λ k. f (suc k)))
cut (b ∷ l) (suc i) h clear =
    let e : length l - i ≡ suc (length l) - suc i = omega arith in
    ap {B = List Bool} (λ r. b ∷ r) (cut l i (omega arith) (λ k g. clear (suc k) (omega arith)))
    ∙ ap (λ (n : ℕ). b ∷ (take i l ++ empty n)) e

map_take : (i : ℕ) (ms : Marks) → take i (map is_some ms) ≡ map is_some (take i ms)
map_take zero ms = refl
map_take (suc i) [] = refl
map_take (suc i) (m ∷ ms) = ap {B = List Bool} (λ r. is_some m ∷ r) (map_take i ms)

get_d_empty : (n j : ℕ) → get_or (empty n) j false ≡ false
get_d_empty zero j = refl
get_d_empty (suc n) zero = refl
get_d_empty (suc n) (suc j) = get_d_empty n j

-- ---- the next choice

module _ (ns es : List ℕ) (root : ℕ) (fits : size_from es root ≤ max_face_nodes) (s : NodeSet) (here : mask s ∈ choices_from ns es root) where
  abbrev xs : List Node
  xs = nodes_from ns es root

  abbrev us : Marks
  us = (choice_path ns es root (mask s) here).0

  path : T (accepts next (unset 1) xs us)
  path = (choice_path ns es root (mask s) here).1

  is : mask s ≡ mask_of max_face_nodes us
  is = (choice_path ns es root (mask s) here).2

  long : length us ≡ size_from es root
  long = ((accepted_walked (unset 1) xs us).0 path).0 ∙ nodes_long_lem ns es root

  room : size_from es root ≤ width
  room = subst (λ (n : ℕ). size_from es root ≤ n) same_room fits

  marked : Marked s us
  marked = mask_marked s us (omega (arith, long, fits)) is

  -- What the set says of a node is what its marks say
  node : (k : ℕ) (m : Mark) → get_elem? us k ≡ some m → get_or (nodes s) k false ≡ is_some m
  unfolding Marked
  node k m e =
      let l = at_low us k m e in
      ap (λ (r : List Bool). get_or r k false) marked
      ∙ get_or-append (map is_some us) (empty (width - length us)) false k (omega (arith, length-map us is_some))
      ∙ seen us k m e
    where
      seen : (vs : Marks) (j : ℕ) (v : Mark) → get_elem? vs j ≡ some v → get_or (map is_some vs) j false ≡ is_some v
      seen [] j v q = never (cc)
      seen (w ∷ vs) zero v q = let z : w ≡ v = cc in ap is_some z
      seen (w ∷ vs) (suc j) v q = seen vs j v q

  -- It has no node past the face
  pub ending : 0 < mask s → (n : ℕ) → n ≡ size_from es root → Ending s n
  unfolding Marked
  ending h n e = record { some = h; none = past }
    where
      past : (k : ℕ) → n ≤ k → get_or (nodes s) k false ≡ false
      past k g =
          let d : k ≡ length (map is_some us) + (k - length us) = omega (arith, length-map us is_some, long) in
          ap₂ (λ (r : List Bool) (j : ℕ). get_or r j false) marked d
          ∙ get_or-append-add (map is_some us) (empty (width - length us)) (k - length us) false ∙ get_d_empty (width - length us) (k - length us)

  module _ (i : ℕ) (l : Last s i) (low : i < size_from es root) where
    mark_none : (m : Mark) → is_some m ≡ false → m ≡ none
    mark_none none e = refl
    mark_none (some q) e = absurd (true≢false e)

    mark_some : (k : ℕ) (m : Mark) → get_elem? us k ≡ some m → is_some m ≡ true → m ≡ some 0
    mark_some k none e h = absurd (false≢true h)
    mark_some k (some q) e h = ap {B = Mark} (λ (j : ℕ). some j) (path_place ns es root us path k q e)

    found : (m : Mark) × (get_elem? us i ≡ some m)
    found = low_at us i (omega (arith, long))

    last_here : get_elem? us i ≡ some (some 0)
    last_here =
        let (m, e) = found in
        e ∙ ap {B = Option Mark} (λ (v : Mark). some v) (mark_some i m e (sym (node i m e) ∙ l.here))

    after_clear : ClearFrom us (suc i)
    after_clear k m g e = mark_none m (sym (node k m e) ∙ l.none k (omega arith))

    module _ (left : NodeSet) (leaves : nodes left ≡ leave (nodes s) i) (w : Walk) (at : LeftAt ns root left i w) where
      left_at : (k : ℕ) → (k ≡ i → ⊥) → get_or (nodes left) k false ≡ get_or (nodes s) k false
      unfolding leave
      left_at k h = ap (λ (r : List Bool). get_or r k false) leaves ∙ get_or-set_other (nodes s) i k false false h

      left_here : get_or (nodes left) i false ≡ false
      unfolding leave
      left_here =
          ap (λ (r : List Bool). get_or r i false) leaves
          ∙ get_or-set_same (nodes s) i false false (omega (arith, length_marks width (mask s), room))

      -- Where no other node is marked nothing is left
      alone : ClearTo us i → class_of w ≡ none
      alone clear = at.alone (mask_nodes left ∙ none_value (nodes left) (λ k. by_order k i (before k) (same k) (behind_it k)))
        where
          before : (k : ℕ) → k < i → get_or (nodes left) k false ≡ false
          before k h =
              let (m, e) = low_at us k (omega (arith, long)) in
              left_at k (λ z. omega arith) ∙ node k m e ∙ ap is_some (clear k m h e)

          same : (k : ℕ) → k ≡ i → get_or (nodes left) k false ≡ false
          same k e = ap (λ (j : ℕ). get_or (nodes left) j false) e ∙ left_here

          behind_it : (k : ℕ) → i < k → get_or (nodes left) k false ≡ false
          behind_it k h = left_at k (λ z. omega arith) ∙ l.none k h

      -- The class that all marked nodes have
      class_here : class_at xs i ≡ some (table.at ns (root + i))
      unfolding class_from
      class_here =
          let (c, e, t) = ((accepted_walked (unset 1) xs us).0 path).1.classed i 0 last_here in
          go ((told ns).uses (root + i) (depth_in (table.at es root))) (nodes_class ns es root i low) (sym (nodes_class ns es root i low) ∙ e)
        where
          go : (b : Bool) → class_at xs i ≡ choose b none (some (table.at ns (root + i))) → {c : ℕ}
              → choose b none (some (table.at ns (root + i))) ≡ some c
              → class_at xs i ≡ some (table.at ns (root + i))
          go true f q = never (cc)
          go false f q = f

      other : (k : ℕ) → k < i → get_elem? us k ≡ some (some 0) → class_of w ≡ class_at xs i
      other k h e =
          at.other
          (λ z. let p = node_value (nodes left) k (left_at k (λ q. omega arith) ∙ node k (some 0) e) in omega (arith, z, mask_nodes left))
          ∙ sym class_here

      -- The marks of what is left, with none at the node
      left_marked : Marked left (take i us ++ (none ∷ []))
      unfolding Marked leave
      left_marked =
          marked_passed left (take i us) (subst (λ (n : ℕ). n < width) (sym front_long) (omega (arith, room))) left_front
        where
          front_long : length (take i us) ≡ i
          front_long = length-take-le i us (omega (arith, long))

          left_front : Marked left (take i us)
          left_front =
              leaves ∙ cut (nodes s) i (omega (arith, length_marks width (mask s), room)) l.none
              ∙ ap₂ (λ (a : List Bool) (n : ℕ). a ++ empty (n - i))
              (ap (take i) marked
              ∙ take-append-le i (map is_some us) (empty (width - length us)) (omega (arith, length-map us is_some, long)) ∙ map_take i us)
              (length_marks width (mask s))
              ∙ ap (λ (n : ℕ). map is_some (take i us) ++ empty (width - n)) (sym front_long)

      pub next_is : (r : NodeSet) (n : ℕ) → n ≡ suc i → Filled ns es root left w n r → Next (choices_from ns es root) (mask s) (mask r)
      unfolding Filled
      next_is r n at_next given =
          let filled = subst (λ (k : ℕ). Filled ns es root left w k r) at_next given in
          let ws : Marks = take i us ++ (none ∷ first_path (one_place 0 (class_of w)) (drop (suc i) xs)) in
          let long-front : length (take i us ++ (none ∷ [])) ≡ suc i =
          length-append (take i us) (none ∷ []) ∙ omega (arith, length-take-le i us (omega (arith, long))) in
          let z : w.end - suc i ≡ 0 = omega (arith, at.end) in
          let e : mask r ≡ mask_of max_face_nodes ws =
          filled (take i us ++ (none ∷ [])) long-front left_marked
          ∙ ap (λ (k : ℕ). mask_of max_face_nodes ((take i us ++ (none ∷ [])) ++ first_path (one_place k (class_of w)) (drop (suc i) xs))) z
          ∙ ap (mask_of max_face_nodes) (append_assoc (take i us) (none ∷ []) (first_path (one_place 0 (class_of w)) (drop (suc i) xs))) in
          let after = choices_next ns es root fits us ws path (last_gives_way xs us i (class_of w) path last_here after_clear alone other) in
          subst (λ (m : ℕ). Next (choices_from ns es root) (mask s) m) (sym e)
          (subst (λ (m : ℕ). Next (choices_from ns es root) m (mask_of max_face_nodes ws)) (sym is) after)

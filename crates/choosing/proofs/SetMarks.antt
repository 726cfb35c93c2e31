-- A set of nodes and the marks of a path: the set has just the marked nodes exactly when its mask is theirs.
use mathlib.Core.Path.{◌≡◌, refl, sym, ap, ap₂, ◌∙◌, subst}
use mathlib.Core.Bool.{Bool, true, false}
use mathlib.Core.List.{List, [], ◌∷◌, ◌++◌, map, append_assoc, map-append}
use mathlib.Core.Option.{none, some}
use Prim.Native.Nat.{ℕ, zero, suc, ◌+◌, ◌-◌, ◌^◌, ◌≤◌, ◌<◌}
use native.Mathlib.Omega.{arith}
use lib.ListN.{length, set, length-append, length-map, length-replicate, replicate-append-replicate}
use lib.Seq.{drop_at, set-append_seam, take_at}
use Rattle.meaning.specs.Limits.{max_face_nodes}
use Rattle.meaning.specs.Basics.{is_some}
use Rattle.meaning.specs.Choice.{Mark, Marks}
use Rattle.meaning.specs.PlaceValue.{mask_of}
use Rattle.meaning.proofs.OldLimit.{added_nodes, old_limit}
use Rattle.masks.specs.Mask.{marks, value, empty, join}
use Rattle.masks.specs.Sets.{mask, nodes, width, word_count, word_nodes, words_in, words_of}
use Rattle.masks.specs.declared.NodeSet.{NodeSet}
use Rattle.masks.proofs.Marks.{marks_value}
use Rattle.masks.proofs.Nodes.{value_empty}
use Rattle.masks.proofs.Words.{mask_nodes}
use Rattle.choosing.specs.Walk.{Marked}

-- The limit of a face's nodes is the room that a set has
pub same_room : max_face_nodes ≡ width
unfolding max_face_nodes width
same_room = refl

-- The truth values of marks, with room for w nodes
abbrev padded : ℕ → Marks → List Bool
padded w ms = map is_some ms ++ empty (w - length ms)

pub length_padded : (w : ℕ) (ms : Marks) → length ms ≤ w → length (padded w ms) ≡ w
length_padded w ms h =
    length-append (map is_some ms) (empty (w - length ms))
    ∙ omega (arith, length-map ms is_some, length-replicate (w - length ms) false)

padded_front : (w : ℕ) (m : Mark) (ms : Marks) → padded (suc w) (m ∷ ms) ≡ is_some m ∷ padded w ms
padded_front w m ms =
    let e : suc w - suc (length ms) ≡ w - length ms = omega arith in
    ap (λ (k : ℕ). is_some m ∷ (map is_some ms ++ empty k)) e

-- The mask of marks is the number with these digits
mask_value : (w : ℕ) (ms : Marks) → length ms ≤ w → mask_of w ms ≡ value (padded w ms)
unfolding mask_of value
mask_value w [] h = let e : w - 0 ≡ w = omega arith in sym (ap (λ (k : ℕ). value (empty k)) e ∙ value_empty w)
mask_value zero (m ∷ ms) h = absurd (omega arith)
mask_value (suc w) (none ∷ ms) h = omega (arith, mask_value w ms (omega arith)) ∙ ap value (sym (padded_front w none ms))
mask_value (suc w) (some i ∷ ms) h =
    let n : 2 ^ length (padded w ms) ≡ 2 ^ w = ap (λ (k : ℕ). 2 ^ k) (length_padded w ms (omega arith)) in
    omega (arith, mask_value w ms (omega arith), n) ∙ ap value (sym (padded_front w (some i) ms))

module _ (s : NodeSet) (ms : Marks) (h : length ms ≤ max_face_nodes) where
  short : length ms ≤ width
  short = subst (λ (n : ℕ). length ms ≤ n) same_room h

  wide : mask_of max_face_nodes ms ≡ value (padded width ms)
  wide = ap (λ (n : ℕ). mask_of n ms) same_room ∙ mask_value width ms short

  pub marked_mask : Marked s ms → mask s ≡ mask_of max_face_nodes ms
  unfolding Marked
  marked_mask e = mask_nodes s ∙ ap value e ∙ sym wide

  pub mask_marked : mask s ≡ mask_of max_face_nodes ms → Marked s ms
  unfolding Marked
  mask_marked e =
      ap (marks width) (e ∙ wide) ∙ ap (λ (n : ℕ). marks n (value (padded width ms))) (sym (length_padded width ms short))
      ∙ marks_value (padded width ms)

-- Within the old limit the first word is the old mask, and the others are empty
pub old_words : (ms : Marks) → length ms ≤ old_limit → words_of (mask_of max_face_nodes ms) ≡ mask_of old_limit ms ∷ 0 ∷ 0 ∷ 0 ∷ []
unfolding words_of words_in value old_limit added_nodes width max_face_nodes
old_words ms h =
    let e : max_face_nodes - length ms ≡ (old_limit - length ms) + added_nodes = omega arith in
    let room : padded max_face_nodes ms ≡ padded old_limit ms ++ empty added_nodes =
    ap (λ (k : ℕ). map is_some ms ++ empty k) e
    ∙ ap (λ (l : List Bool). map is_some ms ++ l) (sym (replicate-append-replicate (old_limit - length ms) added_nodes false))
    ∙ sym (append_assoc (map is_some ms) (empty (old_limit - length ms)) (empty added_nodes)) in
    let digits : marks max_face_nodes (mask_of max_face_nodes ms) ≡ padded old_limit ms ++ empty added_nodes =
    ap (marks max_face_nodes) (mask_value max_face_nodes ms (omega arith))
    ∙ ap (λ (n : ℕ). marks n (value (padded max_face_nodes ms))) (sym (length_padded max_face_nodes ms (omega arith)))
    ∙ marks_value (padded max_face_nodes ms) ∙ room in
    ap (words_in word_count) digits
    ∙ ap₂ (λ (l r : List Bool). value l ∷ words_in 3 r) (take_at (padded old_limit ms) (empty added_nodes) word_nodes (length_padded old_limit ms h))
    (drop_at (padded old_limit ms) (empty added_nodes) word_nodes (length_padded old_limit ms h))
    ∙ ap (λ (m : ℕ). m ∷ 0 ∷ 0 ∷ 0 ∷ []) (sym (mask_value old_limit ms h))

-- One mark more
next_room : (w n : ℕ) → n < w → empty (w - n) ≡ false ∷ empty (w - suc n)
next_room w n h = let e : w - n ≡ suc (w - suc n) = omega arith in ap empty e

padded_more : (w : ℕ) (ms : Marks) (m : Mark) → length ms < w → padded w (ms ++ (m ∷ [])) ≡ map is_some ms ++ (is_some m ∷ empty (w - suc (length ms)))
padded_more w ms m h =
    let n : length (ms ++ (m ∷ [])) ≡ suc (length ms) = length-append ms (m ∷ []) ∙ omega arith in
    ap₂ (λ (l : List Bool) (k : ℕ). l ++ empty (w - k)) (map-append is_some ms (m ∷ [])) n
    ∙ append_assoc (map is_some ms) (is_some m ∷ []) (empty (w - suc (length ms)))

pub marked_passed : (s : NodeSet) (ms : Marks) → length ms < width → Marked s ms → Marked s (ms ++ (none ∷ []))
unfolding Marked
marked_passed s ms h e = e ∙ ap (λ (l : List Bool). map is_some ms ++ l) (next_room width (length ms) h) ∙ sym (padded_more width ms none h)

pub marked_holed : (s r : NodeSet) (ms : Marks) (i : ℕ) → i ≡ length ms → length ms < width → Marked s ms → nodes r ≡ join (nodes s) i
    → Marked r (ms ++ (some 0 ∷ []))
unfolding Marked join
marked_holed s r ms i n h e j =
    let k : i ≡ length (map is_some ms) = n ∙ sym (length-map ms is_some) in
    j ∙ ap (λ (l : List Bool). set l i true) (e ∙ ap (λ (l : List Bool). map is_some ms ++ l) (next_room width (length ms) h))
    ∙ ap (λ (x : ℕ). set (map is_some ms ++ (false ∷ empty (width - suc (length ms)))) x true) k
    ∙ set-append_seam (map is_some ms) false (empty (width - suc (length ms))) true
    ∙ sym (padded_more width ms (some 0) h)

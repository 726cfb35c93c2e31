-- What a mask says of the nodes of a face is what the marks say that it is the mask of.
use mathlib.Core.Path.{◌≡◌, refl, ap, ap₂, sym, ◌∙◌}
use mathlib.Core.Logic.{◌⊎◌, inl, inr}
use Prim.Native.Nat.{ℕ, zero, suc, ◌+◌, ◌^◌, ◌<◌, ◌≤◌}
use native.Mathlib.Nat.{one-mul}
use native.Mathlib.Omega.{arith}
use native.Mathlib.Decide.{dec_lt}
use mathlib.Core.Bool.{Bool, false}
use mathlib.Core.List.{List, [], ◌∷◌}
use mathlib.Core.Option.{none, some}
use lib.ListN.{length, get_or, drop, get_elem?, get_or-eq_default}
use lib.Pow.{pow_pos}
use lib.Seq.{drop-drop}
use Rattle.meaning.specs.Limits.{max_face_nodes}
use Rattle.meaning.specs.Basics.{is_some, holds}
use Rattle.meaning.specs.Term.{cons, size, Nameless, Terms}
use Rattle.meaning.specs.Choice.{Mark, Marks, mark, rest, punch_node, punch, set_size}
use Rattle.meaning.specs.PlaceValue.{mask_of}
use Rattle.meaning.proofs.Lists.{never}
use Rattle.meaning.proofs.PlaceLaws.{mask_small}
use Rattle.masks.specs.Mask.{marks, trues, first}
use Rattle.masks.specs.Sets.{width}
use Rattle.masks.proofs.Marks.{length_marks, marks_none, marks_low, marks_high}
use Rattle.demands.specs.LowestMark.{LowestMark}
use Rattle.demands.proofs.LowestNode.{Unmarked}
use Rattle.bodies.specs.Marked.{marked, lowest_marked}

-- The first node, and the others
marks_front : (w : ℕ) (m : Mark) (ms : Marks) → marks (suc w) (mask_of (suc w) (m ∷ ms)) ≡ is_some m ∷ marks w (mask_of w ms)
unfolding mask_of
marks_front w none ms = ap (marks (suc w)) (omega arith) ∙ marks_low w (mask_of w ms) (mask_small w ms)
marks_front w (some i) ms =
    ap (λ (n : ℕ). marks (suc w) (n + mask_of w ms)) (one-mul (2 ^ w)) ∙ marks_high w (mask_of w ms) (mask_small w ms)

marks_of_lem : (w : ℕ) (ms : Marks) (i : ℕ) → length ms ≤ w → get_or (marks w (mask_of w ms)) i false ≡ holds is_some (get_elem? ms i)
unfolding mask_of
marks_of_lem w [] i h = go (dec_lt i w)
  where
    go : Dec (i < w) → get_or (marks w 0) i false ≡ false
    go (yes l) = marks_none w i l
    go (no l) = get_or-eq_default (marks w 0) false {n = i} (omega (arith, length_marks w 0))
marks_of_lem zero (m ∷ ms) i h = absurd (omega arith)
marks_of_lem (suc w) (m ∷ ms) zero h = ap (λ (l : List Bool). get_or l 0 false) (marks_front w m ms)
marks_of_lem (suc w) (m ∷ ms) (suc i) h = ap (λ (l : List Bool). get_or l (suc i) false) (marks_front w m ms) ∙ marks_of_lem w ms i (omega arith)

lowest_of : (w : ℕ) (ms : Marks) (i j : ℕ) → length ms ≤ w → LowestMark i j ms → first (marks w (mask_of w ms)) ≡ j
unfolding first
lowest_of w [] i j h l = never (cc l.marked)
lowest_of zero (m ∷ ms) i j h l = absurd (omega arith)
lowest_of (suc w) (none ∷ ms) i zero h l = never (cc l.marked)
lowest_of (suc w) (some k ∷ ms) i zero h l = ap first (marks_front w (some k) ms)
lowest_of (suc w) (some k ∷ ms) i (suc j) h l = let q : some (some k) ≡ some none = l.before 0 (omega arith) in never (cc)
lowest_of (suc w) (none ∷ ms) i (suc j) h l =
    ap first (marks_front w none ms)
    ∙ ap suc (lowest_of w ms i j (omega arith) (record { marked = l.marked; before = λ k q. l.before (suc k) (omega arith) }))

-- A set has room for the nodes of a face
face_width : max_face_nodes ≡ width
unfolding max_face_nodes width
face_width = refl

-- THE ACCESSOR: a node is marked just where it becomes a hole
pub marked_means : (ms : Marks) (i : ℕ) → length ms ≤ max_face_nodes → marked (mask_of max_face_nodes ms) i ≡ holds is_some (get_elem? ms i)
marked_means ms i h = ap (λ (w : ℕ). get_or (marks w (mask_of max_face_nodes ms)) i false) (sym face_width) ∙ marks_of_lem max_face_nodes ms i h

-- The same by the marks that are left from a node on, as `punch` goes through them
mark_at : (ms : Marks) (i : ℕ) → holds is_some (get_elem? ms i) ≡ is_some (mark (drop i ms))
mark_at [] zero = refl
mark_at [] (suc i) = refl
mark_at (m ∷ ms) zero = refl
mark_at (m ∷ ms) (suc i) = mark_at ms i

pub marked_left : (ms : Marks) (i : ℕ) → length ms ≤ max_face_nodes → marked (mask_of max_face_nodes ms) i ≡ is_some (mark (drop i ms))
marked_left ms i h = marked_means ms i h ∙ mark_at ms i

rest_left : (ms : Marks) (i : ℕ) → rest (drop i ms) ≡ drop (suc i) ms
rest_left [] zero = refl
rest_left [] (suc i) = refl
rest_left (m ∷ ms) zero = refl
rest_left (m ∷ ms) (suc i) = rest_left ms i

pub punch_left : (ms : Marks) (i : ℕ) (l : Nameless) (c s : Terms) → punch (drop i ms) (cons l c s)
    ≡ punch_node (mark (drop i ms)) l (punch (drop (suc i) ms) c) (punch (drop (suc i + size c) ms) s)
punch_left ms i l c s =
    ap₂ (λ (a b : Terms). punch_node (mark (drop i ms)) l a b)
    (ap (λ (m : Marks). punch m c) (rest_left ms i))
    (ap (λ (m : Marks). punch m s) (ap (drop (size c)) (rest_left ms i) ∙ drop-drop (size c) (suc i) ms))

-- THE LOWEST NODE
pub lowest_means : (ms : Marks) (i j : ℕ) → length ms ≤ max_face_nodes → LowestMark i j ms → lowest_marked (mask_of max_face_nodes ms) ≡ j
lowest_means ms i j h l = ap (λ (w : ℕ). first (marks w (mask_of max_face_nodes ms))) (sym face_width) ∙ lowest_of max_face_nodes ms i j h l

-- HOW MANY ARE MARKED
trues_none : (w : ℕ) → trues (marks w 0) ≡ 0
unfolding trues marks
trues_none zero = refl
trues_none (suc w) = ap trues (marks_low w 0 (pow_pos w)) ∙ trues_none w

holes_of_lem : (w : ℕ) (ms : Marks) → length ms ≤ w → trues (marks w (mask_of w ms)) ≡ set_size ms
unfolding mask_of trues
holes_of_lem w [] h = trues_none w
holes_of_lem zero (m ∷ ms) h = absurd (omega arith)
holes_of_lem (suc w) (none ∷ ms) h = ap trues (marks_front w none ms) ∙ holes_of_lem w ms (omega arith)
holes_of_lem (suc w) (some i ∷ ms) h = ap trues (marks_front w (some i) ms) ∙ ap suc (holes_of_lem w ms (omega arith))

pub holes_means : (ms : Marks) → length ms ≤ max_face_nodes → trues (marks width (mask_of max_face_nodes ms)) ≡ set_size ms
holes_means ms h = ap (λ (w : ℕ). trues (marks w (mask_of max_face_nodes ms))) (sym face_width) ∙ holes_of_lem max_face_nodes ms h

-- Some node is the lowest, or none is marked
pub lowest_mark : (ms : Marks) → ((i j : ℕ) × (j < length ms) × LowestMark i j ms) ⊎ Unmarked (length ms) ms
lowest_mark [] = inr (λ k h. absurd (omega arith))
lowest_mark (some i ∷ ms) = inl (i, 0, omega arith, record { marked = refl; before = λ k h. absurd (omega arith) })
lowest_mark (none ∷ ms) = go (lowest_mark ms)
  where
    before : (n : ℕ) → Unmarked n ms → Unmarked (suc n) (none ∷ ms)
    before n h zero l = refl
    before n h (suc k) l = h k (omega arith)

    go : ((i j : ℕ) × (j < length ms) × LowestMark i j ms) ⊎ Unmarked (length ms) ms
        → ((i j : ℕ) × (j < suc (length ms)) × LowestMark i j (none ∷ ms)) ⊎ Unmarked (suc (length ms)) (none ∷ ms)
    go (inl (i, j, small, l)) = inl (i, suc j, omega arith, record { marked = l.marked; before = before j l.before })
    go (inr h) = inr (before (length ms) h)

-- With no node marked the mask is 0
pub empty_mask : (w : ℕ) (ms : Marks) → Unmarked (length ms) ms → mask_of w ms ≡ 0
unfolding mask_of
empty_mask w [] u = refl
empty_mask zero (m ∷ ms) u = refl
empty_mask (suc w) (some i ∷ ms) u = let q : some (some i) ≡ some none = u 0 (omega arith) in never (cc)
empty_mask (suc w) (none ∷ ms) u = let e = empty_mask w ms (λ k h. u (suc k) (omega arith)) in omega arith

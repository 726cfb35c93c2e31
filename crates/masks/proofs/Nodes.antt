-- Single nodes of a mask: one is asked for, one is added, and a submask node by node.
use mathlib.Core.Path.{◌≡◌, refl, sym, ap, ap₂, ◌∙◌}
use mathlib.Core.Bool.{Bool, true, false, ◌&&◌, ◌||◌, or-true, or-false, false≢true}
use mathlib.Core.List.{List, [], ◌∷◌}
use Prim.Native.Nat.{ℕ, zero, suc, ◌+◌, ◌-◌, ◌*◌, ◌/◌, ◌%◌, ◌^◌, ◌≤◌, ◌<◌, min, max, zero-le, suc-le-suc}
use native.Mathlib.Nat.{one-mul, mod-eq_of_lt}
use native.Mathlib.Omega.{arith}
use lib.ListN.{length, get_or, set, length-set, length-replicate, get_or-replicate}
use lib.Seq.{ext_get_or, set-get_or}
use lib.Pow.{pow-lt}
use lib.Bits.{bit_and, bit_or, and_step, or_step, and_shr, or_shr, and_le_l}
use Rattle.masks.specs.Mask.{odd, marks, value, bit, first, In, empty, join, leave, only, Sub}
use Rattle.masks.proofs.Marks.{length_marks, odd_no, odd_yes, marks_at, marks_value, marks_injective, value_marks}

-- ---- the lowest node

pub in_lt : (l : List Bool) (k : ℕ) → In l k → k < length l
in_lt [] k h = absurd (false≢true h)
in_lt (b ∷ l) zero h = omega arith
in_lt (b ∷ l) (suc k) h = omega (arith, in_lt l k h)

pub in_width : (w m k : ℕ) → In (marks w m) k → k < w
in_width w m k h = omega (arith, in_lt (marks w m) k h, length_marks w m)

pub first_min : (l : List Bool) (k : ℕ) → In l k → first l ≤ k
unfolding first
first_min [] k h = absurd (false≢true h)
first_min (true ∷ l) k h = zero-le
first_min (false ∷ l) zero h = absurd (false≢true h)
first_min (false ∷ l) (suc k) h = suc-le-suc (first_min l k h)

pub first_in_lem : (l : List Bool) → first l < length l → In l (first l)
unfolding first
first_in_lem [] h = absurd (omega arith)
first_in_lem (true ∷ l) h = refl
first_in_lem (false ∷ l) h = first_in_lem l (omega arith)

-- ---- & and | node by node

pub odd_and : (x y : ℕ) → odd (bit_and x y) ≡ odd x && odd y
odd_and x y = go (x % 2) (y % 2) refl refl (and_step x y)
  where
    go : (a b : ℕ) → x % 2 ≡ a → y % 2 ≡ b → bit_and x y ≡ bit_and (x / 2) (y / 2) * 2 + min (x % 2) (y % 2)
        → odd (bit_and x y) ≡ odd x && odd y
    go zero b ea eb e = odd_no (bit_and x y) (omega arith) ∙ sym (ap (λ (t : Bool). t && odd y) (odd_no x ea))
    go (suc a) zero ea eb e =
        odd_no (bit_and x y) (omega arith) ∙ sym (ap₂ (λ (t u : Bool). t && u) (odd_yes x (omega arith)) (odd_no y eb))
    go (suc a) (suc b) ea eb e =
        odd_yes (bit_and x y) (omega arith) ∙ sym (ap₂ (λ (t u : Bool). t && u) (odd_yes x (omega arith)) (odd_yes y (omega arith)))

pub odd_or : (x y : ℕ) → odd (bit_or x y) ≡ odd x || odd y
odd_or x y = go (x % 2) (y % 2) refl refl (or_step x y)
  where
    go : (a b : ℕ) → x % 2 ≡ a → y % 2 ≡ b → bit_or x y ≡ bit_or (x / 2) (y / 2) * 2 + max (x % 2) (y % 2)
        → odd (bit_or x y) ≡ odd x || odd y
    go (suc a) b ea eb e = odd_yes (bit_or x y) (omega arith) ∙ sym (ap (λ (t : Bool). t || odd y) (odd_yes x (omega arith)))
    go zero zero ea eb e = odd_no (bit_or x y) (omega arith) ∙ sym (ap₂ (λ (t u : Bool). t || u) (odd_no x ea) (odd_no y eb))
    go zero (suc b) ea eb e =
        odd_yes (bit_or x y) (omega arith) ∙ sym (ap₂ (λ (t u : Bool). t || u) (odd_no x ea) (odd_yes y (omega arith)))

marks_and_at : (w a b k : ℕ) → k < w → get_or (marks w (bit_and a b)) k false ≡ get_or (marks w a) k false && get_or (marks w b) k false
marks_and_at w a b k h =
    marks_at w (bit_and a b) k h ∙ ap odd (and_shr a b (w - suc k)) ∙ odd_and (a / bit w k) (b / bit w k)
    ∙ sym (ap₂ (λ (t u : Bool). t && u) (marks_at w a k h) (marks_at w b k h))

marks_or_at : (w a b k : ℕ) → k < w → get_or (marks w (bit_or a b)) k false ≡ get_or (marks w a) k false || get_or (marks w b) k false
marks_or_at w a b k h =
    marks_at w (bit_or a b) k h ∙ ap odd (or_shr a b (w - suc k)) ∙ odd_or (a / bit w k) (b / bit w k)
    ∙ sym (ap₂ (λ (t u : Bool). t || u) (marks_at w a k h) (marks_at w b k h))

-- ---- a node alone, and a node added

length_only : (w k : ℕ) → length (only w k) ≡ w
length_only w k = length-set (empty w) k true ∙ length-replicate w false

marks_only : (w k : ℕ) → marks w (value (only w k)) ≡ only w k
marks_only w k = ap (λ (n : ℕ). marks n (value (only w k))) (sym (length_only w k)) ∙ marks_value (only w k)

pub value_empty : (w : ℕ) → value (empty w) ≡ 0
unfolding value
value_empty zero = refl
value_empty (suc w) = value_empty w

-- Node k's mask is its bit; past the last node it is empty.
pub value_only : (w k : ℕ) → k < w → value (only w k) ≡ bit w k
unfolding value
value_only zero k h = absurd (omega arith)
value_only (suc w) zero h =
    let n : length (empty w) ≡ suc w - 1 = length-replicate w false ∙ omega arith in
    rw n (omega (arith, value_empty w))
value_only (suc w) (suc k) h =
    let e : w - suc k ≡ suc w - suc (suc k) = omega arith in
    value_only w k (omega arith) ∙ ap (λ (x : ℕ). 2 ^ x) e

set_or : (l : List Bool) (k j : ℕ) → j < length l → get_or l j false || get_or (only (length l) k) j false ≡ get_or (set l k true) j false
set_or [] k j h = absurd (omega arith)
set_or (b ∷ l) zero zero h = or-true b
set_or (b ∷ l) zero (suc j) h =
    ap (λ (t : Bool). get_or l j false || t) (get_or-replicate (length l) j false false (omega arith)) ∙ or-false (get_or l j false)
set_or (b ∷ l) (suc k) zero h = or-false b
set_or (b ∷ l) (suc k) (suc j) h = set_or l k j (omega arith)

-- Node k is added by `|`.
pub marks_join : (w m k : ℕ) → marks w (bit_or m (value (only w k))) ≡ join (marks w m) k
unfolding join
marks_join w m k =
    let l : List Bool = marks w m in
    let n : length l ≡ w = length_marks w m in
    let r : List Bool = marks w (bit_or m (value (only w k))) in
    let nr : length r ≡ w = length_marks w (bit_or m (value (only w k))) in
    ext_get_or false r (set l k true) (nr ∙ sym (length-set l k true ∙ n))
    (λ j h.
    marks_or_at w m (value (only w k)) j (omega arith)
    ∙ ap (λ (x : List Bool). get_or l j false || get_or x j false) (marks_only w k ∙ ap (λ (x : ℕ). only x k) (sym n))
    ∙ set_or l k j (omega arith))

-- A node of a mask is its bit: it is left out by `-`.
value_leave : (l : List Bool) (k : ℕ) → In l k → value l ≡ value (leave l k) + bit (length l) k
unfolding value leave
value_leave [] k h = absurd (false≢true h)
value_leave (true ∷ l) zero h =
    let e : length l ≡ suc (length l) - 1 = omega arith in
    rw (← e) (omega arith)
value_leave (false ∷ l) zero h = absurd (false≢true h)
value_leave (true ∷ l) (suc k) h =
    let e : length l - suc k ≡ suc (length l) - suc (suc k) = omega arith in
    let n : 2 ^ length (set l k false) ≡ 2 ^ length l = ap (λ (x : ℕ). 2 ^ x) (length-set l k false) in
    rw (← e) (omega (arith, n, value_leave l k h))
value_leave (false ∷ l) (suc k) h =
    let e : length l - suc k ≡ suc (length l) - suc (suc k) = omega arith in
    rw (← e) (value_leave l k h)

module _ (w m k : ℕ) (h : m < 2 ^ w) (i : In (marks w m) k) where
  bit_left : m ≡ value (leave (marks w m) k) + bit w k
  bit_left =
      sym (value_marks w m h) ∙ value_leave (marks w m) k i
      ∙ ap (λ (n : ℕ). value (leave (marks w m) k) + bit n k) (length_marks w m)

  pub bit_le : value (only w k) ≤ m
  bit_le = omega (arith, bit_left, value_only w k (in_width w m k i))

  pub marks_leave : marks w (m - value (only w k)) ≡ leave (marks w m) k
  unfolding leave
  marks_leave =
      let l : List Bool = set (marks w m) k false in
      let e : m - value (only w k) ≡ value l = omega (arith, bit_left, value_only w k (in_width w m k i)) in
      let n : w ≡ length l = sym (length-set (marks w m) k false ∙ length_marks w m) in
      ap (marks w) e ∙ ap (λ (x : ℕ). marks x (value l)) n ∙ marks_value l

-- A node that is not there is left out by doing nothing.
pub leave_none : (l : List Bool) (k : ℕ) → get_or l k false ≡ false → l ≡ leave l k
unfolding leave
leave_none l k e = sym (ap (set l k) (sym e) ∙ set-get_or l k false)

-- ---- a submask node by node

pub nodes_sub : (w m d : ℕ) → m < 2 ^ w → ((k : ℕ) → In (marks w m) k → In (marks w d) k) → Sub m d
unfolding Sub
nodes_sub w m d hm h =
    marks_injective w (bit_and m d) m (omega (arith, and_le_l m d)) hm
    (ext_get_or false (marks w (bit_and m d)) (marks w m) (length_marks w (bit_and m d) ∙ sym (length_marks w m))
    (λ k l.
    marks_and_at w m d k (omega (arith, length_marks w (bit_and m d)))
    ∙ and_under (get_or (marks w m) k false) (get_or (marks w d) k false) (h k)))
  where
    and_under : (t u : Bool) → (t ≡ true → u ≡ true) → t && u ≡ t
    and_under true u h = h refl
    and_under false u h = refl

-- ---- as the code writes it: node k is w - 1 - k places from the lowest bit

places : (w k : ℕ) → w - 1 - k ≡ w - suc k
places w k = omega arith

-- Node k is asked for by a shift down.
pub shift_test : (w m k : ℕ) → k < w → odd (m / 2 ^ (w - 1 - k)) ≡ get_or (marks w m) k false
shift_test w m k h = ap (λ (x : ℕ). odd (m / 2 ^ x)) (places w k) ∙ sym (marks_at w m k h)

-- Node k's mask is a 1 that is shifted up, in w bits.
pub shift_only : (w k : ℕ) → k < w → (1 * 2 ^ (w - 1 - k)) % 2 ^ w ≡ value (only w k)
shift_only w k h =
    ap (λ (x : ℕ). x % 2 ^ w) (one-mul (2 ^ (w - 1 - k)) ∙ ap (λ (x : ℕ). 2 ^ x) (places w k))
    ∙ mod-eq_of_lt (pow-lt {i = w - suc k} {j = w} (omega arith)) ∙ sym (value_only w k h)

-- Masks and their marks: `marks` and `value` are inverse, and the counts that the code makes of a mask's digits are what its
-- marks say. The digits of a number of w + 1 digits are taken from the highest (`Top`).
use mathlib.Core.Path.{◌≡◌, refl, sym, ap, ap₂, ◌∙◌, subst}
use mathlib.Core.Logic.{◌⊎◌, inl, inr}
use mathlib.Core.Bool.{Bool, true, false}
use mathlib.Core.List.{List, [], ◌∷◌}
use Prim.Native.Nat.{ℕ, zero, suc, ◌+◌, ◌-◌, ◌*◌, ◌/◌, ◌%◌, ◌^◌, ◌≤◌, ◌<◌}
use native.Mathlib.Nat.{pow-suc, mul_assoc, mul_comm, one-mul, zero-add, add_comm, add-mul-div_right, mul-add-mod_self_right, div-eq_of_lt}
use native.Mathlib.Nat.{zero-div}
use native.Mathlib.Numerals.{add-one}
use native.Mathlib.Omega.{arith}
use lib.Dec.{eqb}
use lib.ListN.{length, get_or}
use lib.Pow.{pow_pos, pow-add, high}
use lib.Count.{ones, ones_cat, count_leading_zeros, leading_length, leading_unique}
use borrow.Author.Tests.{eq-eqb, ne_eqb}
use Rattle.masks.specs.Mask.{odd, marks, value, trues, first}
use Rattle.masks.proofs.Cases.{lt_or_ge}

pub length_marks : (w m : ℕ) → length (marks w m) ≡ w
unfolding marks
length_marks zero m = refl
length_marks (suc w) m = ap suc (length_marks w m)

pub odd_no : (n : ℕ) → n % 2 ≡ 0 → odd n ≡ false
odd_no n e = ne_eqb (n % 2) 1 (λ h. omega arith)

pub odd_yes : (n : ℕ) → n % 2 ≡ 1 → odd n ≡ true
odd_yes n e = eq-eqb (n % 2) 1 e

-- ---- the highest digit, and the others

-- digits above those that are looked at do not count
marks_above : (j d a r : ℕ) → marks j (a * 2 ^ (d + j) + r) ≡ marks j r
unfolding marks
marks_above zero d a r = refl
marks_above (suc j) d a r =
    ap₂ {C = List Bool} (λ x y. x ∷ y)
    (ap (λ (x : ℕ). eqb x 1) (same_digit j d a r))
    (ap (λ (n : ℕ). marks j (a * 2 ^ n + r)) up ∙ marks_above j (suc d) a r)
  where
    up : d + suc j ≡ suc d + j
    up = omega arith

    same_digit : (j d a r : ℕ) → ((a * 2 ^ (d + suc j) + r) / 2 ^ j) % 2 ≡ (r / 2 ^ j) % 2
    same_digit j d a r =
        let e : a * 2 ^ (d + suc j) ≡ (a * 2 ^ d * 2) * 2 ^ j =
        ap (λ (x : ℕ). a * x) (pow-add 2 d (suc j) ∙ ap (λ (x : ℕ). 2 ^ d * x) (pow-suc 2 j ∙ mul_comm (2 ^ j) 2))
        ∙ sym (mul_assoc a (2 ^ d) (2 * 2 ^ j)) ∙ sym (mul_assoc (a * 2 ^ d) 2 (2 ^ j)) in
        let f : (a * 2 ^ (d + suc j) + r) / 2 ^ j ≡ r / 2 ^ j + a * 2 ^ d * 2 =
        ap (λ (x : ℕ). x / 2 ^ j) (add_comm (a * 2 ^ (d + suc j)) r ∙ ap (λ (x : ℕ). r + x) e)
        ∙ add-mul-div_right r (a * 2 ^ d * 2) (pow_pos j) in
        let g : (r / 2 ^ j + a * 2 ^ d * 2) % 2 ≡ (r / 2 ^ j) % 2 =
        ap (λ (x : ℕ). x % 2) (add_comm (r / 2 ^ j) (a * 2 ^ d * 2)) ∙ mul-add-mod_self_right (a * 2 ^ d) 2 (r / 2 ^ j) in
        ap (λ (x : ℕ). x % 2) f ∙ g

pub marks_low : (w m : ℕ) → m < 2 ^ w → marks (suc w) m ≡ false ∷ marks w m
unfolding marks
marks_low w m h = ap {B = List Bool} (λ x. x ∷ marks w m) (odd_no (m / 2 ^ w) (ap (λ (x : ℕ). x % 2) (div-eq_of_lt h)))

pub marks_high : (w r : ℕ) → r < 2 ^ w → marks (suc w) (2 ^ w + r) ≡ true ∷ marks w r
unfolding marks
marks_high w r h =
    let e : 2 ^ w ≡ 1 * 2 ^ w = sym (one-mul (2 ^ w)) in
    ap₂ {C = List Bool} (λ x y. x ∷ y)
    (odd_yes ((2 ^ w + r) / 2 ^ w) (ap (λ (x : ℕ). (x + r) / 2 ^ w % 2) e ∙ ap (λ (x : ℕ). x % 2) (high 1 w h)))
    (ap (λ (x : ℕ). marks w (x + r)) (e ∙ ap (λ (n : ℕ). 1 * 2 ^ n) (sym (zero-add w))) ∙ marks_above w 0 1 r)

-- a number of w + 1 digits has its highest digit set, or does not
data Top (w : ℕ) : ℕ → Type 0 where
  low : {m : ℕ} → m < 2 ^ w → Top w m
  top : {r : ℕ} → r < 2 ^ w → Top w (2 ^ w + r)

top_of : (w m : ℕ) → m < 2 ^ suc w → Top w m
top_of w m h = pick (lt_or_ge m (2 ^ w))
  where
    pick : (m < 2 ^ w) ⊎ (2 ^ w ≤ m) → Top w m
    pick (inl l) = low l
    pick (inr g) =
        let e : 2 ^ suc w ≡ 2 ^ w * 2 = pow-suc 2 w in
        let d : 2 ^ w + (m - 2 ^ w) ≡ m = omega arith in
        subst (Top w) d (top (omega arith))

-- ---- the bit test

-- Mark k is the digit of weight 2 ^ (w - 1 - k).
pub marks_at : (w m k : ℕ) → k < w → get_or (marks w m) k false ≡ odd (m / 2 ^ (w - suc k))
unfolding marks
marks_at zero m k h = absurd (omega arith)
marks_at (suc w) m zero h =
    let e : w ≡ suc w - 1 = omega arith in
    ap (λ (x : ℕ). odd (m / 2 ^ x)) e
marks_at (suc w) m (suc k) h =
    let e : w - suc k ≡ suc w - suc (suc k) = omega arith in
    marks_at w m k (omega arith) ∙ ap (λ (x : ℕ). odd (m / 2 ^ x)) e

-- no mark of the empty mask is set
pub marks_none : (w k : ℕ) → k < w → get_or (marks w 0) k false ≡ false
marks_none w k h = marks_at w 0 k h ∙ ap odd (zero-div (2 ^ (w - suc k)))

-- ---- marks and value are inverse

pub value_lt : (l : List Bool) → value l < 2 ^ length l
unfolding value
value_lt [] = omega arith
value_lt (true ∷ l) = omega (arith, value_lt l, pow-suc 2 (length l))
value_lt (false ∷ l) = omega (arith, value_lt l, pow-suc 2 (length l))

pub marks_value : (l : List Bool) → marks (length l) (value l) ≡ l
unfolding value marks
marks_value [] = refl
marks_value (true ∷ l) = marks_high (length l) (value l) (value_lt l) ∙ ap {B = List Bool} (λ r. true ∷ r) (marks_value l)
marks_value (false ∷ l) = marks_low (length l) (value l) (value_lt l) ∙ ap {B = List Bool} (λ r. false ∷ r) (marks_value l)

pub value_marks : (w m : ℕ) → m < 2 ^ w → value (marks w m) ≡ m
unfolding value marks
value_marks zero m h = omega arith
value_marks (suc w) m h = go (λ n l. value_marks w n l) (top_of w m h)
  where
    go : ((n : ℕ) → n < 2 ^ w → value (marks w n) ≡ n) → {m : ℕ} → Top w m → value (marks (suc w) m) ≡ m
    go ih (low {m = m} l) = ap value (marks_low w m l) ∙ ih m l
    go ih (top {r = r} l) = ap value (marks_high w r l) ∙ ap₂ (λ (x y : ℕ). 2 ^ x + y) (length_marks w r) (ih r l)

pub marks_injective : (w a b : ℕ) → a < 2 ^ w → b < 2 ^ w → marks w a ≡ marks w b → a ≡ b
marks_injective w a b ha hb e = sym (value_marks w a ha) ∙ ap value e ∙ value_marks w b hb

-- ---- the counts

-- The count of ones is the number of marks that are set.
pub ones_marks : (w m : ℕ) → m < 2 ^ w → ones m ≡ trues (marks w m)
unfolding marks trues ones
ones_marks zero m h = let e : m ≡ 0 = omega arith in ap ones e
ones_marks (suc w) m h = go (λ n l. ones_marks w n l) (top_of w m h)
  where
    go : ((n : ℕ) → n < 2 ^ w → ones n ≡ trues (marks w n)) → {m : ℕ} → Top w m → ones m ≡ trues (marks (suc w) m)
    go ih (low {m = m} l) = ih m l ∙ ap trues (sym (marks_low w m l))
    go ih (top {r = r} l) =
        ap (λ (x : ℕ). ones (x + r)) (sym (one-mul (2 ^ w))) ∙ ones_cat w 1 r l ∙ ap (λ (x : ℕ). 1 + x) (ih r l)
        ∙ add_comm 1 (trues (marks w r)) ∙ add-one (trues (marks w r)) ∙ ap trues (sym (marks_high w r l))

-- The count of leading zeros is the place of the first mark that is set.
pub leading_marks : (w m : ℕ) → m < 2 ^ w → count_leading_zeros w m ≡ first (marks w m)
unfolding marks first count_leading_zeros
leading_marks zero m h = refl
leading_marks (suc w) m h = go (λ n l. leading_marks w n l) (top_of w m h)
  where
    go : ((n : ℕ) → n < 2 ^ w → count_leading_zeros w n ≡ first (marks w n)) → {m : ℕ} → Top w m
        → count_leading_zeros (suc w) m ≡ first (marks (suc w) m)
    go ih (low {m = m} l) =
        let t = leading_length w m l in
        sym (leading_unique (suc w) m (suc (count_leading_zeros w m)) t.0 (omega (arith, t.1)) t.2 t.3)
        ∙ ap suc (ih m l) ∙ ap first (sym (marks_low w m l))
    go ih (top {r = r} l) =
        let e : 2 ^ suc w ≡ 2 ^ w * 2 = pow-suc 2 w in
        sym (leading_unique (suc w) (2 ^ w + r) 0 (suc w) (omega arith) (omega arith) (omega arith))
        ∙ ap first (sym (marks_high w r l))

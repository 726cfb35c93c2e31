-- Sets as numbers: one bit of `|`, `&` and a shifted 1; the count of ones; the empty set. At any width.
use mathlib.Core.Path.{◌≡◌, refl, ap, ap₂, sym, ◌∙◌}
use mathlib.Core.Bool.{Bool, true, false, ◌&&◌, ◌||◌, not}
use mathlib.Core.List.Memᴰ
use mathlib.Core.List.{List, [], ◌∷◌}
use Prim.Native.Nat.{ℕ, zero, suc, ◌+◌, ◌-◌, ◌/◌, ◌%◌, ◌^◌, ◌<◌}
use native.Mathlib.Nat.{pow-suc, one-mul, div-eq_of_lt, zero-div, mod-lt}
use native.Mathlib.Omega.{arith}
use native.Mathlib.Decide.{dec_lt}
use lib.ListN.{length}
use lib.Dec.{eqb}
use lib.Pow.{pow-lt, pow_pos, pow-add, shl-shr, shr-shr, field, mod-mod-pow}
use lib.Bits.{bit_and, bit_or, and_shr, or_shr}
use lib.Count.{ones, ones_step}
use borrow.Author.Tests.{eq-eqb, ne_eqb, eqb-true, eqb-false}
use Rattle.meaning.specs.Basics.{choose, keep, count_from, up_to, every, ◌∈◌}
use Rattle.masks.specs.Mask.{odd}
use Rattle.masks.proofs.Marks.{odd_no}
use Rattle.masks.proofs.Nodes.{odd_and, odd_or}
use Rattle.meaning.proofs.Lists.{by_test, choose_true, choose_false, up_to_mem}
use Rattle.metavariables.specs.Survey.{has, meets, count}

-- Any bit, by the laws of the lowest one
pub has_or : (s t m : ℕ) → has (bit_or s t) m ≡ has s m || has t m
has_or s t m = ap odd (or_shr s t m) ∙ odd_or (s / 2 ^ m) (t / 2 ^ m)

pub has_and : (s t m : ℕ) → has (bit_and s t) m ≡ has s m && has t m
has_and s t m = ap odd (and_shr s t m) ∙ odd_and (s / 2 ^ m) (t / 2 ^ m)

pub has_none : (m : ℕ) → has 0 m ≡ false
has_none m = ap odd (zero-div (2 ^ m))

pub has_one : (k m : ℕ) → has (2 ^ m) k ≡ eqb k m
has_one k m = by_test (eqb k m) same other
  where
    same : eqb k m ≡ true → has (2 ^ m) k ≡ eqb k m
    same e =
        let z : k ≡ m = eqb-true k m e in
        ap (λ (i : ℕ). odd (2 ^ m / 2 ^ i)) z ∙ ap odd (ap (λ (n : ℕ). n / 2 ^ m) (sym (one-mul (2 ^ m))) ∙ shl-shr 1 m) ∙ sym e

    above : k < m → odd (2 ^ m / 2 ^ k) ≡ false
    above h =
        let d : m ≡ suc (m - suc k) + k = omega arith in
        let a : 2 ^ m / 2 ^ k ≡ 2 ^ suc (m - suc k) = ap (λ (i : ℕ). 2 ^ i / 2 ^ k) d
        ∙ ap (λ (n : ℕ). n / 2 ^ k) (pow-add 2 (suc (m - suc k)) k) ∙ shl-shr (2 ^ suc (m - suc k)) k in
        odd_no (2 ^ m / 2 ^ k) (omega (arith, a, pow-suc 2 (m - suc k)))

    below : m < k → odd (2 ^ m / 2 ^ k) ≡ false
    below h = ap odd (div-eq_of_lt (pow-lt h))

    side : Dec (k < m) → (k ≡ m → ⊥) → odd (2 ^ m / 2 ^ k) ≡ false
    side (yes h) n = above h
    side (no h) n = below (omega arith)

    other : eqb k m ≡ false → has (2 ^ m) k ≡ eqb k m
    other e = side (dec_lt k m) (eqb-false k m e) ∙ sym e

-- The bits above the lowest are those of the half
has_half : (s m : ℕ) → has s (suc m) ≡ has (s / 2) m
has_half s m =
    let e : 1 + m ≡ suc m = omega arith in
    ap (λ (i : ℕ). odd (s / 2 ^ i)) (sym e) ∙ ap odd (sym (shr-shr s 1 m))

has_lowest : (s : ℕ) → has s 0 ≡ odd s
has_lowest s = let e : s / 1 ≡ s = omega arith in ap odd e

-- Tests of the numbers from k + 1 on are tests of those from k on
every_shift : (p q : ℕ → Bool) (k n : ℕ) → ((m : ℕ) → p (suc m) ≡ q m) → every p (count_from (suc k) n) ≡ every q (count_from k n)
every_shift p q k zero h = refl
every_shift p q k (suc n) h = ap₂ ◌&&◌ (h k) (every_shift p q (suc k) n h)

same_long : (b : Bool) (x y : ℕ) (xs ys : List ℕ) → length xs ≡ length ys → length (choose b (x ∷ xs) xs) ≡ length (choose b (y ∷ ys) ys)
same_long true x y xs ys e = ap suc e
same_long false x y xs ys e = e

keep_shift : (p q : ℕ → Bool) (k n : ℕ) → ((m : ℕ) → p (suc m) ≡ q m)
    → length (keep p (count_from (suc k) n)) ≡ length (keep q (count_from k n))
keep_shift p q k zero h = refl
keep_shift p q k (suc n) h =
    let xs : List ℕ = keep p (count_from (suc (suc k)) n) in
    ap (λ (b : Bool). length (choose b (suc k ∷ xs) xs)) (h k)
    ∙ same_long (q k) (suc k) k xs (keep q (count_from (suc k) n)) (keep_shift p q (suc k) n h)

-- A number of w bits is 0 where none is set
no_bit : (w s : ℕ) → s < 2 ^ w → every (λ m. not (has s m)) (up_to w) ≡ eqb s 0
no_bit zero s h = sym (eq-eqb s 0 (omega arith))
no_bit (suc w) s h =
    ap₂ (λ (a b : Bool). not a && b) (has_lowest s)
    (every_shift (λ m. not (has s m)) (λ m. not (has (s / 2) m)) 0 w (λ m. ap not (has_half s m))
    ∙ no_bit w (s / 2) (omega (arith, pow-suc 2 w)))
    ∙ by_test (odd s) set clear
  where
    set : odd s ≡ true → (not (odd s) && eqb (s / 2) 0) ≡ eqb s 0
    set e = let z : s % 2 ≡ 1 = eqb-true (s % 2) 1 e in ap (λ (b : Bool). not b && eqb (s / 2) 0) e ∙ sym (ne_eqb s 0 (λ q. omega arith))

    clear : odd s ≡ false → (not (odd s) && eqb (s / 2) 0) ≡ eqb s 0
    clear e = ap (λ (b : Bool). not b && eqb (s / 2) 0) e ∙ by_test (eqb s 0) zeros some
      where
        zeros : eqb s 0 ≡ true → eqb (s / 2) 0 ≡ eqb s 0
        zeros q = let z : s ≡ 0 = eqb-true s 0 q in eq-eqb (s / 2) 0 (omega arith) ∙ sym q

        some : eqb s 0 ≡ false → eqb (s / 2) 0 ≡ eqb s 0
        some q = let n = eqb-false s 0 q in let z = eqb-false (s % 2) 1 e in ne_eqb (s / 2) 0 (λ y. omega arith) ∙ sym q

-- Tests that agree on a list's elements
pub every_same : (p q : ℕ → Bool) (xs : List ℕ) → ((m : ℕ) → m ∈ xs → p m ≡ q m) → every p xs ≡ every q xs
every_same p q [] h = refl
every_same p q (x ∷ xs) h = ap₂ ◌&&◌ (h x (Memᴰ.head refl)) (every_same p q xs (λ m i. h m (Memᴰ.tail i)))

pub keep_same : (p q : ℕ → Bool) (xs : List ℕ) → ((m : ℕ) → m ∈ xs → p m ≡ q m) → keep p xs ≡ keep q xs
keep_same p q [] h = refl
keep_same p q (x ∷ xs) h =
    ap₂ (λ (b : Bool) (l : List ℕ). choose b (x ∷ l) l) (h x (Memᴰ.head refl)) (keep_same p q xs (λ m i. h m (Memᴰ.tail i)))

-- Two sets meet where `&` is not 0
pub meets_and : (w s t : ℕ) → bit_and s t < 2 ^ w → not (eqb (bit_and s t) 0) ≡ meets w s t
unfolding meets
meets_and w s t h =
    ap not
    (sym (no_bit w (bit_and s t) h)
    ∙ every_same (λ m. not (has (bit_and s t) m)) (λ m. not (has s m && has t m)) (up_to w) (λ m i. ap not (has_and s t m)))

-- The count of ones
pub ones_count : (w s : ℕ) → s < 2 ^ w → ones s ≡ count w s
unfolding count ones
ones_count zero s h = let e : s ≡ 0 = omega arith in ap ones e
ones_count (suc w) s h =
    ones_step s ∙ ap (λ (n : ℕ). s % 2 + n) (ones_count w (s / 2) (omega (arith, pow-suc 2 w))) ∙ by_test (odd s) set clear
  where
    rest : length (keep (has s) (count_from 1 w)) ≡ length (keep (has (s / 2)) (up_to w))
    rest = keep_shift (has s) (has (s / 2)) 0 w (has_half s)

    set : odd s ≡ true → s % 2 + length (keep (has (s / 2)) (up_to w)) ≡ length (keep (has s) (up_to (suc w)))
    set e =
        let z : s % 2 ≡ 1 = eqb-true (s % 2) 1 e in
        let y : length (keep (has s) (up_to (suc w))) ≡ suc (length (keep (has s) (count_from 1 w))) =
        ap length (choose_true (0 ∷ keep (has s) (count_from 1 w)) (keep (has s) (count_from 1 w)) (has_lowest s ∙ e)) in
        omega (arith, rest)

    clear : odd s ≡ false → s % 2 + length (keep (has (s / 2)) (up_to w)) ≡ length (keep (has s) (up_to (suc w)))
    clear e =
        let z = eqb-false (s % 2) 1 e in
        let y : length (keep (has s) (up_to (suc w))) ≡ length (keep (has s) (count_from 1 w)) =
        ap length (choose_false (0 ∷ keep (has s) (count_from 1 w)) (keep (has s) (count_from 1 w)) (has_lowest s ∙ e)) in
        omega (arith, rest)

-- The numbers below w alone
has_low : (s w m : ℕ) → m < w → has (s % 2 ^ w) m ≡ has s m
has_low s w m h =
    let j : ℕ = w - suc m in
    let d : w ≡ suc j + m = omega arith in
    let e : suc j ≡ j + 1 = omega arith in
    ap odd (ap (λ (i : ℕ). s % 2 ^ i / 2 ^ m) d ∙ field s (suc j) m)
    ∙ ap (λ (n : ℕ). eqb n 1) (ap (λ (i : ℕ). s / 2 ^ m % 2 ^ i % 2) e ∙ mod-mod-pow (s / 2 ^ m) j 1)

pub low_count : (w s : ℕ) → ones (s % 2 ^ w) ≡ count w s
unfolding count
low_count w s =
    ones_count w (s % 2 ^ w) (mod-lt s (pow_pos w))
    ∙ ap length (keep_same (has (s % 2 ^ w)) (has s) (up_to w) (λ m i. has_low s w m (up_to_mem w m i)))

-- Numbers in decimal: the digits before the last, and the last.
use mathlib.Core.Path.{◌≡◌, sym, ap, ◌∙◌}
use native.Mathlib.Decide.{dec_lt}
use mathlib.Core.List.{[], ◌∷◌, ◌++◌}
use Prim.Native.Nat.{ℕ, zero, suc, ◌+◌, ◌/◌, ◌%◌, ◌^◌, ◌<◌, ◌≤◌}
use native.Mathlib.Omega.{arith}
use native.Mathlib.Nat.{pow-suc}
use lib.ListN.{length, length-append}
use borrow.Author.Tests.{lt-ltb, le-ltb}
use Rattle.meaning.specs.Basics.{Bytes}
use Rattle.meaning.specs.Program.{decimal, decimal_within}
use Rattle.meaning.proofs.Lists.{choose_true, choose_false}

one_digit : (m n : ℕ) → n < 10 → decimal_within (suc m) n ≡ (48 + n) ∷ []
one_digit m n h = choose_true _ _ (lt-ltb n 10 h)

digits : (m n : ℕ) → 10 ≤ n → decimal_within (suc m) n ≡ decimal_within m (n / 10) ++ ((48 + n % 10) ∷ [])
digits m n h = choose_false _ _ (le-ltb n 10 h)

-- More digits than there are change nothing
enough : (m k n : ℕ) → n < m → n < k → decimal_within m n ≡ decimal_within k n
enough zero k n h l = absurd (omega arith)
enough (suc m) zero n h l = absurd (omega arith)
enough (suc m) (suc k) n h l =
    elim (dec_lt n 10) [
      | yes few ↦ one_digit m n few ∙ sym (one_digit k n few)
      | no more ↦ digits m n (omega arith) ∙ ap (λ (l : Bytes). l ++ ((48 + n % 10) ∷ [])) (enough m k (n / 10) (omega arith) (omega arith))
          ∙ sym (digits k n (omega arith))
    ]

module _ (n : ℕ) where
  pub decimal_last : n < 10 → decimal n ≡ (48 + n % 10) ∷ []
  unfolding decimal
  decimal_last h = one_digit n n h ∙ ap (λ (d : ℕ). (48 + d) ∷ []) (omega arith)

  pub decimal_more : 10 ≤ n → decimal n ≡ decimal (n / 10) ++ ((48 + n % 10) ∷ [])
  unfolding decimal
  decimal_more h = digits n n h ∙ ap (λ (l : Bytes). l ++ ((48 + n % 10) ∷ [])) (enough n (suc (n / 10)) (n / 10) (omega arith) (omega arith))

  pub last_length : n < 10 → length (decimal n) ≡ 1
  last_length h = ap length (decimal_last h)

  pub more_length : 10 ≤ n → length (decimal n) ≡ length (decimal (n / 10)) + 1
  more_length h = ap length (decimal_more h) ∙ length-append (decimal (n / 10)) ((48 + n % 10) ∷ [])

-- A number below a power of ten has no more digits
few_digits : (k n : ℕ) → n < 10 ^ suc k → length (decimal n) ≤ suc k
few_digits zero n h = omega (arith, last_length n (omega arith))
few_digits (suc k) n h =
    elim (dec_lt n 10) [
      | yes few ↦ omega (arith, last_length n few)
      | no more ↦
          let fewer = few_digits k (n / 10) (omega (arith, pow-suc 10 (suc k))) in
          omega (arith, more_length n (omega arith), fewer)
    ]

pub decimal_short : (n : ℕ) → n < 4294967296 → length (decimal n) ≤ 10
decimal_short n h = few_digits 9 n (omega arith)

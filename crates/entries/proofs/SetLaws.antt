-- Laws of the sets of metavariables: sets in sets, and the sets that a loop gathers.
--   Gathered   s is the set of the metavariables below i that pass a test
use mathlib.Core.Path.{◌≡◌, refl, ap, ap₂, sym, ◌∙◌}
use Prim.Native.Nat.{ℕ, suc, ◌+◌, ◌-◌, ◌^◌, ◌<◌, ◌≤◌}
use mathlib.Core.Bool.{Bool, true, false, ◌&&◌, ◌||◌, not}
use native.Mathlib.Nat.{div-eq_of_lt}
use native.Mathlib.Omega.{arith}
use lib.Dec.{eqb, ltb}
use lib.Pow.{pow_mono}
use lib.Bits.{bit_and}
use borrow.Author.Tests.{eq-eqb, eqb-true, eqb-false, lt-ltb, le-ltb}
use Rattle.meaning.specs.Limits.{metavariable_count}
use Rattle.meaning.specs.Basics.{every, up_to}
use Rattle.meaning.proofs.Lists.{by_test, mem_up_to}
use Rattle.masks.specs.Mask.{odd, marks, In, Sub}
use Rattle.masks.proofs.Cases.{by_order, same_truth}
use Rattle.masks.proofs.Marks.{marks_at}
use Rattle.masks.proofs.Nodes.{in_width, nodes_sub}
use Rattle.metavariables.specs.Survey.{has, Joined}
use Rattle.metavariables.proofs.BitLaws.{has_and, has_none}
use Rattle.entries.specs.Sets.{SetOf, within}
use Rattle.entries.proofs.TestLaws.{every_at, at_every, implied}

-- No number past the last metavariable is in a set
pub holds_none : (s m : ℕ) → s < 2 ^ 32 → 32 ≤ m → false ≡ has s m
holds_none s m fits h = let some : s < 2 ^ m = omega (arith, pow_mono {i = 32} {j = m} h) in sym (ap odd (div-eq_of_lt some))

-- One set is in another where `&` leaves it as it is
subset : (w a b : ℕ) → a < 2 ^ w → eqb (bit_and a b) a ≡ every (λ m. not (has a m) || has b m) (up_to w)
unfolding Sub
subset w a b fits = same_truth _ _ each whole
  where
    kept : (x y : Bool) → x ≡ x && y → not x || y ≡ true
    kept true y e = sym e
    kept false y e = refl

    each : eqb (bit_and a b) a ≡ true → every (λ m. not (has a m) || has b m) (up_to w) ≡ true
    each e =
        at_every (λ m. not (has a m) || has b m) (up_to w) (λ m i.
        kept (has a m) (has b m) (ap (λ (n : ℕ). has n m) (sym (eqb-true (bit_and a b) a e)) ∙ has_and a b m))

    bit_too : every (λ m. not (has a m) || has b m) (up_to w) ≡ true → (k : ℕ) → In (marks w a) k → In (marks w b) k
    bit_too e k i =
        let h : k < w = in_width w a k i in
        let m : ℕ = w - suc k in
        marks_at w b k h
        ∙ implied (has a m) (has b m) (sym (marks_at w a k h) ∙ i)
        (every_at (λ n. not (has a n) || has b n) (up_to w) e m (mem_up_to w m (omega arith)))

    whole : every (λ m. not (has a m) || has b m) (up_to w) ≡ true → eqb (bit_and a b) a ≡ true
    whole e = eq-eqb (bit_and a b) a (nodes_sub w a b fits (bit_too e))

pub within_code : (a b : ℕ) → a < 2 ^ 32 → eqb (bit_and a b) a ≡ within a b
unfolding within metavariable_count
within_code a b fits = subset 32 a b fits

-- Sets that a loop gathers, one metavariable after the other
unfoldable pub Gathered : (ℕ → Bool) → ℕ → ℕ → Type 0
Gathered test i s = (k : ℕ) → k < metavariable_count → has s k ≡ ltb k i && test k

module _ (test : ℕ → Bool) where
  pub gathered_none : Gathered test 0 0
  unfolding Gathered
  gathered_none k l = has_none k ∙ sym (ap (λ (b : Bool). b && test k) (le-ltb k 0 (omega arith)))

  pub gathered_more : (i s r : ℕ) (found : Bool) → Gathered test i s → found ≡ test i → Joined s found i r → Gathered test (i + 1) r
  unfolding Gathered Joined
  gathered_more i s r found g f j k l =
      j k l ∙ ap₂ (λ (a b : Bool). (a && eqb k i) || b) f (g k l) ∙ by_test (eqb k i) same other
    where
      alone : (b c : Bool) → (b && true) || (false && c) ≡ true && b
      alone true c = refl
      alone false c = refl

      neither : (b c : Bool) → (b && false) || c ≡ c
      neither true c = refl
      neither false c = refl

      same : eqb k i ≡ true → (test i && eqb k i) || (ltb k i && test k) ≡ ltb k (i + 1) && test k
      same e =
          let z : k ≡ i = eqb-true k i e in
          ap₂ (λ (x y : Bool). (test i && x) || (y && test k)) e (le-ltb k i (omega arith))
          ∙ alone (test i) (test k)
          ∙ ap₂ (λ (x y : Bool). x && y) (sym (lt-ltb k (i + 1) (omega arith))) (ap test (sym z))

      later : (k < i → ltb k i ≡ ltb k (i + 1)) × (i < k → ltb k i ≡ ltb k (i + 1))
      later = (
        λ h. lt-ltb k i h ∙ sym (lt-ltb k (i + 1) (omega arith)),
        λ h. le-ltb k i (omega arith) ∙ sym (le-ltb k (i + 1) (omega arith)),
      )

      other : eqb k i ≡ false → (test i && eqb k i) || (ltb k i && test k) ≡ ltb k (i + 1) && test k
      other e =
          ap (λ (x : Bool). (test i && x) || (ltb k i && test k)) e ∙ neither (test i) (ltb k i && test k)
          ∙ ap (λ (x : Bool). x && test k) (by_order k i later.0 (λ z. absurd (eqb-false k i e z)) later.1)

  pub gathered_all : (i s : ℕ) → 32 ≤ i → Gathered test i s → SetOf test s
  unfolding Gathered SetOf metavariable_count
  gathered_all i s h g m l = g m l ∙ ap (λ (b : Bool). b && test m) (lt-ltb m i (omega arith))

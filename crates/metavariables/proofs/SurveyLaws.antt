-- What the survey's code owes: the law of each return and of each turn of its loop.
--   Seen    the numbers of the tokens passed are in the set: with those of the tokens left they are all
use mathlib.Core.Path.{◌≡◌, refl, ap, ap₂, sym, ◌∙◌}
use mathlib.Core.Bool.{Bool, true, false, ◌&&◌, ◌||◌, not, or_assoc, or_comm}
use mathlib.Core.List.{List, ◌∷◌}
use Prim.Native.Nat.{ℕ, suc, ◌+◌, ◌*◌, ◌%◌, ◌^◌, ◌<◌, ◌≤◌}
use native.Mathlib.Nat.{one-mul, mod-eq_of_lt}
use native.Mathlib.Numerals.{add-one}
use native.Mathlib.Omega.{arith}
use lib.ListN.{length, drop, drop_of_length-le}
use lib.Seq.{drop-cons}
use lib.Dec.{eqb}
use lib.Pow.{pow-lt}
use lib.Bits.{bit_and, bit_or, and_lt}
use lib.Count.{ones}
use borrow.Author.Tests.{ne_eqb}
use Rattle.meaning.specs.Limits.{metavariable_count}
use Rattle.meaning.specs.Basics.{choose, keep, up_to, is_in}
use Rattle.meaning.proofs.Lists.{up_to_mem}
use Rattle.tokens.specs.Token.{tag_in, payload_in}
use Rattle.tokens.specs.Key.{at}
use Rattle.metavariables.specs.declared.Occurring.{Occurring}
use Rattle.metavariables.specs.Survey.{has, numbers, Joined, Surveyed, meets, count, functions_in, both_in}
use Rattle.metavariables.proofs.BitLaws.{has_or, has_none, has_one, every_same, keep_same, meets_and, ones_count, low_count}

-- A 1 shifted to bit m
pub one_shifted : (m : ℕ) → m < 32 → (1 * 2 ^ m) % 2 ^ 32 ≡ 2 ^ m
one_shifted m h = ap (λ (n : ℕ). n % 2 ^ 32) (one-mul (2 ^ m)) ∙ mod-eq_of_lt (pow-lt h)

module _ (s m : ℕ) where
  pub joined_in : m < 32 → Joined s true m (bit_or s ((1 * 2 ^ m) % 2 ^ 32))
  unfolding Joined
  joined_in h k l =
      ap (λ (n : ℕ). has (bit_or s n) k) (one_shifted m h) ∙ has_or s (2 ^ m) k ∙ ap (λ (b : Bool). has s k || b) (has_one k m)
      ∙ or_comm (has s k) (eqb k m)

  pub joined_none : Joined s false m s
  unfolding Joined
  joined_none k l = refl

  pub joined_out : (test : Bool) → 32 ≤ m → Joined s test m s
  unfolding Joined metavariable_count
  joined_out false h k l = refl
  joined_out true h k l = sym (ap (λ (b : Bool). b || has s k) (ne_eqb k m (λ e. omega arith)))

-- One token more
numbers_cons : (g x : ℕ) (xs : List ℕ) (k : ℕ)
    → is_in k (numbers g (x ∷ xs)) ≡ (eqb (tag_in x) g && eqb k (payload_in x)) || is_in k (numbers g xs)
unfolding numbers
numbers_cons g x xs k = go (eqb (tag_in x) g)
  where
    go : (b : Bool) → is_in k (choose b (payload_in x ∷ numbers g xs) (numbers g xs)) ≡ (b && eqb k (payload_in x)) || is_in k (numbers g xs)
    go true = refl
    go false = refl

unfoldable pub Seen : ℕ → List ℕ → ℕ → ℕ → Type 0
Seen g ts i s = (k : ℕ) → k < metavariable_count → has s k || is_in k (numbers g (drop i ts)) ≡ is_in k (numbers g ts)

module _ (g : ℕ) (ts : List ℕ) where
  pub seen_none : Seen g ts 0 0
  unfolding Seen
  seen_none k l = ap (λ (b : Bool). b || is_in k (numbers g ts)) (has_none k)

  pub seen_more : (i s r : ℕ) → i < length ts → Seen g ts i s → Joined s (eqb (tag_in (at ts i)) g) (payload_in (at ts i)) r → Seen g ts (i + 1) r
  unfolding Seen Joined
  seen_more i s r h q m k l =
      let x : ℕ = at ts i in
      let this : Bool = eqb (tag_in x) g && eqb k (payload_in x) in
      let later : Bool = is_in k (numbers g (drop (suc i) ts)) in
      ap₂ (λ (b : Bool) (n : ℕ). b || is_in k (numbers g (drop n ts))) (m k l ∙ or_comm this (has s k)) (add-one i)
      ∙ or_assoc (has s k) this later
      ∙ ap (λ (b : Bool). has s k || b) (sym (numbers_cons g x (drop (suc i) ts) k))
      ∙ ap (λ (xs : List ℕ). has s k || is_in k (numbers g xs)) (sym (drop-cons ts i 0 h))
      ∙ q k l

  pub seen_all : (i s : ℕ) → length ts ≤ i → Seen g ts i s → (k : ℕ) → k < metavariable_count → has s k ≡ is_in k (numbers g ts)
  unfolding Seen numbers
  seen_all i s h q k l =
      or_none_lem (has s k) ∙ ap (λ (xs : List ℕ). has s k || is_in k (numbers g xs)) (sym (drop_of_length-le ts h)) ∙ q k l
    where
      or_none_lem : (b : Bool) → b ≡ b || false
      or_none_lem true = refl
      or_none_lem false = refl

-- Sets of the width that the code has
module _ (s : ℕ) (fits : s < 2 ^ 32) where
  pub meets_code : (t : ℕ) → t < 2 ^ 32 → not (eqb (bit_and s t) 0) ≡ meets metavariable_count s t
  unfolding metavariable_count
  meets_code t fits' = meets_and 32 s t (and_lt 32 s t fits fits')

  pub count_code : ones s ≡ count metavariable_count s
  unfolding metavariable_count
  count_code = ones_count 32 s fits

-- The numbers of a set below m, by a shifted 1
module _ (s m : ℕ) (h : m < 32) where
  pub rank_code : ones (s % ((1 * 2 ^ m) % 2 ^ 32)) ≡ count m s
  rank_code = ap (λ (n : ℕ). ones (s % n)) (one_shifted m h) ∙ low_count m s

-- The sets that were found, against the tokens
module _ (ps : List ℕ) (s : Occurring) (v : Surveyed ps s) where
  pub functions_set : keep (has s.functions) (up_to metavariable_count) ≡ functions_in ps
  unfolding functions_in
  functions_set =
      keep_same (has s.functions) (λ m. is_in m (numbers 6 ps)) (up_to metavariable_count)
      (λ m i. v.functions m (up_to_mem metavariable_count m i))

  pub both_set : meets metavariable_count s.functions s.plain ≡ both_in ps
  unfolding meets both_in
  both_set =
      ap not
      (every_same (λ m. not (has s.functions m && has s.plain m)) (λ m. not (is_in m (numbers 6 ps) && is_in m (numbers 5 ps)))
      (up_to metavariable_count)
      (λ m i. let h = up_to_mem metavariable_count m i in ap₂ (λ (a b : Bool). not (a && b)) (v.functions m h) (v.plain m h)))

  pub count_set : count metavariable_count s.functions ≡ length (functions_in ps)
  unfolding count
  count_set = ap length functions_set

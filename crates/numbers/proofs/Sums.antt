-- Sums of weights: a subterm's sum does not depend on where it is seen from, so that it is the difference of two sums from the table's
-- beginning on.
use mathlib.Core.Path.{◌≡◌, refl, ap, ap₂, sym, ◌∙◌}
use Prim.Native.Nat.{ℕ, ◌+◌, ◌*◌, ◌-◌, ◌/◌, ◌%◌, ◌<◌, ◌≤◌}
use mathlib.Core.List.{List, [], ◌∷◌, ◌++◌, map-append}
use native.Mathlib.Nat.{mul-le-mul}
use native.Mathlib.Omega.{arith}
use native.Mathlib.Decide.{dec_lt, ℕ_discrete}
use lib.ListN.{length, take}
use lib.Seq.{take-add, drop-cons, length-take-le}
use borrow.Author.Tests.{eq-eqb, ne_eqb}
use Rattle.meaning.proofs.Lists.{choose_true, choose_false}
use Rattle.tokens.specs.Token.{tag_in, depth_in, size_in, payload_in}
use Rattle.tokens.specs.Key.{key_of_variable, key_of_payload, key_of, keys, lower_half, upper_half, at, nodes, part}
use Rattle.tokens.proofs.same.Laws.{key_free, key_inside, key_outside, key_variable, key_binder, key_other}
use Rattle.numbers.proofs.KeyLevels.{level_untold}
use Rattle.numbers.specs.Alike.{keys_at, level_of_key, level_of_keys, level_at, mixed, heavy, spread, weight_of_key, sum_of_keys, sum_to}

pub mixed_small : (m n : ℕ) → mixed m n < 4294967296
unfolding mixed
mixed_small m n = omega arith

pub halves_small : (m : ℕ) → m < 4294967296 → m / 65536 * (m % 65536) < 4294967296
halves_small m h =
    let a : m / 65536 ≤ 65535 = omega arith in
    let b : m % 65536 ≤ 65535 = omega arith in
    let p : m / 65536 * (m % 65536) ≤ 65535 * 65535 = mul-le-mul a b in
    omega arith

spread_small : (m : ℕ) → m < 4294967296 → spread m < 8589934592
unfolding spread
spread_small m h = omega (arith, halves_small m h)

module _ (k : ℕ) where
  pub weight_inside : k % 1024 ≡ 258 → weight_of_key k ≡ heavy
  unfolding weight_of_key
  weight_inside h = choose_true _ _ (eq-eqb (k % 1024) 258 h)

  pub weight_outside : k % 1024 ≡ 514 → weight_of_key k ≡ heavy
  unfolding weight_of_key
  weight_outside h = choose_false _ _ (ne_eqb (k % 1024) 258 (λ e. omega arith)) ∙ choose_true _ _ (eq-eqb (k % 1024) 514 h)

  pub weight_other : (k % 1024 ≡ 258 → ⊥) → (k % 1024 ≡ 514 → ⊥) → weight_of_key k ≡ spread (mixed k 0)
  unfolding weight_of_key
  weight_other m n = choose_false _ _ (ne_eqb (k % 1024) 258 m) ∙ choose_false _ _ (ne_eqb (k % 1024) 514 n)

  weight_small : weight_of_key k ≤ heavy
  weight_small = go (ℕ_discrete (k % 1024) 258) (ℕ_discrete (k % 1024) 514)
    where
      go : Dec (k % 1024 ≡ 258) → Dec (k % 1024 ≡ 514) → weight_of_key k ≤ heavy
      go (yes h) g = omega (arith, weight_inside h)
      go (no h) (yes g) = omega (arith, weight_outside g)
      go (no h) (no g) = omega (arith, weight_other h g, spread_small (mixed k 0) (mixed_small k 0))

-- A token weighs the same wherever it is seen from
module _ (d x : ℕ) where
  abbrev level : ℕ
  level = upper_half (payload_in x)

  key_at : (e : ℕ) → key_of e x ≡ tag_in x + 256 * key_of_payload e (tag_in x) (depth_in x) (payload_in x)
  unfolding key_of
  key_at e = refl

  variable_key : (e : ℕ) → tag_in x ≡ 2 → key_of e x ≡ 2 + 256 * key_of_variable e (depth_in x) (lower_half (payload_in x)) level
  variable_key e z = key_at e ∙ ap₂ (λ (i j : ℕ). i + 256 * j) z (key_variable e (tag_in x) (depth_in x) (payload_in x) z)

  bound_weight : (e : ℕ) → tag_in x ≡ 2 → (level ≡ 0 → ⊥) → weight_of_key (key_of e x) ≡ heavy
  bound_weight e z n = go (dec_lt e level)
    where
      go : Dec (e < level) → weight_of_key (key_of e x) ≡ heavy
      go (yes h) =
          let k = variable_key e z ∙ ap (λ (i : ℕ). 2 + 256 * i) (key_inside e (depth_in x) (lower_half (payload_in x)) level n h) in
          weight_inside (key_of e x) (omega arith)
      go (no h) =
          let k = variable_key e z ∙ ap (λ (i : ℕ). 2 + 256 * i) (key_outside e (depth_in x) (lower_half (payload_in x)) level n (omega arith)) in
          weight_outside (key_of e x) (omega arith)

  weight_any : weight_of_key (key_of d x) ≡ weight_of_key (key_of 0 x)
  weight_any = go (ℕ_discrete (tag_in x) 2) (ℕ_discrete level 0) (ℕ_discrete (tag_in x) 4)
    where
      same : key_of_payload d (tag_in x) (depth_in x) (payload_in x) ≡ key_of_payload 0 (tag_in x) (depth_in x) (payload_in x)
          → weight_of_key (key_of d x) ≡ weight_of_key (key_of 0 x)
      same e = ap weight_of_key (key_at d ∙ ap (λ (k : ℕ). tag_in x + 256 * k) e ∙ sym (key_at 0))

      go : Dec (tag_in x ≡ 2) → Dec (level ≡ 0) → Dec (tag_in x ≡ 4) → weight_of_key (key_of d x) ≡ weight_of_key (key_of 0 x)
      go (yes z) (yes l) w =
          same
          (key_variable d (tag_in x) (depth_in x) (payload_in x) z ∙ key_free d (depth_in x) (lower_half (payload_in x)) level l
          ∙ sym (key_variable 0 (tag_in x) (depth_in x) (payload_in x) z ∙ key_free 0 (depth_in x) (lower_half (payload_in x)) level l))
      go (yes z) (no l) w = bound_weight d z l ∙ sym (bound_weight 0 z l)
      go (no z) l (yes w) =
          same (key_binder d (tag_in x) (depth_in x) (payload_in x) w ∙ sym (key_binder 0 (tag_in x) (depth_in x) (payload_in x) w))
      go (no z) l (no w) =
          same (key_other d (tag_in x) (depth_in x) (payload_in x) z w ∙ sym (key_other 0 (tag_in x) (depth_in x) (payload_in x) z w))

sum_any : (d : ℕ) (xs : List ℕ) → sum_of_keys (keys d xs) ≡ sum_of_keys (keys 0 xs)
unfolding sum_of_keys
sum_any d [] = refl
sum_any d (x ∷ xs) = ap₂ ◌+◌ (weight_any d x) (sum_any d xs)

sum_append : (ks ls : List ℕ) → sum_of_keys (ks ++ ls) ≡ sum_of_keys ks + sum_of_keys ls
unfolding sum_of_keys
sum_append [] ls = omega arith
sum_append (k ∷ ks) ls = omega (arith, sum_append ks ls)

sum_small : (xs : List ℕ) → sum_of_keys (keys 0 xs) ≤ length xs * heavy
unfolding sum_of_keys
sum_small [] = omega arith
sum_small (x ∷ xs) = omega (arith, weight_small (key_of 0 x), sum_small xs)

-- A sum that is less than the weight of one bound variable is that of keys which tell of none
no_level : (ks : List ℕ) → sum_of_keys ks < heavy → level_of_keys ks ≡ 0
unfolding sum_of_keys level_of_keys
no_level [] h = refl
no_level (k ∷ ks) h =
    let l : level_of_key k ≡ 0 = level_untold k (λ e. omega (arith, weight_outside k e)) in
    omega (arith, no_level ks (omega arith))

pub light_level : (t : List ℕ) (a s : ℕ) → s ≡ sum_of_keys (keys_at t a) → s < heavy → 0 ≡ level_at t a
unfolding level_at
light_level t a s is h = sym (no_level (keys_at t a) (omega arith))

-- Sums from the first node on
module _ (t : List ℕ) where
  pub sum_none : 0 ≡ sum_to t 0
  unfolding sum_to sum_of_keys
  sum_none = refl

  split : (a n : ℕ) → sum_to t (a + n) ≡ sum_to t a + sum_of_keys (keys 0 (nodes t a n))
  unfolding sum_to
  split a n =
      ap (λ (xs : List ℕ). sum_of_keys (keys 0 xs)) (take-add a n t) ∙ ap sum_of_keys (map-append (key_of 0) (take a t) (nodes t a n))
      ∙ sum_append (keys 0 (take a t)) (keys 0 (nodes t a n))

  pub sum_next : (k : ℕ) → k < length t → sum_to t k + weight_of_key (key_of 0 (at t k)) ≡ sum_to t (k + 1)
  unfolding sum_of_keys
  sum_next k h = omega (arith, split k 1, ap (λ (xs : List ℕ). sum_of_keys (keys 0 (take 1 xs))) (drop-cons t k 0 h))

  pub sum_few : (n : ℕ) → n ≤ length t → sum_to t n ≤ n * heavy
  unfolding sum_to
  sum_few n h = omega (arith, sum_small (take n t), length-take-le n t h)

  -- Of the subterm at node k, which has n nodes and ends before node e
  module _ (k n e : ℕ) (is-n : n ≡ size_in (at t k)) (is-e : e ≡ k + n) where
    sum_there : sum_to t e ≡ sum_to t k + sum_of_keys (keys_at t k)
    sum_there =
        ap (sum_to t) is-e ∙ split k n
        ∙ ap (λ (s : ℕ). sum_to t k + s)
        (ap (λ (m : ℕ). sum_of_keys (keys 0 (nodes t k m))) is-n ∙ sym (sum_any (depth_in (at t k)) (part t k)))

    pub sum_part : sum_to t e - sum_to t k ≡ sum_of_keys (keys_at t k)
    sum_part = omega (arith, sum_there)

    pub sum_rises : sum_to t k ≤ sum_to t e
    sum_rises = omega (arith, sum_there)

-- What the search asks of numbers is what the table tells.
use mathlib.Core.Path.{◌≡◌, ap, ap₂, sym, ◌∙◌}
use Prim.Native.Nat.{ℕ, zero, suc, ◌+◌, ◌*◌, ◌-◌, ◌<◌, ◌≤◌}
use mathlib.Core.Bool.{true}
use mathlib.Core.List.{List}
use native.Mathlib.Omega.{arith}
use native.Mathlib.Decide.{dec_lt, ℕ_discrete}
use lib.ListN.{length}
use lib.Dec.{ltb}
use borrow.Author.Tests.{eq-eqb, ne_eqb, ltb-false}
use Rattle.meaning.proofs.Lists.{choose_true, choose_false, by_test, never}
use Rattle.tokens.specs.Token.{depth_in}
use Rattle.tokens.specs.Key.{at, same_at}
use Rattle.numbers.specs.Tests.{Beneath, Tells, level_in, told}
use Rattle.numbers.specs.Alike.{keys_at, level_of_keys, level_at, last_at, binder_at, mixed, sum_of_keys, hash_at, label_at, alike}
use Rattle.numbers.specs.Numbering.{Numbered}
use Rattle.numbers.proofs.KeyLevels.{level_uses}
use Rattle.numbers.proofs.AlikeLaws.{same_keys_lem, keys_same, alike_parts, parts_alike, numbers_alike, alike_numbers}

module _ (t : List ℕ) where
  -- Nodes of another depth do not change which is the last at a depth
  pub last_run : (d a n : ℕ) → ((y : ℕ) → a ≤ y → y < a + n → depth_in (at t y) ≡ d → ⊥) → last_at t d (a + n) ≡ last_at t d a
  unfolding last_at
  last_run d a zero h = let e : a + 0 ≡ a = omega arith in ap (last_at t d) e
  last_run d a (suc n) h =
      let e : a + suc n ≡ suc (a + n) = omega arith in
      ap (last_at t d) e
      ∙ choose_false _ _ (ne_eqb (depth_in (at t (a + n))) d (h (a + n) (omega arith) (omega arith)))
      ∙ last_run d a n (λ y p q. h y p (omega arith))

  last_beneath : (s d a b : ℕ) → d < s → Beneath t s a b → last_at t d a ≡ last_at t d b
  last_beneath s d a b h up = go (dec_lt a b)
    where
      run : (a b : ℕ) → a ≤ b → ((y : ℕ) → a ≤ y → y ≤ b → s ≤ depth_in (at t y)) → last_at t d b ≡ last_at t d a
      run a b g deep =
          let e : a + (b - a) ≡ b = omega arith in
          ap (last_at t d) (sym e) ∙ last_run d a (b - a) (λ y p q z. omega (arith, deep y p (omega arith)))

      go : Dec (a < b) → last_at t d a ≡ last_at t d b
      go (yes g) = sym (run a b (omega arith) (λ y p q. up y (omega arith) (omega arith)))
      go (no g) = run b a (omega arith) (λ y p q. up y (omega arith) (omega arith))

  -- Two nodes with the same keys, of which each binder outside that is used lies above both, are alike
  module _ (s a b : ℕ) (up : Beneath t s a b) (few : level_at t a ≤ s) (same : keys_at t a ≡ keys_at t b) where
    levels : level_at t a ≡ level_at t b
    unfolding level_at
    levels = ap level_of_keys same

    binders : binder_at t a ≡ binder_at t b
    unfolding binder_at
    binders = go (ℕ_discrete (level_at t a) 0)
      where
        go : Dec (level_at t a ≡ 0) → binder_at t a ≡ binder_at t b
        go (yes z) =
            choose_true _ _ (eq-eqb (level_at t a) 0 z) ∙ sym (choose_true _ _ (eq-eqb (level_at t b) 0 (sym levels ∙ z)))
        go (no z) =
            choose_false _ _ (ne_eqb (level_at t a) 0 z) ∙ last_beneath s (level_at t a - 1) a b (omega arith) up
            ∙ ap (λ (l : ℕ). last_at t (l - 1) b) levels ∙ sym (choose_false _ _ (ne_eqb (level_at t b) 0 (λ q. z (levels ∙ q))))

    pub beneath_alike : alike t a b ≡ true
    unfolding label_at hash_at
    beneath_alike =
        parts_alike t a b
        (ap₂ (λ (i h : ℕ). i + 65536 * mixed h i) binders (ap sum_of_keys same)) same

  module _ (ns : List ℕ) (made : Numbered t ns) (small : length t < 65536) where
    number_level : (a : ℕ) → a < length t → level_in (at ns a) ≡ level_at t a
    number_level a h = let x = made a h in omega (arith, x.is, x.is_first.up_to)

    -- Main theorem
    pub numbers_tell : Tells t (told ns)
    numbers_tell = record {
      uses = λ a d h. ap (ltb d) (number_level a h) ∙ sym (level_uses t a d);
      same = λ s a b h g up free.
          let few : level_at t a ≤ s = ltb-false s (level_at t a) (sym (level_uses t a s) ∙ free) in
          by_test (same_at t a b)
          (λ e.
          eq-eqb (at ns a) (at ns b)
          (alike_numbers t a b (at ns a) (at ns b) (omega arith) (omega arith) (made a h) (made b g)
          (beneath_alike s a b up few (same_keys_lem t a b e)))
          ∙ sym e)
          (λ e.
          ne_eqb (at ns a) (at ns b)
          (λ z.
          let q =
          keys_same t a b
          (alike_parts t a b (numbers_alike t a b (at ns a) (at ns b) (omega arith) (omega arith) (made a h) (made b g) z)).1 in
          never (cc))
          ∙ sym e);
    }

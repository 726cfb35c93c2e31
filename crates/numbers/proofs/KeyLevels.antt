-- The innermost level that the keys of a subterm tell of, against the table's own test: a binder inside a root at depth d is used just when
-- that level is above d.
use mathlib.Core.Path.{◌≡◌, refl, ap, ap₂, sym, ◌∙◌}
use Prim.Native.Nat.{ℕ, ◌+◌, ◌*◌, ◌/◌, ◌%◌, ◌<◌, ◌≤◌, max}
use mathlib.Core.Bool.{Bool, true, false, ◌&&◌, ◌||◌, and-true, and-false, true≢false}
use mathlib.Core.List.{List, [], ◌∷◌}
use native.Mathlib.Omega.{arith}
use native.Mathlib.Decide.{dec_lt, ℕ_discrete}
use lib.Dec.{ltb, leb}
use borrow.Author.Tests.{eq-eqb, ne_eqb, lt-ltb, le-ltb, le-leb, lt-leb, ltb-false}
use Rattle.meaning.proofs.Lists.{choose_true, choose_false}
use Rattle.tokens.specs.Token.{tag_in, depth_in, payload_in}
use Rattle.tokens.specs.Key.{key_of_variable, key_of, keys, at, part, lower_half, upper_half, reaches, any_reaches, uses_at}
use Rattle.tokens.proofs.same.Laws.{key_free, key_inside, key_outside, key_variable, reaches_no_variable, reaches_level}
use Rattle.numbers.specs.Alike.{level_of_key, level_of_keys, level_at}

module _ (k : ℕ) where
  level_told : k % 1024 ≡ 514 → level_of_key k ≡ k / 1024
  unfolding level_of_key
  level_told h = choose_true _ _ (eq-eqb (k % 1024) 514 h)

  pub level_untold : (k % 1024 ≡ 514 → ⊥) → level_of_key k ≡ 0
  unfolding level_of_key
  level_untold h = choose_false _ _ (ne_eqb (k % 1024) 514 h)

-- One token, seen from depth r. The level that its key tells of is at most r, and it reaches inside d just when that is above d
module _ (r x : ℕ) where
  abbrev level : ℕ
  level = upper_half (payload_in x)

  no_variable : (tag_in x ≡ 2 → ⊥) → level_of_key (key_of r x) ≡ 0
  unfolding key_of
  no_variable n = level_untold (key_of r x) (λ e. n (omega arith))

  variable_key : tag_in x ≡ 2 → key_of r x ≡ 2 + 256 * key_of_variable r (depth_in x) (lower_half (payload_in x)) level
  unfolding key_of
  variable_key e = ap₂ (λ (i j : ℕ). i + 256 * j) e (key_variable r (tag_in x) (depth_in x) (payload_in x) e)

  data Told : Type 0 where
    none : level_of_key (key_of r x) ≡ 0 → ((d : ℕ) → reaches d r x ≡ false) → Told
    some : level_of_key (key_of r x) ≡ level → level ≤ r → ((d : ℕ) → reaches d r x ≡ ltb d level) → Told

  token_told : Told
  token_told = go (ℕ_discrete (tag_in x) 2)
    where
      variable : tag_in x ≡ 2 → Dec (level ≡ 0) → Dec (r < level) → Told
      variable e (yes z) h =
          let k = variable_key e ∙ ap (λ (i : ℕ). 2 + 256 * i) (key_free r (depth_in x) (lower_half (payload_in x)) level z) in
          none (level_untold (key_of r x) (λ q. omega arith))
          (λ d. reaches_level d r x e level refl ∙ ap (λ (b : Bool). b && leb level r) (le-ltb d level (omega arith)))
      variable e (no z) (yes h) =
          let k = variable_key e ∙ ap (λ (i : ℕ). 2 + 256 * i) (key_inside r (depth_in x) (lower_half (payload_in x)) level z h) in
          none (level_untold (key_of r x) (λ q. omega arith))
          (λ d. reaches_level d r x e level refl ∙ ap (λ (b : Bool). ltb d level && b) (lt-leb level r h) ∙ and-false (ltb d level))
      variable e (no z) (no h) =
          let k = variable_key e ∙ ap (λ (i : ℕ). 2 + 256 * i) (key_outside r (depth_in x) (lower_half (payload_in x)) level z (omega arith)) in
          let m : key_of r x % 1024 ≡ 514 = omega arith in
          let n : key_of r x / 1024 ≡ level = omega arith in
          some (level_told (key_of r x) m ∙ n) (omega arith)
          (λ d. reaches_level d r x e level refl ∙ ap (λ (b : Bool). ltb d level && b) (le-leb level r (omega arith)) ∙ and-true (ltb d level))

      go : Dec (tag_in x ≡ 2) → Told
      go (yes e) = variable e (ℕ_discrete level 0) (dec_lt r level)
      go (no n) = none (no_variable n) (λ d. reaches_no_variable d r x n)

  -- The same by the token's own test
  pub reached_level : reaches 0 r x ≡ true → payload_in x / 65536 ≡ level_of_key (key_of r x)
  reached_level h = elim token_told [
    | none e f ↦ absurd (true≢false (sym h ∙ f 0))
    | some e l f ↦ sym e
  ]

  pub unreached_level : reaches 0 r x ≡ false → 0 ≡ level_of_key (key_of r x)
  unreached_level h = elim token_told [
    | none e f ↦ sym e
    | some e l f ↦ omega (arith, ltb-false 0 level (sym (f 0) ∙ h))
  ]

  token_level : level_of_key (key_of r x) ≤ r
  token_level = elim token_told [
    | none e f ↦ omega arith
    | some e l f ↦ omega arith
  ]

  token_reaches : (d : ℕ) → reaches d r x ≡ ltb d (level_of_key (key_of r x))
  token_reaches d = elim token_told [
    | none e f ↦ f d ∙ sym (le-ltb d (level_of_key (key_of r x)) (omega arith))
    | some e l f ↦ f d ∙ ap (ltb d) (sym e)
  ]

below_max : (d m n : ℕ) → ltb d (max m n) ≡ ltb d m || ltb d n
below_max d m n = go (dec_lt d m) (dec_lt d n)
  where
    go : Dec (d < m) → Dec (d < n) → ltb d (max m n) ≡ ltb d m || ltb d n
    go (yes h) g = lt-ltb d (max m n) (omega arith) ∙ sym (ap (λ (b : Bool). b || ltb d n) (lt-ltb d m h))
    go (no h) (yes g) = lt-ltb d (max m n) (omega arith) ∙ sym (ap₂ ◌||◌ (le-ltb d m (omega arith)) (lt-ltb d n g))
    go (no h) (no g) = le-ltb d (max m n) (omega arith) ∙ sym (ap₂ ◌||◌ (le-ltb d m (omega arith)) (le-ltb d n (omega arith)))

levels_reach : (d r : ℕ) (xs : List ℕ) → any_reaches d r xs ≡ ltb d (level_of_keys (keys r xs))
unfolding any_reaches level_of_keys
levels_reach d r [] = sym (le-ltb d 0 (omega arith))
levels_reach d r (x ∷ xs) =
    ap₂ ◌||◌ (token_reaches r x d) (levels_reach d r xs) ∙ sym (below_max d (level_of_key (key_of r x)) (level_of_keys (keys r xs)))

pub levels_few : (r : ℕ) (xs : List ℕ) → level_of_keys (keys r xs) ≤ r
unfolding level_of_keys
levels_few r [] = omega arith
levels_few r (x ∷ xs) = omega (arith, token_level r x, levels_few r xs)

-- Main theorems
pub level_uses : (t : List ℕ) (a d : ℕ) → uses_at t a d ≡ ltb d (level_at t a)
unfolding uses_at level_at
level_uses t a d = levels_reach d (depth_in (at t a)) (part t a)

pub level_deep : (t : List ℕ) (a : ℕ) → level_at t a ≤ depth_in (at t a)
unfolding level_at
level_deep t a = levels_few (depth_in (at t a)) (part t a)

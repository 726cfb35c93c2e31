-- What keys are and what the functions of `same` owe, over the numbers that the code holds.
--   Left   two lists of nodes on the way through, pair by pair
use mathlib.Core.Path.{◌≡◌, refl, ap, ap₂, sym, ◌∙◌}
use mathlib.Core.Bool.{Bool, true, false, ◌&&◌, not, and-true, and-false}
use mathlib.Core.List.{List, [], ◌∷◌}
use mathlib.Core.Logic.{◌⊎◌, inl, inr}
use Prim.Native.Nat.{ℕ, ◌+◌, ◌*◌, ◌-◌, ◌<◌, ◌≤◌}
use native.Mathlib.Omega.{arith}
use native.Mathlib.Decide.{dec_lt}
use lib.ListN.{length}
use lib.Dec.{eqb, ltb, leb}
use borrow.Author.Tests.{eq-eqb, ne_eqb, lt-ltb, le-ltb, lt-leb, eqb-true}
use Rattle.meaning.specs.Basics.{choose}
use Rattle.meaning.specs.Same.{all_alike}
use Rattle.meaning.specs.Compare.{pairs}
use Rattle.meaning.proofs.Lists.{choose_true, choose_false, T_true, true_T, and_T}
use Rattle.tokens.specs.Token.{tag_in, depth_in, payload_in}
use Rattle.tokens.specs.Key.{upper_half, lower_half, key_of_variable, key_of_payload, key_of, keys, at, part, same_keys, same_across}
use Rattle.tokens.specs.Key.{reaches, agree_under, compared_by, compared_across}
use Rattle.tokens.specs.declared.same.Compared.{Compared}

-- The three keys of a variable, and the keys of a payload
module _ (d depth name level : ℕ) where
  pub key_free : level ≡ 0 → key_of_variable d depth name level ≡ 4 * name
  unfolding key_of_variable
  key_free z = choose_true _ _ (eq-eqb level 0 z)

  pub key_inside : (level ≡ 0 → ⊥) → d < level → key_of_variable d depth name level ≡ 4 * (depth - level) + 1
  unfolding key_of_variable
  key_inside n h = choose_false _ _ (ne_eqb level 0 n) ∙ choose_true _ _ (lt-ltb d level h)

  pub key_outside : (level ≡ 0 → ⊥) → level ≤ d → key_of_variable d depth name level ≡ 4 * level + 2
  unfolding key_of_variable
  key_outside n h = choose_false _ _ (ne_eqb level 0 n) ∙ choose_false _ _ (le-ltb d level h)

module _ (d tag depth p : ℕ) where
  pub key_variable : tag ≡ 2 → key_of_payload d tag depth p ≡ key_of_variable d depth (lower_half p) (upper_half p)
  unfolding key_of_payload
  key_variable z = choose_true _ _ (eq-eqb tag 2 z)

  pub key_binder : tag ≡ 4 → key_of_payload d tag depth p ≡ lower_half p
  unfolding key_of_payload
  key_binder z = choose_false _ _ (ne_eqb tag 2 (λ e. omega arith)) ∙ choose_true _ _ (eq-eqb tag 4 z)

  pub key_other : (tag ≡ 2 → ⊥) → (tag ≡ 4 → ⊥) → key_of_payload d tag depth p ≡ p
  unfolding key_of_payload
  key_other m n = choose_false _ _ (ne_eqb tag 2 m) ∙ choose_false _ _ (ne_eqb tag 4 n)

-- When a token reaches out
module _ (d r x : ℕ) where
  pub reaches_no_variable : (tag_in x ≡ 2 → ⊥) → reaches d r x ≡ false
  unfolding reaches
  reaches_no_variable n = rw (ne_eqb (tag_in x) 2 n)

  module _ (e : tag_in x ≡ 2) (level : ℕ) (is : level ≡ upper_half (payload_in x)) where
    pub reaches_level : reaches d r x ≡ ltb d level && leb level r
    unfolding reaches
    reaches_level = rw (eq-eqb (tag_in x) 2 e, is)

-- Lists of nodes that are alike by their keys
module _ (d e : ℕ) where
  pub alike_keys : (xs ys : List ℕ) → all_alike (same_keys d e) xs ys ≡ true → keys d xs ≡ keys e ys
  alike_keys [] [] q = refl
  alike_keys [] (y ∷ ys) q = cc
  alike_keys (x ∷ xs) [] q = cc
  alike_keys (x ∷ xs) (y ∷ ys) q =
      let h = and_T (same_keys d e x y) (all_alike (same_keys d e) xs ys) (true_T q) in
      ap₂ ◌∷◌ (eqb-true (key_of d x) (key_of e y) (T_true h.0)) (alike_keys xs ys (T_true h.1))

  pub keys_alike : (xs ys : List ℕ) → keys d xs ≡ keys e ys → all_alike (same_keys d e) xs ys ≡ true
  keys_alike [] [] q = refl
  keys_alike [] (y ∷ ys) q = cc
  keys_alike (x ∷ xs) [] q = cc
  keys_alike (x ∷ xs) (y ∷ ys) q =
      let p : key_of d x ≡ key_of e y = cc in
      let r : keys d xs ≡ keys e ys = cc in
      ap₂ ◌&&◌ (eq-eqb (key_of d x) (key_of e y) p) (keys_alike xs ys r)

-- A pair of nodes, by the two tests that the code makes
agree_both : (s d e x y : ℕ) → agree_under s d e x y ≡ same_keys d e x y && not (reaches s d x)
unfolding agree_under
agree_both s d e x y = refl

-- Where all binders above the first root are shared, nodes agree by their keys alone
reaches_none : (d x : ℕ) → reaches d d x ≡ false
unfolding reaches
reaches_none d x = ap (λ (c : Bool). eqb (tag_in x) 2 && c) (go (upper_half (payload_in x)) (dec_lt d (upper_half (payload_in x))))
    ∙ and-false (eqb (tag_in x) 2)
  where
    go : (level : ℕ) → Dec (d < level) → ltb d level && leb level d ≡ false
    go level (yes h) = ap (λ (c : Bool). ltb d level && c) (lt-leb level d h) ∙ and-false (ltb d level)
    go level (no h) = ap (λ (c : Bool). c && leb level d) (le-ltb d level (omega arith))

all_shared : (d e : ℕ) (xs ys : List ℕ) → all_alike (agree_under d d e) xs ys ≡ all_alike (same_keys d e) xs ys
all_shared d e [] [] = refl
all_shared d e [] (y ∷ ys) = refl
all_shared d e (x ∷ xs) [] = refl
all_shared d e (x ∷ xs) (y ∷ ys) = ap₂ ◌&&◌ (one x y) (all_shared d e xs ys)
  where
    one : (x y : ℕ) → agree_under d d e x y ≡ same_keys d e x y
    one x y = agree_both d d e x y ∙ ap (λ (c : Bool). same_keys d e x y && not c) (reaches_none d x) ∙ and-true _

-- Lists of nodes compared by a test f, all of whose first k pairs agree: us and vs, those that are left, tell whether the lists are alike,
-- and the pairs compared there are those that are missing
pub record Left (f : ℕ → ℕ → Bool) (xs ys : List ℕ) (k : ℕ) (us vs : List ℕ) : Type 0 where
  pub alike : all_alike f us vs ≡ all_alike f xs ys
  pub counted : k + pairs f us vs ≡ pairs f xs ys
  pub first : k + length us ≡ length xs
  pub second : k + length vs ≡ length ys

compared_is : (f : ℕ → ℕ → Bool) (xs ys : List ℕ) {b : Bool} {n : ℕ} → b ≡ all_alike f xs ys → n ≡ pairs f xs ys
    → ◌≡◌ {A = Compared} (record { equal = b; pairs = n }) (compared_by f xs ys)
compared_is f xs ys p q = cc

-- What the next pair makes of them, and the end
module _ {f : ℕ → ℕ → Bool} {xs ys : List ℕ} {k : ℕ} where
  module _ {x y : ℕ} {us vs : List ℕ} (l : Left f xs ys k (x ∷ us) (y ∷ vs)) where
    pub compare_goes_on : f x y ≡ true → Left f xs ys (k + 1) us vs
    compare_goes_on h =
        let p : choose (f x y) (pairs f us vs) 0 ≡ pairs f us vs = choose_true _ _ h in
        record {
          alike = sym (ap (λ (c : Bool). c && all_alike f us vs) h) ∙ l.alike;
          counted = omega arith;
          first = omega arith;
          second = omega arith;
        }

    pub compare_stops : f x y ≡ false → ◌≡◌ {A = Compared} (record { equal = false; pairs = k + 1 }) (compared_by f xs ys)
    compare_stops h =
        let p : choose (f x y) (pairs f us vs) 0 ≡ 0 = choose_false _ _ h in
        compared_is f xs ys (sym (ap (λ (c : Bool). c && all_alike f us vs) h) ∙ l.alike) (omega arith)

  pub compare_ends : (us vs : List ℕ) → Left f xs ys k us vs → (length us ≡ 0) ⊎ (length vs ≡ 0)
      → ◌≡◌ {A = Compared} (record { equal = eqb (length xs) (length ys); pairs = k }) (compared_by f xs ys)
  compare_ends [] [] l e = compared_is f xs ys (eq-eqb (length xs) (length ys) (omega arith) ∙ l.alike) (omega arith)
  compare_ends [] (v ∷ vs) l e = compared_is f xs ys (ne_eqb (length xs) (length ys) (λ z. omega arith) ∙ l.alike) (omega arith)
  compare_ends (u ∷ us) [] l e = compared_is f xs ys (ne_eqb (length xs) (length ys) (λ z. omega arith) ∙ l.alike) (omega arith)
  compare_ends (u ∷ us) (v ∷ vs) l (inl z) = absurd (omega arith)
  compare_ends (u ∷ us) (v ∷ vs) l (inr z) = absurd (omega arith)

pub same_judged : (t : List ℕ) (a : ℕ) (u : List ℕ) (b d : ℕ) (r : Compared) → d ≡ depth_in (at t a) → r ≡ compared_across t a u b d
    → r.equal ≡ same_across t a u b
unfolding compared_across same_across
same_judged t a u b d r is-d is-r =
    ap (λ (c : Compared). c.equal) is-r
    ∙ ap (λ (i : ℕ). all_alike (agree_under i (depth_in (at t a)) (depth_in (at u b))) (part t a) (part u b)) is-d
    ∙ all_shared (depth_in (at t a)) (depth_in (at u b)) (part t a) (part u b)

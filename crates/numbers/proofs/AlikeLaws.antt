-- Being alike is an equivalence, so that two nodes are alike just when the first nodes that are alike to them are one.
use mathlib.Core.Path.{◌≡◌, refl, ap, ap₂, sym, ◌∙◌, subst}
use Prim.Native.Nat.{ℕ, ◌+◌, ◌*◌, ◌<◌, ◌≤◌}
use mathlib.Core.Bool.{Bool, true, false, ◌&&◌, true≢false}
use mathlib.Core.List.{List}
use native.Mathlib.Omega.{arith}
use native.Mathlib.Decide.{dec_lt}
use lib.ListN.{length, take, drop, length-map, length-drop}
use lib.Seq.{get_or-take, length-take-le}
use lib.Dec.{eqb}
use borrow.Author.Tests.{eq-eqb, eqb-true}
use Rattle.meaning.proofs.Lists.{T_true, true_T, and_T}
use Rattle.tokens.specs.Token.{depth_in, size_in}
use Rattle.tokens.specs.Key.{at, key_of, part, Inside, same_across, same_at}
use Rattle.tokens.proofs.same.Laws.{alike_keys, keys_alike}
use Rattle.numbers.specs.Alike.{keys_at, level_of_keys, level_at, label_at, alike}
use Rattle.numbers.specs.Numbering.{First, NumberOf, Numbered}

module _ (t : List ℕ) where
  -- The table's test of keys
  pub same_keys_lem : (a b : ℕ) → same_at t a b ≡ true → keys_at t a ≡ keys_at t b
  unfolding same_across
  same_keys_lem a b e = alike_keys (depth_in (at t a)) (depth_in (at t b)) (part t a) (part t b) e

  pub keys_same : (a b : ℕ) → keys_at t a ≡ keys_at t b → same_at t a b ≡ true
  unfolding same_across
  keys_same a b e = keys_alike (depth_in (at t a)) (depth_in (at t b)) (part t a) (part t b) e

  -- Subterms of different sizes have other keys
  pub keys_long : (a b : ℕ) → Inside t a → Inside t b → keys_at t a ≡ keys_at t b → size_in (at t a) ≡ size_in (at t b)
  keys_long a b h g e = sym (long a h) ∙ ap length e ∙ long b g
    where
      long : (a : ℕ) → Inside t a → length (keys_at t a) ≡ size_in (at t a)
      long a h =
          length-map (part t a) (key_of (depth_in (at t a)))
          ∙ length-take-le (size_in (at t a)) (drop a t) (omega (arith, length-drop a t, h.ends))

  pub alike_parts : (a b : ℕ) → alike t a b ≡ true → (label_at t a ≡ label_at t b) × (keys_at t a ≡ keys_at t b)
  unfolding alike
  alike_parts a b e =
      let h = and_T (eqb (label_at t a) (label_at t b)) (same_at t a b) (true_T e) in
      (eqb-true (label_at t a) (label_at t b) (T_true h.0), same_keys_lem a b (T_true h.1))

  pub parts_alike : (a b : ℕ) → label_at t a ≡ label_at t b → keys_at t a ≡ keys_at t b → alike t a b ≡ true
  unfolding alike
  parts_alike a b l k = ap₂ ◌&&◌ (eq-eqb (label_at t a) (label_at t b) l) (keys_same a b k)

  pub alike_self : (a : ℕ) → alike t a a ≡ true
  alike_self a = parts_alike a a refl refl

  pub alike_turned : (a b : ℕ) → alike t a b ≡ true → alike t b a ≡ true
  alike_turned a b e = let h = alike_parts a b e in parts_alike b a (sym h.0) (sym h.1)

  pub alike_chained : (a b c : ℕ) → alike t a b ≡ true → alike t b c ≡ true → alike t a c ≡ true
  alike_chained a b c e f =
      let h = alike_parts a b e in
      let g = alike_parts b c f in
      parts_alike a c (h.0 ∙ g.0) (h.1 ∙ g.1)

  pub alike_level : (a b : ℕ) → alike t a b ≡ true → level_at t a ≡ level_at t b
  unfolding level_at
  alike_level a b e = ap level_of_keys (alike_parts a b e).1

  -- Not before the first of another that is alike
  not_before : (a b r s : ℕ) → alike t a b ≡ true → First t a r → First t b s → r < s → ⊥
  not_before a b r s e f g h = true≢false (sym (alike_chained r a b f.equal e) ∙ g.before r h)

  -- A number is also that of a later node that is alike
  pub number_later : (a b n : ℕ) → a ≤ b → alike t a b ≡ true → NumberOf t a n → NumberOf t b n
  number_later a b n h e x =
      record {
        first = x.first;
        is_first = record {
          up_to = omega (arith, x.is_first.up_to);
          equal = alike_chained x.first a b x.is_first.equal e;
          before = λ i l. unlike i l (alike t i b) refl;
        };
        is = x.is ∙ ap (λ (l : ℕ). x.first + 65536 * l) (alike_level a b e);
      }
    where
      unlike : (i : ℕ) → i < x.first → (c : Bool) → alike t i b ≡ c → alike t i b ≡ false
      unlike i l true q = absurd (true≢false (sym (alike_chained i b a q (alike_turned a b e)) ∙ x.is_first.before i l))
      unlike i l false q = q

  pub number_own : (a : ℕ) → ((i : ℕ) → i < a → alike t i a ≡ false) → NumberOf t a (a + 65536 * level_at t a)
  number_own a h = record { first = a; is_first = record { up_to = omega arith; equal = alike_self a; before = h }; is = refl }

  -- Main theorem: two numbers are the same just when the nodes are alike
  module _ (a b m n : ℕ) (small-a : a < 65536) (small_b : b < 65536) (x : NumberOf t a m) (y : NumberOf t b n) where
    pub numbers_alike : m ≡ n → alike t a b ≡ true
    numbers_alike e =
        let f : x.first ≡ y.first = omega (arith, x.is, y.is, x.is_first.up_to, y.is_first.up_to) in
        alike_chained a x.first b (alike_turned x.first a x.is_first.equal)
        (subst (λ (r : ℕ). alike t r b ≡ true) (sym f) y.is_first.equal)

    pub alike_numbers : alike t a b ≡ true → m ≡ n
    alike_numbers e =
        let f : x.first ≡ y.first = firsts (dec_lt x.first y.first) (dec_lt y.first x.first) in
        x.is ∙ ap₂ (λ (r l : ℕ). r + 65536 * l) f (alike_level a b e) ∙ sym y.is
      where
        firsts : Dec (x.first < y.first) → Dec (y.first < x.first) → x.first ≡ y.first
        firsts (yes h) g = absurd (not_before a b x.first y.first e x.is_first y.is_first h)
        firsts (no h) (yes g) = absurd (not_before b a y.first x.first (alike_turned a b e) y.is_first x.is_first g)
        firsts (no h) (no g) = omega arith

-- Numbers at the front of a longer table
pub numbers_front : (t ns : List ℕ) (n : ℕ) → length t ≤ n → Numbered t ns → Numbered t (take n ns)
numbers_front t ns n h made a l = subst (NumberOf t a) (sym (get_or-take n ns a 0 (omega arith))) (made a l)

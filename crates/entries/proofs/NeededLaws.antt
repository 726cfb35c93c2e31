-- What the search for the metavariables that need a value owes: the law of each return and of each turn of its loop.
--   Needing   the loop's invariant: those in the set and those among the tokens left are all
use mathlib.Core.Path.{◌≡◌, refl, ap, ap₂, sym, ◌∙◌}
use Prim.Native.Nat.{ℕ, zero, suc, ◌+◌, ◌-◌, ◌<◌, ◌≤◌}
use mathlib.Core.Bool.{Bool, true, false, ◌&&◌, ◌||◌, not, or_assoc, or_comm, or-false}
use mathlib.Core.List.{List, [], ◌∷◌}
use native.Mathlib.Omega.{arith}
use native.Mathlib.Numerals.{add-one}
use lib.ListN.{length, drop, drop_of_length-le}
use lib.Seq.{drop-cons, drop-drop}
use lib.Dec.{eqb}
use borrow.Author.Tests.{eq-eqb, ne_eqb}
use Rattle.meaning.specs.Limits.{metavariable_count}
use Rattle.meaning.specs.Basics.{choose, is_in}
use Rattle.meaning.proofs.Lists.{choose_true, choose_false}
use Rattle.tokens.specs.Token.{tag_in, size_in, payload_in}
use Rattle.tokens.specs.Key.{at}
use Rattle.metavariables.specs.Survey.{has, Joined}
use Rattle.metavariables.proofs.BitLaws.{has_none}
use Rattle.entries.specs.Sets.{SetOf}
use Rattle.entries.specs.Needed.{holeless, needed_from, needed_at}

-- A token that is passed, by its tag and number as the code has them
module _ (holed x tag : ℕ) (is-tag : tag ≡ tag_in x) where
  pub holeless_other : (tag ≡ 6 → ⊥) → eqb tag 6 ≡ holeless holed x
  holeless_other n =
      ne_eqb tag 6 n ∙ sym (ap (λ (b : Bool). b && not (has holed (payload_in x))) (ne_eqb (tag_in x) 6 (λ e. n (is-tag ∙ e))))

  pub holeless_function : tag ≡ 6 → (f : ℕ) → f ≡ payload_in x → (found : Bool) → found ≡ has holed f → not found ≡ holeless holed x
  holeless_function e f is_f found is_found =
      ap not (is_found ∙ ap (has holed) is_f)
      ∙ sym (ap (λ (b : Bool). b && not (has holed (payload_in x))) (eq-eqb (tag_in x) 6 (sym is-tag ∙ e)))

module _ (holed : ℕ) where
  -- One token
  module _ (x : ℕ) (xs : List ℕ) where
    needed_passed : holeless holed x ≡ true → needed_from holed 0 (x ∷ xs) ≡ needed_from holed (size_in x - 1) xs
    unfolding needed_from
    needed_passed e = choose_true _ _ e

    needed_own : holeless holed x ≡ false
        → needed_from holed 0 (x ∷ xs) ≡ choose (eqb (tag_in x) 5) (payload_in x ∷ needed_from holed 0 xs) (needed_from holed 0 xs)
    unfolding needed_from
    needed_own e = choose_false _ _ e

  pub needed_skip : (k : ℕ) (xs : List ℕ) → needed_from holed k xs ≡ needed_from holed 0 (drop k xs)
  unfolding needed_from
  needed_skip zero xs = refl
  needed_skip (suc k) [] = refl
  needed_skip (suc k) (x ∷ xs) = needed_skip k xs

  -- What is left of a list
  abbrev left : List ℕ → ℕ → List ℕ
  left ps i = needed_from holed 0 (drop i ps)

  module _ (ps : List ℕ) (i : ℕ) (h : i < length ps) where
    left_passed : holeless holed (at ps i) ≡ true → 1 ≤ size_in (at ps i) → left ps i ≡ left ps (i + size_in (at ps i))
    left_passed e s =
        let n : ℕ = size_in (at ps i) in
        let z : suc i + (n - 1) ≡ i + n = omega arith in
        ap (needed_from holed 0) (drop-cons ps i 0 h)
        ∙ needed_passed (at ps i) (drop (suc i) ps) e
        ∙ needed_skip (n - 1) (drop (suc i) ps)
        ∙ ap (needed_from holed 0) (drop-drop (n - 1) (suc i) ps)
        ∙ ap (left ps) z

    left_own : holeless holed (at ps i) ≡ false → (k : ℕ)
        → is_in k (left ps i) ≡ (eqb (tag_in (at ps i)) 5 && eqb k (payload_in (at ps i))) || is_in k (left ps (i + 1))
    left_own e k =
        ap (λ (xs : List ℕ). is_in k (needed_from holed 0 xs)) (drop-cons ps i 0 h)
        ∙ ap (is_in k) (needed_own (at ps i) (drop (suc i) ps) e)
        ∙ ap (λ (j : ℕ). is_in k (choose (eqb (tag_in (at ps i)) 5) (payload_in (at ps i) ∷ left ps j) (left ps j))) (sym (add-one i))
        ∙ chosen (eqb (tag_in (at ps i)) 5)
      where
        chosen : (b : Bool)
            → is_in k (choose b (payload_in (at ps i) ∷ left ps (i + 1)) (left ps (i + 1)))
            ≡ (b && eqb k (payload_in (at ps i))) || is_in k (left ps (i + 1))
        chosen true = refl
        chosen false = refl

  unfoldable pub Needing : List ℕ → ℕ → ℕ → Type 0
  Needing ps i s = (k : ℕ) → k < metavariable_count → has s k || is_in k (left ps i) ≡ needed_at ps holed k

  module _ (ps : List ℕ) where
    pub needing_begins : Needing ps 0 0
    unfolding Needing needed_at
    needing_begins k l = ap (λ (b : Bool). b || is_in k (needed_from holed 0 ps)) (has_none k)

    module _ (i s : ℕ) (w : Needing ps i s) where
      pub needing_ends : length ps ≤ i → SetOf (needed_at ps holed) s
      unfolding Needing SetOf needed_from
      needing_ends h k l =
          sym (or-false (has s k)) ∙ ap (λ (xs : List ℕ). has s k || is_in k (needed_from holed 0 xs)) (sym (drop_of_length-le ps h)) ∙ w k l

      module _ (h : i < length ps) where
        pub needing_passes : holeless holed (at ps i) ≡ true → 1 ≤ size_in (at ps i) → (n : ℕ) → n ≡ size_in (at ps i) → Needing ps (i + n) s
        unfolding Needing
        needing_passes e c n is-n k l =
            sym (ap (λ (xs : List ℕ). has s k || is_in k xs) (left_passed ps i h e c ∙ ap (λ (j : ℕ). left ps (i + j)) (sym is-n))) ∙ w k l

        pub needing_goes_on : holeless holed (at ps i) ≡ false → (tag load r : ℕ) → tag ≡ tag_in (at ps i) → load ≡ payload_in (at ps i)
            → Joined s (eqb tag 5) load r → Needing ps (i + 1) r
        unfolding Needing Joined
        needing_goes_on e tag load r is-tag is-load j k l =
            let this : Bool = eqb tag 5 && eqb k load in
            let later : Bool = is_in k (left ps (i + 1)) in
            ap (λ (b : Bool). b || later) (j k l ∙ or_comm this (has s k))
            ∙ or_assoc (has s k) this later
            ∙ ap₂ (λ (t n : ℕ). has s k || ((eqb t 5 && eqb k n) || later)) is-tag is-load
            ∙ ap (λ (b : Bool). has s k || b) (sym (left_own ps i h e k))
            ∙ w k l

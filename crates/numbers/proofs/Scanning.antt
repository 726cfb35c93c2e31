-- The loop over the nodes of a subterm that looks for the innermost level: what is still to come, with what is found so far, tells what the
-- whole does.
use mathlib.Core.Path.{◌≡◌, ap, sym, ◌∙◌}
use Prim.Native.Nat.{ℕ, suc, ◌+◌, ◌<◌, ◌≤◌, max}
use mathlib.Core.List.{List, [], ◌∷◌}
use native.Mathlib.Omega.{arith}
use lib.ListN.{length, drop}
use lib.Seq.{drop-cons, drop-length}
use Rattle.tokens.specs.Key.{at, key_of, keys}
use Rattle.numbers.specs.Alike.{level_of_key, level_of_keys}
use Rattle.numbers.proofs.KeyLevels.{levels_few}

module _ (d : ℕ) (xs : List ℕ) where
  pub record Scanning (i level : ℕ) : Type 0 where
    pub up_to : i ≤ length xs
    pub levels : max level (level_of_keys (keys d (drop i xs))) ≡ level_of_keys (keys d xs)

  module _ (i level : ℕ) (s : Scanning i level) where
    pub scan_on : (next : ℕ) → i < length xs → next ≡ max level (level_of_key (key_of d (at xs i))) → Scanning (i + 1) next
    unfolding level_of_keys
    scan_on next h is =
        let j : suc i ≡ i + 1 = omega arith in
        let rest : drop i xs ≡ at xs i ∷ drop (i + 1) xs = drop-cons xs i 0 h ∙ ap (λ (n : ℕ). at xs i ∷ drop n xs) j in
        let l = sym (ap (λ (ys : List ℕ). max level (level_of_keys (keys d ys))) rest) ∙ s.levels in
        record { up_to = omega arith; levels = omega arith }

    -- No level is above d
    pub scan_stops : level ≡ d → d ≡ level_of_keys (keys d xs)
    scan_stops e = omega (arith, s.levels, levels_few d xs)

    pub scan_ends : length xs ≤ i → level ≡ level_of_keys (keys d xs)
    unfolding level_of_keys
    scan_ends h =
        let e : i ≡ length xs = omega (arith, s.up_to) in
        let none : drop i xs ≡ [] = ap (λ (n : ℕ). drop n xs) e ∙ drop-length xs in
        let l = sym (ap (λ (ys : List ℕ). max level (level_of_keys (keys d ys))) none) ∙ s.levels in
        omega arith

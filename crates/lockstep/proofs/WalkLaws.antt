-- The walk of two token tables, one law a case.
use mathlib.Core.Path.{◌≡◌, refl, ap, ◌∙◌}
use mathlib.Core.Bool.{true, false}
use mathlib.Core.List.{List, [], ◌∷◌, append_assoc, append-nil}
use mathlib.Core.Option.{Option, none, some}
use Prim.Native.Nat.{ℕ, zero, suc, ◌+◌, ◌-◌}
use native.Mathlib.Omega.{arith}
use lib.ListN.{drop}
use lib.Dec.{eqb}
use Rattle.meaning.specs.Basics.{join}
use Rattle.tokens.specs.Token.{size_in}
use Rattle.tokens.specs.Key.{key_of}
use Rattle.lockstep.specs.Walk.{Stop, face_code, lockstep}

-- Answers that are lists
pub join_assoc : {A : Type 0} (x y z : Option (List A)) → join (join x y) z ≡ join x (join y z)
join_assoc none y z = refl
join_assoc (some x) none z = refl
join_assoc (some x) (some y) none = refl
join_assoc (some x) (some y) (some z) = ap some (append_assoc x y z)

pub join_nothing : {A : Type 0} (y : Option (List A)) → join (some []) y ≡ y
join_nothing none = refl
join_nothing (some y) = refl

pub join_end : {A : Type 0} (x : Option (List A)) → join x (some []) ≡ x
join_end none = refl
join_end (some x) = ap some (append-nil x)

module _ (stop : Stop) (d e : ℕ) where
  pub lockstep_end : (i j : ℕ) (es : List ℕ) → lockstep stop d e 0 i j [] es ≡ some []
  unfolding lockstep
  lockstep_end i j es = refl

  pub lockstep_out : (i j x : ℕ) (ps : List ℕ) → lockstep stop d e 0 i j (x ∷ ps) [] ≡ none
  unfolding lockstep
  lockstep_out i j x ps = refl

  -- One token of each table
  module _ (i j x y : ℕ) (ps es : List ℕ) where
    pub lockstep_differs : stop i x ≡ false → eqb (key_of d x) (key_of e y) ≡ false → lockstep stop d e 0 i j (x ∷ ps) (y ∷ es) ≡ none
    unfolding lockstep
    lockstep_differs f n = rw (f, n)

    pub lockstep_same : stop i x ≡ false → eqb (key_of d x) (key_of e y) ≡ true
        → lockstep stop d e 0 i j (x ∷ ps) (y ∷ es) ≡ lockstep stop d e 0 (suc i) (suc j) ps es
    unfolding lockstep
    lockstep_same f n = rw (f, n)

    pub lockstep_face : stop i x ≡ true → lockstep stop d e 0 i j (x ∷ ps) (y ∷ es)
        ≡ join (some (face_code i j ∷ [])) (lockstep stop d e (size_in x - 1) (suc i) (j + size_in y) ps (drop (size_in y) (y ∷ es)))
    unfolding lockstep
    lockstep_face f = rw f refl

  pub lockstep_skip : (k i j : ℕ) (ps es : List ℕ) → lockstep stop d e k i j ps es ≡ lockstep stop d e 0 (i + k) j (drop k ps) es
  unfolding lockstep
  lockstep_skip zero i j [] es = refl
  lockstep_skip (suc k) i j [] es = refl
  lockstep_skip zero i j (x ∷ ps) es = let q : i ≡ i + 0 = omega arith in ap (λ (m : ℕ). lockstep stop d e 0 m j (x ∷ ps) es) q
  lockstep_skip (suc k) i j (x ∷ ps) es =
      let q : suc i + k ≡ i + suc k = omega arith in
      lockstep_skip k (suc i) j ps es ∙ ap (λ (m : ℕ). lockstep stop d e 0 m j (drop k ps) es) q

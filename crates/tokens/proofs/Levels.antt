-- The level of a variable is that of the binder it belongs to.
--   Resolved   a variable is free and has level 0, or it is bound by the binder at distance j and has its level
use mathlib.Core.Path.{◌≡◌, refl, ap, ◌∙◌}
use mathlib.Core.Bool.{true, false}
use mathlib.Core.List.{List, [], ◌∷◌}
use Prim.Native.Nat.{ℕ, suc, ◌+◌, ◌<◌}
use native.Mathlib.Omega.{arith}
use lib.ListN.{length}
use lib.Dec.{eqb}
use Rattle.meaning.specs.Term.{symbol, variable, application, binder, own, slot, Named, free, bound, inner}
use Rattle.meaning.specs.Scope.{resolve, enter, nameless_label}
use Rattle.meaning.proofs.Lists.{by_test, choose_true, choose_false}
use Rattle.tokens.specs.Token.{level_of}

-- A variable that is resolved has the level of its binder
pub data Resolved (sc : List ℕ) (i x : ℕ) : Type 0 where
  is_free : resolve sc i x ≡ free x → level_of sc x ≡ 0 → Resolved sc i x
  is_bound : (j : ℕ) → j < length sc → resolve sc i x ≡ bound (i + j) → level_of sc x + j ≡ length sc → Resolved sc i x

pub resolved : (sc : List ℕ) (i x : ℕ) → Resolved sc i x
unfolding level_of
resolved [] i x = is_free refl refl
resolved (y ∷ sc) i x = by_test (eqb x y) here (λ e. later e (resolved sc (suc i) x))
  where
    here : eqb x y ≡ true → Resolved (y ∷ sc) i x
    here e =
        let z : i ≡ i + 0 = omega arith in
        is_bound 0 (omega arith) (choose_true _ _ e ∙ ap bound z) (ap (λ (m : ℕ). m + 0) (choose_true _ _ e) ∙ omega arith)

    later : eqb x y ≡ false → Resolved sc (suc i) x → Resolved (y ∷ sc) i x
    later e (is_free p q) = is_free (choose_false _ _ e ∙ p) (choose_false _ _ e ∙ q)
    later e (is_bound j h p q) =
        let z : suc i + j ≡ i + suc j = omega arith in
        let w : level_of (y ∷ sc) x ≡ level_of sc x = choose_false _ _ e in
        is_bound (suc j) (omega arith) (choose_false _ _ e ∙ p ∙ ap bound z) (omega arith)

-- Below a node: one scope more where it binds, in the table and in the nameless term alike
pub enter_deep : (k d : ℕ) (sc : List ℕ) (l : Named) → length sc ≡ k + d → length (enter l sc) ≡ inner (nameless_label sc l) k + d
enter_deep k d sc (own (symbol n)) h = h
enter_deep k d sc (own (variable x)) h = h
enter_deep k d sc (own (application n)) h = h
enter_deep k d sc (own (binder b x)) h = omega arith
enter_deep k d sc (slot z) h = h

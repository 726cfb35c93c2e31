-- The walk of an argument against what a hole holds: the subexpression lies under more binders than the argument, and uses none of them.
--   root, root'   the scopes around the argument and around the subexpression, which has n binders more
use mathlib.Core.Path.{◌≡◌, refl, ap, sym, ◌∙◌, subst}
use mathlib.Core.List.{List, ◌++◌}
use mathlib.Core.Option.{Option, some}
use Prim.Native.Nat.{ℕ, ◌+◌, ◌-◌, ◌≤◌, ◌<◌}
use native.Mathlib.Nat.{zero-add}
use native.Mathlib.Omega.{arith}
use native.Mathlib.Decide.{dec_lt}
use lib.ListN.{length}
use Rattle.meaning.specs.Term.{Forest, nil, cons, one, size, trees, symbol, variable, application, binder, own, slot, Named, NamedTerm}
use Rattle.meaning.specs.Term.{Nameless, Variable, free, bound, Terms, Term, inner}
use Rattle.meaning.specs.Scope.{nameless, nameless_term}
use Rattle.meaning.specs.Shift.{raise, shift_label, shift, shift_term, ClosedVariable, ClosedLabel, Closed}
use Rattle.meaning.specs.Lower.{lower_term}
use Rattle.meaning.specs.Equal.{outside, see}
use Rattle.meaning.specs.Face.{walk}
use Rattle.meaning.specs.Read.{Context}
use Rattle.meaning.specs.Readable.{Readable}
use Rattle.meaning.proofs.Lowered.{relabel_twice, see_low, see_high}
use Rattle.meaning.proofs.ShiftLaws.{raise_low, raise_high, inner_with, shift_lower_term}
use Rattle.meaning.proofs.ViewLaws.{inner_plus, nameless_closed}
use Rattle.tokens.specs.Token.{tokens}
use Rattle.tokens.specs.Key.{level_from, Held}
use Rattle.tokens.proofs.Codes.{view_from}
use Rattle.tokens.proofs.ProblemTokens.{Room}
use Rattle.lockstep.specs.Walk.{lockstep, at_slots}
use Rattle.lockstep.specs.Recorded.{RecordedBy, Both}
use Rattle.lockstep.proofs.WalkTrees.{seen_walk, flat_trees}
use Rattle.lockstep.proofs.SlotWalk.{seen_slots, tells_slots, Looks, Deep, seen_both}

-- A term under n binders more is seen as it was: its outer binders keep their levels
module _ (root root' : List ℕ) (n : ℕ) (deeper : length root' ≡ n + length root) where
  see_raised : (k : ℕ) (v : Variable) → see (level_from root') k (raise n k v) ≡ see (level_from root) k v
  see_raised k (free x) = refl
  see_raised k (bound i) = go (dec_lt i k)
    where
      go : Dec (i < k) → see (level_from root') k (raise n k (bound i)) ≡ see (level_from root) k (bound i)
      go (yes h) = ap (see (level_from root') k) (raise_low n k i h) ∙ see_low (level_from root') k i h ∙ sym (see_low (level_from root) k i h)
      go (no h) =
          let e : level_from root' (i + n - k) ≡ level_from root (i - k) = omega arith in
          ap (see (level_from root') k) (raise_high n k i (omega arith)) ∙ see_high (level_from root') k (i + n) (omega arith)
          ∙ ap outside e ∙ sym (see_high (level_from root) k i (omega arith))

  lowered_seen : (t a : Term) → lower_term n t ≡ some a → view_from root' 0 (one t) ≡ view_from root 0 (one a)
  lowered_seen t a e =
      ap (λ (x : Term). view_from root' 0 (one x)) (sym (shift_lower_term n t a e))
      ∙ relabel_twice (raise n) (see (level_from root')) (see (level_from root)) see_raised 0 (one a)

-- Without these binders it stays within its scope
module _ (n d : ℕ) where
  raise_within : (k : ℕ) (v : Variable) → ClosedVariable (k + (n + d)) (raise n k v) → ClosedVariable (k + d) v
  raise_within k (free x) h = tt
  raise_within k (bound i) h = go (dec_lt i k)
    where
      go : Dec (i < k) → i < k + d
      go (yes g) = omega arith
      go (no g) =
          let w : i + n < k + (n + d) = subst (ClosedVariable (k + (n + d))) (raise_high n k i (omega arith)) h in
          omega arith

  label_within : (k : ℕ) (l : Nameless) → ClosedLabel (k + (n + d)) (shift_label n k l) → ClosedLabel (k + d) l
  label_within k (own (symbol m)) h = tt
  label_within k (own (variable v)) h = raise_within k v h
  label_within k (own (application m)) h = tt
  label_within k (own (binder b x)) h = tt
  label_within k (slot z) h = tt

  shift_within : (k : ℕ) (u : Terms) → Closed (k + (n + d)) (shift n k u) → Closed (k + d) u
  shift_within k nil h = tt
  shift_within k (cons l c s) h =
      let e : inner (shift_label n k l) (k + (n + d)) ≡ inner l k + (n + d) =
      inner_with (raise n k) (k + (n + d)) l ∙ inner_plus (n + d) k l in
      let below : Closed (inner l k + d) c = shift_within (inner l k) c (subst (λ (m : ℕ). Closed m (shift n (inner l k) c)) e h.1) in
      (label_within k l h.0, subst (λ (m : ℕ). Closed m c) (sym (inner_plus d k l)) below, shift_within k s h.2)

lowered_within : (n d : ℕ) (t a : Term) → lower_term n t ≡ some a → Closed (n + d) (one t) → Closed (0 + d) (one a)
lowered_within n d t a e h =
    shift_within n d 0 (one a)
    (subst (λ (m : ℕ). Closed m (one (shift_term n a))) (sym (zero-add (n + d)))
    (subst (λ (x : Term). Closed (n + d) (one x)) (sym (shift_lower_term n t a e)) h))

-- THE THEOREM: the argument's tokens against those of what the hole holds. k is the number of binders that the walk counts from
module _ (root root' : List ℕ) (n : ℕ) (deeper : length root' ≡ n + length root) (c : Forest Named) (v : NamedTerm) (u : Term)
    (lowers : lower_term n (nameless_term root' v) ≡ some u) where
  pub lowered_walk : (levels levels' : ℕ) (ctx ctx' : Context) → Readable levels ctx c → Room levels root c → trees c ≡ 1
      → Held levels' ctx' root' v
      → (p e : ℕ → Option Term) (d : ℕ → ℕ) (k i j : ℕ) (es : List ℕ) → Looks p i (nameless root c) → Looks e j (one u)
      → Deep d i k (nameless root c)
      → i + size (nameless root c) ≤ 65536
      → Both (RecordedBy p e d) (lockstep at_slots (length root) (length root') 0 i j (tokens root c) (tokens root' (one v) ++ es))
      (walk k j (nameless root c) (one u))
  lowered_walk levels levels' ctx ctx' r m single held p e d k i j es lp le dp few =
      subst (λ (o : Option (List ℕ)). Both (RecordedBy p e d) o (walk k j (nameless root c) (one u))) (sym same)
      (seen_both p e d root k 0 i j (nameless root c) (one u)
      (subst (λ (a : ℕ). Closed a (nameless root c)) (sym (zero-add (length root))) (nameless_closed root c))
      (lowered_within n (length root) (nameless_term root' v) u lowers
      (subst (λ (a : ℕ). Closed a (one (nameless_term root' v))) deeper (nameless_closed root' (one v)))) lp le dp few)
    where
      room : Room levels' root' (one v)
      room = record { depths = held.depths; sizes = held.sizes }

      same : lockstep at_slots (length root) (length root') 0 i j (tokens root c) (tokens root' (one v) ++ es)
          ≡ seen_walk seen_slots i j (view_from root 0 (nameless root c)) (view_from root 0 (one u))
      same =
          flat_trees at_slots seen_slots root root' (tells_slots root) i j levels levels' ctx ctx' c (one v) es r
          held.readable m room single
          ∙ ap (seen_walk seen_slots i j (view_from root 0 (nameless root c)))
          (lowered_seen root root' n deeper (nameless_term root' v) u lowers)

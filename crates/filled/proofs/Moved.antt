-- A term moved under more binders: it stays within its scope, it is seen as it was, and filled with closed values it can be moved before or
-- after.
use mathlib.Core.Path.{◌≡◌, refl, ap, sym, ◌∙◌, subst}
use mathlib.Core.Bool.{false}
use mathlib.Core.List.{List, []}
use Prim.Native.Nat.{ℕ, suc, ◌+◌, ◌<◌}
use native.Mathlib.Omega.{arith}
use native.Mathlib.Decide.{dec_lt}
use lib.ListN.{length, replicate, length-replicate}
use Rattle.meaning.specs.Term.{nil, cons, graft, one, size, Own, symbol, variable, application, binder, own, slot, metavariable, function}
use Rattle.meaning.specs.Term.{hole, Slot, Variable, free, bound, Nameless, Terms, Term, inner}
use Rattle.meaning.specs.Shift.{raise, shift_label, shift, shift_term, ClosedVariable, ClosedLabel, Closed, ClosedTerm}
use Rattle.meaning.specs.Filling.{Handler, fill_label, fill, Entry, absent, left_open, value, body, Filling, value_or, fill_handler}
use Rattle.meaning.specs.Equal.{view}
use Rattle.meaning.specs.Choice.{owner_of, uses_face}
use Rattle.meaning.proofs.Lowered.{view_shift, view_shift_unbound}
use Rattle.meaning.proofs.Lists.{never}
use Rattle.meaning.proofs.Proper.{ArgumentLabel, IsArgument, relabel_nil}
use Rattle.meaning.proofs.Punching.{graft_eq}
use Rattle.meaning.proofs.Nodes.{closed_more}
use Rattle.meaning.proofs.Renaming.{cons_eq, one_injective}
use Rattle.meaning.proofs.ShiftLaws.{raise_low, raise_high, inner_with, relabel_size, shift_closed}
use Rattle.meaning.proofs.ViewLaws.{inner_plus}
use Rattle.tokens.proofs.Codes.{view_from}
use Rattle.tokens.proofs.Owners.{equal_levels}
use Rattle.lockstep.proofs.SlotWalk.{Deep}

-- Moved by n binders, a term within d binders is within n + d
module _ (n d : ℕ) where
  raise_stays : (k : ℕ) (v : Variable) → ClosedVariable (k + d) v → ClosedVariable (k + (n + d)) (raise n k v)
  raise_stays k (free x) h = tt
  raise_stays k (bound i) h = go (dec_lt i k)
    where
      go : Dec (i < k) → ClosedVariable (k + (n + d)) (raise n k (bound i))
      go (yes g) = subst (ClosedVariable (k + (n + d))) (sym (raise_low n k i g)) (omega arith)
      go (no g) = subst (ClosedVariable (k + (n + d))) (sym (raise_high n k i (omega arith))) (omega arith)

  label_stays : (k : ℕ) (l : Nameless) → ClosedLabel (k + d) l → ClosedLabel (k + (n + d)) (shift_label n k l)
  label_stays k (own (symbol m)) h = tt
  label_stays k (own (variable v)) h = raise_stays k v h
  label_stays k (own (application m)) h = tt
  label_stays k (own (binder b x)) h = tt
  label_stays k (slot z) h = tt

  shift_stays : (k : ℕ) (u : Terms) → Closed (k + d) u → Closed (k + (n + d)) (shift n k u)
  shift_stays k nil h = tt
  shift_stays k (cons l c s) h =
      let e : inner (shift_label n k l) (k + (n + d)) ≡ inner l k + (n + d) =
      inner_with (raise n k) (k + (n + d)) l ∙ inner_plus (n + d) k l in (
        label_stays k l h.0,
        subst (λ (m : ℕ). Closed m (shift n (inner l k) c)) (sym e)
            (shift_stays (inner l k) c (subst (λ (m : ℕ). Closed m c) (inner_plus d k l) h.1)),
        shift_stays k s h.2,
      )

-- A scope of n binders more
module _ (root root' : List ℕ) (n : ℕ) (deeper : length root' ≡ n + length root) (a : Term) (within : Closed (length root) (one a)) where
  pub moved_within : Closed (length root') (one (shift_term n a))
  moved_within =
      let e : 0 + (n + length root) ≡ length root' = omega arith in
      let z : length root ≡ 0 + length root = omega arith in
      subst (λ (m : ℕ). Closed m (one (shift_term n a))) e
      (shift_stays n (length root) 0 (one a) (subst (λ (m : ℕ). Closed m (one a)) z within))

  -- The binders above the term, of which only their number counts
  above : List ℕ
  above = replicate n 0

  pub moved_seen : view_from root 0 (one a) ≡ view_from root' 0 (one (shift_term n a))
  unfolding above
  moved_seen =
      let many : length above ≡ n = length-replicate n 0 in
      sym ((equal_levels (length root) root' above root [] (shift_term n a) a (omega arith) (omega arith) moved_within within
      (subst (λ (m : ℕ). uses_face (view (owner_of above) (one (shift_term m a))) ≡ false) many (view_shift_unbound above a))
      ).0 (subst (λ (m : ℕ). view (owner_of above) (one (shift_term m a)) ≡ view (owner_of []) (one a)) many (view_shift above a)))

-- The number of binders above each node stays
pub moved_deep : (d : ℕ → ℕ) (n m i k : ℕ) (u : Terms) → Deep d i k u → Deep d i k (shift n m u)
moved_deep d n m i k nil h = tt
moved_deep d n m i k (cons l c s) h = (
  h.0,
  subst (λ (j : ℕ). Deep d (suc i) j (shift n (inner l m) c)) (sym (inner_with (raise n m) k l))
      (moved_deep d n (inner l m) (suc i) (inner l k) c h.1),
  subst (λ (j : ℕ). Deep d (suc i + j) k (shift n m s)) (sym (relabel_size inner (shift_label n) (inner l m) c))
      (moved_deep d n m (suc i + size c) k s h.2),
)

-- A slot stays that slot, and an argument an argument
pub moved_slot : (n k : ℕ) (l : Nameless) (z : Slot) → shift_label n k l ≡ slot z → l ≡ slot z
moved_slot n k (own (symbol m)) z e = never (cc)
moved_slot n k (own (variable v)) z e = never (cc)
moved_slot n k (own (application m)) z e = never (cc)
moved_slot n k (own (binder b x)) z e = never (cc)
moved_slot n k (slot y) z e = e

pub moved_argument : (n m : ℕ) (u : Terms) → IsArgument u → IsArgument (shift n m u)
moved_argument n m nil h = tt
moved_argument n m (cons l c s) h =
    (label l c (inner l m) h.0, moved_argument n (inner l m) c h.1, moved_argument n m s h.2)
  where
    label : (l : Nameless) (c : Terms) (k : ℕ) → ArgumentLabel l c → ArgumentLabel (shift_label n m l) (shift n k c)
    label (own (symbol a)) c k g = tt
    label (own (variable v)) c k g = tt
    label (own (application a)) c k g = tt
    label (own (binder b x)) c k g = tt
    label (slot (metavariable a)) c k g = relabel_nil inner (shift_label n) k c g
    label (slot (function f a)) c k g = absurd g
    label (slot (hole i)) c k g = absurd g

-- A filling whose values are closed
abbrev pub ClosedValues : Filling → Type 0
ClosedValues σ = (m : ℕ) (t : Term) → σ m ≡ value t → ClosedTerm t

-- What stands for a metavariable is not changed
value_still : (n k m : ℕ) (e : Entry Term) → ((t : Term) → e ≡ value t → ClosedTerm t) → shift n k (one (value_or m e)) ≡ one (value_or m e)
value_still n k m absent h = refl
value_still n k m left_open h = refl
value_still n k m (value t) h = shift_closed n k (one t) (closed_more 0 k (one t) (omega arith) (h t refl))
value_still n k m (body t) h = refl

own_moved : (h : Handler) (n m k : ℕ) (o : Own Variable (Unit {0})) (c : Terms)
    → fill_label h k (shift_label n m (own o)) c ≡ (shift_label n m (own o), c)
own_moved h n m k (symbol a) c = refl
own_moved h n m k (variable v) c = refl
own_moved h n m k (application a) c = refl
own_moved h n m k (binder b x) c = refl

pub moved_filled : (σ : Filling) → ClosedValues σ → (n m k : ℕ) (u : Terms) → IsArgument u
    → shift n m (fill (fill_handler σ) k u) ≡ fill (fill_handler σ) k (shift n m u)
moved_filled σ closed n m k nil h = refl
moved_filled σ closed n m k (cons (own o) c s) h =
    let f : Handler = fill_handler σ in
    cons_eq refl
    (moved_filled σ closed n (inner (own o) m) (inner (own o) k) c h.1
    ∙ ap (λ (j : ℕ). fill f j (shift n (inner (own o) m) c)) (sym (inner_with (raise n m) k (own o))))
    (moved_filled σ closed n m k s h.2)
    ∙ ap (λ (t : Term). graft t (fill f k (shift n m s)))
    (sym (own_moved f n m k o (fill f (inner (shift_label n m (own o)) k) (shift n (inner (own o) m) c))))
moved_filled σ closed n m k (cons (slot (metavariable x)) c s) h =
    let t : Term = value_or x (σ x) in
    graft_eq (one_injective (shift_label n m t.0, shift n (inner t.0 m) t.1) t (value_still n m x (σ x) (closed x)))
    (moved_filled σ closed n m k s h.2)
moved_filled σ closed n m k (cons (slot (function f a)) c s) h = absurd h.0
moved_filled σ closed n m k (cons (slot (hole i)) c s) h = absurd h.0

-- A metavariable that stands only in arguments of functions without a hole may be given anything, or nothing.
use mathlib.Core.Path.{◌≡◌, refl, ap, ap₂, ◌∙◌, subst}
use mathlib.Core.Bool.{true, ◌||◌}
use mathlib.Core.Logic.{⊎_elim}
use mathlib.Core.List.Memᴰ
use Prim.Native.Nat.{ℕ, zero, suc, ◌+◌, ◌<◌}
use native.Mathlib.Omega.{arith}
use lib.Dec.{eqb}
use Rattle.meaning.specs.Basics.{◌∈◌}
use Rattle.meaning.specs.Term.{Slot, Term, Terms, cons, function, hole, inner, metavariable, nil, one, own, slot, trees}
use Rattle.meaning.specs.Shift.{shift_term}
use Rattle.meaning.specs.Problem.{Standing, Where, alone, applied, argument_of, in_arguments, plain, standings}
use Rattle.meaning.specs.Filling.{Entry, Filling, argument, body_or, fill, fill_handler, plug, plug_handler, value_or}
use Rattle.meaning.specs.Solution.{has_hole, needs}
use Rattle.meaning.proofs.Lists.{eqb_self, never, or_left, or_right}
use Rattle.meaning.proofs.ShiftLaws.{pair_eq}
use Rattle.meaning.proofs.Punching.{graft_eq}
use Rattle.meaning.proofs.Proper.{IsArgument, IsPattern}
use Rattle.meaning.proofs.Slots.{arguments_in, pattern_slot, slot_applied, slot_standing, slots}

-- A body with other arguments, where none that has a hole differs
module _ (a a' : ℕ → Term) where
  holes_plugged : (k : ℕ) (u : Terms) → ((i : ℕ) → has_hole i u ≡ true → a' i ≡ a i) → fill (plug_handler a') k u ≡ fill (plug_handler a) k u
  holes_plugged k nil h = refl
  holes_plugged k (cons (own o) c s) h =
      ap₂ (cons (own o)) (holes_plugged (inner (own o) k) c (λ i q. h i (or_left (has_hole i c) (has_hole i s) q)))
      (holes_plugged k s (λ i q. h i (or_right (has_hole i c) (has_hole i s) q)))
  holes_plugged k (cons (slot (metavariable m)) c s) h =
      ap₂ (cons (slot (metavariable m))) (holes_plugged k c (λ i q. h i (or_left (has_hole i c) (has_hole i s) q)))
      (holes_plugged k s (λ i q. h i (or_right (has_hole i c) (has_hole i s) q)))
  holes_plugged k (cons (slot (function f n)) c s) h =
      ap₂ (cons (slot (function f n))) (holes_plugged k c (λ i q. h i (or_left (has_hole i c) (has_hole i s) q)))
      (holes_plugged k s (λ i q. h i (or_right (has_hole i c) (has_hole i s) q)))
  holes_plugged k (cons (slot (hole j)) c s) h =
      graft_eq (ap (shift_term k) (h j (or_left (eqb j j) (has_hole j c || has_hole j s) (eqb_self j))))
      (holes_plugged k s (λ i q. h i (or_right (eqb i j) (has_hole i c || has_hole i s) (or_right (has_hole i c) (has_hole i s) q))))

  holes_plugged_term : (b : Term) → ((i : ℕ) → has_hole i (one b) ≡ true → a' i ≡ a i) → plug a' b ≡ plug a b
  holes_plugged_term b h = let e = holes_plugged 0 (one b) h in pair_eq (cc) (cc)

-- A pattern has no hole
holeless : (u : Terms) → IsPattern u → (i : ℕ) (d : Terms) → (hole i, d) ∈ slots u → ⊥
holeless nil h i d q = Memᴰ.not-nil q
holeless (cons (own o) c s) h i d q = ⊎_elim (holeless c h.1 i d) (holeless s h.2 i d) (Memᴰ.append_cases (slots c) q)
holeless (cons (slot (metavariable m)) c s) h i d q =
    ⊎_elim (λ (e : ◌≡◌ {A = Slot × Terms} (hole i, d) (metavariable m, c)).
    let v : hole i ≡ metavariable m = ap (λ (y : Slot × Terms). y.0) e in never (cc))
    (holeless s h.2 i d) (Memᴰ.cases_cons q)
holeless (cons (slot (function f n)) c s) h i d q =
    ⊎_elim (λ (e : ◌≡◌ {A = Slot × Terms} (hole i, d) (function f n, c)).
    let v : hole i ≡ function f n = ap (λ (y : Slot × Terms). y.0) e in never (cc))
    (holeless s h.2 i d) (Memᴰ.cases_cons q)
holeless (cons (slot (hole j)) c s) h i d q = h.0

module _ (σ τ : Filling) where
  -- Arguments
  argument_same : (k : ℕ) (u : Terms) → IsArgument u → ((m : ℕ) → m ∈ plain u → τ m ≡ σ m) → fill (fill_handler τ) k u ≡ fill (fill_handler σ) k u
  argument_same k nil h f = refl
  argument_same k (cons (own o) c s) h f =
      ap₂ (cons (own o)) (argument_same (inner (own o) k) c h.1 (λ m q. f m (Memᴰ.append_left (plain s) q)))
      (argument_same k s h.2 (λ m q. f m (Memᴰ.append_right (plain c) q)))
  argument_same k (cons (slot (metavariable n)) c s) h f =
      graft_eq (ap (value_or n) (f n (Memᴰ.head refl))) (argument_same k s h.2 (λ m q. f m (Memᴰ.tail q)))
  argument_same k (cons (slot (function g n)) c s) h f = absurd h.0
  argument_same k (cons (slot (hole i)) c s) h f = absurd h.0

  one_argument : (k : ℕ) (c : Terms) (i : ℕ) → IsArgument c → (i < trees c → (m : ℕ) → m ∈ plain (one (argument c i)) → τ m ≡ σ m)
      → argument (fill (fill_handler τ) k c) i ≡ argument (fill (fill_handler σ) k c) i
  one_argument k nil i h f = refl
  one_argument k (cons l c s) zero h f =
      let e = argument_same k (one (l, c)) (h.0, h.1, tt) (f (omega arith)) in pair_eq (cc) (cc)
  one_argument k (cons l c s) (suc i) h f = one_argument k s i h.2 (λ q. f (omega arith))

  -- Slots
  abbrev SameAt : Slot → Terms → Type 0
  SameAt z c = (k : ℕ) → fill_handler τ k z (fill (fill_handler τ) k c) ≡ fill_handler σ k z (fill (fill_handler σ) k c)

  slots_same : (k : ℕ) (u : Terms) → ((z : Slot) (c : Terms) → (z, c) ∈ slots u → SameAt z c)
      → fill (fill_handler τ) k u ≡ fill (fill_handler σ) k u
  slots_same k nil h = refl
  slots_same k (cons (own o) c s) h =
      ap₂ (cons (own o)) (slots_same (inner (own o) k) c (λ z d q. h z d (Memᴰ.append_left (slots s) q)))
      (slots_same k s (λ z d q. h z d (Memᴰ.append_right (slots c) q)))
  slots_same k (cons (slot y) c s) h =
      graft_eq (h y c (Memᴰ.head refl) k) (slots_same k s (λ z d q. h z d (Memᴰ.tail q)))

  -- TWO FILLINGS THAT AGREE WHERE A VALUE IS NEEDED FILL ALIKE
  pub needed_same : (u : Terms) → IsPattern u → ((f : ℕ) → f ∈ applied u → τ f ≡ σ f)
      → ((m : ℕ) (w : Where) → (m, w) ∈ standings u → needs σ w ≡ true → τ m ≡ σ m)
      → (k : ℕ) → fill (fill_handler τ) k u ≡ fill (fill_handler σ) k u
  needed_same u h bodies values k = slots_same k u at
    where
      at : (z : Slot) (c : Terms) → (z, c) ∈ slots u → SameAt z c
      at (metavariable m) c q j = ap (value_or m) (values m alone (slot_standing u (metavariable m) c (m, alone) q (Memᴰ.head refl)) refl)
      at (function f n) c q j =
          ap (λ (e : Entry Term). plug (argument (fill (fill_handler τ) j c)) (body_or f e)) (bodies f (slot_applied u f n c q))
          ∙ holes_plugged_term (argument (fill (fill_handler σ) j c)) (argument (fill (fill_handler τ) j c)) (body_or f (σ f))
          (λ i e. one_argument j c i (pattern_slot u h f n c q).1
          (λ l m p. values m (argument_of f i) (slot_standing u (function f n) c (m, argument_of f i) q
          (let z : 0 + i ≡ i = omega arith in
          subst (λ (y : ℕ). ◌∈◌ {A = Standing} (m, argument_of f y) (in_arguments f 0 c)) z (arguments_in f 0 i m c l p))) e))
      at (hole i) c q j = absurd (holeless u h i c q)

-- What a filled pattern does not show does not matter.
--   Clean x   a label of an expression, and not symbol x
--   Loud x    what is given to a metavariable shows wherever that is filled: as a slot that stays, or as symbol x
-- Two fillings that agree except where the first is loud fill a pattern alike, if the first fills it cleanly: `unseen`. It serves both
-- ways: from a potential solution, whose gaps stay as slots, to its extensions, and from its extension by a fresh symbol back to it.
use mathlib.Core.Path.{◌≡◌, refl, ap, ap₂, ◌∙◌}
use mathlib.Core.Logic.{◌⊎◌, inl, inr}
use Prim.Native.Nat.{ℕ, zero, suc}
use Rattle.meaning.specs.Term.{Nameless, Term, Terms, cons, function, hole, inner, metavariable, nil, one}
use Rattle.meaning.specs.Term.{own, OwnLabel, slot, symbol}
use Rattle.meaning.specs.Shift.{shift, shift_label, shift_term}
use Rattle.meaning.specs.Filling.{Entry, Filling, absent, argument, body, body_or, fill, fill_handler, fill_label, plug, plug_handler, value}
use Rattle.meaning.specs.Filling.{value_or}
use Rattle.meaning.proofs.ShiftLaws.{pair_eq}
use Rattle.meaning.proofs.Punching.{graft_eq}

abbrev pub Clean : ℕ → Nameless → Type 0
Clean x l = OwnLabel l × (l ≡ own (symbol x) → ⊥)

abbrev pub AllClean : ℕ → Terms → Type 0
AllClean x nil = Unit {0}
AllClean x (cons l c s) = Clean x l × AllClean x c × AllClean x s

abbrev pub fresh : ℕ → Term
fresh x = (own (symbol x), nil)

abbrev pub Loud : ℕ → ℕ → Entry Term → Type 0
Loud x m e = (Clean x (value_or m e).0 → ⊥) × ((a : ℕ → Term) → Clean x (plug a (body_or m e)).0 → ⊥)

pub loud_absent : (x m : ℕ) → Loud x m absent
loud_absent x m = (λ q. q.0, λ a q. q.0)

pub loud_value : (x m : ℕ) → Loud x m (value (fresh x))
loud_value x m = (λ q. q.1 refl, λ a q. q.0)

pub loud_body : (x m : ℕ) → Loud x m (body (fresh x))
loud_body x m = (λ q. q.0, λ a q. q.1 refl)

module _ (x : ℕ) where
  label_unshifted : (n k : ℕ) (l : Nameless) → Clean x (shift_label n k l) → Clean x l
  label_unshifted n k (own o) q = (tt, λ e. q.1 (ap (shift_label n k) e))
  label_unshifted n k (slot z) q = absurd q.0

  unshifted : (n k : ℕ) (u : Terms) → AllClean x (shift n k u) → AllClean x u
  unshifted n k nil q = tt
  unshifted n k (cons l c s) q = (label_unshifted n k l q.0, unshifted n (inner l k) c q.1, unshifted n k s q.2)

  term_unshifted : (n : ℕ) (t : Term) → AllClean x (one (shift_term n t)) → AllClean x (one t)
  term_unshifted n t q = (label_unshifted n 0 t.0 q.0, unshifted n (inner t.0 0) t.1 q.1, tt)

  -- A body with other arguments, where none that is clean differs
  module _ (a a' : ℕ → Term) (same : (i : ℕ) → AllClean x (one (a i)) → a' i ≡ a i) where
    plugged : (k : ℕ) (u : Terms) → AllClean x (fill (plug_handler a) k u) → fill (plug_handler a') k u ≡ fill (plug_handler a) k u
    plugged k nil q = refl
    plugged k (cons (own o) c s) q = ap₂ (cons (own o)) (plugged (inner (own o) k) c q.1) (plugged k s q.2)
    plugged k (cons (slot (metavariable m)) c s) q = absurd q.0.0
    plugged k (cons (slot (function f n)) c s) q = absurd q.0.0
    plugged k (cons (slot (hole i)) c s) q =
        graft_eq (ap (shift_term k) (same i (term_unshifted k (a i) (q.0, q.1, tt)))) (plugged k s q.2)

    pub plugged_term : (b : Term) → AllClean x (one (plug a b)) → plug a' b ≡ plug a b
    plugged_term b q = let e = plugged 0 (one b) q in pair_eq (cc) (cc)

  -- A pattern with another filling
  module _ (σ τ : Filling) (agree : (m : ℕ) → (τ m ≡ σ m) ⊎ Loud x m (σ m)) where
    abbrev Whole : ℕ → Terms → Type 0
    Whole k u = AllClean x (fill (fill_handler σ) k u) → fill (fill_handler τ) k u ≡ fill (fill_handler σ) k u

    abbrev EachTree : ℕ → Terms → Type 0
    EachTree k u = (i : ℕ) → AllClean x (one (argument (fill (fill_handler σ) k u) i))
        → argument (fill (fill_handler τ) k u) i ≡ argument (fill (fill_handler σ) k u) i

    abbrev tree : Filling → ℕ → Nameless → Terms → Term
    tree π k l c = fill_label (fill_handler π) k l (fill (fill_handler π) (inner l k) c)

    abbrev Here : ℕ → Nameless → Terms → Type 0
    Here k l c = AllClean x (one (tree σ k l c)) → tree τ k l c ≡ tree σ k l c

    node : (k : ℕ) (l : Nameless) (c : Terms) → Whole (inner l k) c → EachTree (inner l k) c → Here k l c
    node k (own o) c whole each q = pair_eq refl (whole q.1)
    node k (slot (metavariable m)) c whole each q = go (agree m)
      where
        go : (τ m ≡ σ m) ⊎ Loud x m (σ m) → value_or m (τ m) ≡ value_or m (σ m)
        go (inl e) = ap (value_or m) e
        go (inr l) = absurd (l.0 q.0)
    node k (slot (function f n)) c whole each q = go (agree f)
      where
        args : Filling → ℕ → Term
        args π = argument (fill (fill_handler π) k c)

        go : (τ f ≡ σ f) ⊎ Loud x f (σ f) → plug (args τ) (body_or f (τ f)) ≡ plug (args σ) (body_or f (σ f))
        go (inl e) = ap (λ (y : Entry Term). plug (args τ) (body_or f y)) e ∙ plugged_term (args σ) (args τ) each (body_or f (σ f)) q
        go (inr l) = absurd (l.1 (args σ) q.0)
    node k (slot (hole i)) c whole each q = absurd q.0.0

    each_tree : (k : ℕ) (l : Nameless) (c s : Terms) → Here k l c → EachTree k s → EachTree k (cons l c s)
    each_tree k l c s here later zero q = here q
    each_tree k l c s here later (suc i) q = later i q

    both : (k : ℕ) (u : Terms) → Whole k u × EachTree k u
    both k nil = (λ q. refl, λ i q. refl)
    both k (cons l c s) =
        let (whole, each) = both (inner l k) c in
        let (rest, later) = both k s in
        let here : Here k l c = node k l c whole each in
        (λ q. graft_eq (here (q.0, q.1, tt)) (rest q.2), each_tree k l c s here later)

    -- THE LEMMA
    pub unseen : (k : ℕ) (u : Terms) → AllClean x (fill (fill_handler σ) k u) → fill (fill_handler τ) k u ≡ fill (fill_handler σ) k u
    unseen k u = (both k u).0

-- Bound names can always be so chosen that nothing is caught.
--   Misses      a name is none of the names of k binders
--   spelled     what each metavariable is given, with names
-- The patterns' binders are called N, N + 2, N + 4, .., above all free names of the patterns and of what is put into them. Those of
-- what a metavariable is given are odd steps above N, so that none of a body is one of the patterns.
use mathlib.Core.Path.{◌≡◌, refl, ap, ap₂, sym, ◌∙◌, fun_ext}
use Prim.Native.Nat.{ℕ, zero, suc, ◌+◌, ◌-◌, ◌*◌, ◌<◌, ◌≤◌}
use mathlib.Core.Bool.{true, false, ◌||◌, true≢false}
use mathlib.Core.List.{[]}
use native.Mathlib.Omega.{arith}
use native.Mathlib.Decide.{dec_lt}
use lib.Dec.{eqb}
use Rattle.meaning.specs.Basics.{choose, All}
use Rattle.meaning.specs.Term.{Forest, nil, cons, graft, one, symbol, variable, application, binder, own, slot, Slot, metavariable}
use Rattle.meaning.specs.Term.{function, hole, Named, free, bound, Nameless, NamedTerm, Terms, Term, inner}
use Rattle.meaning.specs.Scope.{nameless, nameless_term}
use Rattle.meaning.specs.Shift.{ClosedLabel, Closed}
use Rattle.meaning.specs.Rename.{binds, Alpha}
use Rattle.meaning.specs.Filling.{argument, Entry, absent, left_open, value, body, Filling, value_or, body_or}
use Rattle.meaning.specs.Text.{meant}
use Rattle.meaning.specs.Textual.{is_variable, is_free, put_term, put, in_holes, NamedFilling, textual, Condition, AtSlots, hole_uncaught}
use Rattle.meaning.specs.Textual.{UncaughtIn, slot_uncaught, Uncaught, ClosedEntry, meant_by, Spelling, AlphaEntry, both_absent}
use Rattle.meaning.specs.Textual.{both_open, values, bodies, Respelling}
use Rattle.meaning.proofs.Lists.{or-false, eqb_self, eqb_other, by_test, choose_true, choose_false}
use Rattle.meaning.proofs.Renaming.{nameless_alpha}
use Rattle.meaning.proofs.ViewLaws.{nameless_closed}
use Rattle.meaning.proofs.Spelling.{name, spell_own, spell_label, spell, spell_term, spell_entry, levels, free_slot, free_label, ceiling}
use Rattle.meaning.proofs.Spelling.{own_ceiling, entry_ceiling, enter_levels, spell_means, entry_means}

-- A name that is not free in the parts of a forest is not free in it, and back
free_node : (y : ℕ) (l : Named) (c s : Forest Named) → is_variable y l ≡ false → (binds y l ≡ false → is_free y c ≡ false)
    → is_free y s ≡ false → is_free y (cons l c s) ≡ false
free_node y l c s p q r = ap₂ ◌||◌ p (ap₂ ◌||◌ (by_test (binds y l) hidden (λ e. choose_false false (is_free y c) e ∙ q e)) r)
  where
    hidden : binds y l ≡ true → choose (binds y l) false (is_free y c) ≡ false
    hidden e = choose_true false (is_free y c) e

node_free : (y : ℕ) (l : Named) (c s : Forest Named) → is_free y (cons l c s) ≡ false
    → (is_variable y l ≡ false) × (choose (binds y l) false (is_free y c) ≡ false) × (is_free y s ≡ false)
node_free y l c s e =
    let p = or-false (is_variable y l) (choose (binds y l) false (is_free y c) || is_free y s) e in
    let q = or-false (choose (binds y l) false (is_free y c)) (is_free y s) p.1 in
    (p.0, q.0, q.1)

free_tree : (y : ℕ) (t : NamedTerm) (s : Forest Named) → is_free y (one t) ≡ false → is_free y s ≡ false → is_free y (graft t s) ≡ false
free_tree y t s e r = let p = node_free y t.0 t.1 nil e in ap₂ ◌||◌ p.0 (ap₂ ◌||◌ p.1 r)

free_argument : (y : ℕ) (c : Forest Named) (i : ℕ) → is_free y c ≡ false → is_free y (one (argument c i)) ≡ false
free_argument y nil i e = refl
free_argument y (cons l c s) zero e = let p = node_free y l c s e in ap₂ ◌||◌ p.0 (ap₂ ◌||◌ p.1 refl)
free_argument y (cons l c s) (suc i) e = free_argument y s i (node_free y l c s e).2

free_in_holes : (y : ℕ) (arguments : ℕ → NamedTerm) → ((i : ℕ) → is_free y (one (arguments i)) ≡ false)
    → (u : Forest Named) → is_free y u ≡ false → is_free y (put (in_holes arguments) u) ≡ false
free_in_holes y arguments h nil e = refl
free_in_holes y arguments h (cons (own o) c s) e =
    let p = node_free y (own o) c s e in
    free_node y (own o) (put (in_holes arguments) c) (put (in_holes arguments) s) p.0
    (λ b. free_in_holes y arguments h c (sym (choose_false false (is_free y c) b) ∙ p.1))
    (free_in_holes y arguments h s p.2)
free_in_holes y arguments h (cons (slot (metavariable m)) c s) e =
    let p = node_free y (slot (metavariable m)) c s e in
    ap₂ ◌||◌ (free_in_holes y arguments h c p.1) (free_in_holes y arguments h s p.2)
free_in_holes y arguments h (cons (slot (function f n)) c s) e =
    let p = node_free y (slot (function f n)) c s e in
    ap₂ ◌||◌ (free_in_holes y arguments h c p.1) (free_in_holes y arguments h s p.2)
free_in_holes y arguments h (cons (slot (hole i)) c s) e =
    free_tree y (arguments i) (put (in_holes arguments) s) (h i) (free_in_holes y arguments h s (node_free y (slot (hole i)) c s e).2)

-- A spelled forest has no free name from its ceiling on, but for those of the binders around it
abbrev Misses : ℕ → ℕ → ℕ → Type 0
Misses y b k = (d : ℕ) → d < k → y ≡ name b d → ⊥

spell_misses_label : (E : ℕ → ℕ) (y b k : ℕ) (l : Nameless) → ClosedLabel k l → free_label E l ≤ y → Misses y b k
    → is_variable y (spell_label b k l) ≡ false
spell_misses_label E y b k (own (symbol n)) h g m = refl
spell_misses_label E y b k (own (variable (free x))) h g m = eqb_other y x (λ e. omega arith)
spell_misses_label E y b k (own (variable (bound i))) h g m = eqb_other y (name b (k - suc i)) (m (k - suc i) (omega arith))
spell_misses_label E y b k (own (application n)) h g m = refl
spell_misses_label E y b k (own (binder n x)) h g m = refl
spell_misses_label E y b k (slot z) h g m = refl

misses_under : (y b k : ℕ) (l : Nameless) → binds y (spell_label b k l) ≡ false → Misses y b k → Misses y b (inner l k)
misses_under y b k (own (symbol n)) e m = m
misses_under y b k (own (variable v)) e m = m
misses_under y b k (own (application n)) e m = m
misses_under y b k (own (binder n x)) e m = λ d h q. go d h q (dec_lt d k)
  where
    go : (d : ℕ) → d < suc k → y ≡ name b d → Dec (d < k) → ⊥
    go d h q (yes p) = m d p q
    go d h q (no p) = let r : name b k ≡ y = omega arith in true≢false (sym (eqb_self y) ∙ ap (eqb y) (sym r) ∙ e)
misses_under y b k (slot z) e m = m

spell_misses : (y b k : ℕ) (u : Terms) → Closed k u → own_ceiling u ≤ y → Misses y b k → is_free y (spell b k u) ≡ false
spell_misses y b k nil h g m = refl
spell_misses y b k (cons l c s) h g m =
    free_node y (spell_label b k l) (spell b (inner l k) c) (spell b k s)
    (spell_misses_label (λ i. 0) y b k l h.0 (omega arith) m)
    (λ e. spell_misses y b (inner l k) c h.1 (omega arith) (misses_under y b k l e m))
    (spell_misses y b k s h.2 (omega arith) m)

value_misses : (y b m : ℕ) (x : Entry Term) → ClosedEntry x → entry_ceiling x ≤ y
    → is_free y (one (value_or m (spell_entry b x))) ≡ false
value_misses y b m absent h g = refl
value_misses y b m left_open h g = refl
value_misses y b m (value t) h g = spell_misses y b 0 (one t) h g (λ d k e. omega arith)
value_misses y b m (body t) h g = refl

body_misses : (y b f : ℕ) (x : Entry Term) → ClosedEntry x → entry_ceiling x ≤ y
    → is_free y (one (body_or f (spell_entry b x))) ≡ false
body_misses y b f absent h g = refl
body_misses y b f left_open h g = refl
body_misses y b f (value t) h g = refl
body_misses y b f (body t) h g = spell_misses y b 0 (one t) h g (λ d k e. omega arith)

-- A condition holds at the slots of a spelled forest if it holds at each, below names of binders
all_levels : (P : ℕ → Type 0) (b : ℕ) → ((d : ℕ) → P (name b d)) → (k : ℕ) → All P (levels b k)
all_levels P b h zero = tt
all_levels P b h (suc k) = (h k, all_levels P b h k)

spelled_slots : (E : ℕ → ℕ) (C : Condition) (b : ℕ)
    → ((k : ℕ) (z : Slot) (c : Terms) → Closed k c → free_slot E z ≤ b → ceiling E c ≤ b → C (levels b k) z (spell b k c))
    → (k : ℕ) (u : Terms) → Closed k u → ceiling E u ≤ b → AtSlots C (levels b k) (spell b k u)
spelled_slots E C b at k nil h g = tt
spelled_slots E C b at k (cons (own o) c s) h g = (
  tt,
  rw (enter_levels b k (own o)) (spelled_slots E C b at (inner (own o) k) c h.1 (omega arith)),
  spelled_slots E C b at k s h.2 (omega arith),
)
spelled_slots E C b at k (cons (slot z) c s) h g = (
  at k z c h.1 (omega arith) (omega arith),
  spelled_slots E C b at k c h.1 (omega arith),
  spelled_slots E C b at k s h.2 (omega arith),
)

-- Arguments in which no name of a body's binders is free are not caught by the body
body_uncaught : (b f : ℕ) (x : Entry Term) (arguments : ℕ → NamedTerm) → ClosedEntry x → entry_ceiling x ≤ b
    → ((d i : ℕ) → is_free (name b d) (one (arguments i)) ≡ false) → UncaughtIn (body_or f (spell_entry b x)) arguments
body_uncaught b f absent arguments h g r = (tt, tt, tt)
body_uncaught b f left_open arguments h g r = (tt, tt, tt)
body_uncaught b f (value t) arguments h g r = (tt, tt, tt)
body_uncaught b f (body t) arguments h g r = spelled_slots (λ m. 0) (hole_uncaught arguments) b at 0 (one t) h g
  where
    at : (k : ℕ) (z : Slot) (c : Terms) → Closed k c → free_slot (λ m. 0) z ≤ b → own_ceiling c ≤ b
        → hole_uncaught arguments (levels b k) z (spell b k c)
    at k (metavariable m) c h g e = tt
    at k (function f n) c h g e = tt
    at k (hole i) c h g e = all_levels (λ y. is_free y (one (arguments i)) ≡ false) b (λ d. r d i) k

-- A closed filling, and N above all free names of patterns and of what is put into them
module _ (σ : Filling) (closed : (m : ℕ) → ClosedEntry (σ m)) (N : ℕ) where
  abbrev given : ℕ → ℕ
  given m = entry_ceiling (σ m)

  -- The names in what m is given: above N and above its own free names, and odd from N
  abbrev base : ℕ → ℕ
  base m = N + (2 * given m + 1)

  abbrev spelled : NamedFilling
  spelled m = spell_entry (base m) (σ m)

  -- No name above N is free in filled patterns, but those of the patterns' binders
  filled_misses : (y : ℕ) → N ≤ y → ((d : ℕ) → y ≡ name N d → ⊥)
      → (k : ℕ) (u : Terms) → Closed k u → ceiling given u ≤ N → is_free y (textual spelled (spell N k u)) ≡ false
  filled_misses y p q k nil h g = refl
  filled_misses y p q k (cons (own o) c s) h g =
      free_node y (own (spell_own N k o)) (textual spelled (spell N (inner (own o) k) c)) (textual spelled (spell N k s))
      (spell_misses_label given y N k (own o) h.0 (omega arith) (λ d m. q d))
      (λ e. filled_misses y p q (inner (own o) k) c h.1 (omega arith))
      (filled_misses y p q k s h.2 (omega arith))
  filled_misses y p q k (cons (slot (metavariable m)) c s) h g =
      free_tree y (value_or m (spelled m)) (textual spelled (spell N k s))
      (value_misses y (base m) m (σ m) (closed m) (omega arith))
      (filled_misses y p q k s h.2 (omega arith))
  filled_misses y p q k (cons (slot (function f n)) c s) h g =
      let v : Forest Named = textual spelled (spell N k c) in
      let b : NamedTerm = body_or f (spelled f) in
      let inside : is_free y v ≡ false = filled_misses y p q k c h.1 (omega arith) in
      let outside : is_free y (one b) ≡ false = body_misses y (base f) f (σ f) (closed f) (omega arith) in
      free_tree y (put_term (in_holes (argument v)) b) (textual spelled (spell N k s))
      (free_in_holes y (argument v) (λ i. free_argument y v i inside) (one b) outside)
      (filled_misses y p q k s h.2 (omega arith))
  filled_misses y p q k (cons (slot (hole i)) c s) h g =
      ap₂ ◌||◌ (filled_misses y p q k c h.1 (omega arith)) (filled_misses y p q k s h.2 (omega arith))

  -- Those of a body's binders are none of these, so they are free in no argument
  arguments_miss : (f k : ℕ) (c : Terms) → Closed k c → ceiling given c ≤ N
      → (d i : ℕ) → is_free (name (base f) d) (one (argument (textual spelled (spell N k c)) i)) ≡ false
  arguments_miss f k c h g d i =
      let y : ℕ = name (base f) d in
      free_argument y (textual spelled (spell N k c)) i (filled_misses y (omega arith) (λ j q. omega arith) k c h g)

  -- So nothing is caught, by a pattern or by a body
  slot_uncaught_lem : (k : ℕ) (z : Slot) (c : Terms) → Closed k c → free_slot given z ≤ N → ceiling given c ≤ N
      → slot_uncaught spelled (levels N k) z (spell N k c)
  slot_uncaught_lem k (metavariable m) c h g e =
      all_levels (λ y. is_free y (one (value_or m (spelled m))) ≡ false) N
      (λ d. value_misses (name N d) (base m) m (σ m) (closed m) (omega arith)) k
  slot_uncaught_lem k (function f n) c h g e = (
    all_levels (λ y. is_free y (one (body_or f (spelled f))) ≡ false) N
        (λ d. body_misses (name N d) (base f) f (σ f) (closed f) (omega arith)) k,
    body_uncaught (base f) f (σ f) (argument (textual spelled (spell N k c))) (closed f) (omega arith) (arguments_miss f k c h e),
  )
  slot_uncaught_lem k (hole i) c h g e = tt

  spelled_uncaught : (u : Terms) → Closed 0 u → ceiling given u ≤ N → Uncaught spelled (spell N 0 u)
  spelled_uncaught u h g = spelled_slots given (slot_uncaught spelled) N slot_uncaught_lem 0 u h g

-- SPELLED: closed patterns and a closed filling can be written with names so that nothing is caught
pub spellings_exist : (u : Terms) (σ : Filling) → Closed 0 u → ((m : ℕ) → ClosedEntry (σ m)) → Spelling u σ
spellings_exist u σ h closed =
    let E : (ℕ → ℕ) = λ m. entry_ceiling (σ m) in
    let N : ℕ = ceiling E u in
    record {
      pattern = spell N 0 u;
      filling = spelled σ closed N;
      pattern_means = spell_means E N 0 u h (omega arith);
      filling_means = fun_ext (λ m. entry_means (base σ closed N m) (σ m) (closed m) (omega arith));
      uncaught = spelled_uncaught σ closed N u h (omega arith);
    }

-- The same with names alone
spell_alpha : (b : ℕ) (t : NamedTerm) → own_ceiling (one (nameless_term [] t)) ≤ b → Alpha (one t) (one (spell_term b (nameless_term [] t)))
spell_alpha b t g =
    nameless_alpha (one t) (one (spell_term b (nameless_term [] t))) []
    (sym (spell_means (λ m. 0) b 0 (one (nameless_term [] t)) (nameless_closed [] (one t)) g))

entry_alpha : (b : ℕ) (x : Entry NamedTerm) → entry_ceiling (meant x) ≤ b → AlphaEntry x (spell_entry b (meant x))
entry_alpha b absent g = both_absent
entry_alpha b left_open g = both_open
entry_alpha b (value t) g = values (spell_alpha b t g)
entry_alpha b (body t) g = bodies (spell_alpha b t g)

meant_closed : (x : Entry NamedTerm) → ClosedEntry (meant x)
meant_closed absent = tt
meant_closed left_open = tt
meant_closed (value t) = nameless_closed [] (one t)
meant_closed (body t) = nameless_closed [] (one t)

-- RESPELLED: whatever the names, bound ones can be changed so that nothing is caught
pub respellings_exist : (u : Forest Named) (τ : NamedFilling) → Respelling u τ
respellings_exist u τ =
    let closed : ((m : ℕ) → ClosedEntry (meant_by τ m)) = λ m. meant_closed (τ m) in
    let E : (ℕ → ℕ) = λ m. entry_ceiling (meant_by τ m) in
    let v : Terms = nameless [] u in
    let N : ℕ = ceiling E v in
    record {
      pattern = spell N 0 v;
      filling = spelled (meant_by τ) closed N;
      same_pattern = nameless_alpha u (spell N 0 v) [] (sym (spell_means E N 0 v (nameless_closed [] u) (omega arith)));
      same_filling = λ m. entry_alpha (base (meant_by τ) closed N m) (τ m) (omega arith);
      uncaught = spelled_uncaught (meant_by τ) closed N v (nameless_closed [] u) (omega arith);
    }

-- Nameless forests written with names.
--   spell     a nameless forest with names: the binder under k others is called name b k
--   levels    the names of k binders, the innermost first
--   ceiling   a number above all free names, where metavariable m counts as E m
-- A spelled forest means what it was, if it is closed and b is not below its ceiling.
use mathlib.Core.Path.{◌≡◌, refl, ap, ◌∙◌}
use Prim.Native.Nat.{ℕ, zero, suc, ◌+◌, ◌-◌, ◌*◌, ◌<◌, ◌≤◌}
use mathlib.Core.List.{List, [], ◌∷◌}
use native.Mathlib.Omega.{arith}
use native.Mathlib.Decide.{dec_lt}
use Rattle.meaning.specs.Term.{Forest, nil, cons, one, relabel, Own, symbol, variable, application, binder, own, slot, Slot}
use Rattle.meaning.specs.Term.{metavariable, function, hole, Named, Variable, free, bound, Nameless, NamedTerm, Terms, Term, inner}
use Rattle.meaning.specs.Scope.{resolve, enter, nameless_label, nameless, nameless_term}
use Rattle.meaning.specs.Shift.{ClosedVariable, ClosedLabel, Closed}
use Rattle.meaning.specs.Filling.{Entry, absent, left_open, value, body}
use Rattle.meaning.specs.Text.{meant}
use Rattle.meaning.specs.Textual.{ClosedEntry}
use Rattle.meaning.proofs.Lists.{eqb_self, eqb_other, choose_false}
use Rattle.meaning.proofs.Renaming.{cons_eq, one_injective}

abbrev pub name : ℕ → ℕ → ℕ
name b d = b + 2 * d

abbrev spell_variable : ℕ → ℕ → Variable → ℕ
spell_variable b k (free x) = x
spell_variable b k (bound i) = name b (k - suc i)

abbrev pub spell_own : ℕ → ℕ → Own Variable (Unit {0}) → Own ℕ ℕ
spell_own b k (symbol n) = symbol n
spell_own b k (variable v) = variable (spell_variable b k v)
spell_own b k (application n) = application n
spell_own b k (binder n x) = binder n (name b k)

abbrev pub spell_label : ℕ → ℕ → Nameless → Named
spell_label b k (own o) = own (spell_own b k o)
spell_label b k (slot z) = slot z

abbrev pub spell : ℕ → ℕ → Terms → Forest Named
spell b k u = relabel inner (spell_label b) k u

abbrev pub spell_term : ℕ → Term → NamedTerm
spell_term b t = (spell_label b 0 t.0, spell b (inner t.0 0) t.1)

abbrev pub spell_entry : ℕ → Entry Term → Entry NamedTerm
spell_entry b absent = absent
spell_entry b left_open = left_open
spell_entry b (value t) = value (spell_term b t)
spell_entry b (body t) = body (spell_term b t)

abbrev pub levels : ℕ → ℕ → List ℕ
levels b zero = []
levels b (suc k) = name b k ∷ levels b k

-- The free names of a forest, where metavariable m counts as E m
abbrev free_variable : Variable → ℕ
free_variable (free x) = suc x
free_variable (bound i) = 0

abbrev free_own : Own Variable (Unit {0}) → ℕ
free_own (symbol n) = 0
free_own (variable v) = free_variable v
free_own (application n) = 0
free_own (binder n x) = 0

abbrev pub free_slot : (ℕ → ℕ) → Slot → ℕ
free_slot E (metavariable m) = E m
free_slot E (function f n) = E f
free_slot E (hole i) = 0

abbrev pub free_label : (ℕ → ℕ) → Nameless → ℕ
free_label E (own o) = free_own o
free_label E (slot z) = free_slot E z

abbrev pub ceiling : (ℕ → ℕ) → Terms → ℕ
ceiling E nil = 0
ceiling E (cons l c s) = free_label E l + (ceiling E c + ceiling E s)

abbrev pub own_ceiling : Terms → ℕ
own_ceiling u = ceiling (λ m. 0) u

abbrev pub entry_ceiling : Entry Term → ℕ
entry_ceiling absent = 0
entry_ceiling left_open = 0
entry_ceiling (value t) = own_ceiling (one t)
entry_ceiling (body t) = own_ceiling (one t)

-- A spelled forest means what it was
pub enter_levels : (b k : ℕ) (l : Nameless) → enter (spell_label b k l) (levels b k) ≡ levels b (inner l k)
enter_levels b k (own (symbol n)) = refl
enter_levels b k (own (variable v)) = refl
enter_levels b k (own (application n)) = refl
enter_levels b k (own (binder n x)) = refl
enter_levels b k (slot z) = refl

resolve_level : (b k d i j : ℕ) → d < k → i + suc d ≡ j + k → resolve (levels b k) j (name b d) ≡ bound i
resolve_level b zero d i j h e = absurd (omega arith)
resolve_level b (suc k) d i j h e = go (λ p. resolve_level b k d i (suc j) p (omega arith)) (dec_lt d k)
  where
    go : (d < k → resolve (levels b k) (suc j) (name b d) ≡ bound i) → Dec (d < k) → resolve (levels b (suc k)) j (name b d) ≡ bound i
    go ih (yes p) = choose_false _ _ (eqb_other (name b d) (name b k) (λ q. omega arith)) ∙ ih p
    go ih (no p) = let q : d ≡ k = omega arith in let r : j ≡ i = omega arith in rw (q, eqb_self (name b k), r)

resolve_free : (b k j x : ℕ) → x < b → resolve (levels b k) j x ≡ free x
resolve_free b zero j x h = refl
resolve_free b (suc k) j x h = choose_false _ _ (eqb_other x (name b k) (λ e. omega arith)) ∙ resolve_free b k (suc j) x h

spell_variable_lem : (b k : ℕ) (v : Variable) → ClosedVariable k v → free_variable v ≤ b → resolve (levels b k) 0 (spell_variable b k v) ≡ v
spell_variable_lem b k (free x) h g = resolve_free b k 0 x (omega arith)
spell_variable_lem b k (bound i) h g = resolve_level b k (k - suc i) i 0 (omega arith) (omega arith)

spell_label_lem : (E : ℕ → ℕ) (b k : ℕ) (l : Nameless) → ClosedLabel k l → free_label E l ≤ b → nameless_label (levels b k) (spell_label b k l) ≡ l
spell_label_lem E b k (own (symbol n)) h g = refl
spell_label_lem E b k (own (variable v)) h g = ap (λ (w : Variable). own (variable w)) (spell_variable_lem b k v h g)
spell_label_lem E b k (own (application n)) h g = refl
spell_label_lem E b k (own (binder n x)) h g = refl
spell_label_lem E b k (slot z) h g = refl

pub spell_means : (E : ℕ → ℕ) (b k : ℕ) (u : Terms) → Closed k u → ceiling E u ≤ b → nameless (levels b k) (spell b k u) ≡ u
spell_means E b k nil h g = refl
spell_means E b k (cons l c s) h g =
    cons_eq (spell_label_lem E b k l h.0 (omega arith))
    (ap (λ (sc : List ℕ). nameless sc (spell b (inner l k) c)) (enter_levels b k l) ∙ spell_means E b (inner l k) c h.1 (omega arith))
    (spell_means E b k s h.2 (omega arith))

pub entry_means : (b : ℕ) (x : Entry Term) → ClosedEntry x → entry_ceiling x ≤ b → meant (spell_entry b x) ≡ x
entry_means b absent h g = refl
entry_means b left_open h g = refl
entry_means b (value t) h g = ap value (one_injective (nameless_term [] (spell_term b t)) t (spell_means (λ m. 0) b 0 (one t) h g))
entry_means b (body t) h g = ap body (one_injective (nameless_term [] (spell_term b t)) t (spell_means (λ m. 0) b 0 (one t) h g))

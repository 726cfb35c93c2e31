-- Outer binders by level and by owner. A subexpression of a face is seen in two ways: a variable bound outside it by its binder's level,
-- as the token table has it, or by its binder's place among the face's nodes and the binders above the face, as document 01 has it. For a
-- subexpression that uses no binder of the face above it the two views tell the same.
--
--   d        the number of binders above the face
--   sc, bs   the scope around the subexpression, and the binders of the face above it
--   u        what is seen: a forest with k binders of the subexpression around it
use mathlib.Core.Path.{◌≡◌, refl, ap, ap₂, sym, ◌∙◌}
use mathlib.Core.Logic.{◌↔◌}
use mathlib.Core.Bool.{Bool, false, ◌||◌, true≢false}
use mathlib.Core.List.{List}
use Prim.Native.Nat.{ℕ, suc, ◌+◌, ◌-◌, ◌≤◌, ◌<◌}
use native.Mathlib.Omega.{arith}
use native.Mathlib.Decide.{dec_lt}
use lib.ListN.{length}
use lib.Dec.{ltb}
use borrow.Author.Tests.{lt-ltb, le-ltb}
use Rattle.meaning.specs.Term.{nil, cons, symbol, variable, application, binder, Label, own, slot, Variable, free, bound, Nameless, Terms}
use Rattle.meaning.specs.Term.{Term, one, inner}
use Rattle.meaning.specs.Shift.{with_variable, ClosedVariable, ClosedLabel, Closed}
use Rattle.meaning.specs.Equal.{Seen, seen_free, inside, outside, see, View, view, Equal}
use Rattle.meaning.specs.Choice.{Owner, node_of_face, above_face, owner_of, of_face, uses_label, uses_face}
use Rattle.meaning.proofs.Lists.{or-false}
use Rattle.meaning.proofs.Lowered.{view_under, owner_above, owner_below, see_low, see_high}
use Rattle.tokens.specs.Key.{level_from}

-- Another identity for each binder outside
reseen : {U W : Type 0} → (Seen U → Seen W) → View U → View W
reseen f nil = nil
reseen f (cons l c s) = cons (with_variable f l) (reseen f c) (reseen f s)

-- A variable, by the index that reaches out of the subexpression
-- Where an index reaches: a binder of the subexpression, of the face above it, or above the face
data Reach (bs : List ℕ) (k i : ℕ) : Type 0 where
  within : i < k → see (owner_of bs) k (bound i) ≡ inside i → Reach bs k i
  to_face : (b : ℕ) → k ≤ i → i < k + length bs → see (owner_of bs) k (bound i) ≡ outside (node_of_face b) → Reach bs k i
  above : k + length bs ≤ i → see (owner_of bs) k (bound i) ≡ outside (above_face (i - k - length bs)) → Reach bs k i

reach : (bs : List ℕ) (k i : ℕ) → Reach bs k i
reach bs k i = go (dec_lt i k) (dec_lt i (k + length bs))
  where
    go : Dec (i < k) → Dec (i < k + length bs) → Reach bs k i
    go (yes h) g = within h (see_low (owner_of bs) k i h)
    go (no h) (yes g) =
        let (b, e) = owner_below bs (i - k) (omega arith) in
        to_face b (omega arith) g (see_high (owner_of bs) k i (omega arith) ∙ ap outside e)
    go (no h) (no g) =
        above (omega arith)
        (see_high (owner_of bs) k i (omega arith) ∙ ap outside (owner_above bs (i - k) (i - k - length bs) (omega arith)))

-- The ways between the two views, and what the level view tells of binders of the face
level_of_owner : ℕ → Seen Owner → Seen ℕ
level_of_owner d (seen_free x) = seen_free x
level_of_owner d (inside i) = inside i
level_of_owner d (outside (node_of_face n)) = outside n
level_of_owner d (outside (above_face j)) = outside (suc (d - suc j))

owner_of_level : ℕ → Seen ℕ → Seen Owner
owner_of_level d (seen_free x) = seen_free x
owner_of_level d (inside i) = inside i
owner_of_level d (outside w) = outside (above_face (d - w))

abbrev pub deep_seen : ℕ → Seen ℕ → Bool
deep_seen d (seen_free x) = false
deep_seen d (inside i) = false
deep_seen d (outside w) = ltb d w

abbrev pub deep_label : ℕ → Label (Seen ℕ) (Unit {0}) → Bool
deep_label d (own (symbol n)) = false
deep_label d (own (variable v)) = deep_seen d v
deep_label d (own (application n)) = false
deep_label d (own (binder b x)) = false
deep_label d (slot z) = false

deep : ℕ → View ℕ → Bool
deep d nil = false
deep d (cons l c s) = deep_label d l || (deep d c || deep d s)

-- One variable
module _ (d : ℕ) (sc bs : List ℕ) (long : length sc ≡ length bs + d) (k : ℕ) where
  deep_variable : (v : Variable) → ClosedVariable (k + length sc) v → deep_seen d (see (level_from sc) k v) ≡ of_face (see (owner_of bs) k v)
  deep_variable (free x) c = refl
  deep_variable (bound i) c = go (reach bs k i)
    where
      go : Reach bs k i → deep_seen d (see (level_from sc) k (bound i)) ≡ of_face (see (owner_of bs) k (bound i))
      go (within h e) = ap (deep_seen d) (see_low (level_from sc) k i h) ∙ sym (ap of_face e)
      go (to_face b h g e) =
          ap (deep_seen d) (see_high (level_from sc) k i h) ∙ lt-ltb d (level_from sc (i - k)) (omega arith) ∙ sym (ap of_face e)
      go (above h e) =
          ap (deep_seen d) (see_high (level_from sc) k i (omega arith)) ∙ le-ltb d (level_from sc (i - k)) (omega arith) ∙ sym (ap of_face e)

  level_variable : (v : Variable) → of_face (see (owner_of bs) k v) ≡ false → level_of_owner d (see (owner_of bs) k v) ≡ see (level_from sc) k v
  unfolding level_of_owner
  level_variable (free x) f = refl
  level_variable (bound i) f = go (reach bs k i)
    where
      go : Reach bs k i → level_of_owner d (see (owner_of bs) k (bound i)) ≡ see (level_from sc) k (bound i)
      go (within h e) = ap (level_of_owner d) e ∙ sym (see_low (level_from sc) k i h)
      go (to_face b h g e) = absurd (true≢false (ap of_face (sym e) ∙ f))
      go (above h e) = ap (level_of_owner d) e ∙ ap outside (omega arith) ∙ sym (see_high (level_from sc) k i (omega arith))

  owner_variable : (v : Variable) → ClosedVariable (k + length sc) v → of_face (see (owner_of bs) k v) ≡ false
      → owner_of_level d (see (level_from sc) k v) ≡ see (owner_of bs) k v
  unfolding owner_of_level
  owner_variable (free x) c f = refl
  owner_variable (bound i) c f = go (reach bs k i)
    where
      go : Reach bs k i → owner_of_level d (see (level_from sc) k (bound i)) ≡ see (owner_of bs) k (bound i)
      go (within h e) = ap (owner_of_level d) (see_low (level_from sc) k i h) ∙ sym e
      go (to_face b h g e) = absurd (true≢false (ap of_face (sym e) ∙ f))
      go (above h e) =
          ap (owner_of_level d) (see_high (level_from sc) k i (omega arith)) ∙ ap (λ (j : ℕ). outside (above_face j)) (omega arith) ∙ sym e

-- Labels and forests; m is the number of all binders around
inner_add : (l : Nameless) (m k n : ℕ) → m ≡ k + n → inner l m ≡ inner l k + n
inner_add (own (symbol x)) m k n e = e
inner_add (own (variable v)) m k n e = e
inner_add (own (application x)) m k n e = e
inner_add (own (binder b x)) m k n e = omega arith
inner_add (slot z) m k n e = e

module _ (d : ℕ) (sc bs : List ℕ) (long : length sc ≡ length bs + d) where
  deep_label_lem : (m k : ℕ) → m ≡ k + length sc → (l : Nameless) → ClosedLabel m l
      → deep_label d (with_variable (see (level_from sc) k) l) ≡ uses_label (with_variable (see (owner_of bs) k) l)
  deep_label_lem m k q (own (symbol n)) c = refl
  deep_label_lem m k q (own (variable v)) c = deep_variable d sc bs long k v (rw q at c)
  deep_label_lem m k q (own (application n)) c = refl
  deep_label_lem m k q (own (binder b x)) c = refl
  deep_label_lem m k q (slot z) c = refl

  level_label : (k : ℕ) (l : Nameless) → uses_label (with_variable (see (owner_of bs) k) l) ≡ false
      → with_variable (level_of_owner d) (with_variable (see (owner_of bs) k) l) ≡ with_variable (see (level_from sc) k) l
  level_label k (own (symbol n)) f = refl
  level_label k (own (variable v)) f = ap (λ (w : Seen ℕ). own (variable w)) (level_variable d sc bs long k v f)
  level_label k (own (application n)) f = refl
  level_label k (own (binder b x)) f = refl
  level_label k (slot z) f = refl

  owner_label : (m k : ℕ) → m ≡ k + length sc → (l : Nameless) → ClosedLabel m l → uses_label (with_variable (see (owner_of bs) k) l) ≡ false
      → with_variable (owner_of_level d) (with_variable (see (level_from sc) k) l) ≡ with_variable (see (owner_of bs) k) l
  owner_label m k q (own (symbol n)) c f = refl
  owner_label m k q (own (variable v)) c f = ap (λ (w : Seen Owner). own (variable w)) (owner_variable d sc bs long k v (rw q at c) f)
  owner_label m k q (own (application n)) c f = refl
  owner_label m k q (own (binder b x)) c f = refl
  owner_label m k q (slot z) c f = refl

  deep_forest : (m k : ℕ) → m ≡ k + length sc → (u : Terms) → Closed m u
      → deep d (view_under (level_from sc) k u) ≡ uses_face (view_under (owner_of bs) k u)
  unfolding deep
  deep_forest m k q nil c = refl
  deep_forest m k q (cons l b s) c =
      ap₂ ◌||◌ (deep_label_lem m k q l c.0)
      (ap₂ ◌||◌ (deep_forest (inner l m) (inner l k) (inner_add l m k (length sc) q) b c.1) (deep_forest m k q s c.2))

  -- the parts of a forest that uses no binder of the face above it
  unused : (k : ℕ) (l : Nameless) (b s : Terms) → uses_face (view_under (owner_of bs) k (cons l b s)) ≡ false
      → (uses_label (with_variable (see (owner_of bs) k) l) ≡ false) × (uses_face (view_under (owner_of bs) (inner l k) b) ≡ false)
      × (uses_face (view_under (owner_of bs) k s) ≡ false)
  unused k l b s f =
      let (p, r) =
      or-false (uses_label (with_variable (see (owner_of bs) k) l))
      (uses_face (view_under (owner_of bs) (inner l k) b) || uses_face (view_under (owner_of bs) k s)) f in
      let (x, y) = or-false (uses_face (view_under (owner_of bs) (inner l k) b)) (uses_face (view_under (owner_of bs) k s)) r in
      (p, x, y)

  level_forest : (k : ℕ) (u : Terms) → uses_face (view_under (owner_of bs) k u) ≡ false
      → reseen (level_of_owner d) (view_under (owner_of bs) k u) ≡ view_under (level_from sc) k u
  unfolding reseen
  level_forest k nil f = refl
  level_forest k (cons l b s) f =
      let (p, x, y) = unused k l b s f in
      rw (level_label k l p, level_forest (inner l k) b x, level_forest k s y)

  owner_forest : (m k : ℕ) → m ≡ k + length sc → (u : Terms) → Closed m u → uses_face (view_under (owner_of bs) k u) ≡ false
      → reseen (owner_of_level d) (view_under (level_from sc) k u) ≡ view_under (owner_of bs) k u
  unfolding reseen
  owner_forest m k q nil c f = refl
  owner_forest m k q (cons l b s) c f =
      let (p, x, y) = unused k l b s f in
      rw (
        owner_label m k q l c.0 p,
        owner_forest (inner l m) (inner l k) (inner_add l m k (length sc) q) b c.1 x,
        owner_forest m k q s c.2 y,
      )

-- Main theorem. Two subexpressions of a face, the first of which uses no binder of the face above it, are equal by owners just when they
-- are equal by levels.
pub equal_levels : (d : ℕ) (sc bs sc' bs' : List ℕ) (t u : Term) → length sc ≡ length bs + d → length sc' ≡ length bs' + d
    → Closed (length sc) (one t) → Closed (length sc') (one u) → uses_face (view (owner_of bs) (one t)) ≡ false
    → Equal (owner_of bs) (owner_of bs') t u ↔ Equal (level_from sc) (level_from sc') t u
equal_levels d sc bs sc' bs' t u a b c e f = (there, back)
  where
    there : Equal (owner_of bs) (owner_of bs') t u → Equal (level_from sc) (level_from sc') t u
    there h =
        sym (level_forest d sc bs a 0 (one t) f) ∙ ap (reseen (level_of_owner d)) h
        ∙ level_forest d sc' bs' b 0 (one u) (ap uses_face (sym h) ∙ f)

    back : Equal (level_from sc) (level_from sc') t u → Equal (owner_of bs) (owner_of bs') t u
    back h =
        let p : length sc ≡ 0 + length sc = omega arith in
        let q : length sc' ≡ 0 + length sc' = omega arith in
        let g : uses_face (view (owner_of bs') (one u)) ≡ false =
        sym (deep_forest d sc' bs' b (length sc') 0 q (one u) e) ∙ ap (deep d) (sym h) ∙ deep_forest d sc bs a (length sc) 0 p (one t) c
        ∙ f in
        sym (owner_forest d sc bs a (length sc) 0 p (one t) c f) ∙ ap (reseen (owner_of_level d)) h
        ∙ owner_forest d sc' bs' b (length sc') 0 q (one u) e g

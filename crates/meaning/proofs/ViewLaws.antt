-- What a view says of a term.
--   closed      no variable of the term is bound outside it: its view then says what its indices say, whatever the binders outside are
--   in a scope  below binders that are told apart the view says what the indices say, so that equality is renaming of bound names there too
--   two binders a variable that is bound outside is known by its binder, so views tell (∀x.x) ∧ (∀y.y)'s two variables apart
use mathlib.Core.Path.{◌≡◌, refl, ap, ap₂, sym, ◌∙◌, subst}
use mathlib.Core.Logic.{◌↔◌}
use Prim.Native.Nat.{ℕ, suc, ◌+◌, ◌-◌, ◌<◌}
use mathlib.Core.Bool.{Bool, true, false, true≢false}
use mathlib.Core.List.{List, [], ◌∷◌}
use mathlib.Core.Option.{Option, none, some}
use native.Mathlib.Omega.{arith}
use native.Mathlib.Decide.{dec_lt}
use lib.ListN.{length, get_elem?}
use lib.Dec.{eqb}
use Rattle.meaning.specs.Basics.{choose, AllOf}
use Rattle.meaning.specs.Term.{Forest, nil, cons, graft, one, relabel, symbol, variable, application, binder, Label, own, slot, Named}
use Rattle.meaning.specs.Term.{Variable, free, bound, Nameless, NamedTerm, Terms, Term, inner, variable_of}
use Rattle.meaning.specs.Scope.{resolve, enter, nameless_label, nameless, nameless_term}
use Rattle.meaning.specs.Shift.{with_variable, ClosedVariable, ClosedLabel, Closed, ClosedTerm}
use Rattle.meaning.specs.Equal.{Seen, seen_free, inside, outside, see, View, Equal, EqualWhole}
use Rattle.meaning.specs.Rename.{Alpha}
use Rattle.meaning.specs.Choice.{Owner, node_of_face, views}
use Rattle.meaning.specs.Choices.{same_owned}
use Rattle.meaning.proofs.Renaming.{cons_eq, one_injective, scoped_is_alpha}
use Rattle.meaning.proofs.Lists.{never}
use Rattle.meaning.proofs.Lowered.{see_low, see_high}

-- The n innermost binders outside are told apart
abbrev pub TellsApart : {W : Type 0} → ℕ → (ℕ → W) → Type 0
TellsApart n who = (i j : ℕ) → i < n → j < n → who i ≡ who j → i ≡ j

-- and, by two ways of naming them, told apart alike
abbrev pub ToldAlike : {W : Type 0} → ℕ → (ℕ → W) → (ℕ → W) → Type 0
ToldAlike n who who' = (i j : ℕ) → i < n → j < n → (who i ≡ who' j) ↔ (i ≡ j)

-- The variable of a label, or x for a label without one
abbrev pub variable_or : {X B : Type 0} → X → Label X B → X
variable_or x (own (symbol n)) = x
variable_or x (own (variable v)) = v
variable_or x (own (application n)) = x
variable_or x (own (binder b y)) = x
variable_or x (slot z) = x

pub variable_with : {X Y B : Type 0} (x : X) (f : X → Y) (l : Label X B) → variable_or (f x) (with_variable f l) ≡ f (variable_or x l)
variable_with x f (own (symbol n)) = refl
variable_with x f (own (variable v)) = refl
variable_with x f (own (application n)) = refl
variable_with x f (own (binder b y)) = refl
variable_with x f (slot z) = refl

-- A label is what it is with another variable, and its own
pub rebuilt : {X Y B : Type 0} (x : X) (f : X → Y) (l : Label X B) → with_variable (λ y. variable_or x l) (with_variable f l) ≡ l
rebuilt x f (own (symbol n)) = refl
rebuilt x f (own (variable v)) = refl
rebuilt x f (own (application n)) = refl
rebuilt x f (own (binder b y)) = refl
rebuilt x f (slot z) = refl

closed_variable_lem : (k : ℕ) (l : Nameless) → ClosedLabel k l → ClosedVariable k (variable_or (free 0) l)
closed_variable_lem k (own (symbol n)) h = tt
closed_variable_lem k (own (variable v)) h = h
closed_variable_lem k (own (application n)) h = tt
closed_variable_lem k (own (binder b y)) h = tt
closed_variable_lem k (slot z) h = tt

pub inner_plus : {X B : Type 0} (n k : ℕ) (l : Label X B) → inner l (k + n) ≡ inner l k + n
inner_plus n k (own (symbol m)) = refl
inner_plus n k (own (variable v)) = refl
inner_plus n k (own (application m)) = refl
inner_plus n k (own (binder b y)) = omega arith
inner_plus n k (slot z) = refl

module _ {W : Type 0} (n : ℕ) (who who' : ℕ → W) (told : ToldAlike n who who') where
  -- Variables that are bound among the k binders of the term, or the n outside, are seen alike just when they are the same
  see_alike : (k : ℕ) (v : Variable) → ClosedVariable (k + n) v → see who k v ≡ see who' k v
  see_alike k (free x) h = refl
  see_alike k (bound i) h = go (dec_lt i k)
    where
      go : Dec (i < k) → see who k (bound i) ≡ see who' k (bound i)
      go (yes g) = see_low who k i g ∙ sym (see_low who' k i g)
      go (no g) =
          see_high who k i (omega arith)
          ∙ ap outside ((told (i - k) (i - k) (omega arith) (omega arith)).1 refl)
          ∙ sym (see_high who' k i (omega arith))

  see_injective : (k : ℕ) (v w : Variable) → ClosedVariable (k + n) v → ClosedVariable (k + n) w → see who k v ≡ see who' k w → v ≡ w
  see_injective k (free x) (free y) h g e = ap free (cc)
  see_injective k (free x) (bound j) h g e = go (dec_lt j k)
    where
      go : Dec (j < k) → free x ≡ bound j
      go (yes b) = let d : seen_free x ≡ inside j = e ∙ see_low who' k j b in never (cc)
      go (no b) = let d : seen_free x ≡ outside (who' (j - k)) = e ∙ see_high who' k j (omega arith) in never (cc)
  see_injective k (bound i) (free y) h g e = go (dec_lt i k)
    where
      go : Dec (i < k) → bound i ≡ free y
      go (yes a) = let d : inside i ≡ seen_free y = sym (see_low who k i a) ∙ e in never (cc)
      go (no a) = let d : outside (who (i - k)) ≡ seen_free y = sym (see_high who k i (omega arith)) ∙ e in never (cc)
  see_injective k (bound i) (bound j) h g e = go (dec_lt i k) (dec_lt j k)
    where
      go : Dec (i < k) → Dec (j < k) → bound i ≡ bound j
      go (yes a) (yes b) = let d : inside i ≡ inside j = sym (see_low who k i a) ∙ e ∙ see_low who' k j b in ap bound (cc)
      go (yes a) (no b) =
          let d : inside i ≡ outside (who' (j - k)) = sym (see_low who k i a) ∙ e ∙ see_high who' k j (omega arith) in
          never (cc)
      go (no a) (yes b) =
          let d : outside (who (i - k)) ≡ inside j = sym (see_high who k i (omega arith)) ∙ e ∙ see_low who' k j b in
          never (cc)
      go (no a) (no b) =
          let d : outside (who (i - k)) ≡ outside (who' (j - k)) =
          sym (see_high who k i (omega arith)) ∙ e ∙ see_high who' k j (omega arith) in
          let q : who (i - k) ≡ who' (j - k) = cc in
          let r : i - k ≡ j - k = (told (i - k) (j - k) (omega arith) (omega arith)).0 q in
          ap bound (omega arith)

  label_alike : (k : ℕ) (l : Nameless) → ClosedLabel (k + n) l
      → ◌≡◌ {A = Label (Seen W) (Unit {0})} (with_variable (see who k) l) (with_variable (see who' k) l)
  label_alike k (own (symbol m)) h = refl
  label_alike k (own (variable v)) h = ap (λ (w : Seen W). own (variable w)) (see_alike k v h)
  label_alike k (own (application m)) h = refl
  label_alike k (own (binder b x)) h = refl
  label_alike k (slot z) h = refl

  pub label_injective : (k : ℕ) (l m : Nameless) → ClosedLabel (k + n) l → ClosedLabel (k + n) m
      → ◌≡◌ {A = Label (Seen W) (Unit {0})} (with_variable (see who k) l) (with_variable (see who' k) m) → l ≡ m
  label_injective k l m h g e =
      let v = variable_or (free 0) l in
      let w = variable_or (free 0) m in
      let d : see who k v ≡ see who' k w =
      sym (variable_with (free 0) (see who k) l) ∙ ap (variable_or (seen_free 0)) e ∙ variable_with (free 0) (see who' k) m in
      let q : v ≡ w = see_injective k v w (closed_variable_lem (k + n) l h) (closed_variable_lem (k + n) m g) d in
      sym (rebuilt (free 0) (see who k) l)
      ∙ ap₂ (λ (x : Variable) (z : Label (Seen W) (Unit {0})). with_variable (λ y. x) z) q e
      ∙ rebuilt (free 0) (see who' k) m

  abbrev seen : (ℕ → W) → ℕ → Terms → View W
  seen by k u = relabel inner (λ j. with_variable (see by j)) k u

  view_alike : (k : ℕ) (u : Terms) → Closed (k + n) u → seen who k u ≡ seen who' k u
  view_alike k nil h = refl
  view_alike k (cons l c s) h =
      cons_eq (label_alike k l h.0)
      (view_alike (inner l k) c (subst (λ (j : ℕ). Closed j c) (inner_plus n k l) h.1))
      (view_alike k s h.2)

  view_injective : (k : ℕ) (u v : Terms) → Closed (k + n) u → Closed (k + n) v → seen who k u ≡ seen who' k v → u ≡ v
  view_injective k nil nil h g e = refl
  view_injective k nil (cons l c s) h g e = never (cc)
  view_injective k (cons l c s) nil h g e = never (cc)
  view_injective k (cons l c s) (cons l' c' s') h g e =
      let p : l ≡ l' = label_injective k l l' h.0 g.0 (cc) in
      let a : seen who (inner l k) c ≡ seen who' (inner l' k) c' = cc in
      let b : seen who (inner l k) c ≡ seen who' (inner l k) c' = a ∙ ap (λ (m : Nameless). seen who' (inner m k) c') (sym p) in
      let i : Closed (inner l k + n) c = subst (λ (m : ℕ). Closed m c) (inner_plus n k l) h.1 in
      let d : inner l' (k + n) ≡ inner l k + n = ap (λ (m : Nameless). inner m (k + n)) (sym p) ∙ inner_plus n k l in
      let j : Closed (inner l k + n) c' = subst (λ (m : ℕ). Closed m c') d g.1 in
      cons_eq p (view_injective (inner l k) c c' i j b) (view_injective k s s' h.2 g.2 (cc))

  -- So equality of two terms with n binders outside is that of the nameless terms
  equal_alike : (t u : Term) → Closed n (one t) → Closed n (one u) → Equal who who' t u ↔ (t ≡ u)
  equal_alike t u h g = (
    λ e. one_injective t u (view_injective 0 (one t) (one u) (top t h) (top u g) e),
    λ e. view_alike 0 (one t) (top t h) ∙ ap (λ (w : Term). seen who' 0 (one w)) e,
  )
    where
      top : (w : Term) → Closed n (one w) → Closed (0 + n) (one w)
      top w = subst (λ (k : ℕ). Closed k (one w)) (omega arith)

-- The indices of a resolved variable stay within its scope
resolve_closed : (sc : List ℕ) (i k x : ℕ) → k ≡ i + length sc → ClosedVariable k (resolve sc i x)
resolve_closed [] i k x e = tt
resolve_closed (y ∷ ys) i k x e = go (eqb x y) (resolve_closed ys (suc i) k x (omega arith))
  where
    go : (b : Bool) → ClosedVariable k (resolve ys (suc i) x) → ClosedVariable k (choose b (bound i) (resolve ys (suc i) x))
    go true h = omega arith
    go false h = h

pub nameless_closed : (sc : List ℕ) (u : Forest Named) → Closed (length sc) (nameless sc u)
nameless_closed sc nil = tt
nameless_closed sc (cons l c s) = (label l, below l (λ r. nameless_closed r c), nameless_closed sc s)
  where
    label : (l : Named) → ClosedLabel (length sc) (nameless_label sc l)
    label (own (symbol n)) = tt
    label (own (variable x)) = resolve_closed sc 0 (length sc) x (omega arith)
    label (own (application n)) = tt
    label (own (binder b x)) = tt
    label (slot z) = tt

    below : (l : Named) → ((r : List ℕ) → Closed (length r) (nameless r c))
        → Closed (inner (nameless_label sc l) (length sc)) (nameless (enter l sc) c)
    below (own (symbol n)) ih = ih sc
    below (own (variable x)) ih = ih sc
    below (own (application n)) ih = ih sc
    below (own (binder b x)) ih = ih (x ∷ sc)
    below (slot z) ih = ih sc

-- A term is closed when its view has no variable that is bound outside
abbrev is_inside : {W : Type 0} → Seen W → Type 0
is_inside (seen_free x) = Unit {0}
is_inside (inside i) = Unit {0}
is_inside (outside w) = ⊥

abbrev AllInside : {W : Type 0} → View W → Type 0
AllInside nil = Unit {0}
AllInside (cons l c s) = AllOf is_inside (variable_of l) × AllInside c × AllInside s

module _ {W : Type 0} (who : ℕ → W) where
  see_closed : (k : ℕ) (v : Variable) → ClosedVariable k v ↔ is_inside (see who k v)
  see_closed k (free x) = (λ h. tt, λ h. tt)
  see_closed k (bound i) = (
    λ h. subst is_inside (sym (see_low who k i h)) tt,
    λ h. elim (dec_lt i k) [
      | yes q ↦ q
      | no q ↦ absurd (subst is_inside (see_high who k i (omega arith)) h)
    ],
  )

  label_inside : (k : ℕ) (l : Nameless) → ClosedLabel k l ↔ AllOf is_inside (variable_of (with_variable (see who k) l))
  label_inside k (own (symbol n)) = (λ h. tt, λ h. tt)
  label_inside k (own (variable v)) = see_closed k v
  label_inside k (own (application n)) = (λ h. tt, λ h. tt)
  label_inside k (own (binder b x)) = (λ h. tt, λ h. tt)
  label_inside k (slot z) = (λ h. tt, λ h. tt)

  view_inside : (k : ℕ) (u : Terms) → Closed k u ↔ AllInside (relabel inner (λ j. with_variable (see who j)) k u)
  view_inside k nil = (λ h. tt, λ h. tt)
  view_inside k (cons l c s) =
      let a = label_inside k l in
      let b = view_inside (inner l k) c in
      let d = view_inside k s in
      (λ h. (a.0 h.0, b.0 h.1, d.0 h.2), λ h. (a.1 h.0, b.1 h.1, d.1 h.2))

-- Main theorems. For closed terms equality is that of the nameless terms, whatever the binders outside are
pub equal_closed : {W : Type 0} (who who' : ℕ → W) (t u : Term) → ClosedTerm t → ClosedTerm u → Equal who who' t u ↔ (t ≡ u)
equal_closed who who' t u h g = equal_alike 0 who who' (λ i j a b. absurd (omega arith)) t u h g

-- and what is equal to a closed term is that term
pub closed_equal : {W : Type 0} (who who' : ℕ → W) (t u : Term) → ClosedTerm t → Equal who who' t u → t ≡ u
closed_equal who who' t u h e =
    (equal_closed who who' t u h ((view_inside who' 0 (one u)).1 (subst AllInside e ((view_inside who 0 (one t)).0 h)))).0 e

-- So whole terms are equal as the bytes have them when they are equal as terms of any surroundings
pub equal_whole : {W : Type 0} (who who' : ℕ → W) (t u : NamedTerm)
    → EqualWhole t u ↔ Equal who who' (nameless_term [] t) (nameless_term [] u)
equal_whole who who' t u =
    let r = equal_closed who who' (nameless_term [] t) (nameless_term [] u) (nameless_closed [] (one t)) (nameless_closed [] (one u)) in
    (r.1, r.0)

-- "those bound outside both terms by their binder": below the binders of a scope, when each is told from the others, equality is
-- equality up to the names that the terms themselves bind
pub equal_in_scope : {W : Type 0} (who : ℕ → W) (sc : List ℕ) (t u : NamedTerm) → TellsApart (length sc) who
    → Equal who who (nameless_term sc t) (nameless_term sc u) ↔ Alpha (one t) (one u)
equal_in_scope who sc t u apart =
    let told : ToldAlike (length sc) who who = λ i j a b. (apart i j a b, λ e. ap who e) in
    let r =
    equal_alike (length sc) who who told (nameless_term sc t) (nameless_term sc u) (nameless_closed sc (one t))
    (nameless_closed sc (one u)) in
    let q = scoped_is_alpha sc t u in
    (λ e. q.0 (r.0 e), λ a. r.1 (q.1 a))

-- (∀x.x) ∧ (∀y.y): node 0 is the application, 1 and 3 are the binders, 2 and 4 their variables
abbrev all_self : Term
all_self = (own (binder 0 tt), one (own (variable (bound 0)), nil))

abbrev two_selves_lem : Term
two_selves_lem = (own (application 2), graft all_self (one all_self))

abbrev is_view : View Owner → Option (View Owner) → Bool
is_view u none = false
is_view u (some v) = same_owned u v

-- The two variables belong to different binders, so they differ
pub variables_differ : ¬ (get_elem? (views two_selves_lem) 2 ≡ get_elem? (views two_selves_lem) 4)
variables_differ e = true≢false (ap (is_view (one (own (variable (outside (node_of_face 1))), nil))) e)

-- The two binders are equal: what they bind is inside
pub binders_equal : get_elem? (views two_selves_lem) 1 ≡ get_elem? (views two_selves_lem) 3
binders_equal = refl

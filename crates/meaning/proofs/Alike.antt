-- The tests of equality of `Term`, `Equal` and `Choice` say what they should.
--   Sound    a test that passes only equal things
--   Fair     a test that passes each thing with itself
-- Each test of labels is both when its test of variables is, and `alike` is both when its test of labels is.
use mathlib.Core.Path.{◌≡◌, refl, ap, ap₂, subst}
use mathlib.Core.Logic.{◌↔◌}
use mathlib.Core.Bool.{Bool, true, ◌&&◌}
use lib.Dec.{eqb, eqb→eq, eqb_refl, T}
use Rattle.meaning.specs.Term.{nil, cons, symbol, variable, application, binder, metavariable, function, hole, own, slot}
use Rattle.meaning.specs.Term.{free, bound, Terms}
use Rattle.meaning.specs.Same.{alike, same_slot, same_own, same_label, same_variable, same_seen, same_terms}
use Rattle.meaning.specs.Equal.{seen_free, inside, outside, View}
use Rattle.meaning.specs.Choice.{Owner, node_of_face, above_face}
use Rattle.meaning.specs.Choices.{same_owner, same_owned}
use Rattle.meaning.proofs.Lists.{T_true, true_T, and_T, T_and}

abbrev pub Sound : {A : Type 0} → (A → A → Bool) → Type 0
Sound {A} same = (x y : A) → T (same x y) → x ≡ y

abbrev pub Fair : {A : Type 0} → (A → A → Bool) → Type 0
Fair {A} same = (x : A) → T (same x x)

-- Variables and binders
pub variable_eq : Sound same_variable
variable_eq (free x) (free y) t = ap free (eqb→eq x y t)
variable_eq (free x) (bound j) t = absurd t
variable_eq (bound i) (free y) t = absurd t
variable_eq (bound i) (bound j) t = ap bound (eqb→eq i j t)

pub variable_refl : Fair same_variable
variable_refl (free x) = eqb_refl x
variable_refl (bound i) = eqb_refl i

pub owner_eq : Sound same_owner
owner_eq (node_of_face m) (node_of_face n) t = ap node_of_face (eqb→eq m n t)
owner_eq (node_of_face m) (above_face n) t = absurd t
owner_eq (above_face m) (node_of_face n) t = absurd t
owner_eq (above_face m) (above_face n) t = ap above_face (eqb→eq m n t)

pub owner_refl : Fair same_owner
owner_refl (node_of_face n) = eqb_refl n
owner_refl (above_face n) = eqb_refl n

pub seen_eq : {W : Type 0} (same : W → W → Bool) → Sound same → Sound (same_seen same)
seen_eq same h (seen_free x) (seen_free y) t = ap seen_free (eqb→eq x y t)
seen_eq same h (seen_free x) (inside j) t = absurd t
seen_eq same h (seen_free x) (outside w) t = absurd t
seen_eq same h (inside i) (seen_free y) t = absurd t
seen_eq same h (inside i) (inside j) t = ap inside (eqb→eq i j t)
seen_eq same h (inside i) (outside w) t = absurd t
seen_eq same h (outside v) (seen_free y) t = absurd t
seen_eq same h (outside v) (inside j) t = absurd t
seen_eq same h (outside v) (outside w) t = ap outside (h v w t)

pub seen_refl : {W : Type 0} (same : W → W → Bool) → Fair same → Fair (same_seen same)
seen_refl same h (seen_free x) = eqb_refl x
seen_refl same h (inside i) = eqb_refl i
seen_refl same h (outside w) = h w

-- Labels of nameless terms and of views: a binder says nothing of its bound variable
pub slot_eq : Sound same_slot
slot_eq (metavariable m) (metavariable n) t = ap metavariable (eqb→eq m n t)
slot_eq (metavariable m) (function n b) t = absurd t
slot_eq (metavariable m) (hole n) t = absurd t
slot_eq (function m a) (metavariable n) t = absurd t
slot_eq (function m a) (function n b) t = let r = and_T (eqb m n) (eqb a b) t in ap₂ function (eqb→eq m n r.0) (eqb→eq a b r.1)
slot_eq (function m a) (hole n) t = absurd t
slot_eq (hole m) (metavariable n) t = absurd t
slot_eq (hole m) (function n b) t = absurd t
slot_eq (hole m) (hole n) t = ap hole (eqb→eq m n t)

pub slot_refl : Fair same_slot
slot_refl (metavariable m) = eqb_refl m
slot_refl (function m a) = T_and (eqb m m) (eqb a a) (eqb_refl m) (eqb_refl a)
slot_refl (hole m) = eqb_refl m

pub own_eq : {X : Type 0} (same : X → X → Bool) → Sound same → Sound (same_own {B = Unit {0}} same)
own_eq same h (symbol m) (symbol n) t = ap symbol (eqb→eq m n t)
own_eq same h (symbol m) (variable w) t = absurd t
own_eq same h (symbol m) (application n) t = absurd t
own_eq same h (symbol m) (binder n y) t = absurd t
own_eq same h (variable v) (symbol n) t = absurd t
own_eq same h (variable v) (variable w) t = ap variable (h v w t)
own_eq same h (variable v) (application n) t = absurd t
own_eq same h (variable v) (binder n y) t = absurd t
own_eq same h (application m) (symbol n) t = absurd t
own_eq same h (application m) (variable w) t = absurd t
own_eq same h (application m) (application n) t = ap application (eqb→eq m n t)
own_eq same h (application m) (binder n y) t = absurd t
own_eq same h (binder m x) (symbol n) t = absurd t
own_eq same h (binder m x) (variable w) t = absurd t
own_eq same h (binder m x) (application n) t = absurd t
own_eq same h (binder m x) (binder n y) t = ap (λ k. binder k x) (eqb→eq m n t)

pub own_refl : {X B : Type 0} (same : X → X → Bool) → Fair same → Fair (same_own {B = B} same)
own_refl same h (symbol m) = eqb_refl m
own_refl same h (variable v) = h v
own_refl same h (application m) = eqb_refl m
own_refl same h (binder m x) = eqb_refl m

pub label_eq : {X : Type 0} (same : X → X → Bool) → Sound same → Sound (same_label {B = Unit {0}} same)
label_eq same h (own o) (own p) t = ap own (own_eq same h o p t)
label_eq same h (own o) (slot z) t = absurd t
label_eq same h (slot z) (own o) t = absurd t
label_eq same h (slot z) (slot y) t = ap slot (slot_eq z y t)

pub label_refl : {X B : Type 0} (same : X → X → Bool) → Fair same → Fair (same_label {B = B} same)
label_refl same h (own o) = own_refl same h o
label_refl same h (slot z) = slot_refl z

-- Forests
pub alike_eq : {L : Type 0} (same : L → L → Bool) → Sound same → Sound (alike same)
alike_eq same h nil nil t = refl
alike_eq same h nil (cons l c s) t = absurd t
alike_eq same h (cons l c s) nil t = absurd t
alike_eq same h (cons l c s) (cons l' c' s') t =
    let r = and_T (same l l') (alike same c c' && alike same s s') t in
    let q = and_T (alike same c c') (alike same s s') r.1 in
    let el : l ≡ l' = h l l' r.0 in
    let ec : c ≡ c' = alike_eq same h c c' q.0 in
    let es : s ≡ s' = alike_eq same h s s' q.1 in
    cc

pub alike_refl : {L : Type 0} (same : L → L → Bool) → Fair same → Fair (alike same)
alike_refl same h nil = tt
alike_refl same h (cons l c s) =
    T_and (same l l) (alike same c c && alike same s s) (h l)
    (T_and (alike same c c) (alike same s s) (alike_refl same h c) (alike_refl same h s))

-- A test that is sound and fair decides equality
pub decides : {A : Type 0} (same : A → A → Bool) → Sound same → Fair same → (x y : A) → (same x y ≡ true) ↔ (x ≡ y)
decides {A} same h g x y = (λ e. h x y (true_T e), λ e. T_true (subst (λ (z : A). T (same x z)) e (g x)))

-- Main theorems
pub same_terms_eq : (u v : Terms) → T (same_terms u v) → u ≡ v
same_terms_eq u v t = alike_eq (same_label same_variable) (label_eq same_variable variable_eq) u v t

pub same_terms_refl : (u : Terms) → T (same_terms u u)
same_terms_refl u = alike_refl (same_label same_variable) (label_refl same_variable variable_refl) u

pub same_owned_eq : (u v : View Owner) → T (same_owned u v) → u ≡ v
same_owned_eq u v t = alike_eq (same_label (same_seen same_owner)) (label_eq (same_seen same_owner) (seen_eq same_owner owner_eq)) u v t

pub same_owned_refl : (u : View Owner) → T (same_owned u u)
same_owned_refl u = alike_refl (same_label (same_seen same_owner)) (label_refl (same_seen same_owner) (seen_refl same_owner owner_refl)) u

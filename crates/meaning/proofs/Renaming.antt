-- Equality by de Bruijn indices is equality up to renaming of bound names, and an equivalence. So nobody has to take indices on faith.
--   reads     a term reads, in a scope, as its nameless form there
--   Means     a name in one scope and a name in another are the same variable
--   Keeps     two scopes that differ at most in what one name means
--   Turns     two scopes that differ at most in that x of the one is y of the other: what renaming makes of a scope
--   rebind    a node with another bound name. Two binders are compared by giving both the same fresh one
use mathlib.Core.Path.{◌≡◌, refl, ap, ap₂, sym, ◌∙◌, subst}
use mathlib.Core.Logic.{◌↔◌}
use Prim.Native.Nat.{ℕ, zero, suc, ◌+◌, ◌<◌, ◌≤◌}
use mathlib.Core.Bool.{Bool, true, false, ◌||◌, true≢false}
use mathlib.Core.List.{List, [], ◌∷◌}
use native.Mathlib.Omega.{arith}
use lib.Dec.{eqb}
use Rattle.meaning.specs.Basics.{choose}
use Rattle.meaning.specs.Term.{Forest, nil, cons, Tree, one, size, symbol, variable, application, binder, own, slot, Named, Variable}
use Rattle.meaning.specs.Term.{free, bound, Nameless, NamedTerm, Term}
use Rattle.meaning.specs.Scope.{resolve, enter, nameless_label, nameless, nameless_term}
use Rattle.meaning.specs.Shift.{with_variable}
use Rattle.meaning.specs.Equal.{Equal, EqualWhole}
use Rattle.meaning.specs.Same.{same_variable}
use Rattle.meaning.specs.Rename.{occurs_label, occurs, binds, new_name, rename, Alpha, step, node, same, back, chain}
use Rattle.meaning.proofs.Lists.{never, or-false, eqb_self, eqb_eq, eqb_other, by_test, choose_true, choose_false}

-- General laws of tests and trees
eqb_flip : (m n : ℕ) → eqb m n ≡ false → eqb n m ≡ false
eqb_flip m n e = eqb_other n m (λ p. true≢false (sym (eqb_self m) ∙ ap (eqb m) (sym p) ∙ e))

pub cons_eq : {L : Type 0} {l l' : L} {c c' s s' : Forest L} → l ≡ l' → c ≡ c' → s ≡ s' → cons l c s ≡ cons l' c' s'
cons_eq p q r = cc

pub one_injective : {L : Type 0} (t u : Tree L) → one t ≡ one u → t ≡ u
one_injective {L} t u e = ap₂ (λ (l : L) (c : Forest L). (l, c)) (cc) (cc)

-- The name z in the scope sc is what z' is in sc', however many binders lie between
abbrev Means : List ℕ → ℕ → List ℕ → ℕ → Type 0
Means sc z sc' z' = (i : ℕ) → resolve sc i z ≡ resolve sc' i z'

-- All names but y mean the same in two scopes
abbrev Keeps : ℕ → List ℕ → List ℕ → Type 0
Keeps y sc sc' = (z : ℕ) → eqb y z ≡ false → Means sc z sc' z

-- What x is in the one, y is in the other, and all further names mean the same
abbrev Turns : ℕ → ℕ → List ℕ → List ℕ → Type 0
Turns x y sc sc' = Means sc x sc' y × ((z : ℕ) → eqb x z ≡ false → eqb y z ≡ false → Means sc z sc' z)

means_own : (z z' : ℕ) (sc sc' : List ℕ) → Means (z ∷ sc) z (z' ∷ sc') z'
means_own z z' sc sc' i = choose_true _ _ (eqb_self z) ∙ sym (choose_true _ _ (eqb_self z'))

means_past : (w w' z z' : ℕ) (sc sc' : List ℕ) → eqb w z ≡ false → eqb w' z' ≡ false → Means sc z sc' z' → Means (w ∷ sc) z (w' ∷ sc') z'
means_past w w' z z' sc sc' e e' m i = choose_false _ _ (eqb_flip w z e) ∙ m (suc i) ∙ sym (choose_false _ _ (eqb_flip w' z' e'))

means_under : (w z : ℕ) (sc sc' : List ℕ) → Means sc z sc' z → Means (w ∷ sc) z (w ∷ sc') z
means_under w z sc sc' m i = ap (λ (v : Variable). choose (eqb z w) (bound i) v) (m (suc i))

keeps_under : (y : ℕ) (l : Named) (sc sc' : List ℕ) → Keeps y sc sc' → Keeps y (enter l sc) (enter l sc')
keeps_under y (own (symbol n)) sc sc' m = m
keeps_under y (own (variable w)) sc sc' m = m
keeps_under y (own (application n)) sc sc' m = m
keeps_under y (own (binder b w)) sc sc' m = λ z e. means_under w z sc sc' (m z e)
keeps_under y (slot w) sc sc' m = m

turns_own : (x y : ℕ) (sc : List ℕ) → Turns x y (x ∷ sc) (y ∷ sc)
turns_own x y sc = (means_own x y sc sc, λ z e f. means_past x y z z sc sc e f (λ i. refl))

turns_under : (x y w : ℕ) (sc sc' : List ℕ) → eqb x w ≡ false → eqb y w ≡ false → Turns x y sc sc' → Turns x y (w ∷ sc) (w ∷ sc')
turns_under x y w sc sc' e f m =
    (means_past w w x y sc sc' (eqb_flip x w e) (eqb_flip y w f) m.0, λ z g h. means_under w z sc sc' (m.1 z g h))

-- Below a binder of x the x outside is hidden
turns_hidden : (x y : ℕ) (sc sc' : List ℕ) → Turns x y sc sc' → Keeps y (x ∷ sc) (x ∷ sc')
turns_hidden x y sc sc' m z f =
    by_test (eqb x z)
    (λ e. subst (λ (w : ℕ). Means (x ∷ sc) w (x ∷ sc') w) (eqb_eq x z e) (means_own x x sc sc'))
    (λ e. means_under x z sc sc' (m.1 z e f))

-- A forest in which y does not occur reads the same in two scopes that may differ in what y means
kept_label : (y : ℕ) (l : Named) (sc sc' : List ℕ) → occurs_label y l ≡ false → Keeps y sc sc' → nameless_label sc l ≡ nameless_label sc' l
kept_label y (own (symbol n)) sc sc' o m = refl
kept_label y (own (variable z)) sc sc' o m = ap (λ (v : Variable). own (variable v)) (m z o 0)
kept_label y (own (application n)) sc sc' o m = refl
kept_label y (own (binder b z)) sc sc' o m = refl
kept_label y (slot z) sc sc' o m = refl

kept : (y : ℕ) (u : Forest Named) (sc sc' : List ℕ) → occurs y u ≡ false → Keeps y sc sc' → nameless sc u ≡ nameless sc' u
kept y nil sc sc' o m = refl
kept y (cons l c s) sc sc' o m =
    let p = or-false (occurs_label y l) (occurs y c || occurs y s) o in
    let q = or-false (occurs y c) (occurs y s) p.1 in
    cons_eq
    (kept_label y l sc sc' p.0 m)
    (kept y c (enter l sc) (enter l sc') q.0 (keeps_under y l sc sc' m))
    (kept y s sc sc' q.1 m)

-- A forest in which y does not occur reads as its renaming
turned_label : (x y : ℕ) (l : Named) (sc sc' : List ℕ) → occurs_label y l ≡ false → Turns x y sc sc'
    → nameless_label sc l ≡ nameless_label sc' (with_variable (new_name x y) l)
turned_label x y (own (symbol n)) sc sc' o m = refl
turned_label x y (own (variable z)) sc sc' o m = ap (λ (v : Variable). own (variable v)) (by_test (eqb x z) renames other)
  where
    renames : eqb x z ≡ true → resolve sc 0 z ≡ resolve sc' 0 (new_name x y z)
    renames e = ap (resolve sc 0) (sym (eqb_eq x z e)) ∙ m.0 0 ∙ ap (resolve sc' 0) (sym (choose_true y z e))

    other : eqb x z ≡ false → resolve sc 0 z ≡ resolve sc' 0 (new_name x y z)
    other e = m.1 z e o 0 ∙ ap (resolve sc' 0) (sym (choose_false y z e))
turned_label x y (own (application n)) sc sc' o m = refl
turned_label x y (own (binder b z)) sc sc' o m = refl
turned_label x y (slot z) sc sc' o m = refl

-- The children of a node, from what is known of them in all scopes
turned_below : (x y : ℕ) (l : Named) (c : Forest Named) (sc sc' : List ℕ) → occurs_label y l ≡ false → occurs y c ≡ false → Turns x y sc sc'
    → ((r r' : List ℕ) → Turns x y r r' → nameless r c ≡ nameless r' (rename x y c))
    → nameless (enter l sc) c ≡ nameless (enter (with_variable (new_name x y) l) sc') (choose (binds x l) c (rename x y c))
turned_below x y (own (symbol n)) c sc sc' o p m ih = ih sc sc' m
turned_below x y (own (variable z)) c sc sc' o p m ih = ih sc sc' m
turned_below x y (own (application n)) c sc sc' o p m ih = ih sc sc' m
turned_below x y (own (binder b w)) c sc sc' o p m ih = by_test (eqb x w) hides passes
  where
    hides : eqb x w ≡ true → nameless (w ∷ sc) c ≡ nameless (w ∷ sc') (choose (eqb x w) c (rename x y c))
    hides e =
        kept y c (w ∷ sc) (w ∷ sc') p (subst (λ (v : ℕ). Keeps y (v ∷ sc) (v ∷ sc')) (eqb_eq x w e) (turns_hidden x y sc sc' m))
        ∙ ap (nameless (w ∷ sc')) (sym (choose_true c (rename x y c) e))

    passes : eqb x w ≡ false → nameless (w ∷ sc) c ≡ nameless (w ∷ sc') (choose (eqb x w) c (rename x y c))
    passes e = ih (w ∷ sc) (w ∷ sc') (turns_under x y w sc sc' e o m) ∙ ap (nameless (w ∷ sc')) (sym (choose_false c (rename x y c) e))
turned_below x y (slot z) c sc sc' o p m ih = ih sc sc' m

turned : (x y : ℕ) (u : Forest Named) (sc sc' : List ℕ) → occurs y u ≡ false → Turns x y sc sc'
    → nameless sc u ≡ nameless sc' (rename x y u)
turned x y nil sc sc' o m = refl
turned x y (cons l c s) sc sc' o m =
    let p = or-false (occurs_label y l) (occurs y c || occurs y s) o in
    let q = or-false (occurs y c) (occurs y s) p.1 in
    cons_eq
    (turned_label x y l sc sc' p.0 m)
    (turned_below x y l c sc sc' p.0 q.0 m (λ r r'. turned x y c r r' q.0))
    (turned x y s sc sc' q.1 m)

-- The name that a resolved variable has: the inverse of `resolve`
abbrev name_in : List ℕ → ℕ → Variable → ℕ
name_in [] i (free x) = x
name_in [] i (bound j) = 0
name_in (y ∷ ys) i v = choose (same_variable v (bound i)) y (name_in ys (suc i) v)

resolve_past : (sc : List ℕ) (i j x : ℕ) → i < j → same_variable (resolve sc j x) (bound i) ≡ false
resolve_past [] i j x h = refl
resolve_past (y ∷ ys) i j x h = go (eqb x y) (resolve_past ys i (suc j) x (omega arith))
  where
    go : (b : Bool) → same_variable (resolve ys (suc j) x) (bound i) ≡ false
        → same_variable (choose b (bound j) (resolve ys (suc j) x)) (bound i) ≡ false
    go true ih = eqb_other j i (λ e. omega arith)
    go false ih = ih

name_resolve : (sc : List ℕ) (i x : ℕ) → name_in sc i (resolve sc i x) ≡ x
name_resolve [] i x = refl
name_resolve (y ∷ ys) i x = go (eqb x y) refl (name_resolve ys (suc i) x)
  where
    go : (b : Bool) → eqb x y ≡ b → name_in ys (suc i) (resolve ys (suc i) x) ≡ x
        → name_in (y ∷ ys) i (choose b (bound i) (resolve ys (suc i) x)) ≡ x
    go true e ih = choose_true _ _ (eqb_self i) ∙ sym (eqb_eq x y e)
    go false e ih = choose_false _ _ (resolve_past ys i (suc i) x (omega arith)) ∙ ih

-- A node with the bound name z in place of its own, and its children so renamed
abbrev rebind : ℕ → Named → Named
rebind z (own (symbol n)) = own (symbol n)
rebind z (own (variable x)) = own (variable x)
rebind z (own (application n)) = own (application n)
rebind z (own (binder b x)) = own (binder b z)
rebind z (slot y) = slot y

abbrev rename_below : ℕ → Named → Forest Named → Forest Named
rename_below z (own (symbol n)) c = c
rename_below z (own (variable x)) c = c
rename_below z (own (application n)) c = c
rename_below z (own (binder b x)) c = rename x z c
rename_below z (slot y) c = c

rebind_alpha : (z : ℕ) (l : Named) (c s : Forest Named) → occurs z c ≡ false → Alpha (cons l c s) (cons (rebind z l) (rename_below z l c) s)
rebind_alpha z (own (symbol n)) c s o = same
rebind_alpha z (own (variable x)) c s o = same
rebind_alpha z (own (application n)) c s o = same
rebind_alpha z (own (binder b x)) c s o = step o
rebind_alpha z (slot y) c s o = same

rebind_below : (z : ℕ) (l : Named) (c : Forest Named) (sc : List ℕ) → occurs z c ≡ false
    → nameless (enter l sc) c ≡ nameless (enter (rebind z l) sc) (rename_below z l c)
rebind_below z (own (symbol n)) c sc o = refl
rebind_below z (own (variable x)) c sc o = refl
rebind_below z (own (application n)) c sc o = refl
rebind_below z (own (binder b x)) c sc o = turned x z c (x ∷ sc) (z ∷ sc) o (turns_own x z sc)
rebind_below z (slot y) c sc o = refl

-- Up to the bound name a node is known from its resolved label
abbrev named : ℕ → List ℕ → Nameless → Named
named z sc (own (symbol n)) = own (symbol n)
named z sc (own (variable v)) = own (variable (name_in sc 0 v))
named z sc (own (application n)) = own (application n)
named z sc (own (binder b x)) = own (binder b z)
named z sc (slot y) = slot y

named_label : (z : ℕ) (sc : List ℕ) (l : Named) → named z sc (nameless_label sc l) ≡ rebind z l
named_label z sc (own (symbol n)) = refl
named_label z sc (own (variable x)) = ap (λ (y : ℕ). own (variable y)) (name_resolve sc 0 x)
named_label z sc (own (application n)) = refl
named_label z sc (own (binder b x)) = refl
named_label z sc (slot y) = refl

-- A number above all names of a forest
abbrev above_label : Named → ℕ
above_label (own (symbol n)) = 0
above_label (own (variable x)) = suc x
above_label (own (application n)) = 0
above_label (own (binder b x)) = suc x
above_label (slot y) = 0

abbrev above : Forest Named → ℕ
above nil = 0
above (cons l c s) = above_label l + (above c + above s)

fresh_label : (z : ℕ) (l : Named) → above_label l ≤ z → occurs_label z l ≡ false
fresh_label z (own (symbol n)) h = refl
fresh_label z (own (variable x)) h = eqb_other z x (λ e. omega arith)
fresh_label z (own (application n)) h = refl
fresh_label z (own (binder b x)) h = eqb_other z x (λ e. omega arith)
fresh_label z (slot y) h = refl

fresh : (z : ℕ) (u : Forest Named) → above u ≤ z → occurs z u ≡ false
fresh z nil h = refl
fresh z (cons l c s) h = ap₂ ◌||◌ (fresh_label z l (omega arith)) (ap₂ ◌||◌ (fresh z c (omega arith)) (fresh z s (omega arith)))

rename_size : (x y : ℕ) (u : Forest Named) → size (rename x y u) ≡ size u
rename_size x y nil = refl
rename_size x y (cons l c s) = ap₂ (λ (m n : ℕ). suc (m + n)) (go (binds x l) (rename_size x y c)) (rename_size x y s)
  where
    go : (b : Bool) → size (rename x y c) ≡ size c → size (choose b c (rename x y c)) ≡ size c
    go true ih = refl
    go false ih = ih

rename_below_size : (z : ℕ) (l : Named) (c : Forest Named) → size (rename_below z l c) ≡ size c
rename_below_size z (own (symbol n)) c = refl
rename_below_size z (own (variable x)) c = refl
rename_below_size z (own (application n)) c = refl
rename_below_size z (own (binder b x)) c = rename_size x z c
rename_below_size z (slot y) c = refl

-- Two nodes that read the same: both take the bound name z, fresh to both, and are then alike up to what is below
join_nodes : (z : ℕ) (l l' : Named) (c c' s s' : Forest Named) → occurs z c ≡ false → occurs z c' ≡ false → rebind z l ≡ rebind z l'
    → Alpha (rename_below z l c) (rename_below z l' c') → Alpha s s' → Alpha (cons l c s) (cons l' c' s')
join_nodes z l l' c c' s s' o o' r a b =
    let mid = subst (λ (k : Named). Alpha (cons (rebind z l) (rename_below z l c) s) (cons k (rename_below z l' c') s')) r (node a b) in
    chain (rebind_alpha z l c s o) (chain mid (back (rebind_alpha z l' c' s' o')))

same_below : (z : ℕ) (l l' : Named) (c c' : Forest Named) (sc : List ℕ) → occurs z c ≡ false → occurs z c' ≡ false
    → rebind z l ≡ rebind z l' → nameless (enter l sc) c ≡ nameless (enter l' sc) c'
    → nameless (enter (rebind z l) sc) (rename_below z l c) ≡ nameless (enter (rebind z l) sc) (rename_below z l' c')
same_below z l l' c c' sc o o' r e =
    sym (rebind_below z l c sc o)
    ∙ e
    ∙ rebind_below z l' c' sc o'
    ∙ ap (λ (k : Named). nameless (enter k sc) (rename_below z l' c')) (sym r)

-- By the size of u, which renaming keeps
nameless_alpha_within : (n : ℕ) (u v : Forest Named) (sc : List ℕ) → size u < n → nameless sc u ≡ nameless sc v → Alpha u v
nameless_alpha_within zero u v sc h e = absurd (omega arith)
nameless_alpha_within (suc n) nil nil sc h e = same
nameless_alpha_within (suc n) nil (cons l' c' s') sc h e = never (cc)
nameless_alpha_within (suc n) (cons l c s) nil sc h e = never (cc)
nameless_alpha_within (suc n) (cons l c s) (cons l' c' s') sc h e =
    let z = above c + above c' in
    let o = fresh z c (omega arith) in
    let o' = fresh z c' (omega arith) in
    let heads : nameless_label sc l ≡ nameless_label sc l' = cc in
    let bodies : nameless (enter l sc) c ≡ nameless (enter l' sc) c' = cc in
    let rests : nameless sc s ≡ nameless sc s' = cc in
    let r : rebind z l ≡ rebind z l' = sym (named_label z sc l) ∙ ap (named z sc) heads ∙ named_label z sc l' in
    let below = same_below z l l' c c' sc o o' r bodies in
    join_nodes z l l' c c' s s' o o' r
    (nameless_alpha_within n (rename_below z l c) (rename_below z l' c') (enter (rebind z l) sc)
    (omega (arith, rename_below_size z l c)) below)
    (nameless_alpha_within n s s' sc (omega arith) rests)

-- Terms that are equal up to bound names read the same, in every scope
pub alpha_nameless : (u v : Forest Named) → Alpha u v → (sc : List ℕ) → nameless sc u ≡ nameless sc v
alpha_nameless u v (step {b = b} {x = x} {y = y} {c = c} {s = s} o) sc =
    cons_eq refl (turned x y c (x ∷ sc) (y ∷ sc) o (turns_own x y sc)) refl
alpha_nameless u v (node {l = l} {c = c} {c' = c'} {s = s} {s' = s'} p q) sc =
    cons_eq refl (alpha_nameless c c' p (enter l sc)) (alpha_nameless s s' q sc)
alpha_nameless u v same sc = refl
alpha_nameless u v (back p) sc = sym (alpha_nameless v u p sc)
alpha_nameless u v (chain {v = w} p q) sc = alpha_nameless u w p sc ∙ alpha_nameless w v q sc

-- and terms that read the same in some scope are equal up to bound names
pub nameless_alpha : (u v : Forest Named) (sc : List ℕ) → nameless sc u ≡ nameless sc v → Alpha u v
nameless_alpha u v sc e = nameless_alpha_within (suc (size u)) u v sc (omega arith) e

-- So terms of one scope read the same when they are equal up to bound names
pub scoped_is_alpha : (sc : List ℕ) (t u : NamedTerm) → (nameless_term sc t ≡ nameless_term sc u) ↔ Alpha (one t) (one u)
scoped_is_alpha sc t u = (
  λ e. nameless_alpha (one t) (one u) sc (ap (λ (w : Term). one w) e),
  λ a. one_injective (nameless_term sc t) (nameless_term sc u) (alpha_nameless (one t) (one u) a sc),
)

-- Document 01's equality of whole terms, by indices, is equality up to bound names
pub equal_is_alpha : (t u : NamedTerm) → EqualWhole t u ↔ Alpha (one t) (one u)
equal_is_alpha t u = scoped_is_alpha [] t u

-- It is an equivalence, of whole terms and of terms each with its own binders outside
pub whole_refl : (t : NamedTerm) → EqualWhole t t
whole_refl t = refl

pub whole_sym : (t u : NamedTerm) → EqualWhole t u → EqualWhole u t
whole_sym t u e = sym e

pub whole_trans : (t u v : NamedTerm) → EqualWhole t u → EqualWhole u v → EqualWhole t v
whole_trans t u v e f = e ∙ f

pub equal_refl : {W : Type 0} (who : ℕ → W) (t : Term) → Equal who who t t
equal_refl who t = refl

pub equal_sym : {W : Type 0} (who who' : ℕ → W) (t u : Term) → Equal who who' t u → Equal who' who u t
equal_sym who who' t u e = sym e

pub equal_trans : {W : Type 0} (who who' who'' : ℕ → W) (t u v : Term) → Equal who who' t u → Equal who' who'' u v → Equal who who'' t v
equal_trans who who' who'' t u v e f = e ∙ f

-- Examples, x the name 0 and y the name 1
abbrev var : ℕ → NamedTerm
var x = (own (variable x), nil)

abbrev all : ℕ → NamedTerm → NamedTerm
all x t = (own (binder 0 x), one t)

-- "A variable belongs to the nearest enclosing binder of its number": ∀x.∀x.x and ∀x.∀y.y
pub nearest_binds : EqualWhole (all 0 (all 0 (var 0))) (all 0 (all 1 (var 1)))
nearest_binds = refl

-- ∀x.x and ∀y.y, by one step
pub renamed_once : Alpha (one (all 0 (var 0))) (one (all 1 (var 1)))
renamed_once = step refl

-- ∀x.∀y.x and ∀y.∀x.y, by way of a third name
pub names_swapped : Alpha (one (all 0 (all 1 (var 0)))) (one (all 1 (all 0 (var 1))))
names_swapped = (equal_is_alpha (all 0 (all 1 (var 0))) (all 1 (all 0 (var 1)))).0 refl

-- ∀x.∀y.x and ∀y.∀y.y differ: y is not fresh there, and the inner binder would capture it
pub captured_differs : ¬ Alpha (one (all 0 (all 1 (var 0)))) (one (all 1 (all 1 (var 1))))
captured_differs a =
    let e = alpha_nameless (one (all 0 (all 1 (var 0)))) (one (all 1 (all 1 (var 1)))) a [] in
    let z : ◌≡◌ {A = ℕ} 1 0 = cc in omega arith

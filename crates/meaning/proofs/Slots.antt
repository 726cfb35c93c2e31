-- The slots of a forest that a walk meets, and what they have to do with faces, standings and holes.
--   slots   the slots outside other slots, each with its children, in preorder: just what the faces of a walk stand for
use mathlib.Core.Path.{◌≡◌, refl, ap, ap₂, sym, ◌∙◌, subst}
use mathlib.Core.Logic.{◌⊎◌, inl, inr, ⊎_elim}
use Prim.Native.Nat.{ℕ, zero, suc, ◌+◌, ◌<◌}
use mathlib.Core.Bool.{Bool, true, false, ◌||◌, false≢true}
use mathlib.Core.List.Memᴰ
use mathlib.Core.List.{List, [], ◌∷◌, ◌++◌, map, map-append}
use mathlib.Core.Option.{Option, none, some}
use native.Mathlib.Omega.{arith}
use lib.Dec.{eqb}
use Rattle.meaning.specs.Basics.{each, join, guard, ◌∈◌}
use Rattle.meaning.specs.Term.{nil, cons, one, size, trees, own, slot, Slot, metavariable, function, hole, Nameless, Terms, Term}
use Rattle.meaning.specs.Term.{inner, IsExpression}
use Rattle.meaning.specs.Problem.{Problem, patterns, expressions, plain, applications, applied, alone, argument_of, Standing}
use Rattle.meaning.specs.Problem.{in_arguments, standings}
use Rattle.meaning.specs.Filling.{argument, IsBody}
use Rattle.meaning.specs.Solution.{has_hole}
use Rattle.meaning.specs.Face.{Face, agrees, meet, walk, walk_of}
use Rattle.meaning.proofs.Lists.{never, eqb_eq, eqb_self, or_cases, or_left, or_right, each_append, mem_map, map_mem, mem_each}
use Rattle.meaning.proofs.Lists.{each_mem}
use Rattle.meaning.proofs.Proper.{IsArgument, IsPattern, Proper}

abbrev pub slots_node : Nameless → Terms → List (Slot × Terms) → List (Slot × Terms)
slots_node (own o) c below = below
slots_node (slot z) c below = (z, c) ∷ []

abbrev pub slots : Terms → List (Slot × Terms)
slots nil = []
slots (cons l c s) = slots_node l c (slots c) ++ slots s

abbrev pub key : Face → Slot × Terms
key x = (x.what, x.children)

-- Of an answer, if there is one
abbrev pub When : {A : Type 0} → (A → Type 0) → Option A → Type 0
When P none = Unit {0}
When P (some a) = P a

join_keys : (a b : List (Slot × Terms)) (x y : Option (List Face))
    → When (λ xs. map key xs ≡ a) x → When (λ xs. map key xs ≡ b) y → When (λ xs. map key xs ≡ a ++ b) (join x y)
join_keys a b none y h g = tt
join_keys a b (some x) none h g = tt
join_keys a b (some x) (some y) h g = map-append key x y ∙ ap₂ (λ (u v : List (Slot × Terms)). u ++ v) h g

guard_when : {A : Type 0} (P : A → Type 0) (b : Bool) (w : Option A) → When P w → When P (guard b w)
guard_when P true w h = h
guard_when P false w h = tt

meet_keys : (k n : ℕ) (l : Nameless) (c : Terms) (t : Term) (below : Option (List Face)) (z : List (Slot × Terms))
    → When (λ xs. map key xs ≡ z) below → When (λ xs. map key xs ≡ slots_node l c z) (meet k n l c t below)
meet_keys k n (own o) c t below z h = guard_when (λ xs. map key xs ≡ z) (agrees o t.0) below h
meet_keys k n (slot y) c t below z h = refl

walk_keys : (k n : ℕ) (p e : Terms) → When (λ xs. map key xs ≡ slots p) (walk k n p e)
walk_keys k n nil nil = refl
walk_keys k n nil (cons l c s) = tt
walk_keys k n (cons l c s) nil = tt
walk_keys k n (cons l c s) (cons l' c' s') =
    join_keys (slots_node l c (slots c)) (slots s) (meet k n l c (l', c') (walk (inner l k) (suc n) c c')) (walk k (suc n + size c') s s')
    (meet_keys k n l c (l', c') (walk (inner l k) (suc n) c c') (slots c) (walk_keys (inner l k) (suc n) c c'))
    (walk_keys k (suc n + size c') s s')

-- The first slot of a list, or one of the others
slot_cases : {z y : Slot} {d c : Terms} {xs : List (Slot × Terms)} → (z, d) ∈ ((y, c) ∷ xs) → (z ≡ y) ⊎ ((z, d) ∈ xs)
slot_cases q = ⊎_elim (λ e. inl (ap (λ (x : Slot × Terms). x.0) e)) inr (Memᴰ.cases_cons q)

-- The faces of a walk stand for the pattern's slots, in order
pub faces_slots : (k n : ℕ) (p e : Terms) (xs : List Face) → walk k n p e ≡ some xs → map key xs ≡ slots p
faces_slots k n p e xs q = subst (When (λ ys. map key ys ≡ slots p)) q (walk_keys k n p e)

pub face_slot : (k n : ℕ) (p e : Terms) (xs : List Face) (x : Face) → walk k n p e ≡ some xs → x ∈ xs → (x.what, x.children) ∈ slots p
face_slot k n p e xs x q m = subst (λ (l : List (Slot × Terms)). key x ∈ l) (faces_slots k n p e xs q) (mem_map key m)

pub slot_face : (k n : ℕ) (p e : Terms) (xs : List Face) (z : Slot) (c : Terms) → walk k n p e ≡ some xs → (z, c) ∈ slots p
    → (x : Face) × (x ∈ xs) × (x.what ≡ z) × (x.children ≡ c)
slot_face k n p e xs z c q m =
    let r = map_mem key (z, c) xs (subst (λ (l : List (Slot × Terms)). (z, c) ∈ l) (sym (faces_slots k n p e xs q)) m) in
    (r.0, r.1, sym (ap (λ (y : Slot × Terms). y.0) r.2), sym (ap (λ (y : Slot × Terms). y.1) r.2))

-- What is faced is an expression
abbrev FacesExpression : Face → Type 0
FacesExpression x = IsExpression (one x.term)

join_expressions : (x y : Option (List Face)) → When (λ xs. (z : Face) → z ∈ xs → FacesExpression z) x
    → When (λ xs. (z : Face) → z ∈ xs → FacesExpression z) y
    → When (λ xs. (z : Face) → z ∈ xs → FacesExpression z) (join x y)
join_expressions none y h g = tt
join_expressions (some x) none h g = tt
join_expressions (some x) (some y) h g = λ z m. ⊎_elim (h z) (g z) (Memᴰ.append_cases x m)

meet_expressions : (k n : ℕ) (l : Nameless) (c : Terms) (t : Term) (below : Option (List Face)) → IsExpression (one t)
    → When (λ xs. (z : Face) → z ∈ xs → FacesExpression z) below
    → When (λ xs. (z : Face) → z ∈ xs → FacesExpression z) (meet k n l c t below)
meet_expressions k n (own o) c t below x h = guard_when (λ xs. (z : Face) → z ∈ xs → FacesExpression z) (agrees o t.0) below h
meet_expressions k n (slot y) c t below x h =
    λ z m. ⊎_elim (λ (e : z ≡ record { under = k; what = y; children = c; node = n; term = t }). subst FacesExpression (sym e) x)
    (λ q. absurd (Memᴰ.not-nil q)) (Memᴰ.cases_cons m)

walk_expressions : (k n : ℕ) (p e : Terms) → IsExpression e → When (λ xs. (z : Face) → z ∈ xs → FacesExpression z) (walk k n p e)
walk_expressions k n nil nil h = λ z m. absurd (Memᴰ.not-nil m)
walk_expressions k n nil (cons l c s) h = tt
walk_expressions k n (cons l c s) nil h = tt
walk_expressions k n (cons l c s) (cons l' c' s') h =
    join_expressions (meet k n l c (l', c') (walk (inner l k) (suc n) c c')) (walk k (suc n + size c') s s')
    (meet_expressions k n l c (l', c') (walk (inner l k) (suc n) c c') (h.0, h.1, tt) (walk_expressions (inner l k) (suc n) c c' h.1))
    (walk_expressions k (suc n + size c') s s' h.2)

pub faces_expression : (k n : ℕ) (p e : Terms) (xs : List Face) → IsExpression e → walk k n p e ≡ some xs → (x : Face) → x ∈ xs
    → IsExpression (one x.term)
faces_expression k n p e xs h q = subst (When (λ ys. (z : Face) → z ∈ ys → FacesExpression z)) q (walk_expressions k n p e h)

-- Standings by slots
abbrev pub standing_at : Slot × Terms → List Standing
standing_at y = elim y.0 [ metavariable m ↦ (m, alone) ∷ [] | function f n ↦ in_arguments f 0 y.1 | hole i ↦ [] ]

pub standings_slots : (u : Terms) → standings u ≡ each standing_at (slots u)
standings_slots nil = refl
standings_slots (cons (own o) c s) =
    ap₂ (λ (x y : List Standing). x ++ y) (standings_slots c) (standings_slots s) ∙ sym (each_append standing_at (slots c) (slots s))
standings_slots (cons (slot (metavariable m)) c s) = ap (λ (x : List Standing). (m, alone) ∷ x) (standings_slots s)
standings_slots (cons (slot (function f n)) c s) = ap (λ (x : List Standing). in_arguments f 0 c ++ x) (standings_slots s)
standings_slots (cons (slot (hole i)) c s) = standings_slots s

pub slot_standing : (u : Terms) (z : Slot) (c : Terms) (x : Standing) → (z, c) ∈ slots u → x ∈ standing_at (z, c) → x ∈ standings u
slot_standing u z c x m h = subst (λ (l : List Standing). x ∈ l) (sym (standings_slots u)) (mem_each standing_at (z, c) x (slots u) m h)

pub standing_slot : (u : Terms) (x : Standing) → x ∈ standings u → (y : Slot × Terms) × (y ∈ slots u) × (x ∈ standing_at y)
standing_slot u x m = each_mem standing_at x (slots u) (subst (λ (l : List Standing). x ∈ l) (standings_slots u) m)

-- The standings in arguments
pub in_arguments_lem : (f j : ℕ) (c : Terms) (x : Standing) → x ∈ in_arguments f j c
    → (i : ℕ) × (i < trees c) × (x.1 ≡ argument_of f (j + i)) × (x.0 ∈ plain (one (argument c i)))
in_arguments_lem f j nil x m = absurd (Memᴰ.not-nil m)
in_arguments_lem f j (cons l c s) x m =
    go (in_arguments_lem f (suc j) s x) (Memᴰ.append_cases (map (λ (k : ℕ). (k, argument_of f j)) (plain (one (l, c)))) m)
  where
    here : (k : ℕ) × (k ∈ plain (one (l, c))) × (x ≡ (k, argument_of f j))
        → (i : ℕ) × (i < suc (trees s)) × (x.1 ≡ argument_of f (j + i)) × (x.0 ∈ plain (one (argument (cons l c s) i)))
    here r =
        let e : j ≡ j + 0 = omega arith in (
          0,
          omega arith,
          ap (λ (y : Standing). y.1) r.2 ∙ ap (argument_of f) e,
          subst (λ (k : ℕ). k ∈ plain (one (l, c))) (sym (ap (λ (y : Standing). y.0) r.2)) r.1,
        )

    later : (i : ℕ) × (i < trees s) × (x.1 ≡ argument_of f (suc j + i)) × (x.0 ∈ plain (one (argument s i)))
        → (i : ℕ) × (i < suc (trees s)) × (x.1 ≡ argument_of f (j + i)) × (x.0 ∈ plain (one (argument (cons l c s) i)))
    later r =
        let h : r.0 < trees s = r.1 in
        let e : suc j + r.0 ≡ j + suc r.0 = omega arith in
        (suc r.0, omega arith, r.2 ∙ ap (argument_of f) e, r.3)

    go : (x ∈ in_arguments f (suc j) s → (i : ℕ) × (i < trees s) × (x.1 ≡ argument_of f (suc j + i)) × (x.0 ∈ plain (one (argument s i))))
        → (x ∈ map (λ (k : ℕ). (k, argument_of f j)) (plain (one (l, c)))) ⊎ (x ∈ in_arguments f (suc j) s)
        → (i : ℕ) × (i < suc (trees s)) × (x.1 ≡ argument_of f (j + i)) × (x.0 ∈ plain (one (argument (cons l c s) i)))
    go ih (inl q) = here (map_mem (λ (k : ℕ). (k, argument_of f j)) x (plain (one (l, c))) q)
    go ih (inr q) = later (ih q)

pub arguments_in : (f j i m : ℕ) (c : Terms) → i < trees c → m ∈ plain (one (argument c i)) → (m, argument_of f (j + i)) ∈ in_arguments f j c
arguments_in f j i m nil h q = absurd (omega arith)
arguments_in f j zero m (cons l c s) h q =
    let e : j ≡ j + 0 = omega arith in
    Memᴰ.append_left (in_arguments f (suc j) s)
    (subst (λ (k : ℕ). ◌∈◌ {A = Standing} (m, argument_of f k) (map (λ (x : ℕ). (x, argument_of f j)) (plain (one (l, c))))) e
    (mem_map {B = Standing} (λ (x : ℕ). (x, argument_of f j)) q))
arguments_in f j (suc i) m (cons l c s) h q =
    let e : suc j + i ≡ j + suc i = omega arith in
    Memᴰ.append_right (map (λ (x : ℕ). (x, argument_of f j)) (plain (one (l, c))))
    (subst (λ (k : ℕ). (m, argument_of f k) ∈ in_arguments f (suc j) s) e (arguments_in f (suc j) i m s (omega arith) q))

-- Metavariables of an argument
pub plain_slot : (u : Terms) → IsArgument u → (m : ℕ) → m ∈ plain u → (c : Terms) × ((metavariable m, c) ∈ slots u)
plain_slot nil h m q = absurd (Memᴰ.not-nil q)
plain_slot (cons (own o) c s) h m q = go (plain_slot c h.1 m) (plain_slot s h.2 m) (Memᴰ.append_cases (plain c) q)
  where
    go : (m ∈ plain c → (d : Terms) × ((metavariable m, d) ∈ slots c)) → (m ∈ plain s → (d : Terms) × ((metavariable m, d) ∈ slots s))
        → (m ∈ plain c) ⊎ (m ∈ plain s) → (d : Terms) × ((metavariable m, d) ∈ (slots c ++ slots s))
    go f g (inl x) = let r = f x in (r.0, Memᴰ.append_left (slots s) r.1)
    go f g (inr x) = let r = g x in (r.0, Memᴰ.append_right (slots c) r.1)
plain_slot (cons (slot (metavariable k)) c s) h m q = go (plain_slot s h.2 m) (Memᴰ.cases_cons q)
  where
    go : (m ∈ plain s → (d : Terms) × ((metavariable m, d) ∈ slots s)) → (m ≡ k) ⊎ (m ∈ plain s)
        → (d : Terms) × ((metavariable m, d) ∈ ((metavariable k, c) ∷ slots s))
    go f (inl e) = (c, Memᴰ.head (ap (λ (x : ℕ). (metavariable x, c)) e))
    go f (inr x) = let r = f x in (r.0, Memᴰ.tail r.1)
plain_slot (cons (slot (function f n)) c s) h m q = absurd h.0
plain_slot (cons (slot (hole i)) c s) h m q = absurd h.0

pub slot_plain : (u : Terms) (m : ℕ) (d : Terms) → (metavariable m, d) ∈ slots u → m ∈ plain u
slot_plain nil m d q = absurd (Memᴰ.not-nil q)
slot_plain (cons (own o) c s) m d q =
    ⊎_elim (λ x. Memᴰ.append_left (plain s) (slot_plain c m d x)) (λ x. Memᴰ.append_right (plain c) (slot_plain s m d x))
    (Memᴰ.append_cases (slots c) q)
slot_plain (cons (slot (metavariable k)) c s) m d q =
    ⊎_elim (λ (e : metavariable m ≡ metavariable k). let w : m ≡ k = cc in Memᴰ.head w)
    (λ x. Memᴰ.tail (slot_plain s m d x)) (slot_cases q)
slot_plain (cons (slot (function f n)) c s) m d q =
    ⊎_elim (λ (e : metavariable m ≡ function f n). never (cc))
    (λ x. Memᴰ.append_right (plain c) (slot_plain s m d x)) (slot_cases q)
slot_plain (cons (slot (hole i)) c s) m d q =
    ⊎_elim (λ (e : metavariable m ≡ hole i). never (cc))
    (λ x. slot_plain s m d x) (slot_cases q)

-- Functions of a pattern
argument_unapplied : (u : Terms) → IsArgument u → (f n : ℕ) → (f, n) ∈ applications u → ⊥
argument_unapplied nil h f n q = Memᴰ.not-nil q
argument_unapplied (cons (own o) c s) h f n q =
    ⊎_elim (argument_unapplied c h.1 f n) (argument_unapplied s h.2 f n) (Memᴰ.append_cases (applications c) q)
argument_unapplied (cons (slot (metavariable m)) c s) h f n q = argument_unapplied s h.2 f n q
argument_unapplied (cons (slot (function g a)) c s) h f n q = h.0
argument_unapplied (cons (slot (hole i)) c s) h f n q = h.0

application_slot : (u : Terms) → IsPattern u → (f n : ℕ) → (f, n) ∈ applications u → (c : Terms) × ((function f n, c) ∈ slots u)
application_slot nil h f n q = absurd (Memᴰ.not-nil q)
application_slot (cons (own o) c s) h f n q =
    go (application_slot c h.1 f n) (application_slot s h.2 f n) (Memᴰ.append_cases (applications c) q)
  where
    go : ((f, n) ∈ applications c → (d : Terms) × ((function f n, d) ∈ slots c))
        → ((f, n) ∈ applications s → (d : Terms) × ((function f n, d) ∈ slots s))
        → ((f, n) ∈ applications c) ⊎ ((f, n) ∈ applications s) → (d : Terms) × ((function f n, d) ∈ (slots c ++ slots s))
    go x y (inl z) = let r = x z in (r.0, Memᴰ.append_left (slots s) r.1)
    go x y (inr z) = let r = y z in (r.0, Memᴰ.append_right (slots c) r.1)
application_slot (cons (slot (metavariable m)) c s) h f n q = let r = application_slot s h.2 f n q in (r.0, Memᴰ.tail r.1)
application_slot (cons (slot (function g a)) c s) h f n q = go (application_slot s h.2 f n) (Memᴰ.cases_cons q)
  where
    go : ((f, n) ∈ applications s → (d : Terms) × ((function f n, d) ∈ slots s))
        → (◌≡◌ {A = ℕ × ℕ} (f, n) (g, a)) ⊎ ((f, n) ∈ (applications c ++ applications s))
        → (d : Terms) × ((function f n, d) ∈ ((function g a, c) ∷ slots s))
    go x (inl e) = (c, Memᴰ.head (ap (λ (y : ℕ × ℕ). (function y.0 y.1, c)) e))
    go x (inr z) =
        let r = x (⊎_elim (λ y. absurd (argument_unapplied c h.0.1 f n y)) (λ y. y) (Memᴰ.append_cases (applications c) z)) in
        (r.0, Memᴰ.tail r.1)
application_slot (cons (slot (hole i)) c s) h f n q = absurd h.0

pub slot_application : (u : Terms) (f n : ℕ) (d : Terms) → (function f n, d) ∈ slots u → (f, n) ∈ applications u
slot_application nil f n d q = absurd (Memᴰ.not-nil q)
slot_application (cons (own o) c s) f n d q =
    ⊎_elim (λ x. Memᴰ.append_left (applications s) (slot_application c f n d x))
    (λ x. Memᴰ.append_right (applications c) (slot_application s f n d x))
    (Memᴰ.append_cases (slots c) q)
slot_application (cons (slot (metavariable m)) c s) f n d q =
    ⊎_elim (λ (e : function f n ≡ metavariable m). never (cc))
    (λ x. slot_application s f n d x) (slot_cases q)
slot_application (cons (slot (function g a)) c s) f n d q =
    ⊎_elim (λ (e : function f n ≡ function g a). let v : f ≡ g = cc in let w : n ≡ a = cc in Memᴰ.head (ap₂ (λ (x y : ℕ). (x, y)) v w))
    (λ x. Memᴰ.tail (Memᴰ.append_right (applications c) (slot_application s f n d x))) (slot_cases q)
slot_application (cons (slot (hole i)) c s) f n d q =
    ⊎_elim (λ (e : function f n ≡ hole i). never (cc))
    (λ x. slot_application s f n d x) (slot_cases q)

pub applied_slot : (u : Terms) → IsPattern u → (f : ℕ) → f ∈ applied u → (n : ℕ) × (c : Terms) × ((function f n, c) ∈ slots u)
applied_slot u h f q =
    let (a, m, e) = map_mem (λ (y : ℕ × ℕ). y.0) f (applications u) q in
    let (c, i) = application_slot u h f a.1 (subst (λ (g : ℕ). (g, a.1) ∈ applications u) (sym e) m) in
    (a.1, c, i)

pub slot_applied : (u : Terms) (f n : ℕ) (d : Terms) → (function f n, d) ∈ slots u → f ∈ applied u
slot_applied u f n d q = mem_map (λ (y : ℕ × ℕ). y.0) (slot_application u f n d q)

pub pattern_slot : (u : Terms) → IsPattern u → (f n : ℕ) (c : Terms) → (function f n, c) ∈ slots u → (trees c ≡ n) × IsArgument c
pattern_slot nil h f n d q = absurd (Memᴰ.not-nil q)
pattern_slot (cons (own o) c s) h f n d q =
    ⊎_elim (pattern_slot c h.1 f n d) (pattern_slot s h.2 f n d) (Memᴰ.append_cases (slots c) q)
pattern_slot (cons (slot (metavariable m)) c s) h f n d q =
    ⊎_elim (λ (e : function f n ≡ metavariable m). never (cc))
    (pattern_slot s h.2 f n d) (slot_cases q)
pattern_slot (cons (slot (function g a)) c s) h f n d q =
    ⊎_elim (λ (e : ◌≡◌ {A = Slot × Terms} (function f n, d) (function g a, c)).
    let v : d ≡ c = ap (λ (y : Slot × Terms). y.1) e in
    let w : function f n ≡ function g a = ap (λ (y : Slot × Terms). y.0) e in
    let k : n ≡ a = cc in
    (ap trees v ∙ h.0.0 ∙ sym k, subst IsArgument (sym v) h.0.1))
    (pattern_slot s h.2 f n d) (Memᴰ.cases_cons q)
pattern_slot (cons (slot (hole i)) c s) h f n d q = absurd h.0

-- Holes of a body
pub hole_slot : (n : ℕ) (u : Terms) → IsBody n u → (i : ℕ) → has_hole i u ≡ true → (c : Terms) × ((hole i, c) ∈ slots u)
hole_slot n nil h i e = absurd (false≢true e)
hole_slot n (cons (own o) c s) h i e = go (hole_slot n c h.1 i) (hole_slot n s h.2 i) (or_cases (has_hole i c) (has_hole i s) e)
  where
    go : (has_hole i c ≡ true → (d : Terms) × ((hole i, d) ∈ slots c)) → (has_hole i s ≡ true → (d : Terms) × ((hole i, d) ∈ slots s))
        → (has_hole i c ≡ true) ⊎ (has_hole i s ≡ true) → (d : Terms) × ((hole i, d) ∈ (slots c ++ slots s))
    go x y (inl z) = let r = x z in (r.0, Memᴰ.append_left (slots s) r.1)
    go x y (inr z) = let r = y z in (r.0, Memᴰ.append_right (slots c) r.1)
hole_slot n (cons (slot (metavariable m)) c s) h i e = absurd h.0
hole_slot n (cons (slot (function f a)) c s) h i e = absurd h.0
hole_slot n (cons (slot (hole j)) c s) h i e = go (hole_slot n s h.2 i) (or_cases (eqb i j) (has_hole i c || has_hole i s) e)
  where
    none_below : has_hole i c ≡ false
    none_below = ap (has_hole i) h.0.1

    go : (has_hole i s ≡ true → (d : Terms) × ((hole i, d) ∈ slots s)) → (eqb i j ≡ true) ⊎ ((has_hole i c || has_hole i s) ≡ true)
        → (d : Terms) × ((hole i, d) ∈ ((hole j, c) ∷ slots s))
    go y (inl z) = (c, Memᴰ.head (ap (λ (x : ℕ). (hole x, c)) (eqb_eq i j z)))
    go y (inr z) = let r = y (sym (ap (λ (b : Bool). b || has_hole i s) none_below) ∙ z) in (r.0, Memᴰ.tail r.1)

pub slot_hole : (u : Terms) (i : ℕ) (d : Terms) → (hole i, d) ∈ slots u → has_hole i u ≡ true
slot_hole nil i d q = absurd (Memᴰ.not-nil q)
slot_hole (cons (own o) c s) i d q =
    ⊎_elim (λ x. or_left (has_hole i c) (has_hole i s) (slot_hole c i d x)) (λ x. or_right (has_hole i c) (has_hole i s) (slot_hole s i d x))
    (Memᴰ.append_cases (slots c) q)
slot_hole (cons (slot (metavariable m)) c s) i d q =
    ⊎_elim (λ (e : hole i ≡ metavariable m). never (cc))
    (λ x. or_right (has_hole i c) (has_hole i s) (slot_hole s i d x)) (slot_cases q)
slot_hole (cons (slot (function f n)) c s) i d q =
    ⊎_elim (λ (e : hole i ≡ function f n). never (cc))
    (λ x. or_right (has_hole i c) (has_hole i s) (slot_hole s i d x)) (slot_cases q)
slot_hole (cons (slot (hole j)) c s) i d q =
    ⊎_elim (λ (e : hole i ≡ hole j). let w : i ≡ j = cc in
    or_left (eqb i j) (has_hole i c || has_hole i s) (ap (λ (x : ℕ). eqb i x) (sym w) ∙ eqb_self i))
    (λ x. or_right (eqb i j) (has_hole i c || has_hole i s) (or_right (has_hole i c) (has_hole i s) (slot_hole s i d x))) (slot_cases q)

-- The faces of a proper problem
module _ (p : Problem) (c : Proper p) (xs : List Face) (defined : walk_of p ≡ some xs) where
  pub faced_slot : (z : Slot) (x : Face) → x ∈ xs → x.what ≡ z → (z, x.children) ∈ slots (patterns p)
  faced_slot z x q e =
      subst (λ (y : Slot). ◌∈◌ {A = Slot × Terms} (y, x.children) (slots (patterns p))) e
      (face_slot 0 0 (patterns p) (expressions p) xs x defined q)

  pub faced_expression : (x : Face) → x ∈ xs → IsExpression (one x.term)
  faced_expression = faces_expression 0 0 (patterns p) (expressions p) xs c.expression defined

  pub faced_shape : (f n : ℕ) (x : Face) → x ∈ xs → x.what ≡ function f n → (trees x.children ≡ n) × IsArgument x.children
  faced_shape f n x q e = pattern_slot (patterns p) c.pattern f n x.children (faced_slot (function f n) x q e)

  pub faced_applied : (f n : ℕ) (x : Face) → x ∈ xs → x.what ≡ function f n → f ∈ applied (patterns p)
  faced_applied f n x q e = slot_applied (patterns p) f n x.children (faced_slot (function f n) x q e)

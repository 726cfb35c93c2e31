-- The walk answers exactly where pattern and expression agree. (`lockstep` alone would also hold of a walk that answers none whenever
-- nothing can satisfy all faces.)
use mathlib.Core.Path.{◌≡◌, refl, ap, sym, ◌∙◌, subst}
use mathlib.Core.Logic.{◌↔◌}
use Prim.Native.Nat.{ℕ, suc, ◌+◌}
use mathlib.Core.Bool.{Bool, true, false, false≢true}
use mathlib.Core.List.{List, []}
use mathlib.Core.Option.{Option, none, some}
use lib.Dec.{T}
use Rattle.meaning.specs.Basics.{is_some, join, guard}
use Rattle.meaning.specs.Term.{nil, cons, size, Own, symbol, variable, application, binder, own, slot, Variable, free, bound}
use Rattle.meaning.specs.Term.{Nameless, Terms, Term, inner}
use Rattle.meaning.specs.Problem.{Problem, both_ways, patterns, expressions}
use Rattle.meaning.specs.Face.{Face, agrees, meet, walk, faces}
use Rattle.meaning.specs.Agree.{SameNode, symbols, free_variables, bound_variables, applications, binders, Agree, ends, nodes, is_met}
use Rattle.meaning.specs.Rows.{rows_over, rows}
use Rattle.meaning.proofs.Lockstep.{agrees_eq, agrees_self}
use Rattle.meaning.proofs.OneWay.{faces_one_way, no_faces_lem, walk_faces}

-- Answers: both, or a guarded one
some_join : {A : Type 0} (x y : Option (List A)) → is_some x ≡ true → is_some y ≡ true → is_some (join x y) ≡ true
some_join none y d e = d
some_join (some x) none d e = e
some_join (some x) (some y) d e = refl

join_some : {A : Type 0} (x y : Option (List A)) → is_some (join x y) ≡ true → (is_some x ≡ true) × (is_some y ≡ true)
join_some none y e = absurd (false≢true e)
join_some (some x) none e = absurd (false≢true e)
join_some (some x) (some y) e = (refl, refl)

some_guard : {A : Type 0} (b : Bool) (w : Option A) → T b → is_some w ≡ true → is_some (guard b w) ≡ true
some_guard true w t e = e
some_guard false w t e = absurd t

guard_some : {A : Type 0} (b : Bool) (w : Option A) → is_some (guard b w) ≡ true → T b × (is_some w ≡ true)
guard_some true w e = (tt, e)
guard_some false w e = absurd (false≢true e)

-- Nodes
same_self : (o : Own Variable (Unit {0})) → SameNode o o
same_self (symbol n) = symbols
same_self (variable (free x)) = free_variables
same_self (variable (bound i)) = bound_variables
same_self (application n) = applications
same_self (binder b tt) = binders

same_agrees : {o o' : Own Variable (Unit {0})} → SameNode o o' → T (agrees o (own o'))
same_agrees (symbols {n}) = agrees_self (symbol n)
same_agrees (free_variables {x}) = agrees_self (variable (free x))
same_agrees (bound_variables {i}) = agrees_self (variable (bound i))
same_agrees (applications {n}) = agrees_self (application n)
same_agrees (binders {b}) = agrees_self (binder b tt)

-- One node with its children, and the siblings after it
met_agree : (k n : ℕ) (l : Nameless) (c s s' : Terms) (t : Term) (below : Option (List Face))
    → is_some (meet k n l c t below) ≡ true → (is_some below ≡ true → Agree c t.1) → Agree s s'
    → Agree (cons l c s) (cons t.0 t.1 s')
met_agree k n (own o) c s s' t below e f a =
    let r = guard_some (agrees o t.0) below e in
    subst (λ (l : Nameless). Agree (cons (own o) c s) (cons l t.1 s')) (agrees_eq o t.0 r.0) (nodes (same_self o) (f r.1) a)
met_agree k n (slot z) c s s' t below e f a = is_met a

walk_then_agree : (k n : ℕ) (u v : Terms) → is_some (walk k n u v) ≡ true → Agree u v
walk_then_agree k n nil nil e = ends
walk_then_agree k n nil (cons l c s) e = absurd (false≢true e)
walk_then_agree k n (cons l c s) nil e = absurd (false≢true e)
walk_then_agree k n (cons l c s) (cons l' c' s') e =
    let r = join_some (meet k n l c (l', c') (walk (inner l k) (suc n) c c')) (walk k (suc n + size c') s s') e in
    met_agree k n l c s s' (l', c') (walk (inner l k) (suc n) c c') r.0
    (walk_then_agree (inner l k) (suc n) c c') (walk_then_agree k (suc n + size c') s s' r.1)

agree_then_walk : (k n : ℕ) (u v : Terms) → Agree u v → is_some (walk k n u v) ≡ true
agree_then_walk k n u v ends = refl
agree_then_walk k n u v (nodes {o} {o'} {c} {c'} {s} {s'} h a b) =
    some_join (guard (agrees o (own o')) (walk (inner (own o) k) (suc n) c c')) (walk k (suc n + size c') s s')
    (some_guard (agrees o (own o')) (walk (inner (own o) k) (suc n) c c') (same_agrees h)
    (agree_then_walk (inner (own o) k) (suc n) c c' a))
    (agree_then_walk k (suc n + size c') s s' b)
agree_then_walk k n u v (is_met {z} {l} {c} {c'} {s} {s'} a) =
    some_join (meet k n (slot z) c (l, c') (walk k (suc n) c c')) (walk k (suc n + size c') s s') refl
    (agree_then_walk k (suc n + size c') s s' a)

-- Main theorems
pub walk_agree : (k n : ℕ) (u v : Terms) → (is_some (walk k n u v) ≡ true) ↔ Agree u v
walk_agree k n u v = (walk_then_agree k n u v, agree_then_walk k n u v)

pub faces_agree : (p : Problem) → (is_some (faces p) ≡ true) ↔ ((both_ways p ≡ false) × Agree (patterns p) (expressions p))
faces_agree p =
    let w = walk_agree 0 0 (patterns p) (expressions p) in (
      λ e. let b = faces_one_way p e in (b, w.0 (ap is_some (sym (walk_faces p b)) ∙ e)),
      λ h. ap is_some (walk_faces p h.0) ∙ w.1 h.1,
    )

-- "If they disagree anywhere, the problem has no rows"
pub disagree_no_rows : (p : Problem) → ¬ Agree (patterns p) (expressions p) → rows p ≡ []
unfolding rows
disagree_no_rows p d = go (faces p) (λ e. d ((faces_agree p).0 e).1)
  where
    go : (w : Option (List Face)) → ¬ (is_some w ≡ true) → rows_over p w ≡ []
    go none h = refl
    go (some xs) h = absurd (h refl)

-- T-09: "no solutions .. and so no rows"
pub both_ways_no_rows : (p : Problem) → both_ways p ≡ true → rows p ≡ []
unfolding rows
both_ways_no_rows p e = ap (rows_over p) (no_faces_lem p e)

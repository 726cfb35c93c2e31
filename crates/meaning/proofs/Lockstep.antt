-- Lockstep: a filled pattern equals an expression exactly when the walk of the two is defined and every face is satisfied.
-- It holds for any filling of slots, so that it serves for patterns and for bodies.
use mathlib.Core.Path.{◌≡◌, refl, ap, subst}
use mathlib.Core.Logic.{◌↔◌}
use Prim.Native.Nat.{ℕ, suc, ◌+◌}
use mathlib.Core.List.{List}
use mathlib.Core.Option.{Option}
use lib.Dec.{T}
use Rattle.meaning.specs.Basics.{AllO}
use Rattle.meaning.specs.Term.{nil, cons, Own, own, slot, Variable, Nameless, Terms, Term, size, inner}
use Rattle.meaning.specs.Same.{same_variable}
use Rattle.meaning.specs.Filling.{Handler, fill_label, fill}
use Rattle.meaning.specs.Face.{Face, agrees, meet, walk}
use Rattle.meaning.specs.Agree.{Satisfied}
use Rattle.meaning.proofs.Lists.{never, join_in, join_out, guard_in, guard_out}
use Rattle.meaning.proofs.Alike.{variable_eq, variable_refl, own_eq, own_refl}
use Rattle.meaning.proofs.ShiftLaws.{pair_eq}
use Rattle.meaning.proofs.Punching.{graft_eq}

pub agrees_eq : (o : Own Variable (Unit {0})) (l : Nameless) → T (agrees o l) → own o ≡ l
agrees_eq o (own p) t = ap own (own_eq same_variable variable_eq o p t)
agrees_eq o (slot z) t = absurd t

pub agrees_self : (o : Own Variable (Unit {0})) → T (agrees o (own o))
agrees_self o = own_refl same_variable variable_refl o

module _ (h : Handler) where
  -- One node, when its children are known to walk as they should
  meet_in : (k n : ℕ) (l : Nameless) (c : Terms) (t : Term) (below : Option (List Face))
      → (fill h (inner l k) c ≡ t.1 → AllO (Satisfied h) below) → fill_label h k l (fill h (inner l k) c) ≡ t
      → AllO (Satisfied h) (meet k n l c t below)
  meet_in k n (own o) c t below f e =
      guard_in (Satisfied h) (agrees o t.0) below (subst (λ (x : Term). T (agrees o x.0)) e (agrees_self o))
      (f (ap (λ (x : Term). x.1) e))
  meet_in k n (slot z) c t below f e = (e, tt)

  meet_out : (k n : ℕ) (l : Nameless) (c : Terms) (t : Term) (below : Option (List Face))
      → (AllO (Satisfied h) below → fill h (inner l k) c ≡ t.1) → AllO (Satisfied h) (meet k n l c t below)
      → fill_label h k l (fill h (inner l k) c) ≡ t
  meet_out k n (own o) c t below f g =
      let r = guard_out (Satisfied h) (agrees o t.0) below g in pair_eq (agrees_eq o t.0 r.0) (f r.1)
  meet_out k n (slot z) c t below f g = g.0

  pub walk_in : (k n : ℕ) (p e : Terms) → fill h k p ≡ e → AllO (Satisfied h) (walk k n p e)
  walk_in k n nil nil q = tt
  walk_in k n nil (cons l c s) q = never (cc)
  walk_in k n (cons l c s) nil q = never (cc)
  walk_in k n (cons l c s) (cons l' c' s') q =
      join_in (Satisfied h) (meet k n l c (l', c') (walk (inner l k) (suc n) c c')) (walk k (suc n + size c') s s')
      (meet_in k n l c (l', c') (walk (inner l k) (suc n) c c') (walk_in (inner l k) (suc n) c c') (pair_eq (cc) (cc)))
      (walk_in k (suc n + size c') s s' (cc))

  pub walk_out : (k n : ℕ) (p e : Terms) → AllO (Satisfied h) (walk k n p e) → fill h k p ≡ e
  walk_out k n nil nil g = refl
  walk_out k n nil (cons l c s) g = absurd g
  walk_out k n (cons l c s) nil g = absurd g
  walk_out k n (cons l c s) (cons l' c' s') g =
      let r = join_out (Satisfied h) (meet k n l c (l', c') (walk (inner l k) (suc n) c c')) (walk k (suc n + size c') s s') g in
      graft_eq (meet_out k n l c (l', c') (walk (inner l k) (suc n) c c') (walk_out (inner l k) (suc n) c c') r.0)
      (walk_out k (suc n + size c') s s' r.1)

-- THE THEOREM
pub lockstep : (h : Handler) (k n : ℕ) (p e : Terms) → (fill h k p ≡ e) ↔ AllO (Satisfied h) (walk k n p e)
lockstep h k n p e = (walk_in h k n p e, walk_out h k n p e)

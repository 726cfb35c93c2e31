-- The walk, and the faces that it finds.
--   walk     pattern and expression "walked together from the top": none where they disagree
--   faces    what the walk of a problem finds: none where it has no rows
--   Face     what a slot of the pattern faces: the number of binders above, the slot with its children, the node, the subexpression there
--   Satisfied  a face whose slot is filled to just what it faces
use Rattle.std.specs.Prelude.{ℕ, suc, ◌+◌, Bool, false, not, List, [], ◌∷◌, eqb}
use Rattle.std.proofs.Math.Option.{Option, none, some}
use Rattle.meaning.specs.Basics.{choose, guard, join}
use Rattle.meaning.specs.Term.{Nameless, Own, Slot, Term, Terms, Variable, cons, function, hole, inner, metavariable, nil, own, size}
use Rattle.meaning.specs.Term.{slot}
use Rattle.meaning.specs.Problem.{Problem, both_ways, expressions, patterns}
use Rattle.meaning.specs.Same.{same_own, same_variable}

pub record Face : Type 0 where
  pub under : ℕ
  pub what : Slot
  pub children : Terms
  -- the node's number among all that is walked
  pub node : ℕ
  pub term : Term

-- "Kinds, symbol and binder numbers and child counts must agree, free variables by number and bound ones by their binders"
abbrev pub agrees : Own Variable (Unit {0}) → Nameless → Bool
agrees o (own p) = same_own same_variable o p
agrees o (slot z) = false

-- "until a metavariable or function application is met; that faces the subexpression there"; below is the walk of the children
abbrev pub meet : ℕ → ℕ → Nameless → Terms → Term → Option (List Face) → Option (List Face)
meet k n (own o) c t below = guard (agrees o t.0) below
meet k n (slot z) c t below = some (record { under = k; what = z; children = c; node = n; term = t } ∷ [])

-- Under k binders; n is the number of the first node of the expression
abbrev pub walk : ℕ → ℕ → Terms → Terms → Option (List Face)
walk k n nil nil = some []
walk k n nil (cons l c s) = none
walk k n (cons l c s) nil = none
walk k n (cons l c s) (cons l' c' s') =
    join (meet k n l c (l', c') (walk (inner l k) (suc n) c c')) (walk k (suc n + size c') s s')

-- "constraints in order, each pattern left to right from the top"
abbrev pub walk_of : Problem → Option (List Face)
walk_of p = walk 0 0 (patterns p) (expressions p)

-- None where the problem has no rows: "If they disagree anywhere, the problem has no rows"; T-09, of a letter used both ways: "no
-- solutions .. and so no rows; 14 isn't looked for in it"
unfoldable pub faces : Problem → Option (List Face)
faces p = guard (not (both_ways p)) (walk_of p)

abbrev pub is_application : ℕ → Slot → Bool
is_application f (metavariable m) = false
is_application f (function g n) = eqb f g
is_application f (hole i) = false

-- "A function's face is that of its first application"
abbrev pub first_face : ℕ → List Face → Option Face
first_face f [] = none
first_face f (x ∷ xs) = choose (is_application f x.what) (some x) (first_face f xs)

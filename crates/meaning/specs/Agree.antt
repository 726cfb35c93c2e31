-- Where pattern and expression agree: the sentence on how they are "walked together from the top", a constructor for each clause.
--   SameNode   two nodes of one kind with the same numbers
--   Agree      the same nodes all the way down, except below a slot of the pattern
-- "If they disagree anywhere, the problem has no rows."
use Rattle.std.specs.Prelude.{ℕ, ◌≡◌}
use Rattle.meaning.specs.Term.{Nameless, Own, Slot, Terms, Variable, application, binder, bound, cons, free, nil, own, slot, symbol}
use Rattle.meaning.specs.Term.{variable}
use Rattle.meaning.specs.Filling.{Handler, fill}
use Rattle.meaning.specs.Face.{Face}

-- "Kinds .. must agree"
pub data SameNode : Own Variable (Unit {0}) → Own Variable (Unit {0}) → Type 0 where
  -- "symbol .. numbers"
  symbols : {n : ℕ} → SameNode (symbol n) (symbol n)
  -- "free variables by number"
  free_variables : {x : ℕ} → SameNode (variable (free x)) (variable (free x))
  -- "and bound ones by their binders": as many binders lie between each and its own
  bound_variables : {i : ℕ} → SameNode (variable (bound i)) (variable (bound i))
  -- "child counts"
  applications : {n : ℕ} → SameNode (application n) (application n)
  -- "binder numbers"; what the binder calls its variable doesn't count
  binders : {b : ℕ} → SameNode (binder b tt) (binder b tt)

pub data Agree : Terms → Terms → Type 0 where
  -- the children, or the constraints, of both end together
  ends : Agree nil nil
  -- two nodes that are the same, their children, and the siblings after them
  nodes : {o o' : Own Variable (Unit {0})} {c c' s s' : Terms}
      → SameNode o o' → Agree c c' → Agree s s' → Agree (cons (own o) c s) (cons (own o') c' s')
  -- "until a metavariable or function application is met": whatever it faces, and whatever stands below either
  is_met : {z : Slot} {l : Nameless} {c c' s s' : Terms} → Agree s s' → Agree (cons (slot z) c s) (cons l c' s')

-- A slot under so many binders, with its children filled, is what it faces
abbrev pub Satisfied : Handler → Face → Type 0
Satisfied h x = h x.under x.what (fill h x.under x.children) ≡ x.term

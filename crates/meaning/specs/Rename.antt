-- Renaming of bound names: what "equal" of document 01 means with names and no indices.
-- "Two terms are equal when they differ at most in the names of bound variables."
--   occurs x u     the number x stands in u, as a variable or as a binder's bound name
--   rename x y u   u with y for each free x: "one can replace all free occurrences of a variable" (source document 001)
--   Alpha          equal up to bound names: any number of steps, anywhere in the terms, forth and back, where each step renames one
--                  bound name to a fresh one: from λx.B to "λx'.B[x := x'] for an entirely new variable x' that does not occur in B"
-- `EqualWhole`, by de Bruijn indices, is proved to be this relation.
use Rattle.std.specs.Prelude.{◌≡◌, ℕ, Bool, false, ◌||◌, eqb}
use Rattle.meaning.specs.Basics.{choose, holds, or_else}
use Rattle.meaning.specs.Term.{Forest, Named, binder, binder_of, cons, nil, own, variable_of}
use Rattle.meaning.specs.Shift.{with_variable}

-- Whether a node binds x: below it x is not free
abbrev pub binds : ℕ → Named → Bool
binds x l = holds (eqb x) (binder_of l)

abbrev pub occurs_label : ℕ → Named → Bool
occurs_label x l = holds (eqb x) (or_else (variable_of l) (binder_of l))

abbrev pub occurs : ℕ → Forest Named → Bool
occurs x nil = false
occurs x (cons l c s) = occurs_label x l || (occurs x c || occurs x s)

abbrev pub new_name : ℕ → ℕ → ℕ → ℕ
new_name x y z = choose (eqb x z) y z

abbrev pub rename : ℕ → ℕ → Forest Named → Forest Named
rename x y nil = nil
rename x y (cons l c s) = cons (with_variable (new_name x y) l) (choose (binds x l) c (rename x y c)) (rename x y s)

pub data Alpha : Forest Named → Forest Named → Type 0 where
  -- one bound name becomes a fresh one
  step : {b x y : ℕ} {c s : Forest Named} → occurs y c ≡ false → Alpha (cons (own (binder b x)) c s) (cons (own (binder b y)) (rename x y c) s)
  -- in the children and in the later siblings of a node
  node : {l : Named} {c c' s s' : Forest Named} → Alpha c c' → Alpha s s' → Alpha (cons l c s) (cons l c' s')
  -- no step, a step back, one after another
  same : {u : Forest Named} → Alpha u u
  back : {u v : Forest Named} → Alpha u v → Alpha v u
  chain : {u v w : Forest Named} → Alpha u v → Alpha v w → Alpha u w

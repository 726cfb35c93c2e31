-- Filling with names and no index: what is put stands as it is written. Nobody has to take indices on faith here.
-- "No variable of a value, body or argument is ever caught: bound names are changed first where they would catch one."
--   is_free     a name stands in a forest outside every binder of that name
--   put        each slot replaced, as the text stands: no name is changed
--   textual    patterns filled so: a metavariable by its value, P(t) by P's body with the filled t in each hole
--   Uncaught   no binder's name is free in what is put below it: the case in which no bound name has to be changed
--   AlphaEntry, AlphaText   entries, and texts, that differ at most in bound names
--   Spelling, Respelling   bound names so chosen, for what is given without names and with names
-- Where nothing is caught, `textual` gives what `filled` means; and there is always a spelling in which nothing is.
use Rattle.std.specs.Prelude.{◌≡◌, ℕ, Bool, false, ◌||◌, List, [], ◌∷◌, eqb}
use Rattle.meaning.specs.Basics.{All, choose, holds}
use Rattle.meaning.specs.Term.{Forest, Named, NamedTerm, Slot, Term, Terms, cons, function, graft, hole, metavariable, nil, one, own}
use Rattle.meaning.specs.Term.{slot, variable_of}
use Rattle.meaning.specs.Scope.{enter, nameless}
use Rattle.meaning.specs.Shift.{ClosedTerm}
use Rattle.meaning.specs.Filling.{Entry, Filling, absent, argument, body, body_or, left_open, value, value_or}
use Rattle.meaning.specs.Text.{Item, meant}
use Rattle.meaning.specs.Rename.{Alpha, binds}

-- Free names
abbrev pub is_variable : ℕ → Named → Bool
is_variable x l = holds (eqb x) (variable_of l)

abbrev pub is_free : ℕ → Forest Named → Bool
is_free x nil = false
is_free x (cons l c s) = is_variable x l || (choose (binds x l) false (is_free x c) || is_free x s)

-- No name of ys is free in t
abbrev pub Avoids : List ℕ → NamedTerm → Type 0
Avoids ys t = All (λ y. is_free y (one t) ≡ false) ys

-- What is put for a slot whose children are already replaced
abbrev pub Putting : Type 0
Putting = Slot → Forest Named → NamedTerm

abbrev pub put_label : Putting → Named → Forest Named → NamedTerm
put_label g (own o) c = (own o, c)
put_label g (slot z) c = g z c

abbrev pub put : Putting → Forest Named → Forest Named
put g nil = nil
put g (cons l c s) = graft (put_label g l (put g c)) (put g s)

abbrev pub put_term : Putting → NamedTerm → NamedTerm
put_term g t = put_label g t.0 (put g t.1)

-- "puts the filled t in each hole of m's body"
abbrev pub in_holes : (ℕ → NamedTerm) → Putting
in_holes arguments (metavariable m) c = (slot (metavariable m), c)
in_holes arguments (function f n) c = (slot (function f n), c)
in_holes arguments (hole i) c = arguments i

-- What each metavariable is given, with names
abbrev pub NamedFilling : Type 0
NamedFilling = ℕ → Entry NamedTerm

abbrev pub as_written : NamedFilling → Putting
as_written τ (metavariable m) c = value_or m (τ m)
as_written τ (function f n) c = put_term (in_holes (argument c)) (body_or f (τ f))
as_written τ (hole i) c = (slot (hole i), c)

-- Patterns filled as the text stands
abbrev pub textual : NamedFilling → Forest Named → Forest Named
textual τ u = put (as_written τ) u

-- A condition on each slot with its children and the bound names above it: ys, and those of the forest's own binders
abbrev pub Condition : Type 1
Condition = List ℕ → Slot → Forest Named → Type 0

abbrev pub AtLabel : Condition → List ℕ → Named → Forest Named → Type 0
AtLabel C ys (own o) c = Unit {0}
AtLabel C ys (slot z) c = C ys z c

abbrev pub AtSlots : Condition → List ℕ → Forest Named → Type 0
AtSlots C ys nil = Unit {0}
AtSlots C ys (cons l c s) = AtLabel C ys l c × AtSlots C (enter l ys) c × AtSlots C ys s

-- In a body: no bound name above a hole is free in the argument that is put there
abbrev pub hole_uncaught : (ℕ → NamedTerm) → Condition
hole_uncaught arguments ys (metavariable m) c = Unit {0}
hole_uncaught arguments ys (function f n) c = Unit {0}
hole_uncaught arguments ys (hole i) c = Avoids ys (arguments i)

abbrev pub UncaughtIn : NamedTerm → (ℕ → NamedTerm) → Type 0
UncaughtIn b arguments = AtSlots (hole_uncaught arguments) [] (one b)

-- In a pattern: no bound name above a slot is free in the value or body that is put there. An argument is put into the body, so
-- that only the body's binders can catch it: a variable of its own that the pattern binds stays bound by that binder.
abbrev pub slot_uncaught : NamedFilling → Condition
slot_uncaught τ ys (metavariable m) c = Avoids ys (value_or m (τ m))
slot_uncaught τ ys (function f n) c = Avoids ys (body_or f (τ f)) × UncaughtIn (body_or f (τ f)) (argument (textual τ c))
slot_uncaught τ ys (hole i) c = Unit {0}

abbrev pub Uncaught : NamedFilling → Forest Named → Type 0
Uncaught τ u = AtSlots (slot_uncaught τ) [] u

-- What a filling with names means
abbrev pub meant_by : NamedFilling → Filling
meant_by τ m = meant (τ m)

-- "Values and bodies have no variable bound outside themselves"
abbrev pub ClosedEntry : Entry Term → Type 0
ClosedEntry absent = Unit {0}
ClosedEntry left_open = Unit {0}
ClosedEntry (value t) = ClosedTerm t
ClosedEntry (body t) = ClosedTerm t

-- Patterns and a filling, written with names so that nothing is caught
pub record Spelling (u : Terms) (σ : Filling) : Type 0 where
  pub pattern : Forest Named
  pub filling : NamedFilling
  pub pattern_means : nameless [] pattern ≡ u
  pub filling_means : meant_by filling ≡ σ
  pub uncaught : Uncaught filling pattern

-- Entries that differ at most in bound names
pub data AlphaEntry : Entry NamedTerm → Entry NamedTerm → Type 0 where
  both_absent : AlphaEntry absent absent
  both_open : AlphaEntry left_open left_open
  values : {t u : NamedTerm} → Alpha (one t) (one u) → AlphaEntry (value t) (value u)
  bodies : {t u : NamedTerm} → Alpha (one t) (one u) → AlphaEntry (body t) (body u)

-- T-07: texts that "differ only in bound names": the same fields in the same order, with terms equal up to bound names
abbrev pub AlphaText : List Item → List Item → Type 0
AlphaText [] [] = Unit {0}
AlphaText [] (j ∷ js) = ⊥
AlphaText (i ∷ is) [] = ⊥
AlphaText (i ∷ is) (j ∷ js) = (i.0 ≡ j.0) × AlphaEntry i.1 j.1 × AlphaText is js

-- Patterns and a filling with bound names "changed first where they would catch one"
pub record Respelling (u : Forest Named) (τ : NamedFilling) : Type 0 where
  pub pattern : Forest Named
  pub filling : NamedFilling
  pub same_pattern : Alpha u pattern
  pub same_filling : (m : ℕ) → AlphaEntry (τ m) (filling m)
  pub uncaught : Uncaught filling pattern

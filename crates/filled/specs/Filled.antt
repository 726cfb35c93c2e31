-- The test that "each filled pattern equals its expression", by walks over the token tables, for any filling that a text names.
--   ps, es, ts    the tables of the patterns, of the expressions and of the text; s is what the text says of each metavariable
--   walk_across    the subterm at a node of one table walked against that at a node of another, each seen from its own depth
--   value_in       a field is a value, and it is what stands at a node
--   value_at       "each other metavariable an expression": the same of the field that the text has for m
--   argument_at    an argument, its metavariables filled, is what stands at a node, under however many binders more
--   body_in        a field is a body, and with the filled argument in each hole it is what stands at a node
--   application_at "each function metavariable a body": the same of the field that the text has for the function of an application, and of
--                 what the application faces
-- No test asks whether what stands across a hole uses a binder of the body above it. Such a variable's key has a level deeper than every
-- binder outside the argument; no variable of the argument has that key, and none of a value, which is closed (`argument_decided`).
use Rattle.std.specs.Prelude.{ℕ, ◌+◌, Bool, false, List, eqb, Some, None}
use Rattle.std.specs.Prelude as std
use Rattle.std.proofs.Math.Option.{Option}
use Rattle.meaning.specs.Basics.{choose, every, holds}
use Rattle.tokens.specs.Token.{tag_in, depth_in, size_in, payload_in}
use Rattle.tokens.specs.Key.{at, same_across}
use Rattle.lockstep.specs.Walk.{pattern_node, expression_node}
use Rattle.lockstep.specs.Span.{span_walk}
use Rattle.lockstep.specs.declared.Span.{Span}
use Rattle.said.specs.Said.{field_of}
use Rattle.said.specs.declared.Field.{Field}
use Rattle.said.specs.declared.Field.TheVariants.{Value, Body, Open}
use Rattle.said.specs.declared.Said.{Said}

unfoldable pub span_across : List ℕ → ℕ → List ℕ → ℕ → Span
span_across t i u j = record { from = i; to = i + size_in (at t i); at = j; d = depth_in (at t i); e = depth_in (at u j) }

unfoldable pub walk_across : List ℕ → ℕ → List ℕ → ℕ → Option (List ℕ)
walk_across t i u j = span_walk t u (span_across t i u j)

-- "8 (value ..)"
abbrev pub value_in : List ℕ → std.Option Field → List ℕ → ℕ → Bool
value_in ts None es j = false
value_in ts (Some (Value n)) es j = same_across ts n es j
value_in ts (Some (Body n)) es j = false
value_in ts (Some Open) es j = false

unfoldable pub value_at : List ℕ → Said → List ℕ → ℕ → ℕ → Bool
value_at ts s es m j = value_in ts (field_of s m) es j

-- The number of the metavariable or function that a recorded face is of
abbrev pub number_at : List ℕ → ℕ → ℕ
number_at ps n = payload_in (at ps (pattern_node n))

-- A recorded face of a metavariable
unfoldable pub faced_value_at : List ℕ → List ℕ → List ℕ → Said → ℕ → Bool
faced_value_at ps es ts s n = value_at ts s es (number_at ps n) (expression_node n)

-- The argument at node i of the patterns, against what stands at node j: what its metavariables face are their values
unfoldable pub argument_at : List ℕ → List ℕ → List ℕ → Said → ℕ → ℕ → Bool
argument_at ps es ts s i j = holds (every (faced_value_at ps es ts s)) (walk_across ps i es j)

-- "Filling m(t) puts the filled t in each hole of m's body": of the body's faces each is that of a hole
abbrev pub hole_at : List ℕ → List ℕ → List ℕ → Said → ℕ → ℕ → Bool
hole_at ps es ts s i h = argument_at ps es ts s i (expression_node h)

-- The body at node b of the text, against what stands at node j, with the argument at node i
unfoldable pub body_at : List ℕ → List ℕ → List ℕ → Said → ℕ → ℕ → ℕ → Bool
body_at ps es ts s b i j = holds (every (hole_at ps es ts s i)) (walk_across ts b es j)

-- "9 (body ..)"
abbrev pub body_in : List ℕ → List ℕ → List ℕ → Said → std.Option Field → ℕ → ℕ → Bool
body_in ps es ts s None i j = false
body_in ps es ts s (Some (Value n)) i j = false
body_in ps es ts s (Some (Body b)) i j = body_at ps es ts s b i j
body_in ps es ts s (Some Open) i j = false

-- A recorded face of an application, whose argument stands behind it
unfoldable pub application_at : List ℕ → List ℕ → List ℕ → Said → ℕ → Bool
application_at ps es ts s n = body_in ps es ts s (field_of s (number_at ps n)) (pattern_node n + 1) (expression_node n)

unfoldable pub face_at : List ℕ → List ℕ → List ℕ → Said → ℕ → Bool
face_at ps es ts s n = choose (eqb (tag_in (at ps (pattern_node n))) 6) (application_at ps es ts s n) (faced_value_at ps es ts s n)

-- All recorded faces of a problem whose shapes agree
unfoldable pub filled_at : List ℕ → List ℕ → List ℕ → List ℕ → Said → Bool
filled_at ps es faces ts s = every (face_at ps es ts s) faces

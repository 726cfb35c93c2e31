-- Which problems have bytes: the limits and content rules of "Fields of a problem" as conditions on terms. They hold exactly of what can be
-- read (`read_within`, `read_encode`), and of what is accepted (`accept_accepted`, `accepted_accept`), so that nobody has to believe them.
--   NodeFits      what the table of tags says of one node: where it may stand, its numbers, how many inner terms it has
--   Readable      every node fits, and no term is deeper than the levels that are left
--   WithinLimits  a problem that can be read
--   Accepted      "A problem is accepted when none of 1 to 14 applies", said of the problem itself
use Rattle.std.specs.Prelude.{◌≡◌, ℕ, zero, suc, ◌<◌, ◌≤◌, length}
use Rattle.meaning.specs.Limits.{max_constraints, max_depth, max_face_nodes, largest_problem, metavariable_count}
use Rattle.meaning.specs.Basics.{All}
use Rattle.meaning.specs.Term.{Forest, Named, NamedTerm, application, binder, cons, function, hole, metavariable, nil, one, own, slot}
use Rattle.meaning.specs.Term.{symbol, trees, variable}
use Rattle.meaning.specs.Problem.{Constraint, Problem}
use Rattle.meaning.specs.Read.{Context, context_below, got, in_argument, in_body, in_expression, in_pattern}
use Rattle.meaning.specs.Filling.{Entry, absent, body, left_open, value}
use Rattle.meaning.specs.Accept.{check_problem}
use Rattle.meaning.specs.Text.{Item}
use Rattle.meaning.specs.Field.{encode_problem}

-- Where tags 5, 6 and 10 may stand
abbrev pub MetavariableAt : Context → Type 0
MetavariableAt in_pattern = Unit {0}
MetavariableAt in_argument = Unit {0}
MetavariableAt in_expression = ⊥
MetavariableAt in_body = ⊥

abbrev pub FunctionAt : Context → Type 0
FunctionAt in_pattern = Unit {0}
FunctionAt in_argument = ⊥
FunctionAt in_expression = ⊥
FunctionAt in_body = ⊥

abbrev pub HoleAt : Context → Type 0
HoleAt in_pattern = ⊥
HoleAt in_argument = ⊥
HoleAt in_expression = ⊥
HoleAt in_body = Unit {0}

-- "number, 2 bytes"
abbrev pub TwoBytes : ℕ → Type 0
TwoBytes n = n < 65536

-- T-05: "a symbol's number is then 32 bits wide"
abbrev pub FourBytes : ℕ → Type 0
FourBytes n = n < 4294967296

abbrev pub NodeFits : Context → Named → Forest Named → Type 0
NodeFits ctx (own (symbol n)) c = FourBytes n × (c ≡ nil)
NodeFits ctx (own (variable x)) c = TwoBytes x × (c ≡ nil)
NodeFits ctx (own (application n)) c = (n ≡ trees c) × (0 < n)
NodeFits ctx (own (binder b x)) c = TwoBytes b × TwoBytes x × (trees c ≡ 1)
NodeFits ctx (slot (metavariable m)) c = MetavariableAt ctx × (m < metavariable_count) × (c ≡ nil)
NodeFits ctx (slot (function f n)) c = FunctionAt ctx × (f < metavariable_count) × (n ≡ 1) × (trees c ≡ n)
NodeFits ctx (slot (hole i)) c = HoleAt ctx × (i ≡ 0) × (c ≡ nil)

abbrev pub Readable : ℕ → Context → Forest Named → Type 0
Readable levels ctx nil = Unit {0}
Readable zero ctx (cons l c s) = ⊥
Readable (suc levels) ctx (cons l c s) = NodeFits ctx l c × Readable levels (context_below l ctx) c × Readable (suc levels) ctx s

abbrev pub ReadableConstraint : Constraint → Type 0
ReadableConstraint c = Readable max_depth in_pattern (one c.pattern) × Readable max_depth in_expression (one c.expression)

pub record WithinLimits (p : Problem) : Type 0 where
  pub constraints : All ReadableConstraint p
  pub count : length p ≤ max_constraints
  pub input : length (encode_problem p) ≤ largest_problem

pub record Accepted (p : Problem) : Type 0 where
  pub within : WithinLimits p
  pub checked : check_problem max_face_nodes p ≡ got p

-- Which items have bytes
abbrev pub ReadableEntry : Entry NamedTerm → Type 0
ReadableEntry absent = ⊥
ReadableEntry left_open = Unit {0}
ReadableEntry (value t) = Readable max_depth in_expression (one t)
ReadableEntry (body t) = Readable max_depth in_body (one t)

abbrev pub ReadableItem : Item → Type 0
ReadableItem i = (i.0 < metavariable_count) × ReadableEntry i.1

-- The token table: one packed 64-bit token for each node, in preorder.
--   tag       the field's tag, as document 01 has it                        bits 0 to 7
--   depth     the number of binders above the node                          bits 8 to 15
--   size      the number of nodes of the subterm, the node itself included  bits 16 to 31
--   payload   what the tag says; a symbol's number may use all of it        bits 32 to 63
--   level     of a variable: 1 + the number of binders above its own, or 0 where it is free
use Rattle.std.specs.Prelude.{ℕ, suc, ◌+◌, ◌*◌, ◌/◌, ◌%◌, ◌<◌, ◌≤◌, List, [], ◌∷◌, ◌++◌, length, get_or, eqb}
use Rattle.meaning.specs.Basics.{choose}
use Rattle.meaning.specs.Term.{Forest, nil, cons, size, symbol, variable, application, binder, own, slot, metavariable, function, hole}
use Rattle.meaning.specs.Term.{Named}
use Rattle.meaning.specs.Scope.{enter}
use Rattle.meaning.specs.Field.{tag_of}
use Rattle.meaning.specs.Problem.{Problem, named_patterns, named_expressions}

abbrev pub token_of : ℕ → ℕ → ℕ → ℕ → ℕ
token_of tag depth size payload = tag + 256 * depth + 65536 * size + 4294967296 * payload

abbrev pub tag_in : ℕ → ℕ
tag_in x = x % 256

abbrev pub depth_in : ℕ → ℕ
depth_in x = x / 256 % 256

abbrev pub size_in : ℕ → ℕ
size_in x = x / 65536 % 65536

abbrev pub payload_in : ℕ → ℕ
payload_in x = x / 4294967296

-- "A variable belongs to the nearest enclosing binder of its number": scope as in `meaning`, the innermost name first
unfoldable pub level_of : List ℕ → ℕ → ℕ
level_of [] x = 0
level_of (y ∷ sc) x = choose (eqb x y) (suc (length sc)) (level_of sc x)

-- A variable has its name in the lower half and its level in the upper, a binder its number and its bound name
unfoldable pub payload_of : List ℕ → Named → ℕ
payload_of sc (own (symbol n)) = n
payload_of sc (own (variable x)) = x + 65536 * level_of sc x
payload_of sc (own (application n)) = n
payload_of sc (own (binder b x)) = b + 65536 * x
payload_of sc (slot (metavariable m)) = m
payload_of sc (slot (function f n)) = f
payload_of sc (slot (hole i)) = i

-- The tokens of a forest in a scope
unfoldable pub tokens : List ℕ → Forest Named → List ℕ
tokens sc nil = []
tokens sc (cons l c s) = token_of (tag_of l) (length sc) (suc (size c)) (payload_of sc l) ∷ (tokens (enter l sc) c ++ tokens sc s)

-- The two tables of a problem: of all its patterns, and of all its expressions
unfoldable pub pattern_tokens : Problem → List ℕ
pattern_tokens p = tokens [] (named_patterns p)

unfoldable pub expression_tokens : Problem → List ℕ
expression_tokens p = tokens [] (named_expressions p)

-- What whoever goes through a table by its sizes needs of it: each token counts itself, and 16 bits are enough for a node's number
pub record Table (t : List ℕ) : Type 0 where
  pub counted : (k : ℕ) → k < length t → 1 ≤ size_in (get_or t k 0)
  pub small : length t ≤ 65536

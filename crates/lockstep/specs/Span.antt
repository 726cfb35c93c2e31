-- What the walk of a span promises.
--   span_walk   the walk of the patterns' nodes from .. to against the expressions from a node on; it stops at slots
--   Walked     the answer of a walk; its faces stand at the front of what was lent, and nothing after them has changed
use Rattle.std.specs.Prelude.{◌≡◌, ℕ, ◌-◌, ◌≤◌, List, ◌++◌, length, drop, Some, None}
use Rattle.std.specs.Prelude as std
use Rattle.std.proofs.Math.Option.{Option, none, some}
use Rattle.tokens.specs.Token.{Table}
use Rattle.tokens.specs.Key.{nodes}
use Rattle.lockstep.specs.declared.Span.{Span}
use Rattle.lockstep.specs.Walk.{lockstep, at_slots}

abbrev pub span_walk : List ℕ → List ℕ → Span → Option (List ℕ)
span_walk ps es s = lockstep at_slots s.d s.e 0 s.from s.at (nodes ps s.from (s.to - s.from)) (drop s.at es)

-- Tables, with room for a face at each node of the span
pub record Lent (ps es out : List ℕ) (s : Span) : Type 0 where
  pub patterns : Table ps
  pub expressions : Table es
  pub inside : s.to ≤ length ps
  pub room : s.to - s.from ≤ length out

-- How many faces were recorded, or None where a shape disagrees
abbrev pub answer_of : Option (List ℕ) → std.Option ℕ
answer_of none = None
answer_of (some xs) = Some (length xs)

pub record Walked (walk : Option (List ℕ)) (old new : List ℕ) (r : std.Option ℕ) : Type 0 where
  pub answer : r ≡ answer_of walk
  pub recorded : (xs : List ℕ) → walk ≡ some xs → new ≡ xs ++ drop (length xs) old

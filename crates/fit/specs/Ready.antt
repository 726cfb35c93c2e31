-- What the code asks of the tables and of a row, said of the tables' entries alone. The tables of a problem and the masks of one of its rows have
-- all of it (proofs/Readiness).
--   ns           the table of the numbers by which what is asked of the expressions' nodes is told, one for each node
--   Bodies       a face for each function, and a mask
--   Applicable   of one application, by the face and the mask of its function: what it faces, and, where the body has a hole and suits, the
--                walk of the argument, can be looked up
--   Slots        the same of one recorded face of whatever kind
--   Ready        all that the test of a row asks
use Rattle.std.specs.Prelude.{◌≡◌, ℕ, ◌+◌, ◌<◌, ◌≤◌, true, List, length}
use Rattle.std.proofs.Math.Option.{some}
use Rattle.meaning.specs.Limits.{metavariable_count, max_functions}
use Rattle.meaning.specs.Basics.{All}
use Rattle.tokens.specs.Token.{tag_in, size_in, payload_in}
use Rattle.tokens.specs.Key.{at, Inside}
use Rattle.numbers.specs.Tests.{told}
use Rattle.lockstep.specs.Walk.{pattern_node, expression_node}
use Rattle.lockstep.specs.Span.{span_walk}
use Rattle.faces.specs.First.{listed, FirstsFit}
use Rattle.faces.specs.declared.first.Firsts.{Firsts}
use Rattle.bodies.specs.Suits.{suits_at}
use Rattle.sources.specs.Kept.{Demandable}
use Rattle.fit.specs.Judging.{bodies_closed, hole_node, argument_span, rank_at}

pub record Bodies (es : List ℕ) (firsts : Firsts) (row : List ℕ) : Type 0 where
  pub fits : FirstsFit firsts
  pub inside : (k : ℕ) → k < firsts.count → Inside es (at firsts.nodes k)
  pub masks : length row ≡ max_functions

-- Of the argument of an application, where it is walked
pub record Walkable (ps es ns : List ℕ) (n mask : ℕ) : Type 0 where
  pub slot : pattern_node n < length ps
  pub ends : pattern_node n + size_in (at ps (pattern_node n)) ≤ length ps
  pub hole : hole_node n mask < length es
  pub reads : (found : List ℕ) → span_walk ps es (argument_span ps es n mask) ≡ some found → All (Demandable ps ns) found

pub record Applicable (ps es ns : List ℕ) (n node mask : ℕ) : Type 0 where
  pub face : node < length es
  pub faced : expression_node n < length es
  pub walks : suits_at (told ns) es node (expression_node n) mask ≡ true → (mask ≡ 0 → ⊥) → Walkable ps es ns n mask

pub record Slots (ps es ns : List ℕ) (functions : ℕ) (nodes row : List ℕ) (n : ℕ) : Type 0 where
  pub slot : pattern_node n < length ps
  pub number : tag_in (at ps (pattern_node n)) ≡ 6 → payload_in (at ps (pattern_node n)) < metavariable_count
  pub rank : tag_in (at ps (pattern_node n)) ≡ 6 → rank_at ps functions n < max_functions
  pub applies : tag_in (at ps (pattern_node n)) ≡ 6
      → Applicable ps es ns n (at nodes (rank_at ps functions n)) (at row (rank_at ps functions n))

pub record Ready (ps es ns faces : List ℕ) (functions : ℕ) (firsts : Firsts) (row scratch : List ℕ) : Type 0 where
  -- for the faces of an argument
  pub room : length ps ≤ length scratch
  pub bodies : Bodies es firsts row
  pub reads : All (Demandable ps ns) faces
  -- a body that is not closed is never walked
  pub slots : bodies_closed es (listed firsts) row ≡ true → All (Slots ps es ns functions firsts.nodes row) faces

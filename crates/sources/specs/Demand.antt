-- Demands on the metavariables, on the token tables.
--   Demand      a metavariable, and a node of the expressions: the subexpression there is what it must stand for
--   Nodes       for each metavariable the node of its first demand, or None where there was none: what is kept
--   first_of    what is kept for a metavariable
--   kept_after   one demand after the other; none where one disagrees. What is asked of the nodes are the tests q
use Rattle.std.specs.Prelude.{ℕ, Bool, List, [], ◌∷◌, set, eqb, slice_index_or, Some, None}
use Rattle.std.specs.Prelude as std
use Rattle.std.proofs.Math.Option.{Option, some}
use Rattle.meaning.specs.Basics.{choose, each, guard}
use Rattle.tokens.specs.Token.{tag_in, payload_in}
use Rattle.tokens.specs.Key.{at}
use Rattle.numbers.specs.Tests.{Tests, closed_by}
use Rattle.lockstep.specs.Walk.{pattern_node, expression_node}

abbrev pub Demand : Type 0
Demand = ℕ × ℕ

abbrev pub Nodes : Type 0
Nodes = List (std.Option ℕ)

abbrev pub first_of : Nodes → ℕ → std.Option ℕ
first_of kept m = slice_index_or kept m None

-- A recorded face makes a demand where it is that of a metavariable alone
unfoldable pub demand_at : List ℕ → ℕ → List Demand
demand_at ps n = choose (eqb (tag_in (at ps (pattern_node n))) 5) ((payload_in (at ps (pattern_node n)), expression_node n) ∷ []) []

abbrev pub demands_in : List ℕ → List ℕ → List Demand
demands_in ps faces = each (demand_at ps) faces

-- "Values and bodies have no variable bound outside themselves": the first demand of a metavariable must be closed; a later one must be
-- the same as the first
abbrev pub agrees_after : Tests → std.Option ℕ → ℕ → Bool
agrees_after q None node = closed_by q node
agrees_after q (Some first) node = q.same first node

unfoldable pub agrees_at : Tests → Nodes → Demand → Bool
agrees_at q kept d = agrees_after q (first_of kept d.0) d.1

-- "A value comes from the metavariable's first occurrence": the first demand is kept
abbrev pub kept_beside : std.Option ℕ → Nodes → Demand → Nodes
kept_beside None kept d = set kept d.0 (Some d.1)
kept_beside (Some first) kept d = kept

unfoldable pub kept_with : Nodes → Demand → Nodes
kept_with kept d = kept_beside (first_of kept d.0) kept d

unfoldable pub kept_after : Tests → Nodes → List Demand → Option Nodes
kept_after q kept [] = some kept
kept_after q kept (d ∷ ds) = guard (agrees_at q kept d) (kept_after q (kept_with kept d) ds)

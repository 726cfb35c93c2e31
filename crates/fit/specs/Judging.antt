-- The test of a row on the token tables: what its demands lead to, or none where the row is no solution row.
--   q         what is asked of the nodes of the expressions, whoever answers it
--   kept      the node that each metavariable's value is copied from, so far (crate `sources`)
--   nodes     the first face of each function, and row its mask: those of function f stand at its rank among the functions
--   span      the nodes of an application's argument, across from what stands at the lowest hole of its function's body
use Rattle.std.specs.Prelude.{ℕ, ◌+◌, Bool, true, ◌&&◌, List, [], ◌∷◌, replicate, eqb, None}
use Rattle.std.proofs.Math.Option.{Option, some}
use Rattle.meaning.specs.Basics.{choose, guard, and_then}
use Rattle.tokens.specs.Token.{tag_in, depth_in, size_in, payload_in}
use Rattle.tokens.specs.Key.{at}
use Rattle.numbers.specs.Tests.{Tests}
use Rattle.metavariables.specs.Survey.{count}
use Rattle.lockstep.specs.Walk.{pattern_node, expression_node}
use Rattle.lockstep.specs.Span.{span_walk}
use Rattle.lockstep.specs.declared.Span.{Span}
use Rattle.faces.specs.First.{listed}
use Rattle.faces.specs.declared.first.Firsts.{Firsts}
use Rattle.bodies.specs.Marked.{lowest_marked}
use Rattle.bodies.specs.BodyClosed.{body_closed_at}
use Rattle.bodies.specs.Suits.{suits_at}
use Rattle.sources.specs.Demand.{Nodes, demands_in, kept_after}

-- "Values and bodies have no variable bound outside themselves": the bodies, one for each function
unfoldable pub bodies_closed : List ℕ → List ℕ → List ℕ → Bool
bodies_closed es [] masks = true
bodies_closed es (j ∷ js) [] = true
bodies_closed es (j ∷ js) (m ∷ masks) = body_closed_at es j m && bodies_closed es js masks

-- "in the subexpression which this application faces, at the position of the body's lowest hole"
abbrev pub hole_node : ℕ → ℕ → ℕ
hole_node n mask = expression_node n + lowest_marked mask

unfoldable pub argument_span : List ℕ → List ℕ → ℕ → ℕ → Span
argument_span ps es n mask = record {
  from = pattern_node n + 1;
  to = pattern_node n + size_in (at ps (pattern_node n));
  at = hole_node n mask;
  d = depth_in (at ps (pattern_node n));
  e = depth_in (at es (hole_node n mask));
}

-- What the argument demands there
unfoldable pub argument_kept : Tests → List ℕ → List ℕ → ℕ → ℕ → Nodes → Option Nodes
argument_kept q ps es n mask kept = and_then (span_walk ps es (argument_span ps es n mask)) (λ found. kept_after q kept (demands_in ps found))

-- One application, by the face and the mask of its function. "An open metavariable stands only in arguments of functions whose body has
-- no hole": without a hole the argument demands nothing
unfoldable pub application_kept : Tests → List ℕ → List ℕ → ℕ → ℕ → ℕ → Nodes → Option Nodes
application_kept q ps es n node mask kept =
    guard (suits_at q es node (expression_node n) mask) (choose (eqb mask 0) (some kept) (argument_kept q ps es n mask kept))

-- "one choice for each function, by ascending metavariable number"
abbrev pub rank_at : List ℕ → ℕ → ℕ → ℕ
rank_at ps functions n = count (payload_in (at ps (pattern_node n))) functions

-- One recorded face, and all of them in order
unfoldable pub face_kept : Tests → List ℕ → List ℕ → ℕ → List ℕ → List ℕ → ℕ → Nodes → Option Nodes
face_kept q ps es functions nodes row n kept =
    choose (eqb (tag_in (at ps (pattern_node n))) 6)
    (application_kept q ps es n (at nodes (rank_at ps functions n)) (at row (rank_at ps functions n)) kept)
    (some kept)

unfoldable pub faces_kept : Tests → List ℕ → List ℕ → ℕ → List ℕ → List ℕ → List ℕ → Nodes → Option Nodes
faces_kept q ps es functions nodes row [] kept = some kept
faces_kept q ps es functions nodes row (n ∷ faces) kept =
    and_then (face_kept q ps es functions nodes row n kept) (λ next. faces_kept q ps es functions nodes row faces next)

-- Before any demand
abbrev pub none_kept : Nodes
none_kept = replicate 32 None

-- "A value comes from the metavariable's first occurrence outside arguments, else from the first application ..": so the plain faces
-- come first, and then the applications
unfoldable pub demanded_at : Tests → List ℕ → List ℕ → List ℕ → ℕ → Firsts → List ℕ → Option Nodes
demanded_at q ps es faces functions firsts row =
    and_then (kept_after q none_kept (demands_in ps faces)) (λ kept. faces_kept q ps es functions firsts.nodes row faces kept)

unfoldable pub judged_at : Tests → List ℕ → List ℕ → List ℕ → ℕ → Firsts → List ℕ → Option Nodes
judged_at q ps es faces functions firsts row = guard (bodies_closed es (listed firsts) row) (demanded_at q ps es faces functions firsts row)

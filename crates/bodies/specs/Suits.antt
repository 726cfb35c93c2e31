-- Bodies that suit what they face: "Filling m(t) puts the filled t in each hole of m's body".
--   hole_fits    what stands at a node, across a hole, uses no binder between the root, at depth e, and itself, and is what stands at the
--               node across the lowest hole
--   suits_at     the face at node f, walked against what stands at a node up to the marked nodes, agrees with it, and across each hole
--               stands what stands across the lowest. What is asked of the nodes are the tests q
use Rattle.std.specs.Prelude.{ℕ, ◌+◌, ◌<◌, Bool, false, ◌&&◌, not, List, length, drop}
use Rattle.std.proofs.Math.Option.{Option, none, some}
use Rattle.meaning.specs.Basics.{every}
use Rattle.tokens.specs.Token.{depth_in}
use Rattle.tokens.specs.Key.{at, part, Inside}
use Rattle.numbers.specs.Tests.{Tests}
use Rattle.lockstep.specs.Walk.{expression_node, Stop, lockstep}
use Rattle.bodies.specs.Marked.{marked, lowest_marked}

unfoldable pub hole_fits : Tests → ℕ → ℕ → ℕ → Bool
hole_fits q e lowest node = not (q.uses node e) && q.same node lowest

-- The walk stops at the marked nodes
abbrev pub at_marks : ℕ → Stop
at_marks mask i x = marked mask i

-- Of the faces that a walk recorded, each has this test at the node across
abbrev pub all_faced : (ℕ → Bool) → Option (List ℕ) → Bool
all_faced test none = false
all_faced test (some xs) = every (λ x. test (expression_node x)) xs

unfoldable pub suits_at : Tests → List ℕ → ℕ → ℕ → ℕ → Bool
suits_at q es f node mask =
    all_faced (hole_fits q (depth_in (at es node)) (node + lowest_marked mask))
    (lockstep (at_marks mask) (depth_in (at es f)) (depth_in (at es node)) 0 0 node (part es f) (drop node es))

-- Each node's subterm lies in the table
abbrev pub Nested : List ℕ → Type 0
Nested es = (i : ℕ) → i < length es → Inside es i

-- What the recorded faces are: the walk on a problem's token tables against the walk of `meaning`.
--   Recorded   as many numbers as faces, in the same order, each of a pattern's node and an expression's node
--   Means      both walks fail, or both succeed and record the same faces
use Rattle.std.specs.Prelude.{ℕ, List}
use Rattle.std.proofs.Math.Option.{Option}
use Rattle.meaning.specs.Term.{node_at}
use Rattle.meaning.specs.Problem.{Problem, patterns, expressions}
use Rattle.meaning.specs.Face.{Face}
use Rattle.tokens.specs.Token.{depth_in, pattern_tokens}
use Rattle.tokens.specs.Key.{at}
use Rattle.lockstep.specs.Recorded.{RecordedBy, Both}

abbrev pub Recorded : Problem → List ℕ → List Face → Type 0
Recorded q ns xs =
    RecordedBy (λ i. node_at i (patterns q)) (λ j. node_at j (expressions q)) (λ i. depth_in (at (pattern_tokens q) i)) ns xs

abbrev pub Means : Problem → Option (List ℕ) → Option (List Face) → Type 0
Means q ns xs = Both (Recorded q) ns xs

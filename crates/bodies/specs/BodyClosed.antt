-- Bodies with no variable bound outside: "Values and bodies have no variable bound outside themselves".
--   closed_from     of the tokens of a face, from node i on, none is a variable bound above the face, whose root has binder depth d. A
--                  node that becomes a hole is passed with all nodes below it (`skip` counts those that are left)
--   body_closed_at   the body that a mask makes of the face at a node
use Rattle.std.specs.Prelude.{ℕ, zero, suc, ◌-◌, Bool, true, ◌&&◌, not, List, [], ◌∷◌}
use Rattle.meaning.specs.Basics.{choose}
use Rattle.tokens.specs.Token.{depth_in, size_in}
use Rattle.tokens.specs.Key.{at, part, reaches}
use Rattle.bodies.specs.Marked.{marked}

unfoldable pub closed_from : (ℕ → Bool) → ℕ → ℕ → ℕ → List ℕ → Bool
closed_from hole d skip i [] = true
closed_from hole d (suc k) i (x ∷ xs) = closed_from hole d k (suc i) xs
closed_from hole d zero i (x ∷ xs) =
    choose (hole i) (closed_from hole d (size_in x - 1) (suc i) xs) (not (reaches 0 d x) && closed_from hole d 0 (suc i) xs)

unfoldable pub body_closed_at : List ℕ → ℕ → ℕ → Bool
body_closed_at es face mask = closed_from (marked mask) (depth_in (at es face)) 0 0 (part es face)

-- `has_hole` meets its contract: the slice is the subterm at the node.
use Rattle.std.proofs.Common.{◌≡◌, ℕ, ◌+◌, ◌-◌, take, drop, ap, ◌∙◌, arith}
use Rattle.tokens.specs.Token.{size_in}
use Rattle.tokens.specs.Key.{at}
use Rattle.entries.specs.Holes.{any_hole}
use Rattle.entries.proofs.has_hole.Goals as goal

pub returns : goal.returns
returns c =
    let a = c.args in
    let long : a.node + c.size.result - a.node ≡ size_in (at a.ts.now a.node) = omega (arith, c.size.ensures) in
    c.any_hole.ensures ∙ ap (λ (n : ℕ). any_hole (take n (drop a.node a.ts.now))) long

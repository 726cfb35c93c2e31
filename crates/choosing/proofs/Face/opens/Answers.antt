-- `opens`: a law for each answer.
use mathlib.Core.Path.{sym, ◌∙◌}
use Prim.Native.Nat.{◌+◌}
use Rattle.choosing.proofs.WalkLaws.{used, opens_below, opens_bound, opens_equal, opens_first}
use Rattle.choosing.proofs.Face.opens.Goals as goal

pub returns-then-i-walk : goal.returns-then-i-walk
returns-then-i-walk c =
    let s = c.args in
    opens_below s.self.nodes.numbers.now s.self.nodes.tokens.now s.self.root s.i s.walk c.if-i-walk.true

pub returns-then-uses : goal.returns-then-uses
returns-then-uses c =
    let s = c.args in
    let uses = used s.self.nodes.numbers.now (s.self.root + s.i) _ _ _ c.depth.ensures c.uses.ensures in
    opens_bound s.self.nodes.numbers.now s.self.nodes.tokens.now s.self.root s.i s.walk c.if-i-walk.false (sym uses ∙ c.if-uses.true)

pub returns-in-Some : goal.returns-in-Some
returns-in-Some c =
    let s = c.args in
    let uses = used s.self.nodes.numbers.now (s.self.root + s.i) _ _ _ c.depth.ensures c.uses.ensures in
    opens_equal s.self.nodes.numbers.now s.self.nodes.tokens.now s.self.root s.i s.walk c.if-i-walk.false (sym uses ∙ c.if-uses.false)
    _ c.in-Some.is

pub returns-in-None : goal.returns-in-None
returns-in-None c =
    let s = c.args in
    let uses = used s.self.nodes.numbers.now (s.self.root + s.i) _ _ _ c.depth.ensures c.uses.ensures in
    opens_first s.self.nodes.numbers.now s.self.nodes.tokens.now s.self.root s.i s.walk c.if-i-walk.false (sym uses ∙ c.if-uses.false)
    c.in-None.is

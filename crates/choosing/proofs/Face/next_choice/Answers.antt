-- `next_choice`: the last node gives way.
use native.Mathlib.Omega.{arith}
use Prim.Native.Nat.{◌<◌}
use Rattle.choosing.specs.FaceNodes.{size_from}
use Rattle.choosing.proofs.NextLaws.{ending, next_is}
use Rattle.choosing.proofs.Face.next_choice.Goals as goal

pub last-i-requires : goal.last-i-requires
last-i-requires c =
    let ns = c.args.self.nodes.numbers.now in
    let es = c.args.self.nodes.tokens.now in
    let root = c.args.self.root in
    ending ns es root c.args.self.whole.fits c.args.set c.requires.choice c.requires.more _ c.size.ensures

pub returns : goal.returns
returns c =
    let ns = c.args.self.nodes.numbers.now in
    let es = c.args.self.nodes.tokens.now in
    let root = c.args.self.root in
    let i = c.last-i.result in
    let low : i < size_from es root = omega (arith, c.last-i.ensures.1, c.size.ensures) in
    next_is ns es root c.args.self.whole.fits c.args.set c.requires.choice i c.last-i.ensures.0 low _
    c.without-left.ensures _ c.left_at.ensures _ _ (omega arith) c.fill.ensures

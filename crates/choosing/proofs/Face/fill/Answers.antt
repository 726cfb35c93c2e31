-- `Face::fill`. The loop's invariant: the nodes before node i are as the first path has them.
use mathlib.Core.Path.{◌≡◌, sym, ◌∙◌, subst}
use native.Mathlib.Omega.{arith}
use Prim.Native.Nat.{suc, ◌+◌, ◌<◌}
use Rattle.choosing.specs.FaceNodes.{size_from}
use Rattle.choosing.proofs.FillLaws.{Filling, filling_begun, filling_opened, filling_passed, filling_done}
use Rattle.choosing.proofs.Face.fill.Goals as goal
use Rattle.choosing.proofs.Face.fill.Goals.{then-opens, else-opens}

pub loop-i-init : goal.loop-i-init
loop-i-init c = filling_begun _ _ _ _ _ _

pub loop-i-preserved : goal.loop-i-preserved
loop-i-preserved c =
    let ns = c.args.self.nodes.numbers.now in
    let es = c.args.self.nodes.tokens.now in
    let root = c.args.self.root in
    let fits = c.args.self.whole.fits in
    let at = c.loop-i in
    let inside : at.i < size_from es root = omega (arith, c.size-i-end.ensures) in
    let one : suc at.i ≡ at.i + 1 = omega arith in
    subst (Filling ns es root c.args.set c.args.walk c.args.from _ _) one
    (elim c.if-opens.branch [
      | then-opens w ↦
          rw (w.filled-is, w.at-is)
          (filling_opened ns es root c.args.set c.args.walk c.args.from fits at.filled at.at at.i inside _ _
          at.invariant (sym c.opens.ensures ∙ w.if-opens.true) w.with-filled.ensures w.holed-at.ensures)
      | else-opens w ↦
          rw (w.filled-is, w.at-is)
          (filling_passed ns es root c.args.set c.args.walk c.args.from fits at.filled at.at at.i inside
          at.invariant (sym c.opens.ensures ∙ w.if-opens.false))
    ])

pub returns : goal.returns
returns c =
    let ns = c.args.self.nodes.numbers.now in
    let es = c.args.self.nodes.tokens.now in
    let root = c.args.self.root in
    let at = c.loop-i in
    filling_done ns es root c.args.set c.args.walk c.args.from c.args.self.whole.fits
    at.filled at.at at.i (omega (arith, c.size-i-end.ensures)) at.invariant

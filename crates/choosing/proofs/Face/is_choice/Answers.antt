-- `Face::is_choice`. The loop's invariant: the nodes before node i are passed as a path passes them.
use mathlib.Core.Path.{◌≡◌, sym, ◌∙◌, subst, subst₂}
use mathlib.Core.Bool.{false≢true}
use native.Mathlib.Omega.{arith}
use Prim.Native.Nat.{suc, ◌+◌, ◌<◌}
use Rattle.choosing.specs.FaceNodes.{size_from}
use Rattle.choosing.proofs.TestLaws.{Tested, tested_begun, tested_done, tested_hole, tested_none, tested_refused}
use Rattle.choosing.proofs.Face.is_choice.Goals as goal
use Rattle.choosing.proofs.Face.is_choice.Goals.{then-has+else-not-opens, else-has}

pub loop-i-init : goal.loop-i-init
loop-i-init c = (omega arith, λ fits. tested_begun _ _ _ fits c.args.set _ c.begun-walk.ensures)

pub returns-then-not-opens : goal.returns-then-not-opens
returns-then-not-opens c =
    let ns = c.args.self.nodes.numbers.now in
    let es = c.args.self.nodes.tokens.now in
    let root = c.args.self.root in
    let at = c.loop-i in
    let fits = c.args.self.whole.fits in
    let inside : at.i < size_from es root = omega (arith, c.size-i-end.ensures) in
    let refused =
    tested_refused ns es root fits c.args.set at.walk at.met at.i inside (at.invariant.1 fits)
    (sym c.has.ensures ∙ c.if-has.true) (sym c.opens.ensures ∙ c.if-not-opens.true) in
    (λ e. absurd (false≢true e), λ m. absurd (refused m))

pub overflow_add-met : goal.overflow_add-met
overflow_add-met c = omega (arith, c.loop-i.invariant.0)

pub loop-i-preserved : goal.loop-i-preserved
loop-i-preserved c =
    let ns = c.args.self.nodes.numbers.now in
    let es = c.args.self.nodes.tokens.now in
    let root = c.args.self.root in
    let at = c.loop-i in
    let inside : at.i < size_from es root = omega (arith, c.size-i-end.ensures) in
    let one : suc at.i ≡ at.i + 1 = omega arith in
    let more : suc at.met ≡ at.met + 1 = omega arith in
    elim c.if-has.branch [
      | then-has+else-not-opens w ↦
          rw (w.walk-is, w.met-is) (
            omega (arith, at.invariant.0),
            λ fits. subst₂ (Tested ns es root fits c.args.set _) more one
                (tested_hole ns es root fits c.args.set at.walk at.met at.i inside (at.invariant.1 fits)
                (sym c.has.ensures ∙ w.if-has.true) _
                (sym w.opens.ensures ∙ w.if-not-opens.false) w.holed-walk.ensures),
          )
      | else-has w ↦
          rw (w.walk-is, w.met-is) (
            omega (arith, at.invariant.0),
            λ fits. subst (Tested ns es root fits c.args.set at.walk at.met) one
                (tested_none ns es root fits c.args.set at.walk at.met at.i inside (at.invariant.1 fits)
                (sym c.has.ensures ∙ w.if-has.false)),
          )
    ]

pub returns : goal.returns
returns c =
    let at = c.loop-i in
    let fits = c.args.self.whole.fits in
    tested_done _ _ _ fits c.args.set at.walk at.met at.i _ (omega (arith, c.size-i-end.ensures)) (at.invariant.1 fits)
    c.holes.ensures

-- `last`. The loop's invariant: the set has no node from node i on.
use mathlib.Core.Path.{sym, ◌∙◌}
use native.Mathlib.Omega.{arith}
use Rattle.masks.specs.Sets.{nodes}
use Rattle.choosing.proofs.NextLaws.{none_down, some_node}
use Rattle.choosing.proofs.last.Goals as goal

pub loop-i-init : goal.loop-i-init
loop-i-init c = c.requires.none

pub returns-then-has : goal.returns-then-has
returns-then-has c =
    let at = c.loop-i in (
      record {
        here = sym c.has.ensures ∙ c.if-has.true;
        none = λ k h. at.invariant k (omega arith);
      },
      omega arith,
    )

pub loop-i-preserved : goal.loop-i-preserved
loop-i-preserved c =
    none_down (nodes c.args.set) c.loop-i.i (omega arith) c.loop-i.invariant (sym c.has.ensures ∙ c.if-has.false)

pub returns : goal.returns
returns c = absurd (some_node c.args.set c.requires.some (λ k. c.loop-i.invariant k (omega arith)))

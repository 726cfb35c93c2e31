-- `from_place` meets its contract. The loop's invariant: the calls for the allowances so far have been made, and are told.
use mathlib.Core.Path.{◌≡◌, refl, ◌∙◌}
use native.Mathlib.Omega.{arith}
use lib.ListN.{length}
use lib.Seq.{length-take-le}
use borrow.Author.Rules.{rules}
use Rattle.meaning.specs.Limits.{max_functions}
use Rattle.calls.proofs.RunLaws.{no_calls, few_found, next_call, all_calls}
use Rattle.calls.proofs.from_place.Goals as goal

pub loop-n-init : goal.loop-n-init
loop-n-init c = (refl, no_calls _ _ _ refl refl)

pub call-at-requires : goal.call-at-requires
unfolding max_functions
call-at-requires c =
    let loop = c.loop-n in
    omega (
      arith,
      c.requires,
      few_found _ _ _ _ _ _ loop.invariant.1,
      length-take-le loop.n-index c.args.allowances.now (omega (arith, c.loop-n-test.true)),
      loop.invariant.0,
      c.loop-n-test.true,
    )

pub loop-n-preserved : goal.loop-n-preserved
loop-n-preserved c =
    let loop = c.loop-n in
    let long : length c.call-at.new.rows ≡ length loop.rows = search rules in (
      long ∙ loop.invariant.0,
      next_call _ _ _ _ _ _ _ loop.invariant.1 _ _ c.loop-n-test.true c.call-at.ensures,
    )

pub returns : goal.returns
returns c = all_calls _ _ _ _ _ c.loop-n.n-index _ c.loop-n.invariant.1 (omega (arith, c.loop-n-test.false))

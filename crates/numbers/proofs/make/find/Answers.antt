-- `make::find` meets its contract. The loop's invariant: no node past `at` is alike, and `at` is in the bucket.
use mathlib.Core.Path.{sym, ◌∙◌}
use Prim.Native.Nat.{◌-◌}
use native.Mathlib.Omega.{arith}
use Rattle.numbers.proofs.Buckets.{looking_begins, looking_on}
use Rattle.numbers.proofs.make.find.Goals as goal

pub loop-at-init : goal.loop-at-init
loop-at-init c = looking_begins c.args.t.now c.args.k (omega (arith, c.requires.node.0.small)) c.args.from c.requires.bucket.1

pub loop-at-preserved : goal.loop-at-preserved
loop-at-preserved c =
    let at = c.loop-at in
    looking_on c.args.t.now c.args.k (omega (arith, c.requires.node.0.small)) c.args.links.now c.requires.bucket.0 (at.at - 1) at.at
    (omega arith) at.invariant
    (sym c.is_alike.ensures ∙ c.if-is_alike.false)

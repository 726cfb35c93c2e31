-- `make::innermost` meets its contract. The loop's invariant is `Scanning`.
use mathlib.Core.Path.{ap, ◌∙◌}
use Prim.Native.Nat.{max}
use Rattle.numbers.proofs.Scanning.{scan_on, scan_stops, scan_ends}
use Rattle.numbers.proofs.make.innermost.Goals as goal

pub returns-then-level-d : goal.returns-then-level-d
returns-then-level-d c = scan_stops _ _ _ _ c.loop-x.invariant c.if-level-d.true

pub loop-x-preserved : goal.loop-x-preserved
loop-x-preserved c =
    scan_on _ _ _ _ c.loop-x.invariant _ c.loop-x-test.true (c.max-level.ensures ∙ ap (max c.loop-x.level) c.level_in.ensures)

pub returns : goal.returns
returns c = scan_ends _ _ _ _ c.loop-x.invariant c.loop-x-test.false

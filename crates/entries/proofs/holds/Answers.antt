-- `holds` meets its contract: no number past the last metavariable is in a set.
use Rattle.std.proofs.Common.{◌≤◌, ◌∙◌, arith}
use borrow.Author.Tests.{le-ltb}
use Rattle.entries.proofs.SetLaws.{holds_none}
use Rattle.entries.proofs.holds.Goals as goal

pub returns-else-m-from : goal.returns-else-m-from
returns-else-m-from c =
    let past : 32 ≤ c.args.m = omega (arith, c.from.ensures) in
    le-ltb c.args.m c.from.result c.if-m-from.false ∙ holds_none c.args.set c.args.m c.ranges.set.fits past

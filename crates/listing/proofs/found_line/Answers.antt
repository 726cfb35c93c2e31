-- `found_line`.
use mathlib.Core.Path.{refl}
use Rattle.listing.proofs.LineLaws.{more_line, next_line}
use Rattle.listing.proofs.found_line.Goals as goal

pub returns-then-at-ge-MOST : goal.returns-then-at-ge-MOST
returns-then-at-ge-MOST c = more_line c.if-at-ge-MOST.true c.last_line.ensures

pub returns : goal.returns
returns c = next_line c.if-at-ge-MOST.false c.solution_line.ensures refl

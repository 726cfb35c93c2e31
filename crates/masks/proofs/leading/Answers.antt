-- `masks::leading`: the count of leading zeros is the place of the first mark that is set.
use native.Mathlib.Omega.{arith}
use lib.Count.{leading_le}
use Rattle.masks.specs.Sets.{word_nodes}
use Rattle.masks.proofs.Marks.{leading_marks}
use Rattle.masks.proofs.leading.Goals as goal

pub overflow_cast-result : goal.overflow_cast-result
overflow_cast-result c = omega (arith, leading_le word_nodes c.args.w)

pub returns : goal.returns
returns c = leading_marks word_nodes c.args.w c.ranges.w.fits

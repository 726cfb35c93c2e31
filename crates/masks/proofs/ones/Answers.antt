-- `masks::ones`: the count of ones is the number of marks that are set.
use native.Mathlib.Omega.{arith}
use lib.Count.{ones-le}
use Rattle.masks.specs.Sets.{word_nodes}
use Rattle.masks.proofs.Marks.{ones_marks}
use Rattle.masks.proofs.ones.Goals as goal

pub overflow_cast-result : goal.overflow_cast-result
overflow_cast-result c = omega (arith, ones-le word_nodes c.args.w c.ranges.w.fits)

pub returns : goal.returns
returns c = ones_marks word_nodes c.args.w c.ranges.w.fits

-- `count_line`.
use native.Mathlib.Omega.{arith}
use Rattle.listing.proofs.LineLaws.{count_put}
use Rattle.listing.proofs.count_line.Goals as goal

pub put_word-requires : goal.put_word-requires
put_word-requires c = omega (arith, c.requires, c.put_count-end.ensures.few, c.put_count-end.auto)

pub returns : goal.returns
returns c = count_put c.args.word.now c.args.n c.put_count-end.ensures.put c.put_word.ensures

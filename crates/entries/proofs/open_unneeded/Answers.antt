-- `open_unneeded` meets its contract: two sets have nothing in common where `&` is 0.
use Rattle.entries.proofs.FieldLaws.{open_returns}
use borrow.Author.Rules.{rules}
use Rattle.entries.proofs.open_unneeded.Goals as goal

pub returns : goal.returns
returns c = open_returns c.args.said.now c.args.needed c.having.result (c.having.ensures _ (λ m yes h p. p.1)) (search rules) c.ranges.needed.fits

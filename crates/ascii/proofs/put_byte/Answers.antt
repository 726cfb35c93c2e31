-- `put_byte`.
use Rattle.ascii.proofs.PutLaws.{two_digits}
use Rattle.ascii.proofs.put_byte.Goals as goal

pub returns : goal.returns
returns c = two_digits c.args.byte c.hex_digit-high.ensures c.hex_digit-low.ensures c.requires

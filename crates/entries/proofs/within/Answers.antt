-- `within` meets its contract: one set is in another where `&` leaves it as it is.
use Rattle.entries.proofs.SetLaws.{within_code}
use Rattle.entries.proofs.within.Goals as goal

pub returns : goal.returns
returns c = within_code c.args.inner c.args.outer c.ranges.inner.fits

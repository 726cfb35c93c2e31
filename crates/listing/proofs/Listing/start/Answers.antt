-- `Listing::start`.
use Rattle.listing.proofs.LineLaws.{begins}
use Rattle.listing.proofs.Listing.start.Goals as goal

pub returns : goal.returns
returns c = rw c.unwrap_or.ensures (begins _ c.start.result c.past_last.result c.start.ensures)

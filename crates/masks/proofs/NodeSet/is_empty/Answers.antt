-- `NodeSet::is_empty`: a set without a lowest node is the mask 0.
use Rattle.masks.proofs.Words.{empty_test}
use Rattle.masks.proofs.NodeSet.is_empty.Goals as goal

pub returns : goal.returns
returns c = empty_test c.args.self c.lowest.result c.lowest.ensures

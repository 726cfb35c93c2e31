-- `masks::bit`: a 1 that is shifted to node k's place.
use Rattle.masks.specs.Sets.{word_nodes}
use Rattle.masks.proofs.Nodes.{shift_only}
use Rattle.masks.proofs.bit.Goals as goal

pub returns : goal.returns
returns c = shift_only word_nodes c.args.k c.requires

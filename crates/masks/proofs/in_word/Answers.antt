-- `masks::in_word`: the digit at node k's place is its mark.
use Rattle.masks.specs.Sets.{word_nodes}
use Rattle.masks.proofs.Nodes.{shift_test}
use Rattle.masks.proofs.in_word.Goals as goal

pub returns : goal.returns
returns c = shift_test word_nodes c.args.w c.args.k c.requires

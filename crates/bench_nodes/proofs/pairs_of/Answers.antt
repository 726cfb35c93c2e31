-- `bench_nodes::pairs_of`: what reading and checking lends is what is measured.
use Rattle.comparing.proofs.Answering.{lent_nested}
use Rattle.bench_nodes.proofs.pairs_of.Goals as goal

pub measure-requires : goal.measure-requires
measure-requires c = lent_nested _ _ c.in-Ok.ensures

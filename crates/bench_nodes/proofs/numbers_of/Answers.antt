-- `bench_nodes::numbers_of`: what reading and checking lends is what is measured.
use Rattle.comparing.proofs.Answering.{lent_numerable, lent_short}
use Rattle.bench_nodes.proofs.numbers_of.Goals as goal

pub measure_numbers-requires-clause-numerable : goal.measure_numbers-requires-clause-numerable
measure_numbers-requires-clause-numerable c = lent_numerable _ _ c.in-Ok.ensures

pub measure_numbers-requires-clause-room : goal.measure_numbers-requires-clause-room
measure_numbers-requires-clause-room c = lent_short _ _ c.in-Ok.ensures

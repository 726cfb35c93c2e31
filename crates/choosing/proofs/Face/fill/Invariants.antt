-- `Face::fill`. The loop's invariant: the nodes before node i are as the first path has them.
use Rattle.choosing.proofs.FillLaws.{Filling}
use Rattle.choosing.proofs.Face.fill.Given as goal

abbrev pub invariant-loop-i : goal.invariant-loop-i
invariant-loop-i l =
    Filling l.self.nodes.numbers.now l.self.nodes.tokens.now l.self.root l.initial.filled l.initial.at l.from l.filled l.at l.i

-- `make::number` meets its contract. The loop's invariant: the pass has made the numbers of the nodes before k.
use Rattle.numbers.specs.Numbering.{Lasts, Passed}
use Rattle.numbers.proofs.make.number.Given as goal

abbrev pub invariant-loop-k : goal.invariant-loop-k
invariant-loop-k l =
    Lasts l.t l.k l.last × Passed l.t l.k l.heads l.links l.ns

-- `make::innermost` meets its contract. The loop's invariant is `Scanning`.
use Rattle.numbers.proofs.Scanning.{Scanning}
use Rattle.numbers.proofs.make.innermost.Given as goal

abbrev pub invariant-loop-x : goal.invariant-loop-x
invariant-loop-x l = Scanning l.d l.xs l.x-index l.level

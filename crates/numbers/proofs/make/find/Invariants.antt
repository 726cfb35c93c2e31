-- `make::find` meets its contract. The loop's invariant: no node past `at` is alike, and `at` is in the bucket.
use Rattle.numbers.proofs.Buckets.{Looking}
use Rattle.numbers.proofs.make.find.Given as goal

abbrev pub invariant-loop-at : goal.invariant-loop-at
invariant-loop-at l = Looking l.t l.k l.at

abbrev pub decreases-loop-at : goal.decreases-loop-at
decreases-loop-at l = l.at

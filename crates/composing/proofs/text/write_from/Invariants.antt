-- `write_from` meets its contract. The loop's invariant: the fields before k are written, and with those from k on they are all from m on.
use Rattle.composing.proofs.TextLaws.{Writing}
use Rattle.composing.proofs.text.write_from.Given as goal

abbrev pub invariant-loop-k : goal.invariant-loop-k
invariant-loop-k l = Writing l.es l.plan l.m l.k l.n l.initial.out l.out

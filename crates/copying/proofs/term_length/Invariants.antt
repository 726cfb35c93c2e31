-- `copying::term_length`. The loop's invariant is `Measuring`.
use Rattle.copying.proofs.MeasureLaws.{Measuring}
use Rattle.copying.proofs.term_length.Given as goal

abbrev pub invariant-loop-x : goal.invariant-loop-x
invariant-loop-x l = Measuring l.fn.es l.fn.node l.total l.x-index

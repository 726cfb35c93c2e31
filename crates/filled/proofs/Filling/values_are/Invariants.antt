-- `Filling::values_are` meets its contract. The loop's invariant: the faces that are left decide.
use Rattle.filled.specs.Filled.{faced_value_at}
use Rattle.filled.specs.Ready.{Faced}
use Rattle.filled.proofs.CodeLaws.{Testing}
use Rattle.filled.proofs.Filling.values_are.Given as goal

abbrev pub invariant-loop-face : goal.invariant-loop-face
invariant-loop-face l = Testing (Faced l.self.ps.now l.self.es.now l.self.ts.now l.self.said.now) (faced_value_at l.self.ps.now l.self.es.now l.self.ts.now l.self.said.now) l.faces l.face-index

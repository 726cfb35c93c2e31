-- `Functions::first_row`. The loop's invariant: from function k on each set is its function's first choice.
use Rattle.rows.proofs.RowLaws.{Freshly}
use Rattle.rows.proofs.functions.Functions.first_row.Given as goal

abbrev pub invariant-loop-k : goal.invariant-loop-k
invariant-loop-k l = Freshly l.self.nodes.tokens.now l.self.nodes.numbers.now l.self.firsts l.row l.k

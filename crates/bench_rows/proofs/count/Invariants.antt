-- `bench_rows::count`. The loop's invariant: the row that is reached is one of the rows.
use Rattle.meaning.specs.Basics.{◌∈◌}
use Rattle.masks.specs.Sets.{masks_in}
use Rattle.rows.specs.Functions.{rows_in}
use Rattle.bench_rows.proofs.count.Given as goal

abbrev pub invariant-loop-n : goal.invariant-loop-n
invariant-loop-n l = masks_in l.reached ∈ rows_in l.functions

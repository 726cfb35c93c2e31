-- `write_longest` meets its contract: 28, 29, or the problem.
use Rattle.longest.proofs.WriteLaws.{longest_written, outside_refused, short_refused}
use Rattle.longest.proofs.write_longest.Goals as goal

pub returns-then-is_outside : goal.returns-then-is_outside
returns-then-is_outside c =
    let args = c.args in
    outside_refused args.n args.out.now c.is_outside.ensures c.if-is_outside.true

pub returns-then-out-length : goal.returns-then-out-length
returns-then-out-length c =
    let args = c.args in
    short_refused args.n args.out.now _ c.is_outside.ensures c.if-is_outside.false c.problem_length-length.ensures
    c.if-out-length.true

pub returns : goal.returns
returns c =
    let args = c.args in
    longest_written args.n args.out.now _ c.is_outside.ensures c.if-is_outside.false c.problem_length-length.ensures
    c.if-out-length.false c.write_problem.ensures

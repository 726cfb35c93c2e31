-- `write_expression` meets its contract: a symbol alone, or symbols and then the head before them.
use native.Mathlib.Omega.{arith}
use Rattle.longest.proofs.WriteLaws.{application_counted, application_head, application_long, application_wrote}
use Rattle.longest.proofs.WriteLaws.{symbols_fit}
use Rattle.longest.proofs.write_expression.Goals as goal

pub slice_bounds-write_symbols-count : goal.slice_bounds-write_symbols-count
slice_bounds-write_symbols-count c = application_long c.requires c.if-n-eq1.false

pub slice_bounds-write_symbols-start : goal.slice_bounds-write_symbols-start
slice_bounds-write_symbols-start c = application_long c.requires c.if-n-eq1.false

pub write_symbols-requires-else-n-eq1 : goal.write_symbols-requires-else-n-eq1
write_symbols-requires-else-n-eq1 c = symbols_fit c.requires c.if-n-eq1.false

pub overflow_mul-n : goal.overflow_mul-n
overflow_mul-n c = omega (arith, application_counted c.requires c.if-n-eq1.false)

pub write_head-requires : goal.write_head-requires
write_head-requires c = application_head c.requires c.if-n-eq1.false c.write_symbols-else-n-eq1.new.out c.write_symbols-else-n-eq1.auto.out

pub returns-else-n-eq1 : goal.returns-else-n-eq1
returns-else-n-eq1 c = application_wrote c.requires c.if-n-eq1.false c.write_symbols-else-n-eq1.ensures c.write_head.ensures

-- `call` meets its contract: a Found puts its row after those before; the check finds the other answers alone.
use mathlib.Core.Path.{refl}
use borrow.Author.Rules.{rules}
use Rattle.meaning.specs.Limits.{max_functions}
use Rattle.calls.proofs.RunLaws.{call_found}
use Rattle.calls.proofs.call.Goals as goal

pub overflow_mul-at : goal.overflow_mul-at
unfolding max_functions
overflow_mul-at c = search rules

pub put_row-requires : goal.put_row-requires
unfolding max_functions
put_row-requires c = c.requires

pub overflow_add-result : goal.overflow_add-result
unfolding max_functions
overflow_add-result c = search rules

pub returns-in-Found : goal.returns-in-Found
unfolding max_functions
returns-in-Found c =
    call_found _ c.args.at _ _ c.in-Ok.searched c.in-Ok.ensures _ refl _ _ c.in-Found.is c.put_row.ensures refl refl

-- `from_row` meets its contract: what is sought in is the problem's.
use mathlib.Core.Path.{refl}
use Rattle.search.proofs.CallLaws.{callable_grounded}
use Rattle.search.proofs.call.from_row.Goals as goal

pub seek-requires-clause-grounded : goal.seek-requires-clause-grounded
seek-requires-clause-grounded c = callable_grounded _ _ c.requires.callable _ c.requires.row_there.0 _ refl refl

-- `list::show_list`: the buffer has room for a row of each call.
use Rattle.std.proofs.Common.{rules}
use Rattle.meaning.specs.Limits.{max_functions}
use Rattle.held.proofs.list.show_list.Goals as goal

pub run-ran-requires : goal.run-ran-requires
unfolding max_functions
run-ran-requires g c = search rules

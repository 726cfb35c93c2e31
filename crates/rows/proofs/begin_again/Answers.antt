-- `begin_again`: the sets from function k on are the first row's.
use borrow.Author.Rules.{rules}
use native.Mathlib.Omega.{arith}
use mathlib.Core.Path.{◌≡◌}
use lib.ListN.{length}
use Rattle.meaning.specs.Limits.{max_functions}
use Rattle.rows.proofs.RowLaws.{again_put}
use Rattle.rows.proofs.begin_again.Goals as goal

pub offset_bounds-next-k : goal.offset_bounds-next-k
unfolding max_functions
offset_bounds-next-k c = search rules

pub slice_bounds-next-end : goal.slice_bounds-next-end
unfolding max_functions
slice_bounds-next-end c = search rules

pub offset_bounds-first-k : goal.offset_bounds-first-k
unfolding max_functions
offset_bounds-first-k c = search rules

pub slice_bounds-copy_from_slice-end : goal.slice_bounds-copy_from_slice-end
unfolding max_functions
slice_bounds-copy_from_slice-end c = search rules

pub returns : goal.returns
unfolding max_functions
returns c =
    let n : length c.args.row ≡ 8 = search rules in
    let m : length c.args.first ≡ 8 = search rules in
    rw c.copy_from_slice.ensures.after (again_put c.args.firsts.count c.args.first c.args.row c.args.k c.requires.there (omega arith) (omega arith))

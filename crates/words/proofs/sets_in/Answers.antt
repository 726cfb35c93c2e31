-- `sets_in` meets its contract. The loop's invariant: the masks of the first k sets are read.
use borrow.Author.Rules.{rules}
use mathlib.Core.Path.{refl, ◌∙◌}
use native.Mathlib.Omega.{arith}
use lib.ListN.{length-set}
use Rattle.meaning.specs.Limits.{max_functions}
use Rattle.words.specs.Words.{masks_from}
use Rattle.words.proofs.WordLaws.{read_more, read_all}
use Rattle.words.proofs.sets_in.Goals as goal

pub loop-k-init : goal.loop-k-init
unfolding max_functions masks_from
loop-k-init c = (refl, refl)

pub set_at-requires : goal.set_at-requires
unfolding max_functions
set_at-requires c = search rules

pub loop-k-preserved : goal.loop-k-preserved
unfolding max_functions
loop-k-preserved c =
    let loop = c.loop-k in
    (length-set loop.set-items loop.k _ ∙ loop.invariant.0, read_more loop.set-items _ loop.k _ (omega arith) loop.invariant.1 c.set_at.ensures)

pub returns : goal.returns
unfolding max_functions
returns c =
    let loop = c.loop-k in
    read_all loop.set-items _ loop.k loop.invariant.0 (omega arith) loop.invariant.1

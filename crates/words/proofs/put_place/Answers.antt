-- `put_place` meets its contract: the sets, and the last word.
use mathlib.Core.Path.{◌≡◌, ◌∙◌}
use lib.ListN.{length}
use Rattle.meaning.specs.Limits.{max_functions}
use Rattle.masks.specs.Sets.{masks_in}
use Rattle.words.proofs.WordLaws.{last_byte, put_last}
use borrow.Author.Rules.{rules}
use Rattle.words.proofs.put_place.Goals as goal

pub bounds-words-32 : goal.bounds-words-32
unfolding max_functions
bounds-words-32 c = search rules

pub returns : goal.returns
unfolding max_functions
returns c =
    let put = c.put_row in
    let kept : length put.new.words ≡ length c.args.words.now = search rules in
    put_last put.new.words c.args.words.now (masks_in c.args.place.sets) _ c.args.place.past
    c.requires kept put.ensures (c.from.ensures ∙ last_byte c.args.place.past)

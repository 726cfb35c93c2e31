-- `give_start` meets its contract.
use Rattle.meaning.specs.Limits.{max_functions}
use Rattle.tivagyesz.proofs.ExportLaws.{given, not_given}
use borrow.Author.Rules.{rules}
use Rattle.tivagyesz.proofs.give_start.Goals as goal

pub returns-then-words-lt-PLACE_WORDS : goal.returns-then-words-lt-PLACE_WORDS
unfolding max_functions
returns-then-words-lt-PLACE_WORDS c = rw c.refusal_code.ensures (not_given _ _ c.if-words-lt-PLACE_WORDS.true)

pub put_place-requires : goal.put_place-requires
unfolding max_functions
put_place-requires c = search rules

pub returns-else-words-lt-PLACE_WORDS : goal.returns-else-words-lt-PLACE_WORDS
unfolding max_functions
returns-else-words-lt-PLACE_WORDS c = given _ _ _ c.if-words-lt-PLACE_WORDS.false c.put_place.ensures

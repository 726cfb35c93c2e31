-- `place_of` meets its contract: a law for each shape of words.
use mathlib.Core.Path.{◌∙◌, sym}
use native.Mathlib.Omega.{arith}
use Rattle.meaning.specs.Limits.{max_functions}
use Rattle.words.proofs.WordLaws.{too_few, row_read, past_read, other_read}
use borrow.Author.Rules.{rules}
use Rattle.words.proofs.place_of.Goals as goal

pub returns-then-words-lt-PLACE_WORDS : goal.returns-then-words-lt-PLACE_WORDS
unfolding max_functions
returns-then-words-lt-PLACE_WORDS c = c.nowhere.ensures ∙ sym (too_few _ c.if-words-lt-PLACE_WORDS.true)

pub sets_in-requires : goal.sets_in-requires
unfolding max_functions
sets_in-requires c = search rules

pub sets_in-requires-in-1 : goal.sets_in-requires-in-1
unfolding max_functions
sets_in-requires-in-1 c = search rules

pub returns-in-0 : goal.returns-in-0
unfolding max_functions
returns-in-0 c = row_read _ c.if-words-lt-PLACE_WORDS.false _ c.sets_in.ensures c.in-0.is

pub returns-in-1 : goal.returns-in-1
unfolding max_functions
returns-in-1 c = past_read _ c.if-words-lt-PLACE_WORDS.false _ c.sets_in-in-1.ensures c.in-1.is

pub returns-in_default : goal.returns-in_default
unfolding max_functions
returns-in_default c =
    c.nowhere-in_default.ensures ∙ sym (other_read _ c.if-words-lt-PLACE_WORDS.false (omega arith))

-- `give_answer` meets its contract: 18, or the place and the row.
use native.Mathlib.Omega.{arith}
use Rattle.meaning.specs.Limits.{max_functions}
use Rattle.tivagyesz.proofs.ExportLaws.{given_long, given_short}
use Rattle.tivagyesz.proofs.give_answer.Goals as goal

pub returns-then-row-lt-PLACE_WORDS : goal.returns-then-row-lt-PLACE_WORDS
unfolding max_functions
returns-then-row-lt-PLACE_WORDS c = rw c.refusal_code.ensures (given_short _ _ _ _ c.if-row-lt-PLACE_WORDS.true)

pub give_row-requires : goal.give_row-requires
unfolding max_functions
give_row-requires c = omega (arith, c.if-row-lt-PLACE_WORDS.false)

pub returns : goal.returns
unfolding max_functions
returns c = given_long _ _ _ _ c.if-row-lt-PLACE_WORDS.false c.put_place.ensures c.give_row.ensures

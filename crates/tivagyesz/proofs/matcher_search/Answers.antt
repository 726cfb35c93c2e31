-- `matcher_search` meets its contract: a refusal changes nothing, and any other answer is given.
use Rattle.tivagyesz.proofs.ExportLaws.{place_long}
use Rattle.tivagyesz.proofs.matcher_search.Goals as goal

pub give_answer-requires : goal.give_answer-requires
give_answer-requires c = place_long _ _ _ _ c.place_of.ensures _ c.in-Ok.ensures

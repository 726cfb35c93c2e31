-- `first_choice`: filling from the first node on.
use Rattle.choosing.proofs.FillLaws.{first_is}
use Rattle.choosing.proofs.Face.first_choice.Goals as goal

pub returns : goal.returns
returns c =
    let s = c.args in
    first_is s.self.nodes.numbers.now s.self.nodes.tokens.now s.self.root _ _ _ c.none.ensures c.begun.ensures c.fill.ensures

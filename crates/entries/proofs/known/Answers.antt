-- `known` meets its contract.
use Rattle.entries.proofs.FieldLaws.{known_returns}
use Rattle.entries.proofs.known.Goals as goal

pub returns : goal.returns
returns c =
    let a = c.args in
    known_returns a.said.now a.occurring c.having.result c.within.result (c.having.ensures _ (λ m yes h p. p.1)) c.within.ensures

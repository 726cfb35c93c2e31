-- `unneeded_open` meets its contract.
use Rattle.entries.proofs.FieldLaws.{unneeded_returns}
use Rattle.entries.proofs.unneeded_open.Goals as goal

pub returns : goal.returns
returns c =
    let a = c.args in
    unneeded_returns a.said.now a.needed c.having.result (c.having.ensures _ (λ m yes h p. p.1)) a.plain c.within.result
    c.within.ensures

-- `Filling::faced_value_is` meets its contract: the number is the slot's payload.
use Rattle.filled.proofs.CodeLaws.{faced_asks, faced_answer}
use Rattle.filled.proofs.Filling.faced_value_is.Goals as goal

pub value_is-requires : goal.value_is-requires
value_is-requires c =
    let a = c.args in
    faced_asks a.self.now.ps.now a.self.now.es.now a.self.now.ts.now a.self.now.said.now a.face c.payload.result c.payload.ensures c.requires

pub returns : goal.returns
returns c =
    let a = c.args in
    faced_answer a.self.now.ps.now a.self.now.es.now a.self.now.ts.now a.self.now.said.now a.face c.payload.result c.payload.ensures
    c.value_is.result c.value_is.ensures

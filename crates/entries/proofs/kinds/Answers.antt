-- `kinds` meets its contract: one law for each return.
use Rattle.std.proofs.Common.{◌∙◌}
use Rattle.entries.proofs.FieldLaws.{kinds_refused, kinds_returns}
use Rattle.entries.proofs.kinds.Goals as goal

pub returns-then-within : goal.returns-then-within
returns-then-within c =
    let a = c.args in
    kinds_returns a.said.now a.occurring c.having.result c.within.result (c.having.ensures _ (λ m yes h p. p.1)) c.within.ensures
    c.if-within.true c.having-then-within.result c.within-then-within.result (c.having-then-within.ensures _ (λ m yes h p. p.1))
    c.within-then-within.ensures

pub returns-else-within : goal.returns-else-within
returns-else-within c =
    let a = c.args in
    c.if-within.false ∙ kinds_refused a.said.now a.occurring c.having.result c.within.result (c.having.ensures _ (λ m yes h p. p.1)) c.within.ensures c.if-within.false

-- `same::same_across` meets its contract: with all binders shared a comparison is by keys.
use Rattle.tokens.proofs.same.Laws.{same_judged}
use Rattle.tokens.proofs.same.same_across.Goals as goal

pub returns : goal.returns
returns c =
    same_judged c.args.t.now c.args.a c.args.u.now c.args.b c.depth.result c.compare_across.result
    c.depth.ensures c.compare_across.ensures

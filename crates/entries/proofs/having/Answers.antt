-- `having` meets its contract: of each metavariable its field is tested, which the contract asks of `test`.
use Rattle.meaning.specs.Limits.{metavariable_count}
use Rattle.entries.proofs.SetLaws.{gathered_none, gathered_more, gathered_all}
use Rattle.entries.proofs.having.Goals as goal

pub loop-m-init : goal.loop-m-init
loop-m-init g c = λ q h. gathered_none _

pub test-requires : goal.test-requires
unfolding metavariable_count
test-requires g c = c.requires c.loop-m.m c.loop-m-test.true

pub loop-m-preserved : goal.loop-m-preserved
unfolding metavariable_count
loop-m-preserved g c = λ q h.
    gathered_more _ _ _ _ _ (c.loop-m.invariant q h) (h c.loop-m.m c.test.result c.loop-m-test.true c.test.ensures)
    c.joined-set.ensures

pub returns : goal.returns
returns g c = λ q h. gathered_all _ _ _ c.loop-m-test.false (c.loop-m.invariant q h)

-- `same::compare_nodes` meets its contract: a pair that agrees, one that does not, and the end of one of the lists.
use mathlib.Core.Logic.{inl, inr}
use Rattle.tokens.proofs.same.Laws.{compare_goes_on, compare_stops, compare_ends}
use Rattle.tokens.proofs.same.compare_nodes.Goals as goal

pub loop-x-preserved : goal.loop-x-preserved
loop-x-preserved c =
    compare_goes_on (rw (c.in-Some.ensures.steps.0, c.in-Some.ensures.steps.1) at c.loop-x.invariant) cc

pub returns-then-not-agree : goal.returns-then-not-agree
returns-then-not-agree c =
    compare_stops (rw (c.in-Some.ensures.steps.0, c.in-Some.ensures.steps.1) at c.loop-x.invariant) cc

pub returns : goal.returns
returns c = compare_ends _ _ c.loop-x.invariant (elim c.in-None.ensures.steps [ inl e ↦ inl e.1.0 | inr e ↦ inr e.1.0 ])

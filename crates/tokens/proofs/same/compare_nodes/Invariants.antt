-- `same::compare_nodes` meets its contract. The loop's invariant: all pairs so far agree, and what is left tells the rest.
use Rattle.std.specs.Slice.Iter.{iter_rest}
use Rattle.tokens.specs.Key.{agree_under}
use Rattle.tokens.proofs.same.Laws.{Left}
use Rattle.tokens.proofs.same.compare_nodes.Given as goal

abbrev pub invariant-loop-x : goal.invariant-loop-x
invariant-loop-x l = Left (agree_under l.s l.d l.e) l.xs l.ys l.pairs (iter_rest l.x-iterator.a) (iter_rest l.x-iterator.b)

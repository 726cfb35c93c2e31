-- `copy_term` and `copy_terms`, which call each other. The measure is the number of nodes: the terms below a node are fewer than the node's
-- term, and each of several terms has at most as many as all. The loop's invariant: the terms before `next` are written, and with those from
-- `next` on they are all.
use Prim.Native.Nat.{◌+◌, ◌-◌, ◌*◌}
use Rattle.masks.specs.Sets.{mask}
use Rattle.tokens.specs.Token.{size_in}
use Rattle.tokens.specs.Key.{at}
use Rattle.copying.proofs.CopyLaws.{Copying}
use Rattle.copying.proofs.+copy_term_copy_terms.Given as goal

abbrev pub decreases-copy_term : goal.decreases-copy_term
decreases-copy_term l = 2 * size_in (at l.es.now l.at)

abbrev pub decreases-copy_terms : goal.decreases-copy_terms
decreases-copy_terms l = 2 * (l.to - l.at) + 1

abbrev pub invariant-copy_terms-loop-next : goal.invariant-copy_terms-loop-next
invariant-copy_terms-loop-next l = Copying l.es l.from (mask l.set) l.at l.to l.next l.n l.initial.out l.out

abbrev pub decreases-copy_terms-loop-next : goal.decreases-copy_terms-loop-next
decreases-copy_terms-loop-next l = l.to - l.next

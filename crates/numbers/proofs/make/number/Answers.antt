-- `make::number` meets its contract. The loop's invariant: the pass has made the numbers of the nodes before k.
use mathlib.Core.Path.{refl}
use Rattle.numbers.proofs.Passing.{lasts_none, passed_none}
use Rattle.numbers.proofs.Buckets.{lasts_more}
use Rattle.numbers.proofs.make.number.Goals as goal

pub loop-k-init : goal.loop-k-init
loop-k-init c = (
  lasts_none c.args.t.now 256 refl,
  passed_none c.args.t.now 256 refl c.args.links.now _ c.requires.1.for_links c.add_up.ensures,
)

pub loop-k-preserved : goal.loop-k-preserved
loop-k-preserved c =
    (rw c.depth-d.ensures (lasts_more c.args.t.now c.loop-k.k c.loop-k.last c.loop-k.invariant.0), c.number_next.ensures)

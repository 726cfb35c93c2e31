-- `make::number_next` meets its contract: what is known of the node bounds each word that is made of it, and its number is that of the node
-- found, or its own.
use native.Mathlib.Omega.{arith}
use Rattle.numbers.proofs.Passing.{node_binder, node_hash, node_level, node_few, node_label, head_points, passed_more}
use Rattle.numbers.proofs.Buckets.{number_found, number_new}
use Rattle.numbers.proofs.make.number_next.Goals as goal
use Rattle.numbers.proofs.make.number_next.Goals.{in-Some, in-None}

pub overflow_mul-label : goal.overflow_mul-label
overflow_mul-label c = omega (arith, node_hash c.requires.node)

pub overflow_add-label : goal.overflow_add-label
overflow_add-label c = omega (arith, node_binder c.requires.node, node_hash c.requires.node)

pub bounds-heads-bucket : goal.bounds-heads-bucket
bounds-heads-bucket c = omega (arith, node_hash c.requires.node)

pub find-earlier-requires-clause-bucket : goal.find-earlier-requires-clause-bucket
find-earlier-requires-clause-bucket c =
    (c.requires.passed.chained.linked, head_points c.requires.node c.requires.passed, node_label c.requires.node)

pub overflow_mul-links : goal.overflow_mul-links
overflow_mul-links c = omega (arith, node_binder c.requires.node, node_hash c.requires.node)

pub overflow_add-links : goal.overflow_add-links
overflow_add-links c =
    let head = head_points c.requires.node c.requires.passed in
    omega (arith, node_binder c.requires.node, node_hash c.requires.node, node_few c.requires.node)

pub bounds-heads-bucket-2 : goal.bounds-heads-bucket-2
bounds-heads-bucket-2 c = omega (arith, node_hash c.requires.node)

pub overflow_mul-ns : goal.overflow_mul-ns
overflow_mul-ns c = omega (arith, node_level c.requires.node)

pub overflow_add-ns : goal.overflow_add-ns
overflow_add-ns c = omega (arith, node_level c.requires.node, node_few c.requires.node)

pub returns : goal.returns
returns c =
    passed_more c.requires.node c.requires.passed _
    (elim c.match-earlier.branch [
      | in-Some w ↦ rw w.ns-is (number_found c.args.t.now c.args.k (node_few c.requires.node) c.args.ns.now w.in-Some.i c.requires.passed.numbers w.in-Some.ensures)
      | in-None w ↦ rw (w.ns-is, c.requires.node.2.level) (number_new c.args.t.now c.args.k (node_few c.requires.node) w.in-None.ensures)
    ])

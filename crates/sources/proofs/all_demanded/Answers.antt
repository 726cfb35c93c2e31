-- `all_demanded` meets its contract: each face leads on.
use Rattle.sources.proofs.KeptLaws.{going_on}
use Rattle.sources.proofs.all_demanded.Goals as goal

pub loop-face-preserved : goal.loop-face-preserved
loop-face-preserved c =
    let a = c.args in
    let l = c.loop-face in
    going_on a.patterns.now a.ns.now a.faces.now _ l.face-index l.sources.nodes l.invariant
    c.loop-face-test.true c.demanded_at.new.sources c.if-not-demanded_at.ensures

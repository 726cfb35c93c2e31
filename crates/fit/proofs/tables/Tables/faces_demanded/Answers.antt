-- `Tables::faces_demanded` meets its contract: each face leads on.
use mathlib.Core.Path.{◌∙◌}
use Rattle.masks.specs.Sets.{masks_in}
use Rattle.fit.proofs.CodeLaws.{going_on}
use Rattle.fit.proofs.tables.Tables.faces_demanded.Goals as goal

pub loop-face-preserved : goal.loop-face-preserved
loop-face-preserved c =
    let t = c.args.self.now in
    let l = c.loop-face in
    let n = c.face_demanded in (
      n.auto.scratch ∙ l.invariant.0,
      going_on t.patterns.now t.nodes.tokens.now t.nodes.numbers.now t.functions t.firsts.nodes (masks_in c.args.row.now) t.faces.now _
          l.face-index l.kept.nodes l.invariant.1 c.loop-face-test.true n.new.kept c.if-not-face_demanded.ensures,
    )

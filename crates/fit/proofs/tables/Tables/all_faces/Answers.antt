-- `Tables::all_faces` meets its contract: the plain faces, and then the applications.
use Rattle.masks.specs.Sets.{masks_in}
use Rattle.fit.proofs.CodeLaws.{plain_begins, plain_stays, then_applied}
use Rattle.fit.proofs.tables.Tables.all_faces.Goals as goal

pub all_demanded-requires : goal.all_demanded-requires
all_demanded-requires c =
    let t = c.args.self.now in (
      plain_begins t.patterns.now t.nodes.tokens.now t.nodes.numbers.now t.faces.now t.functions t.firsts (masks_in c.args.row.now)
          c.args.kept.now.nodes c.requires.none,
      c.requires.ready.reads,
    )

pub faces_demanded-requires-clause-kept : goal.faces_demanded-requires-clause-kept
faces_demanded-requires-clause-kept c =
    let t = c.args.self.now in
    plain_stays t.patterns.now t.nodes.tokens.now t.nodes.numbers.now t.faces.now t.functions t.firsts (masks_in c.args.row.now)
    c.args.kept.now.nodes c.requires.none c.all_demanded.new.sources c.if-not-all_demanded.ensures c.requires.ready.reads

pub returns : goal.returns
returns c =
    let t = c.args.self.now in
    then_applied t.patterns.now t.nodes.tokens.now t.nodes.numbers.now t.faces.now t.functions t.firsts (masks_in c.args.row.now)
    c.args.kept.now.nodes c.requires.none c.all_demanded.new.sources c.if-not-all_demanded.ensures _ c.faces_demanded.ensures

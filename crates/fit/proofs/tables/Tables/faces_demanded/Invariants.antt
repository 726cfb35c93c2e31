-- `Tables::faces_demanded` meets its contract. The loop's invariant: the faces that are left lead, from what is kept, where all of them lead
-- from the start, and what is lent has kept its length.
use mathlib.Core.Path.{◌≡◌}
use lib.ListN.{length}
use Rattle.masks.specs.Sets.{masks_in}
use Rattle.fit.specs.Tables.{faces_in}
use Rattle.fit.proofs.CodeLaws.{Going}
use Rattle.fit.proofs.tables.Tables.faces_demanded.Given as goal

abbrev pub invariant-loop-face : goal.invariant-loop-face
invariant-loop-face l =
    (length l.scratch ≡ length l.initial.scratch)
    × Going l.self.patterns.now l.self.nodes.tokens.now l.self.nodes.numbers.now l.self.functions l.self.firsts.nodes (masks_in l.row)
    l.self.faces.now (faces_in l.self (masks_in l.row) l.initial.kept.nodes) l.face-index l.kept.nodes

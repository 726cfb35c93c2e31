-- `Tables::bodies_closed` meets its contract. The loop's invariant: the bodies from function k on are closed just when all are.
use mathlib.Core.Path.{◌≡◌}
use lib.ListN.{take, drop}
use Rattle.masks.specs.Sets.{masks_in}
use Rattle.fit.specs.Judging.{bodies_closed}
use Rattle.fit.proofs.tables.Tables.bodies_closed.Given as goal

abbrev pub invariant-loop-k : goal.invariant-loop-k
invariant-loop-k l =
    bodies_closed l.self.nodes.tokens.now (drop l.k (take l.self.firsts.count l.self.firsts.nodes)) (drop l.k (masks_in l.row))
    ≡ bodies_closed l.self.nodes.tokens.now (take l.self.firsts.count l.self.firsts.nodes) (masks_in l.row)

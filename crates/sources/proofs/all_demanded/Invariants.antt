-- `all_demanded` meets its contract. The loop's invariant: the demands that are left lead, from what is kept, where all of them lead from
-- the start.
use Rattle.numbers.specs.Tests.{told}
use Rattle.sources.specs.Demand.{demands_in, kept_after}
use Rattle.sources.proofs.KeptLaws.{Going}
use Rattle.sources.proofs.all_demanded.Given as goal

abbrev pub invariant-loop-face : goal.invariant-loop-face
invariant-loop-face l =
    Going l.patterns l.ns l.faces (kept_after (told l.ns) l.initial.sources.nodes (demands_in l.patterns l.faces)) l.face-index l.sources.nodes

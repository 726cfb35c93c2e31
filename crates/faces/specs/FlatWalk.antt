-- The walk of a problem's two token tables, from the top.
use Rattle.std.specs.Prelude.{ℕ, List}
use Rattle.std.proofs.Math.Option.{Option}
use Rattle.lockstep.specs.Walk.{lockstep, at_slots}

abbrev pub flat_walk : List ℕ → List ℕ → Option (List ℕ)
flat_walk ps es = lockstep at_slots 0 0 0 0 0 ps es

-- `needed` meets its contract. The loop's invariant is `Needing`; the measure is the number of tokens left.
use Prim.Native.Nat.{◌-◌}
use lib.ListN.{length}
use Rattle.entries.proofs.NeededLaws.{Needing}
use Rattle.entries.proofs.needed.Given as goal

abbrev pub invariant-loop-i : goal.invariant-loop-i
invariant-loop-i l = Needing l.holed l.ps l.i l.set

abbrev pub decreases-loop-i : goal.decreases-loop-i
decreases-loop-i l = length l.ps - l.i

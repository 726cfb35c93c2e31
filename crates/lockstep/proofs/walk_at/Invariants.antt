-- `walk_at` meets its contract. The loop's invariant: the faces found so far and the walk of what is left make up the whole walk.
-- The measure is the number of tokens left of the pattern.
use Prim.Native.Nat.{◌-◌}
use Rattle.lockstep.proofs.SpanLaws.{Walking}
use Rattle.lockstep.proofs.walk_at.Given as goal

abbrev pub invariant-loop-i : goal.invariant-loop-i
invariant-loop-i l =
    Walking l.ps l.es l.initial.out l.out (record { from = l.initial.i; to = l.«to»; at = l.initial.j; d = l.d; e = l.e }) l.i l.j l.n

abbrev pub decreases-loop-i : goal.decreases-loop-i
decreases-loop-i l = l.«to» - l.i

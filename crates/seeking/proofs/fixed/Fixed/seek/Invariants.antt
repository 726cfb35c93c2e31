-- `Fixed::seek`. The loop's invariant: what is promised from the row at hand on, with the allowance left, is what is promised of the whole.
use mathlib.Core.Path.{◌≡◌}
use Prim.Native.Nat.{◌-◌}
use lib.ListN.{length}
use Rattle.meaning.specs.Basics.{◌∈◌}
use Rattle.masks.specs.Sets.{masks_in}
use Rattle.rows.specs.Functions.{rows_in}
use Rattle.seeking.specs.Seeking.{Seeks}
use Rattle.seeking.specs.declared.Searched.{Searched}
use Rattle.seeking.proofs.fixed.Fixed.seek.Given as goal

abbrev pub invariant-loop : goal.invariant-loop
invariant-loop l = record {
  is_row : masks_in l.at ∈ rows_in l.self.functions;
  long : length l.scratch ≡ length l.initial.scratch;
  promised : (r : Searched) → Seeks l.self (masks_in l.at) (l.n - l.counter) r → Seeks l.self (masks_in l.initial.at) l.n r;
}

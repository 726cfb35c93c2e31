-- `from_place` meets its contract. The loop's invariant: the calls for the allowances so far have been made, and are told.
use mathlib.Core.Path.{◌≡◌}
use lib.ListN.{length, take}
use Rattle.calls.specs.Running.{FromPlace}
use Rattle.calls.proofs.from_place.Given as goal

abbrev pub invariant-loop-n : goal.invariant-loop-n
invariant-loop-n l =
    (length l.rows ≡ length l.initial.rows)
    × FromPlace l.problem l.initial.at.place (take l.n-index l.allowances) l.initial.rows l.rows l.at

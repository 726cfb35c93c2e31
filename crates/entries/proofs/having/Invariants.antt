-- `having` meets its contract. The loop's invariant: the set has the metavariables below m whose field passes the test.
use Rattle.std.proofs.Common.{◌≡◌, ◌<◌, ℕ, Bool}
use Rattle.meaning.specs.Limits.{metavariable_count}
use Rattle.said.specs.Said.{field_of}
use Rattle.entries.proofs.SetLaws.{Gathered}
use Rattle.entries.proofs.having.Given as goal

abbrev pub invariant-loop-m : goal.invariant-loop-m
invariant-loop-m g l =
    (q : ℕ → Bool)
    → ((m : ℕ) (yes : Bool) → m < metavariable_count → goal.F-post g l.test (field_of l.said m) yes → yes ≡ q m)
    → Gathered q l.m l.set

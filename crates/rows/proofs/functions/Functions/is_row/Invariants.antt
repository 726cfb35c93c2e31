-- `Functions::is_row`. The loop's invariant: each set looked at is a choice of its function.
use Prim.Native.Nat.{ℕ, ◌<◌}
use lib.ListN.{get_or}
use Rattle.meaning.specs.Basics.{◌∈◌}
use Rattle.masks.specs.Sets.{masks_in}
use Rattle.rows.specs.Rows.{choices_of}
use Rattle.rows.proofs.functions.Functions.is_row.Given as goal

abbrev pub invariant-loop-k : goal.invariant-loop-k
invariant-loop-k l =
    (j : ℕ) → j < l.k → get_or (masks_in l.fn.row) j 0 ∈ choices_of l.self.nodes.tokens.now l.self.nodes.numbers.now l.self.firsts j

-- "The full list of a problem is its solution rows in row order, each with its one solution". `full_list` computes it (`full_list_is`,
-- `full_list_only`).
--   Listed   a row with its solution, as it stands in the full list
use Rattle.std.specs.Prelude.{◌↔◌, List}
use Rattle.meaning.specs.Basics.{Ordered, ◌∈◌}
use Rattle.meaning.specs.Problem.{Problem}
use Rattle.meaning.specs.Filling.{Filling}
use Rattle.meaning.specs.Solution.{Solution}
use Rattle.meaning.specs.Row.{EarlierRow, HasBodies, IsRow, Row}

abbrev pub Listed : Type 0
Listed = Row × Filling

abbrev pub EarlierListed : Listed → Listed → Type 0
EarlierListed x y = EarlierRow x.0 y.0

pub record IsFullList (p : Problem) (full : List Listed) : Type 0 where
  -- "in row order"
  pub ordered : Ordered EarlierListed full
  -- "its solution rows .., each with its one solution"
  pub members : (r : Row) (σ : Filling) → ((r, σ) ∈ full) ↔ (IsRow p r × Solution p σ × HasBodies p r σ)

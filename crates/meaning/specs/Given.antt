-- "a Found gives the solution of its row": what a host holds of the Founds once their rows are written.
--   named_by      the filling that a text names, if it can be read
--   TextOf       the text that a write call gave for a row
--   TextsGiven   what the texts of the Founds are, in order
use Rattle.std.specs.Prelude.{◌≡◌, ℕ, ◌≤◌, List, map, length, take}
use Rattle.meaning.specs.Limits.{largest_written}
use Rattle.meaning.specs.Basics.{Bytes, Pairwise, ◌∈◌}
use Rattle.meaning.specs.Problem.{Problem}
use Rattle.meaning.specs.Read.{Answer, after, got}
use Rattle.meaning.specs.Filling.{Filling}
use Rattle.meaning.specs.FullList.{Listed}
use Rattle.meaning.specs.Text.{read_text, said}
use Rattle.meaning.specs.PlaceValue.{PlaceValue}
use Rattle.meaning.specs.Entry.{WriteOn}

unfoldable pub named_by : Bytes → Answer Filling
named_by text = after (read_text text) (λ is. got (said is))

-- "the text at the buffer's front", as long as the call returned
pub record TextOf (p : Problem) (v : PlaceValue) (text : Bytes) : Type 0 where
  pub before : Bytes
  pub after : Bytes
  pub count : ℕ
  pub call : WriteOn p v before (got count) after
  pub front : text ≡ take count after

-- Of a list of calls with these rows found, on a problem with this full list
pub record TextsGiven (p : Problem) (given : List PlaceValue) (full : List Listed) : Type 0 where
  -- with room for any text the row of a Found is written
  pub written : (v : PlaceValue) → v ∈ given → (before after : Bytes) (a : Answer ℕ) → largest_written ≤ length before
      → WriteOn p v before a after → (n : ℕ) × (a ≡ got n)
  -- the text of the k-th Found names filling k of the full list
  pub names : (texts : List Bytes) → Pairwise (TextOf p) given texts
      → map named_by texts ≡ map (λ (x : Listed). got x.1) (take (length given) full)

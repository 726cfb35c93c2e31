-- The checks after reading, on the token tables: 13, then, if no letter is used both ways and all shapes agree, 14.
--   faces_in   what the walk records: none where a letter is used both ways (T-09), or a shape disagrees
--   verdict   the refusal, or whether there are rows and how many faces there are
use Rattle.std.specs.Prelude.{◌≡◌, ℕ, Bool, not, List, ◌++◌, map, length, drop, ltb, Result, Ok, Err, Some, None}
use Rattle.std.specs.Prelude as std
use Rattle.std.proofs.Math.Option.{Option, none, some}
use Rattle.meaning.specs.Limits.{max_functions}
use Rattle.meaning.specs.Basics.{choose, guard}
use Rattle.faces.specs.FlatWalk.{flat_walk}
use Rattle.metavariables.specs.Survey.{functions_in, both_in}
use Rattle.faces.specs.First.{first_node, any_large}
use Rattle.refusal.specs.declared.Refusal.{Refusal}
use Rattle.refusal.specs.declared.Refusal.TheVariants as refusals

-- 14
unfoldable pub large_in : List ℕ → List ℕ → List ℕ → Bool
large_in ps es ns = any_large es (map (first_node ps ns) (functions_in ps))

unfoldable pub faces_in : List ℕ → List ℕ → Option (List ℕ)
faces_in ps es = guard (not (both_in ps)) (flat_walk ps es)

-- Accepted: how many faces there are, or None where there are no rows
abbrev pub Checked : Type 0
Checked = Result (std.Option ℕ) Refusal

abbrev pub after_walk : List ℕ → List ℕ → Option (List ℕ) → Checked
after_walk ps es none = Ok None
after_walk ps es (some ns) = choose (large_in ps es ns) (Err refusals.FaceTooLarge) (Ok (Some (length ns)))

unfoldable pub verdict : List ℕ → List ℕ → Checked
verdict ps es =
    choose (ltb max_functions (length (functions_in ps))) (Err refusals.TooManyFunctions) (after_walk ps es (faces_in ps es))

-- Where the answer counts faces, they stand at the front of what was lent, and nothing after them has changed
pub record CheckedBy (ps es old new : List ℕ) (r : Checked) : Type 0 where
  pub answer : r ≡ verdict ps es
  pub recorded : (ns : List ℕ) → faces_in ps es ≡ some ns → r ≡ Ok (Some (length ns)) → new ≡ ns ++ drop (length ns) old

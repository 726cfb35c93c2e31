-- The starred examples of document 01 and those of source document 001, computed from the definitions.
use mathlib.Core.Path.{◌≡◌, refl}
use mathlib.Core.List.{map}
use lib.ListN.{length}
use Rattle.meaning.specs.Basics.{All}
use Rattle.meaning.specs.Row.{Row}
use Rattle.meaning.specs.Rows.{rows}
use Rattle.meaning.specs.Candidate.{solution_rows}
use Rattle.meaning.specs.Read.{got}
use Rattle.meaning.specs.Accept.{accept}
use Rattle.meaning.specs.Text.{text_of, read_text}
use Rattle.meaning.specs.Encoded.{encode_text}
use Rattle.meaning.specs.Case.{Case, further}
use Rattle.meaning.specs.Starred.{Starred, both_ways_example, starred, widths}
use Rattle.meaning.proofs.Computed.{accepts, texts, reads}

-- A problem has so many rows, and the texts of its solution rows, in row order, are those of the case
abbrev pub Holds : Case → Type 0
Holds c = (length (rows c.problem) ≡ c.row_count) × (map (text_of c.problem) (solution_rows c.problem) ≡ c.texts)

-- ... it is what its bytes are accepted as, and the texts are written as theirs and read back from them
abbrev pub HoldsInBytes : Starred → Type 0
HoldsInBytes s =
    (accept s.input ≡ got s.case.problem)
    × Holds s.case
    × (map (λ (r : Row). encode_text (text_of s.case.problem r)) (solution_rows s.case.problem) ≡ s.written)
    × (map read_text s.written ≡ map got s.case.texts)

-- THE STARRED CASES
pub starred_hold : All HoldsInBytes starred
unfolding accepts texts reads
starred_hold = (
  (refl, (refl, refl), refl, refl),
  (
    (refl, (refl, refl), refl, refl),
    (
      (refl, (refl, refl), refl, refl),
      (
        (refl, (refl, refl), refl, refl),
        (
          (refl, (refl, refl), refl, refl),
          (
            (refl, (refl, refl), refl, refl),
            ((refl, (refl, refl), refl, refl), ((refl, (refl, refl), refl, refl), ((refl, (refl, refl), refl, refl), tt))),
          ),
        ),
      ),
    ),
  ),
)

-- T-05: one problem with symbols of both widths, some with the same low half. That the list is right for all such problems is no example:
-- it is the theorems of `Solutions`, which speak of no width
pub widths_hold : HoldsInBytes widths
unfolding accepts texts reads
widths_hold = (refl, (refl, refl), refl, refl)

-- T-09: (P(P), a) is accepted, and fits nothing. That all such problems fit nothing is `fits_nothing`
pub both_ways_hold : HoldsInBytes both_ways_example
unfolding accepts texts reads
both_ways_hold = (refl, (refl, refl), refl, refl)

pub further_hold : All Holds further
unfolding texts
further_hold = (
  (refl, refl),
  (
    (refl, refl),
    (
      (refl, refl),
      ((refl, refl), ((refl, refl), ((refl, refl), ((refl, refl), ((refl, refl), ((refl, refl), ((refl, refl), tt))))))),
    ),
  ),
)

-- The one filling that a row can be the solution row of, and the full list. The test of a row is yes exactly for a solution row
-- (`solves_is_right`); its filling is then the row's only solution (`row_solution_unique`); and the list holds every solution with its row,
-- once and nothing else (`listed_solution`, `solution_listed`, `listed_once`): so nobody has to believe how they are made.
--   candidate   a row's bodies, with the values from where document 01 copies them
--   solves      whether it is a solution
--   full_list    "its solution rows in row order, each with its one solution"
use Rattle.std.specs.Prelude.{Bool, true, ◌&&◌, not, List, map}
use Rattle.std.proofs.Math.Option.{Option, none, some}
use Rattle.meaning.specs.Basics.{choose, every, keep}
use Rattle.meaning.specs.Term.{Term, one}
use Rattle.meaning.specs.Problem.{Problem, both_ways, expressions, is_function, is_plain, metavariables, patterns}
use Rattle.meaning.specs.Filling.{Entry, Filling, absent, body, filled, left_open, value}
use Rattle.meaning.specs.Row.{Row, row_body}
use Rattle.meaning.specs.Value.{Source, lookup, sources}
use Rattle.meaning.specs.Same.{same_terms}
use Rattle.meaning.specs.ClosedTest.{is_closed}
use Rattle.meaning.specs.Rows.{rows}

abbrev pub given : Option Source → Entry Term
given none = left_open
given (some x) = value x.term

unfoldable pub candidate : Problem → Row → Filling
candidate p r m = choose (is_function p m) (body (row_body p r m)) (choose (is_plain p m) (given (lookup m (sources p r))) absent)

-- "Values and bodies have no variable bound outside themselves"
abbrev pub is_closed_entry : Entry Term → Bool
is_closed_entry absent = true
is_closed_entry left_open = true
is_closed_entry (value t) = is_closed 0 (one t)
is_closed_entry (body b) = is_closed 0 (one b)

unfoldable pub solves : Problem → Row → Bool
solves p r =
    not (both_ways p)
    && (same_terms (filled (candidate p r) (patterns p)) (expressions p) && every (λ m. is_closed_entry (candidate p r m)) (metavariables p))

unfoldable pub solution_rows : Problem → List Row
solution_rows p = keep (solves p) (rows p)

unfoldable pub full_list : Problem → List (Row × Filling)
full_list p = map (λ r. (r, candidate p r)) (solution_rows p)

-- Rows by the functions of a problem, as the code holds them: the definitions of Rows, asked of their nodes and their first faces.
--   tokens_in    the tokens of the nodes, and numbers_in their numbers
use Rattle.std.specs.Prelude.{List, ℕ}
use Rattle.choosing.specs.Rows.{MaskRow, first_at}
use Rattle.rows.specs.Rows.{choices_of, rows_of}
use Rattle.rows.specs.declared.functions.Functions.{Functions}

abbrev pub tokens_in : Functions → List ℕ
tokens_in f = f.nodes.tokens.now

abbrev pub numbers_in : Functions → List ℕ
numbers_in f = f.nodes.numbers.now

-- The choices of function k, and the first of them
abbrev pub choices_in : Functions → ℕ → List ℕ
choices_in f k = choices_of (tokens_in f) (numbers_in f) f.firsts k

abbrev pub first_in : Functions → ℕ → ℕ
first_in f k = first_at (numbers_in f) (tokens_in f) f.firsts.nodes f.firsts.count k

-- All rows, in order
abbrev pub rows_in : Functions → List MaskRow
rows_in f = rows_of (tokens_in f) (numbers_in f) f.firsts

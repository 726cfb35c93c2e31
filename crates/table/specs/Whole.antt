-- What reading a problem promises.
--   table_room    the entries of a table that has room for every problem
--   ..from        the meaning of the code's answer
--   ..answer      what document 01 reads, as counts of it
--   ..row         the tokens of one term of a constraint
--   ..Done        the code's answer, and the fronts of the two tables
use Rattle.std.specs.Prelude.{◌≡◌, ℕ, ◌+◌, ◌≤◌, List, [], length, take, drop, Result, Ok, Err, IfOk}
use Rattle.meaning.specs.Basics.{Bytes}
use Rattle.meaning.specs.Term.{one}
use Rattle.meaning.specs.Problem.{Constraint, Problem}
use Rattle.meaning.specs.Read.{Answer, refused, got, after, Parts, constraint_head}
use Rattle.tokens.specs.Token.{tokens, pattern_tokens, expression_tokens}
use Rattle.refusal.specs.Number.{number}
use Rattle.refusal.specs.declared.Refusal.{Refusal}
use Rattle.fields.specs.Heads.{answer_from}
use Rattle.terms.specs.Reading.{Space, Written}
use Rattle.table.specs.declared.problem.Pair.{Pair}
use Rattle.table.specs.declared.answer.Read.{Read}

-- 4,096 bytes have at most 1,365 nodes
abbrev pub table_room : ℕ
table_room = 1366

-- A constraint's head
abbrev pub top_from : Bytes → Result ℕ Refusal → Answer Parts
top_from s (Ok n) = got (record { tag = 7; content = take n (drop 3 s); later = drop (3 + n) s })
top_from s (Err r) = refused (number r)

pub record TopFits (left bytes n : ℕ) : Type 0 where
  pub within : 3 + n ≤ bytes
  pub due : 1 ≤ left

pub record TopDone (left : ℕ) (s : Bytes) (r : Result ℕ Refusal) : Type 0 where
  pub says : top_from s r ≡ constraint_head left s
  pub fits : IfOk r (TopFits left (length s))

-- Room in the two tables of a problem
pub record Spaces (bytes patterns expressions : ℕ) : Type 0 where
  pub pattern : Space bytes patterns
  pub expression : Space bytes expressions

-- A constraint's two terms, each in its table
abbrev pub pattern_row : Constraint → List ℕ
pattern_row c = tokens [] (one c.pattern)

abbrev pub expression_row : Constraint → List ℕ
expression_row c = tokens [] (one c.expression)

abbrev pub pair_answer : Answer Constraint → Answer Pair
pair_answer a = after a (λ c. got (record { pattern = length (pattern_row c); expression = length (expression_row c) }))

pub record PairDone (a : Answer Constraint) (patterns patterns' expressions expressions' : List ℕ) (r : Result Pair Refusal) : Type 0 where
  pub answer : answer_from r ≡ pair_answer a
  pub pattern_table : Written pattern_row a patterns patterns'
  pub expression_table : Written expression_row a expressions expressions'

-- Constraints
abbrev pub problem_answer : Answer Problem → Answer Read
problem_answer a =
    after a (λ p. got (record {
      patterns = length (pattern_tokens p);
      expressions = length (expression_tokens p);
      constraints = length p;
    }))

pub record ProblemDone (a : Answer Problem) (patterns patterns' expressions expressions' : List ℕ) (r : Result Read Refusal) : Type 0 where
  pub answer : answer_from r ≡ problem_answer a
  pub pattern_table : Written pattern_tokens a patterns patterns'
  pub expression_table : Written expression_tokens a expressions expressions'

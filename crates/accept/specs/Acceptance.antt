-- What reading and checking promises: `meaning`'s acceptance, and of an accepted problem its tables, metavariables and faces.
--   Passed       the tables of a problem passed the checks, and what is known of them
--   FacesFound   its faces are those that are recorded
--   FacesAt      its faces are recorded at the front of a table, so many; or it has no rows
--   Kept         the same of the problem: it stands at the fronts of the two tables, and its faces are recorded
--   Accepts      the answer for any bytes
--   Stands       the problem as it is lent
--   AcceptsLent  the answer for any bytes, as it is lent
use Rattle.std.specs.Prelude.{◌≡◌, ℕ, ◌≤◌, List, ◌++◌, length, take, drop, Result, Ok, Err, Some, None, MatchOption}
use Rattle.std.specs.Prelude as std
use Rattle.std.proofs.Math.Option.{none, some}
use Rattle.meaning.specs.Problem.{Problem}
use Rattle.meaning.specs.Face.{Face, faces}
use Rattle.meaning.specs.Read.{Answer, refused, got}
use Rattle.meaning.specs.Readable.{Accepted}
use Rattle.tokens.specs.Token.{pattern_tokens, expression_tokens}
use Rattle.metavariables.specs.Survey.{Surveyed}
use Rattle.faces.specs.Recorded.{Recorded}
use Rattle.faces.specs.Check.{CheckedBy}
use Rattle.table.specs.Whole.{table_room}
use Rattle.accept.specs.declared.Standing.{Standing}
use Rattle.accept.specs.declared.Filled.{Filled}
use Rattle.refusal.specs.Number.{number}
use Rattle.refusal.specs.declared.Refusal.{Refusal}

pub record Passed (ps es old new : List ℕ) (a : Filled) : Type 0 where
  pub patterns : a.patterns ≡ length ps
  pub expressions : a.expressions ≡ length es
  pub survey : Surveyed ps a.occurring
  pub check : CheckedBy ps es old new (Ok a.faces)

abbrev pub Checks : List ℕ → List ℕ → List ℕ → List ℕ → Result Filled Refusal → Type 0
Checks ps es old new (Err r) = CheckedBy ps es old new (Err r)
Checks ps es old new (Ok a) = Passed ps es old new a

-- Room for every problem
pub record Rooms (ps es fs : List ℕ) : Type 0 where
  pub patterns : table_room ≤ length ps
  pub expressions : table_room ≤ length es
  pub faces : table_room ≤ length fs

pub record FacesFound (p : Problem) (fs : List ℕ) : Type 0 where
  pub found : List Face
  pub agree : faces p ≡ some found
  pub recorded : Recorded p fs found

abbrev pub FacesAt : Problem → List ℕ → std.Option ℕ → Type 0
FacesAt p fs None = faces p ≡ none
FacesAt p fs (Some n) = (n ≤ length fs) × (f : FacesFound p (take n fs)) × (length f.found ≡ n)

-- The tables hold the problem, with no entry after its tokens changed, and its faces are recorded
pub record Kept (p : Problem) (ps ps' es es' fs' : List ℕ) (a : Filled) : Type 0 where
  pub accepted : Accepted p
  pub patterns : a.patterns ≡ length (pattern_tokens p)
  pub expressions : a.expressions ≡ length (expression_tokens p)
  pub pattern_table : ps' ≡ pattern_tokens p ++ drop a.patterns ps
  pub expression_table : es' ≡ expression_tokens p ++ drop a.expressions es
  pub survey : Surveyed (pattern_tokens p) a.occurring
  pub faces : FacesAt p fs' a.faces

-- A refusal is document 01's, with its number; any other answer is of the problem that document 01 accepts
unfoldable pub Accepts : Answer Problem → List ℕ → List ℕ → List ℕ → List ℕ → List ℕ → Result Filled Refusal → Type 0
Accepts x ps ps' es es' fs' (Err r) = x ≡ refused (number r)
Accepts x ps ps' es es' fs' (Ok a) = (p : Problem) × (x ≡ got p) × Kept p ps ps' es es' fs' a

-- The problem and its faces, in slices
pub record Stands (p : Problem) (a : Standing) : Type 0 where
  pub accepted : Accepted p
  pub patterns : a.patterns.now ≡ pattern_tokens p
  pub expressions : a.expressions.now ≡ expression_tokens p
  pub survey : Surveyed (pattern_tokens p) a.occurring
  pub faces : MatchOption a.faces (faces p ≡ none) (λ fs. FacesFound p fs.now)

-- The same of the answer that is lent
unfoldable pub AcceptsLent : Answer Problem → Result Standing Refusal → Type 0
AcceptsLent x (Err r) = x ≡ refused (number r)
AcceptsLent x (Ok a) = (p : Problem) × (x ≡ got p) × Stands p a

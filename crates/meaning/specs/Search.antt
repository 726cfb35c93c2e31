-- Places, and the promise of one search call over the rows from its place on.
--   Place   "A place is a row, or past the last"
--   Reply   what a call answers; R is how a row is held, P how a place is
--   Keeps   what a call on the rows from its place on may answer
--   From    the rows from a place on
use Rattle.std.specs.Prelude.{◌≡◌, ℕ, ◌<◌, ◌≤◌, List, [], ◌∷◌, ◌++◌, length}
use Rattle.meaning.specs.Basics.{All}
use Rattle.meaning.specs.Problem.{Problem}
use Rattle.meaning.specs.Row.{Row}
use Rattle.meaning.specs.Rows.{rows}

-- Over any list of rows, R what a row is
pub data Place (R : Type 0) : Type 0 where
  at : R → Place R
  past : Place R

-- The place that a list of rows is searched from: its first row, or past the last
abbrev pub place_of : {R : Type 0} → List R → Place R
place_of [] = past
place_of (r ∷ rs) = at r

-- "The start is the first row, or past the last if there is none."
abbrev pub start : Problem → Place Row
start p = place_of (rows p)

pub data Reply (R P : Type 0) : Type 0 where
  -- "the first solution row at or after the place, and the place after it"
  found : R → P → Reply R P
  -- "none there; the place is past the last"
  end : P → Reply R P
  -- "a later row as place"
  paused : P → Reply R P
  refused_call : ℕ → Reply R P

-- The answers to a call that has the rows `from` its place on and an allowance n
pub data Keeps {R : Type 0} (IsSolution : R → Type 0) (n : ℕ) : List R → Reply R (Place R) → Type 0 where
  -- no solution row is skipped, and fewer than n rows are; else the call "must pause"
  finds : (skipped : List R) (r : R) (later : List R)
      → All (λ x. IsSolution x → ⊥) skipped
      → IsSolution r
      → length skipped < n
      → Keeps IsSolution n (skipped ++ (r ∷ later)) (found r (place_of later))
  -- no solution row is left, and no row follows n of them
  ends : (from : List R) → All (λ x. IsSolution x → ⊥) from → length from ≤ n → Keeps IsSolution n from (end past)
  -- "with at least n rows passed and no solution row among them"
  pauses : (passed : List R) (r : R) (later : List R)
      → All (λ x. IsSolution x → ⊥) passed
      → n ≤ length passed
      → Keeps IsSolution n (passed ++ (r ∷ later)) (paused (at r))

-- The rows from a place on
pub record From {R : Type 0} (rs : List R) (place : Place R) (from : List R) : Type 0 where
  pub before : List R
  pub whole : rs ≡ before ++ from
  pub begins : place ≡ place_of from

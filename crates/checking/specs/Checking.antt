-- What the checker promises. Each part is said for whatever problem the tables hold and whatever items the text has.
--   Told        an accepted problem, and what a text says of its metavariables
--   ..Judged    the part of the decision that looks at fields alone
--   Met         no letter is used both ways, and each filled pattern equals its expression
--   Passed      the whole decision
use Rattle.std.specs.Prelude.{◌≡◌, ℕ, ◌≤◌, Bool, true, false, ◌&&◌, not, List, length, Result, Ok, Err}
use Rattle.meaning.specs.Basics.{Bytes}
use Rattle.meaning.specs.Problem.{Problem, both_ways}
use Rattle.meaning.specs.Read.{Answer, got, refused}
use Rattle.meaning.specs.Text.{Item, said}
use Rattle.meaning.specs.Passing.{kinds, known, meets, open_unneeded, passes, unneeded_open}
use Rattle.meaning.specs.Entry.{check_on}
use Rattle.refusal.specs.Number.{number}
use Rattle.refusal.specs.declared.Refusal.{Refusal}
use Rattle.accept.specs.Acceptance.{Stands}
use Rattle.accept.specs.declared.Standing.{Standing}
use Rattle.said.specs.Said.{SaidBy}
use Rattle.said.specs.declared.Said.{Said}
use Rattle.checking.specs.declared.Verdict.{Verdict}
use Rattle.checking.specs.declared.Verdict.TheVariants.{Yes, No}

pub record Told (p : Problem) (is : List Item) (a : Standing) (ts : List ℕ) (s : Said) : Type 0 where
  pub stands : Stands p a
  pub says : SaidBy ts is s

abbrev pub SomeTold : Standing → List ℕ → Said → Type 0
SomeTold a ts s = (p : Problem) × (is : List Item) × Told p is a ts s

-- "open just where no value is needed"
pub record OpenJudged (a : Standing) (ts : List ℕ) (s : Said) (r : Bool) : Type 0 where
  pub judged : (p : Problem) (is : List Item) → Told p is a ts s → r ≡ open_unneeded p (said is) && unneeded_open p (said is)

-- "A wrong, missing .. metavariable is a no"
abbrev pub fields_pass : Problem → List Item → Bool
fields_pass p is = known p is && (kinds p (said is) && (open_unneeded p (said is) && unneeded_open p (said is)))

pub record FieldsJudged (a : Standing) (ts : List ℕ) (s : Said) (r : Bool) : Type 0 where
  pub judged : (p : Problem) (is : List Item) → Told p is a ts s → r ≡ fields_pass p is

-- Room for the faces of a body, and of an argument
pub record Decidable (a : Standing) (ts : List ℕ) (s : Said) (holes scratch : List ℕ) : Type 0 where
  pub told : SomeTold a ts s
  pub body_room : length ts ≤ length holes
  pub argument_room : length a.patterns.now ≤ length scratch

-- "each filled pattern equals its expression"; T-09, of a letter used both ways: "the checker says no to every well-formed text"
abbrev pub constraints_pass : Problem → List Item → Bool
constraints_pass p is = not (both_ways p) && meets p (said is)

pub record Met (a : Standing) (ts : List ℕ) (s : Said) (r : Bool) : Type 0 where
  pub judged : (p : Problem) (is : List Item) → Told p is a ts s → r ≡ constraints_pass p is

pub record Passed (a : Standing) (ts : List ℕ) (s : Said) (r : Bool) : Type 0 where
  pub judged : (p : Problem) (is : List Item) → Told p is a ts s → r ≡ passes p is

abbrev pub is_yes : Verdict → Bool
is_yes Yes = true
is_yes No = false

-- Document 01's answer
abbrev pub answer_of : Result Verdict Refusal → Answer Bool
answer_of (Ok v) = got (is_yes v)
answer_of (Err r) = refused (number r)

-- A problem is accepted
abbrev pub Ground : Standing → Type 0
Ground a = (p : Problem) × Stands p a

pub record CheckedText (a : Standing) (text : Bytes) (r : Result Verdict Refusal) : Type 0 where
  pub answer : (p : Problem) → Stands p a → answer_of r ≡ check_on p text

-- What the test is told: the tables and the recorded faces are those of an accepted problem whose shapes agree, and what is said is what
-- some text says, whose terms stand in the table of the text.
use Rattle.std.specs.Prelude.{◌≡◌, ℕ, ◌≤◌, List, length}
use Rattle.std.proofs.Math.Option.{some}
use Rattle.meaning.specs.Problem.{Problem}
use Rattle.meaning.specs.Face.{Face, walk_of}
use Rattle.meaning.specs.Text.{Item}
use Rattle.meaning.specs.Readable.{Accepted}
use Rattle.tokens.specs.Token.{pattern_tokens, expression_tokens}
use Rattle.faces.specs.Recorded.{Recorded}
use Rattle.said.specs.Said.{SaidBy}
use Rattle.said.specs.declared.Said.{Said}

pub record Grounded (ps es faces ts : List ℕ) (s : Said) (holes scratch : List ℕ) : Type 0 where
  pub problem : Problem
  pub accepted : Accepted problem
  pub patterns : ps ≡ pattern_tokens problem
  pub expressions : es ≡ expression_tokens problem
  pub found : List Face
  pub agree : walk_of problem ≡ some found
  pub recorded : Recorded problem faces found
  pub items : List Item
  pub says : SaidBy ts items s
  -- room for the faces of a body, and of an argument
  pub body_room : length ts ≤ length holes
  pub argument_room : length ps ≤ length scratch

-- What the test of a row is told.
--   Laid    these tables, recorded faces, functions and first faces are those of an accepted problem that has rows, and what is asked of
--           the nodes of its expressions, by the tests q, is told as their table says it
--   RowOf   these masks are those of one of its rows
use Rattle.std.specs.Prelude.{◌≡◌, ℕ, List}
use Rattle.std.proofs.Math.Option.{some}
use Rattle.meaning.specs.Limits.{metavariable_count}
use Rattle.meaning.specs.Basics.{keep, up_to, ◌∈◌}
use Rattle.meaning.specs.Problem.{Problem}
use Rattle.meaning.specs.Problem as problem
use Rattle.meaning.specs.Face.{Face}
use Rattle.meaning.specs.Face as face
use Rattle.meaning.specs.Row.{Row}
use Rattle.meaning.specs.Rows.{rows}
use Rattle.meaning.specs.Readable.{Accepted}
use Rattle.meaning.specs.PlaceValue.{masks_of}
use Rattle.tokens.specs.Token.{pattern_tokens, expression_tokens}
use Rattle.numbers.specs.Tests.{Tests, Tells}
use Rattle.metavariables.specs.Survey.{has}
use Rattle.faces.specs.Recorded.{Recorded}
use Rattle.faces.specs.First.{listed, FirstsFit}
use Rattle.faces.specs.Verdict.{FirstsAt}
use Rattle.faces.specs.declared.first.Firsts.{Firsts}

pub record Laid (p : Problem) (q : Tests) (ps es faces : List ℕ) (functions : ℕ) (firsts : Firsts) : Type 0 where
  pub accepted : Accepted p
  pub patterns : ps ≡ pattern_tokens p
  pub expressions : es ≡ expression_tokens p
  pub tells : Tells es q
  pub found : List Face
  pub agree : face.faces p ≡ some found
  pub recorded : Recorded p faces found
  pub set : keep (has functions) (up_to metavariable_count) ≡ problem.functions p
  pub fits : FirstsFit firsts
  pub nodes : FirstsAt p found (problem.functions p) (listed firsts)

pub record RowOf (p : Problem) (row : List ℕ) : Type 0 where
  pub choices : Row
  pub is_row : choices ∈ rows p
  pub masks : row ≡ masks_of choices

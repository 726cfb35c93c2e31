-- Rows: one choice for each function.
--   Row          "one choice for each function, by ascending metavariable number"
--   IsRow        a row of a problem, in document 01's words
--   EarlierRow   "rows are ordered by the first function that differs"
--   AreRows      a list of all rows, in that order; `rows` computes it (`all_rows_lem`, `rows_determined`)
--   SolutionRow  "a solution row if some solution has these bodies"
use Rattle.std.specs.Prelude.{◌≡◌, ◌↔◌, ℕ, true, List, [], ◌∷◌, eqb}
use Rattle.std.proofs.Math.Option.{Option, none, some}
use Rattle.meaning.specs.Basics.{Ordered, choose, is_some, or_none, ◌∈◌}
use Rattle.meaning.specs.Term.{Term, function, nil, slot}
use Rattle.meaning.specs.Problem.{Problem, functions, places_of}
use Rattle.meaning.specs.Filling.{Filling, body}
use Rattle.meaning.specs.Solution.{Solution}
use Rattle.meaning.specs.Face.{Face, faces, first_face}
use Rattle.meaning.specs.Choice.{Choice, Earlier, Marks, punch_term}

abbrev pub Row : Type 0
Row = List Marks

-- The subexpression that a function faces first, among the faces of the problem; a function that faces none stands for itself
abbrev pub face_term : Option Face → ℕ → Term
face_term none f = (slot (function f 0), nil)
face_term (some x) f = x.term

abbrev pub face_of : Problem → ℕ → Term
face_of p f = face_term (first_face f (or_none (faces p))) f

-- "A row is one choice for each function, by ascending metavariable number"
abbrev pub ChoiceEach : Problem → List ℕ → Row → Type 0
ChoiceEach p [] [] = Unit {0}
ChoiceEach p [] (c ∷ r) = ⊥
ChoiceEach p (f ∷ fs) [] = ⊥
ChoiceEach p (f ∷ fs) (c ∷ r) = Choice (places_of p f) (face_of p f) c × ChoiceEach p fs r

-- "If they disagree anywhere, the problem has no rows"; T-09, of a letter used both ways: "no solutions .. and so no rows"
pub record IsRow (p : Problem) (r : Row) : Type 0 where
  pub has_rows : is_some (faces p) ≡ true
  pub choice : ChoiceEach p (functions p) r

-- The order of rows
pub data EarlierRow : Row → Row → Type 0 where
  first : {c c' : Marks} {r r' : Row} → Earlier c c' → EarlierRow (c ∷ r) (c' ∷ r')
  next : {c : Marks} {r r' : Row} → EarlierRow r r' → EarlierRow (c ∷ r) (c ∷ r')

pub record AreRows (p : Problem) (rs : List Row) : Type 0 where
  pub ordered : Ordered EarlierRow rs
  pub members : (r : Row) → (r ∈ rs) ↔ IsRow p r

-- The choice of function f in a row, by the list of the functions
abbrev pub choice_in : List ℕ → Row → ℕ → Marks
choice_in [] r f = []
choice_in (g ∷ gs) [] f = []
choice_in (g ∷ gs) (c ∷ r) f = choose (eqb f g) c (choice_in gs r f)

-- The body of function f in a row
unfoldable pub row_body : Problem → Row → ℕ → Term
row_body p r f = punch_term (choice_in (functions p) r f) (face_of p f)

abbrev pub HasBodies : Problem → Row → Filling → Type 0
HasBodies p r σ = (f : ℕ) → f ∈ functions p → σ f ≡ body (row_body p r f)

abbrev pub SolutionRow : Problem → Row → Type 0
SolutionRow p r = (σ : Filling) × Solution p σ × HasBodies p r σ

-- Rows that fit: each function's choice by itself, and all of them together.
--   Suits          some arguments make a body what is faced; SuitsWalked is the same by a walk
--   FitsAlone      a choice's body suits all applications of its function, and is closed
--   FitsTogether   each function's choice fits alone, and the demands at the lowest holes agree
use Rattle.std.specs.Prelude.{◌≡◌, ℕ, List, map}
use Rattle.std.proofs.Math.Option.{some}
use Rattle.meaning.specs.Basics.{keep, ◌∈◌, or_none}
use Rattle.meaning.specs.Term.{one, hole, Term}
use Rattle.meaning.specs.Problem.{Problem, functions}
use Rattle.meaning.specs.Shift.{ClosedTerm}
use Rattle.meaning.specs.Filling.{plug}
use Rattle.meaning.specs.Face.{Face, walk, faces, is_application}
use Rattle.meaning.specs.Choice.{Marks, punch_term}
use Rattle.meaning.specs.Row.{Row, face_of, choice_in}
use Rattle.meaning.specs.Value.{Source, lowest_hole}
use Rattle.demands.specs.Demand.{lowered, lowest_demands}
use Rattle.demands.specs.Agreeing.{Agreeing}

-- "Filling m(t) puts the filled t in each hole of m's body": all holes of a place hold one argument
abbrev pub Suits : Term → Term → Type 0
Suits b e = (arguments : ℕ → Term) × (plug arguments b ≡ e)

-- The same by the walk of the two, which gives e's first node the number n
pub record SuitsWalked (n : ℕ) (b e : Term) : Type 0 where
  pub holes : List Face
  pub found : walk 0 n (one b) (one e) ≡ some holes
  -- each hole of a place holds what the lowest of the place does
  pub same : (i : ℕ) (h l : Face) → h ∈ holes → h.what ≡ hole i → lowest_hole i holes ≡ some l
      → (t : Term) × (lowered h ≡ some t) × (lowered l ≡ some t)

-- The applications of function f among the faces of a problem, and what they face
abbrev pub applications_of : ℕ → List Face → List Face
applications_of f xs = keep (λ x. is_application f x.what) xs

abbrev pub faced_by : Problem → ℕ → List Term
faced_by p f = map (λ (x : Face). x.term) (applications_of f (or_none (faces p)))

-- Of a function with this face, whose applications face the terms es
pub record FitsAlone (face : Term) (es : List Term) (ms : Marks) : Type 0 where
  pub suits : (e : Term) → e ∈ es → Suits (punch_term ms face) e
  pub closed : ClosedTerm (punch_term ms face)

pub record FitsTogether (p : Problem) (r : Row) : Type 0 where
  pub alone : (f : ℕ) → f ∈ functions p → FitsAlone (face_of p f) (faced_by p f) (choice_in (functions p) r f)
  pub list : List Source
  pub demanded : lowest_demands p r ≡ some list
  pub agreeing : Agreeing list

-- What is at hand once a problem is prepared.
--   FrontsLaid    an accepted problem stands at the fronts of the tables that were lent: its patterns, its expressions, its faces
--   FrontsTabled  the nodes of its expressions are numbered, and those of its functions' faces are looked up
--   FrontsReady   a problem is accepted and prepared
--   Prepares      the answer for any bytes
--   Laid          the tables are those of an accepted problem: its patterns, its expressions, its faces
--   FacesLaid     its faces, where it has rows
--   Tabled        the nodes of its expressions are numbered, and those of its functions' faces are looked up
--   Ready         a problem is accepted and prepared
--   PreparesLent  the answer for any bytes, as it is lent
--   Ground        what is known of a problem before its nodes are numbered, and Tabling, after it
--   SomeFronts    what is known of a problem before its tables are lent, and Made, after it
use Rattle.std.specs.Prelude.{◌≡◌, ℕ, ◌≤◌, List, [], length, take, Option, Some, None, Result, Ok, Err}
use Rattle.std.proofs.Math.Option.{none}
use Rattle.meaning.specs.Problem.{Problem}
use Rattle.meaning.specs.Face.{faces}
use Rattle.meaning.specs.Read.{Answer, refused, got}
use Rattle.meaning.specs.Readable.{Accepted}
use Rattle.tokens.specs.Token.{pattern_tokens, expression_tokens}
use Rattle.numbers.specs.Numbering.{Numbered}
use Rattle.numbers.specs.declared.ask.Nodes.{Nodes}
use Rattle.metavariables.specs.Survey.{Surveyed}
use Rattle.faces.specs.First.{FirstsFit, Listed}
use Rattle.faces.specs.declared.first.Firsts.{Firsts}
use Rattle.rows.specs.declared.functions.Functions.{Functions}
use Rattle.accept.specs.Acceptance.{FacesFound, FacesAt}
use Rattle.accept.specs.declared.Filled.{Filled}
use Rattle.refusal.specs.Number.{number}
use Rattle.refusal.specs.declared.Refusal.{Refusal}
use Rattle.prepare.specs.declared.Fronts.{Fronts}
use Rattle.prepare.specs.declared.Prepared.{Prepared}

-- No function has a face
pub record NoFaces (r : Firsts) : Type 0 where
  pub fits : FirstsFit r
  pub none : r.count ≡ 0

-- The nodes of the functions' faces, by ascending number, where n faces are recorded
abbrev pub NodesOf : Option ℕ → List ℕ → List ℕ → ℕ → Firsts → Type 0
NodesOf None ps fs functions r = NoFaces r
NodesOf (Some n) ps fs functions r = Listed ps (take n fs) functions r

-- The problem p stands at the fronts of the tables
pub record FrontsLaid (p : Problem) (ps es fs : List ℕ) (a : Filled) : Type 0 where
  pub accepted : Accepted p
  pub patterns : take a.patterns ps ≡ pattern_tokens p
  pub patterns_inside : a.patterns ≤ length ps
  pub expressions : take a.expressions es ≡ expression_tokens p
  pub expressions_inside : a.expressions ≤ length es
  pub survey : Surveyed (pattern_tokens p) a.occurring
  pub faces : FacesAt p fs a.faces

-- Some problem does
abbrev pub Ground : List ℕ → List ℕ → List ℕ → Filled → Type 0
Ground ps es fs a = (p : Problem) × FrontsLaid p ps es fs a

-- The numbers of the expressions' nodes; the nodes of the functions' faces
pub record FrontsTabled (ps es ns fs : List ℕ) (a : Fronts) : Type 0 where
  pub numbers : Numbered (take a.filled.expressions es) (take a.filled.expressions ns)
  pub numbers_inside : a.filled.expressions ≤ length ns
  pub nodes : NodesOf a.filled.faces (take a.filled.patterns ps) fs a.filled.occurring.functions a.firsts

pub record Tabling (ps es ns fs : List ℕ) (a : Filled) (r : Fronts) : Type 0 where
  pub filled : r.filled ≡ a
  pub tabled : FrontsTabled ps es ns fs r

-- What a caller has of an accepted problem
pub record FrontsReady (x : Answer Problem) (ps es ns fs : List ℕ) (a : Fronts) : Type 0 where
  pub problem : Problem
  pub answer : x ≡ got problem
  pub laid : FrontsLaid problem ps es fs a.filled
  pub tabled : FrontsTabled ps es ns fs a

-- A refusal is document 01's, with its number; any other answer is of the problem that document 01 accepts
unfoldable pub Prepares : Answer Problem → List ℕ → List ℕ → List ℕ → List ℕ → Result Fronts Refusal → Type 0
Prepares x ps es ns fs (Err r) = x ≡ refused (number r)
Prepares x ps es ns fs (Ok a) = FrontsReady x ps es ns fs a

-- No rows: a letter is used both ways, or a shape disagrees; then no face is lent
pub record NoRows (p : Problem) (fs : List ℕ) (firsts : Firsts) : Type 0 where
  pub disagree : faces p ≡ none
  pub recorded : fs ≡ []
  pub nodes : NoFaces firsts

abbrev pub FacesLaid : Problem → Prepared → Option Functions → Type 0
FacesLaid p r None = NoRows p r.tables.faces.now r.tables.firsts
FacesLaid p r (Some f) = FacesFound p r.tables.faces.now

-- The tables are those of the problem p
pub record Laid (p : Problem) (r : Prepared) : Type 0 where
  pub accepted : Accepted p
  pub patterns : r.tables.patterns.now ≡ pattern_tokens p
  pub expressions : r.tables.nodes.tokens.now ≡ expression_tokens p
  pub survey : Surveyed (pattern_tokens p) r.occurring
  pub functions : r.tables.functions ≡ r.occurring.functions
  pub faces : FacesLaid p r r.functions

-- The nodes of the functions' faces, by ascending number
pub record FunctionsOf (r : Prepared) (f : Functions) : Type 0 where
  pub nodes : f.nodes ≡ r.tables.nodes
  pub firsts : f.firsts ≡ r.tables.firsts
  pub listed : Listed r.tables.patterns.now r.tables.faces.now r.occurring.functions f.firsts

-- The numbers of the expressions' nodes; and where there are rows the functions
pub record Tabled (r : Prepared) : Type 0 where
  pub numbers : Numbered r.tables.nodes.tokens.now r.tables.nodes.numbers.now
  pub functions : (f : Functions) → r.functions ≡ Some f → FunctionsOf r f

-- What a caller has of an accepted problem as it is lent
pub record Ready (x : Answer Problem) (r : Prepared) : Type 0 where
  pub problem : Problem
  pub answer : x ≡ got problem
  pub laid : Laid problem r
  pub tabled : Tabled r

-- The same of the answer that is lent
unfoldable pub PreparesLent : Answer Problem → Result Prepared Refusal → Type 0
PreparesLent x (Err r) = x ≡ refused (number r)
PreparesLent x (Ok r) = Ready x r

-- Some problem is prepared in tables whose fronts are these
pub record SomeFronts (ps : List ℕ) (nodes : Nodes) (fs : List ℕ) (a : Fronts) : Type 0 where
  pub x : Answer Problem
  pub es : List ℕ
  pub ns : List ℕ
  pub ready : FrontsReady x ps es ns fs a
  pub tokens : nodes.tokens.now ≡ take a.filled.expressions es
  pub numbers : nodes.numbers.now ≡ take a.filled.expressions ns

-- Its faces and its functions are lent where n faces are recorded
abbrev pub FacesMade : List ℕ → Nodes → Fronts → Prepared → Option Functions → Type 0
FacesMade fs nodes a r None = (a.filled.faces ≡ None) × (r.tables.faces.now ≡ [])
FacesMade fs nodes a r (Some f) =
    (n : ℕ) × (a.filled.faces ≡ Some n) × (r.tables.faces.now ≡ take n fs) × (f.nodes ≡ nodes) × (f.firsts ≡ a.firsts)

pub record Made (ps : List ℕ) (nodes : Nodes) (fs : List ℕ) (a : Fronts) (r : Prepared) : Type 0 where
  pub patterns : r.tables.patterns.now ≡ take a.filled.patterns ps
  pub lent : r.tables.nodes ≡ nodes
  pub functions : r.tables.functions ≡ a.filled.occurring.functions
  pub firsts : r.tables.firsts ≡ a.firsts
  pub occurring : r.occurring ≡ a.filled.occurring
  pub faces : FacesMade fs nodes a r r.functions

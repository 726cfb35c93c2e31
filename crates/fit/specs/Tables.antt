-- The test of a row by the tables as the code holds them: the definitions of Judging and Ready, asked of their parts.
--   Room    what is lent has room for the faces of an argument
use Rattle.std.specs.Prelude.{ℕ, ◌≤◌, Bool, List, length}
use Rattle.std.proofs.Math.Option.{Option}
use Rattle.numbers.specs.Tests.{Tests, told}
use Rattle.lockstep.specs.declared.Span.{Span}
use Rattle.faces.specs.First.{listed}
use Rattle.sources.specs.Demand.{Nodes}
use Rattle.sources.specs.Kept.{Kept}
use Rattle.fit.specs.Judging.{bodies_closed, argument_span, argument_kept, application_kept, face_kept, faces_kept, demanded_at, judged_at}
use Rattle.fit.specs.Ready.{Bodies, Walkable, Applicable, Slots, Ready}
use Rattle.fit.specs.declared.tables.Tables.{Tables}

abbrev pub Room : Tables → List ℕ → Type 0
Room t scratch = length t.patterns.now ≤ length scratch

abbrev pub KeptIn : Tables → Nodes → Type 0
KeptIn t kept = Kept t.nodes.numbers.now kept

abbrev pub BodiesIn : Tables → List ℕ → Type 0
BodiesIn t row = Bodies t.nodes.tokens.now t.firsts row

abbrev pub WalkableIn : Tables → ℕ → ℕ → Type 0
WalkableIn t n mask = Walkable t.patterns.now t.nodes.tokens.now t.nodes.numbers.now n mask

abbrev pub ApplicableIn : Tables → ℕ → ℕ → ℕ → Type 0
ApplicableIn t n node mask = Applicable t.patterns.now t.nodes.tokens.now t.nodes.numbers.now n node mask

abbrev pub SlotsIn : Tables → List ℕ → ℕ → Type 0
SlotsIn t row n = Slots t.patterns.now t.nodes.tokens.now t.nodes.numbers.now t.functions t.firsts.nodes row n

abbrev pub ReadyIn : Tables → List ℕ → List ℕ → Type 0
ReadyIn t row scratch =
    Ready t.patterns.now t.nodes.tokens.now t.nodes.numbers.now t.faces.now t.functions t.firsts row scratch

-- What is asked of the nodes, by their numbers
abbrev pub asked : Tables → Tests
asked t = told t.nodes.numbers.now

abbrev pub closed_in : Tables → List ℕ → Bool
closed_in t row = bodies_closed t.nodes.tokens.now (listed t.firsts) row

abbrev pub span_in : Tables → ℕ → ℕ → Span
span_in t n mask = argument_span t.patterns.now t.nodes.tokens.now n mask

abbrev pub argument_in : Tables → ℕ → ℕ → Nodes → Option Nodes
argument_in t n mask kept = argument_kept (asked t) t.patterns.now t.nodes.tokens.now n mask kept

abbrev pub application_in : Tables → ℕ → ℕ → ℕ → Nodes → Option Nodes
application_in t n node mask kept = application_kept (asked t) t.patterns.now t.nodes.tokens.now n node mask kept

abbrev pub face_in : Tables → List ℕ → ℕ → Nodes → Option Nodes
face_in t row n kept = face_kept (asked t) t.patterns.now t.nodes.tokens.now t.functions t.firsts.nodes row n kept

abbrev pub faces_in : Tables → List ℕ → Nodes → Option Nodes
faces_in t row kept = faces_kept (asked t) t.patterns.now t.nodes.tokens.now t.functions t.firsts.nodes row t.faces.now kept

abbrev pub demanded_in : Tables → List ℕ → Option Nodes
demanded_in t row = demanded_at (asked t) t.patterns.now t.nodes.tokens.now t.faces.now t.functions t.firsts row

abbrev pub judged_in : Tables → List ℕ → Option Nodes
judged_in t row = judged_at (asked t) t.patterns.now t.nodes.tokens.now t.faces.now t.functions t.firsts row

-- The nodes of a face that stands in a table, as paths know them: their sizes by the table, their classes by the table's numbers.
--   root       the node at which the face stands; its nodes are those from the root on, as many as the root's token says
--   ns, es     the numbers of the table's nodes (crate `numbers`), and the table
--   class_from  the class of node i of the face: its number; none where it uses a variable bound inside the face above it
use Rattle.std.specs.Prelude.{◌≡◌, List, map, ℕ, ◌+◌, ◌≤◌, ◌<◌, length}
use Rattle.std.proofs.Math.Option.{Option, none, some}
use Rattle.meaning.specs.Limits.{max_face_nodes, max_functions}
use Rattle.meaning.specs.Basics.{choose, up_to}
use Rattle.meaning.specs.Term.{NamedTerm, Term}
use Rattle.meaning.specs.Scope.{nameless_term}
use Rattle.meaning.specs.Read.{Context}
use Rattle.tokens.specs.Token.{depth_in, size_in}
use Rattle.tokens.specs.Key.{at, Held, Stands}
use Rattle.numbers.specs.Tests.{told}
use Rattle.paths.specs.Paths.{Node}

abbrev pub size_from : List ℕ → ℕ → ℕ
size_from es root = size_in (at es root)

unfoldable pub class_from : List ℕ → List ℕ → ℕ → ℕ → Option ℕ
class_from ns es root i = choose ((told ns).uses (root + i) (depth_in (at es root))) none (some (at ns (root + i)))

abbrev pub node_from : List ℕ → List ℕ → ℕ → ℕ → Node
node_from ns es root i = record { size = size_in (at es (root + i)); class = class_from ns es root i }

unfoldable pub nodes_from : List ℕ → List ℕ → ℕ → List Node
nodes_from ns es root = map (node_from ns es root) (up_to (size_from es root))

-- A face that the code can go through: a choice has room for its nodes, and they lie in the table.
pub record Whole (es : List ℕ) (root : ℕ) : Type 0 where
  pub starts : root < length es
  pub fits : size_from es root ≤ max_face_nodes
  pub ends : root + size_from es root ≤ length es

-- The face's tokens stand at the root.
pub record FaceAt (es : List ℕ) (root : ℕ) (face : Term) : Type 0 where
  pub levels : ℕ
  pub ctx : Context
  pub scope : List ℕ
  pub named : NamedTerm
  pub held : Held levels ctx scope named
  pub stands : Stands es root scope named
  pub is : nameless_term scope named ≡ face

-- The nodes of so many faces, one for each function.
pub record Faces (es nodes : List ℕ) (count : ℕ) : Type 0 where
  pub few : count ≤ max_functions
  pub whole : (k : ℕ) → k < count → Whole es (at nodes k)

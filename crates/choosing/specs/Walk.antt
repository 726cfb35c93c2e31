-- Going through the nodes of a face, one after the other, with one place.
--   Walk      where the code stands: the first node that does not lie below a hole, and the class of the holes, if there is a hole
--   state_of   the state of paths that this is, before node i
--   opens_at   whether node i may become a hole there
use Rattle.std.specs.Prelude.{◌≡◌, Bool, true, false, ◌&&◌, List, ◌++◌, map, ℕ, ◌+◌, ◌-◌, ◌≤◌, ◌<◌, length, drop, get_or, leb}
use Rattle.std.specs.Prelude as code
use Rattle.std.proofs.Math.Option.{Option, none, some}
use Rattle.meaning.specs.Limits.{max_face_nodes}
use Rattle.meaning.specs.Basics.{holds, is_some}
use Rattle.meaning.specs.Choice.{Marks}
use Rattle.meaning.specs.PlaceValue.{mask_of}
use Rattle.tokens.specs.Token.{size_in}
use Rattle.tokens.specs.Key as table
use Rattle.masks.specs.Mask.{empty}
use Rattle.masks.specs.Sets.{width, mask, nodes}
use Rattle.masks.specs.declared.NodeSet.{NodeSet}
use Rattle.paths.specs.Paths.{State, first_path, one_place, takes}
use Rattle.choosing.specs.FaceNodes.{class_from, nodes_from}
use Rattle.choosing.specs.declared.Walk.{Walk}

-- What the code's option says, as paths have it
abbrev pub class_in : code.Option ℕ → Option ℕ
class_in (code.Some c) = some c
class_in code.None = none

abbrev pub class_of : Walk → Option ℕ
class_of w = class_in w.class

abbrev pub state_of : Walk → ℕ → State
state_of w i = one_place (w.end - i) (class_of w)

unfoldable pub opens_at : List ℕ → List ℕ → ℕ → Walk → ℕ → Bool
opens_at ns es root w i = leb w.end i && holds (takes (some (class_of w))) (class_from ns es root i)

-- After a hole at node i
pub record HoledAt (ns es : List ℕ) (root i : ℕ) (r : Walk) : Type 0 where
  pub end : r.end ≡ i + size_in (table.at es (root + i))
  pub class : class_of r ≡ some (table.at ns (root + i))

-- The set has just the nodes that are marked, and none past the marks
unfoldable pub Marked : NodeSet → Marks → Type 0
Marked s ms = nodes s ≡ map is_some ms ++ empty (width - length ms)

-- The set of the marks before node i, and from there on the first path
unfoldable pub Filled : List ℕ → List ℕ → ℕ → NodeSet → Walk → ℕ → NodeSet → Type 0
Filled ns es root s w i r =
    (ms : Marks) → length ms ≡ i → Marked s ms → mask r ≡ mask_of max_face_nodes (ms ++ first_path (state_of w i) (drop i (nodes_from ns es root)))

-- The last node of the set, which has one
pub record Last (s : NodeSet) (r : ℕ) : Type 0 where
  pub here : get_or (nodes s) r false ≡ true
  pub none : (k : ℕ) → r < k → get_or (nodes s) k false ≡ false

-- The set has a node, and none from n on
pub record Ending (s : NodeSet) (n : ℕ) : Type 0 where
  pub some : 0 < mask s
  pub none : (k : ℕ) → n ≤ k → get_or (nodes s) k false ≡ false

pub record Begun (r : Walk) : Type 0 where
  pub end : r.end ≡ 0
  pub class : r.class ≡ code.None

-- After node i was left out of a choice, of which these nodes are left
pub record LeftAt (ns : List ℕ) (root : ℕ) (left : NodeSet) (i : ℕ) (r : Walk) : Type 0 where
  pub end : r.end ≡ 0
  pub alone : mask left ≡ 0 → class_of r ≡ none
  pub other : (mask left ≡ 0 → ⊥) → class_of r ≡ some (table.at ns (root + i))

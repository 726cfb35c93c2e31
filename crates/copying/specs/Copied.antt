-- Terms copied out of the table of expressions: "Bodies and values are copied from the problem with its bound names".
--   punch_from    a forest whose first node has the number i, with the nodes that pass a test as holes
--   copied_from   the bytes of such a forest with the marked nodes of a mask as holes
--   copied       the bytes of a term whose own node has the number 0
--   TermIn       an expression stands in the table at a node, in whatever scope
--   Spans        expressions stand in the table from a node up to another, one after the other
--   ..Copyable   what copying asks: the term or the terms, and room for their bytes, which a field's length can count
--   Copied..     what it gives: the bytes at the buffer's front, how many they are, and no later byte changed
use Rattle.std.specs.Prelude.{◌≡◌, ℕ, suc, ◌+◌, ◌-◌, ◌<◌, ◌≤◌, Bool, List, ◌++◌, length, drop}
use Rattle.meaning.specs.Basics.{Bytes, choose}
use Rattle.meaning.specs.Term.{Forest, Named, NamedTerm, cons, hole, nil, one, size, slot}
use Rattle.meaning.specs.Field.{encode}
use Rattle.meaning.specs.Read.{in_expression}
use Rattle.meaning.specs.Readable.{Readable}
use Rattle.tokens.specs.Token.{tokens}
use Rattle.tokens.specs.Key.{Held, Stands}
use Rattle.bodies.specs.Marked.{marked}
use Rattle.copying.specs.Fixed.{Wrote}

abbrev pub punch_from : (ℕ → Bool) → ℕ → Forest Named → Forest Named
punch_from test i nil = nil
punch_from test i (cons l c s) =
    choose (test i) (cons (slot (hole 0)) nil (punch_from test (suc i + size c) s))
    (cons l (punch_from test (suc i) c) (punch_from test (suc i + size c) s))

unfoldable pub copied_from : ℕ → ℕ → Forest Named → Bytes
copied_from mask i u = encode (punch_from (marked mask) i u)

-- "The body of a choice is the face with these nodes as holes"; under the empty mask a term is itself
unfoldable pub copied : ℕ → NamedTerm → Bytes
copied mask t = copied_from mask 0 (one t)

pub record TermIn (es : List ℕ) (node : ℕ) (t : NamedTerm) : Type 0 where
  pub levels : ℕ
  pub scope : List ℕ
  pub held : Held levels in_expression scope t
  pub stands : Stands es node scope t

pub record Spans (es : List ℕ) (node to : ℕ) (u : Forest Named) : Type 0 where
  pub levels : ℕ
  pub scope : List ℕ
  pub readable : Readable levels in_expression u
  pub depths : length scope + levels ≤ 256
  pub sizes : size u < 65536
  pub after : List ℕ
  pub split : drop node es ≡ tokens scope u ++ after
  pub ends : to ≡ node + size u

-- A whole term
pub record Copyable (es : List ℕ) (node mask room : ℕ) : Type 0 where
  pub term : NamedTerm
  pub there : TermIn es node term
  pub fits : length (copied mask term) ≤ room
  pub short : length (copied mask term) < 65536

unfoldable pub Copied : List ℕ → ℕ → ℕ → Bytes → Bytes → ℕ → Type 0
Copied es node mask before after r =
    (t : NamedTerm) → TermIn es node t → Wrote (copied mask t) before after r

-- A term at a node, at or below the copied one at node `from`
pub record TermCopyable (es : List ℕ) (from mask node room : ℕ) : Type 0 where
  pub term : NamedTerm
  pub there : TermIn es node term
  pub begins : from ≤ node
  pub fits : length (copied_from mask (node - from) (one term)) ≤ room
  pub short : length (copied_from mask (node - from) (one term)) < 65536

pub record CopiedTerm (es : List ℕ) (from mask node : ℕ) (before after : Bytes) (r : ℕ) : Type 0 where
  pub wrote : (t : NamedTerm) → TermIn es node t → Wrote (copied_from mask (node - from) (one t)) before after r

-- The terms from a node up to another, below the copied one at node `from`
pub record TermsCopyable (es : List ℕ) (from mask node to room : ℕ) : Type 0 where
  pub terms : Forest Named
  pub there : Spans es node to terms
  pub begins : from ≤ node
  pub fits : length (copied_from mask (node - from) terms) ≤ room
  pub short : length (copied_from mask (node - from) terms) < 65536

pub record CopiedTerms (es : List ℕ) (from mask node to : ℕ) (before after : Bytes) (r : ℕ) : Type 0 where
  pub wrote : (u : Forest Named) → Spans es node to u → Wrote (copied_from mask (node - from) u) before after r

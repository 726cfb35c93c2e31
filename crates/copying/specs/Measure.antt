-- How many bytes a term has, and a body: "18 buffer too short" is known before the first byte is written.
--   length_in     how many bytes tokens make
--   length_at     how many the term at a node makes
--   Measurable   what measuring a term asks: some term stands at the node; TermMeasured is what it gives
--   Chosen       the nodes that a mask marks are a choice of the term, by the names of the scope where it stands
--   BodyMeasurable   what measuring a body asks, and Measured what it gives
use Rattle.std.specs.Prelude.{◌≡◌, ℕ, ◌+◌, ◌≤◌, List, [], ◌∷◌, length}
use Rattle.meaning.specs.Limits.{max_face_nodes}
use Rattle.meaning.specs.Term.{NamedTerm, one}
use Rattle.meaning.specs.Scope.{nameless_term}
use Rattle.meaning.specs.Field.{encode}
use Rattle.meaning.specs.Choice.{Choice, Marks}
use Rattle.meaning.specs.PlaceValue.{mask_of}
use Rattle.tokens.specs.Token.{Table}
use Rattle.tokens.specs.Key.{part}
use Rattle.copying.specs.Fixed.{fixed_in}
use Rattle.copying.specs.Copied.{TermIn, copied}

unfoldable pub length_in : List ℕ → ℕ
length_in [] = 0
length_in (x ∷ xs) = 3 + length (fixed_in x) + length_in xs

unfoldable pub length_at : List ℕ → ℕ → ℕ
length_at es node = length_in (part es node)

pub record Measurable (es : List ℕ) (node : ℕ) : Type 0 where
  pub term : NamedTerm
  pub there : TermIn es node term
  pub table : Table es

pub record TermMeasured (es : List ℕ) (node r : ℕ) : Type 0 where
  pub long : (t : NamedTerm) → TermIn es node t → r ≡ length (encode (one t))

-- "The body of a choice is the face with these nodes as holes": of a choice, all holes stand for equally many bytes
pub record Chosen (mask : ℕ) (t : NamedTerm) : Type 0 where
  pub scope : List ℕ
  pub marks : Marks
  pub choice : Choice 1 (nameless_term scope t) marks
  pub few : length marks ≤ max_face_nodes
  pub is_mask : mask ≡ mask_of max_face_nodes marks

pub record BodyMeasurable (es : List ℕ) (node mask : ℕ) : Type 0 where
  pub face : Measurable es node
  pub chosen : Chosen mask face.term

pub record Measured (es : List ℕ) (node mask r : ℕ) : Type 0 where
  pub long : (t : NamedTerm) → TermIn es node t → Chosen mask t → r ≡ length (copied mask t)

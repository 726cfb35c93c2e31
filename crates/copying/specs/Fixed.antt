-- The bytes of one node, read back from its token: "a one-byte tag, a two-byte length, then that many content bytes".
--   fixed_in    the content before the inner fields: "number, 2 bytes", of a binder two numbers, of a symbol 2 or 4 bytes (T-05)
--   a_hole      the bytes of a hole
--   head_in     all that stands before n bytes of inner fields
--   HeadRoom   what writing a field's head asks
--   Wrote      these bytes at the buffer's front, how many they are, and no later byte changed
--   NodeRoom   what writing a node before n bytes of inner fields asks, and NodeWrote what it leaves
use Rattle.std.specs.Prelude.{◌≡◌, ℕ, ◌+◌, ◌<◌, ◌≤◌, [], ◌∷◌, ◌++◌, length, drop, eqb}
use Rattle.meaning.specs.Basics.{Bytes, choose}
use Rattle.meaning.specs.Field.{field, symbol_bytes, word}
use Rattle.tokens.specs.Token.{tag_in, payload_in}
use Rattle.tokens.specs.Key.{lower_half, upper_half}

-- The number of a variable
abbrev pub number_in : ℕ → Bytes
number_in x = word (lower_half (payload_in x))

-- The number of a binder, and that of its bound variable
abbrev pub numbers_in : ℕ → Bytes
numbers_in x = word (lower_half (payload_in x)) ++ word (upper_half (payload_in x))

unfoldable pub fixed_in : ℕ → Bytes
fixed_in x =
    choose (eqb (tag_in x) 1) (symbol_bytes (payload_in x))
    (choose (eqb (tag_in x) 2) (number_in x)
    (choose (eqb (tag_in x) 4) (numbers_in x)
    []))

-- "hole, length 0"
unfoldable pub a_hole : Bytes
a_hole = field 10 []

unfoldable pub head_in : ℕ → ℕ → Bytes
head_in x n = tag_in x ∷ (word (length (fixed_in x) + n) ++ fixed_in x)

pub record HeadRoom (content : ℕ) (buffer : Bytes) : Type 0 where
  pub room : 3 ≤ length buffer
  pub counted : content < 65536

abbrev pub Wrote : Bytes → Bytes → Bytes → ℕ → Type 0
Wrote bytes before after r = (r ≡ length bytes) × (after ≡ bytes ++ drop r before)

pub record NodeRoom (x n : ℕ) (buffer : Bytes) : Type 0 where
  pub room : 3 + length (fixed_in x) + n ≤ length buffer
  pub counted : 3 + length (fixed_in x) + n < 65536

abbrev pub NodeWrote : ℕ → ℕ → Bytes → Bytes → ℕ → Type 0
NodeWrote x n before after r = (r ≡ 3 + length (fixed_in x) + n) × (after ≡ head_in x n ++ drop (3 + length (fixed_in x)) before)

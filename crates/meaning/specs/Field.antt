-- Fields: "a one-byte tag, a two-byte length, then that many content bytes. Numbers are unsigned, high byte first." Encoding is the inverse of
-- reading (`encode_read`, `read_encode`): the bytes of a problem are the only ones that are read as it, so that nobody has to believe it.
--   encode   the bytes of terms; of a constraint, of a problem
use Rattle.std.specs.Prelude.{ℕ, ◌/◌, ◌%◌, [], ◌∷◌, ◌++◌, length, ltb}
use Rattle.meaning.specs.Limits.{first_wide}
use Rattle.meaning.specs.Basics.{Bytes, choose, each}
use Rattle.meaning.specs.Term.{Forest, Named, application, binder, cons, function, hole, metavariable, nil, one, own, slot, symbol}
use Rattle.meaning.specs.Term.{variable}
use Rattle.meaning.specs.Problem.{Constraint, Problem}

unfoldable pub word : ℕ → Bytes
word n = n / 256 ∷ n % 256 ∷ []

unfoldable pub field : ℕ → Bytes → Bytes
field tag content = tag ∷ (word (length content) ++ content)

-- The table of tags; 10 is "hole, length 0"
abbrev pub tag_of : Named → ℕ
tag_of (own (symbol n)) = 1
tag_of (own (variable x)) = 2
tag_of (own (application n)) = 3
tag_of (own (binder b x)) = 4
tag_of (slot (metavariable m)) = 5
tag_of (slot (function f n)) = 6
tag_of (slot (hole i)) = 10

-- A symbol's number: four bytes just where two cannot say it
unfoldable pub symbol_bytes : ℕ → Bytes
symbol_bytes n = choose (ltb n first_wide) (word n) (word (n / 65536) ++ word (n % 65536))

-- The content before the inner fields
abbrev pub fixed_part : Named → Bytes
fixed_part (own (symbol n)) = symbol_bytes n
fixed_part (own (variable x)) = word x
fixed_part (own (application n)) = []
fixed_part (own (binder b x)) = word b ++ word x
fixed_part (slot (metavariable m)) = m ∷ []
fixed_part (slot (function f n)) = f ∷ []
fixed_part (slot (hole i)) = []

unfoldable pub encode : Forest Named → Bytes
encode nil = []
encode (cons l c s) = field (tag_of l) (fixed_part l ++ encode c) ++ encode s

unfoldable pub encode_constraint : Constraint → Bytes
encode_constraint c = field 7 (encode (one c.pattern) ++ encode (one c.expression))

unfoldable pub encode_problem : Problem → Bytes
encode_problem p = each encode_constraint p

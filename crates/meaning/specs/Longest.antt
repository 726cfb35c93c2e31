-- The problem with the longest list among those of its length, and the call that writes it, for T-13 alone.
--   applied_to        the problem (P(X), e)
--   symbols          so many times symbol 0
--   heaviest         "the heaviest formula" of n nodes: the expression e of T-13's problem
--   longest_problem   the problem that is written for n, and `longest_bytes` its bytes
--   longest_into      these bytes, where a buffer has room for them, or the refusal
--   over             bytes at a buffer's front, and no later byte changed
--   LongestCall      what the call that writes them owes: its answer and the whole buffer after it
use Rattle.std.specs.Prelude.{◌≡◌, ℕ, zero, suc, ◌-◌, Bool, ◌||◌, [], ◌∷◌, ◌++◌, length, drop, eqb, ltb}
use Rattle.meaning.specs.Limits.{max_face_nodes}
use Rattle.meaning.specs.Basics.{Bytes, choose}
use Rattle.meaning.specs.Term.{Forest, Label, NamedTerm, application, cons, function, metavariable, nil, one, own, slot, symbol}
use Rattle.meaning.specs.Problem.{Problem}
use Rattle.meaning.specs.Read.{Answer, got, refused}
use Rattle.meaning.specs.Field.{encode_problem}

-- "P, X .. are 0, 1"
abbrev pub applied_to : NamedTerm → Problem
applied_to e = record { pattern = (slot (function 0 1), one (slot (metavariable 1), nil)); expression = e } ∷ []

-- "and symbol .. 0"
abbrev pub symbols : {X B : Type 0} → ℕ → Forest (Label X B)
symbols zero = nil
symbols (suc m) = cons (own (symbol 0)) nil (symbols m)

-- "for n = 1 a symbol, else an application of n - 1 equal symbols"
abbrev pub heaviest : ℕ → NamedTerm
heaviest n = choose (eqb n 1) (own (symbol 0), nil) (own (application (n - 1)), symbols (n - 1))

-- "the tool writes the problem (P(X), e), where e has n nodes"
abbrev pub longest_problem : ℕ → Problem
longest_problem n = applied_to (heaviest n)

abbrev pub longest_bytes : ℕ → Bytes
longest_bytes n = encode_problem (longest_problem n)

-- "n is outside 1 to 256": 256 is the limit of a face's nodes, since e is what P faces
abbrev pub is_outside : ℕ → Bool
is_outside n = ltb n 1 || ltb max_face_nodes n

-- "28 when n is outside 1 to 256; 29 when the buffer is shorter than the problem, checked after 28"
unfoldable pub longest_into : ℕ → Bytes → Answer Bytes
longest_into n buffer =
    choose (is_outside n) (refused 28)
    (choose (ltb (length buffer) (length (longest_bytes n))) (refused 29)
    (got (longest_bytes n)))

-- As in writing: "puts the text at the buffer's front, returns its length, and changes no byte after it"
abbrev pub over : Bytes → Bytes → Bytes
over bytes buffer = bytes ++ drop (length bytes) buffer

abbrev pub length_of : Answer Bytes → Answer ℕ
length_of (got s) = got (length s)
length_of (refused r) = refused r

-- On a refusal "the output buffer .. stay[s]"
abbrev pub buffer_after : Bytes → Answer Bytes → Bytes
buffer_after buffer (got s) = over s buffer
buffer_after buffer (refused r) = buffer

-- By the answer (the problem's length, or the refusal) and the whole buffer after
pub record LongestCall (n : ℕ) (buffer : Bytes) (answer : Answer ℕ) (after : Bytes) : Type 0 where
  pub answers : answer ≡ length_of (longest_into n buffer)
  pub leaves : after ≡ buffer_after buffer (longest_into n buffer)

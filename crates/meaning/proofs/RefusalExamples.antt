-- Worked refusals: bytes with the number that refuses them, and bytes at the limits that are accepted.
--   deep     applications of one child, one inside the other, around a field: at depth n + 1 where they are n
--   times    the same bytes again and again
--   wide     an application of so many symbols: one node more than these
use mathlib.Core.Path.{◌≡◌, refl}
use Prim.Native.Nat.{ℕ, zero, suc}
use mathlib.Core.List.{List, [], ◌∷◌, ◌++◌}
use Rattle.meaning.specs.Limits.{max_depth}
use Rattle.meaning.specs.Basics.{All, Bytes}
use Rattle.meaning.specs.Problem.{Problem}
use Rattle.meaning.specs.Rows.{rows}
use Rattle.meaning.specs.Field.{field}
use Rattle.meaning.specs.Read.{refused, got, in_body, read_term}
use Rattle.meaning.specs.Accept.{accept}
use Rattle.meaning.specs.Text.{Item, read_text}
use Rattle.meaning.proofs.Computed.{accepts, texts, reads}

-- Inputs
abbrev symbol_field : Bytes
symbol_field = field 1 (0 ∷ 5 ∷ [])

abbrev other_symbol : Bytes
other_symbol = field 1 (0 ∷ 6 ∷ [])

abbrev metavariable_field : ℕ → Bytes
metavariable_field m = field 5 (m ∷ [])

abbrev function_field : ℕ → Bytes → Bytes
function_field f argument = field 6 (f ∷ argument)

abbrev constraint_field : Bytes → Bytes → Bytes
constraint_field pattern expression = field 7 (pattern ++ expression)

abbrev with_pattern : Bytes → Bytes
with_pattern pattern = constraint_field pattern symbol_field

abbrev binder_field : Bytes → Bytes
binder_field body = field 4 (0 ∷ 1 ∷ 0 ∷ 4 ∷ body)

abbrev deep : ℕ → Bytes → Bytes
deep zero s = s
deep (suc n) s = field 3 (deep n s)

abbrev times : ℕ → Bytes → Bytes
times zero s = []
times (suc n) s = s ++ times n s

abbrev wide : ℕ → Bytes
wide n = field 3 (times n symbol_field)

-- Functions 0 to n - 1, each applied to a symbol
abbrev function_fields : ℕ → Bytes
function_fields zero = []
function_fields (suc n) = function_field n symbol_field ++ function_fields n

-- (P(s), n + 1 nodes); T-10: "refusal 14 now begins at 257"
abbrev face_over : ℕ → Bytes
face_over n = constraint_field (function_field 0 symbol_field) (wide n)

abbrev large_face : Bytes
large_face = face_over 256

abbrev sixteen : Bytes
sixteen = times 16 (constraint_field symbol_field symbol_field)

pub record Refusal : Type 0 where
  pub number : ℕ
  pub input : Bytes

abbrev by : ℕ → Bytes → Refusal
by n s = record { number = n; input = s }

-- In the order of the numbers
abbrev pub refusals : List Refusal
refusals =
    -- 4,097 bytes
    by 1 (times 4097 (0 ∷ []))
    -- 1 byte left, 2 bytes left, a 17th constraint cut short
    ∷ by 2 (7 ∷ [])
    ∷ by 2 (7 ∷ 0 ∷ [])
    ∷ by 2 (sixteen ++ (7 ∷ []))
    -- a length past the end of the input, and past the end of the field around it
    ∷ by 3 (7 ∷ 0 ∷ 1 ∷ [])
    ∷ by 3 (field 7 (1 ∷ 0 ∷ 2 ∷ 0 ∷ []) ++ symbol_field)
    -- a hole in a pattern, in an argument, in an expression
    ∷ by 4 (with_pattern (field 10 []))
    ∷ by 4 (with_pattern (function_field 0 (field 10 [])))
    ∷ by 4 (constraint_field symbol_field (field 10 []))
    -- 4,096 bytes that begin with tag 0
    ∷ by 4 (times 4096 (0 ∷ []))
    -- an unknown tag, also below the deepest term, and a 17th field of another tag
    ∷ by 4 (constraint_field symbol_field (field 8 []))
    ∷ by 4 (constraint_field symbol_field (deep 32 (field 8 [])))
    ∷ by 4 (sixteen ++ field 8 [])
    -- a symbol at depth 33, in an expression and in a pattern
    ∷ by 5 (constraint_field symbol_field (deep 32 symbol_field))
    ∷ by 5 (with_pattern (deep 32 symbol_field))
    -- a symbol and a variable of 1 byte and of 3; a metavariable of none, and of 2 before its number is looked at
    ∷ by 6 (with_pattern (field 1 (0 ∷ [])))
    ∷ by 6 (with_pattern (field 1 (0 ∷ 5 ∷ 0 ∷ [])))
    ∷ by 6 (with_pattern (field 2 (0 ∷ [])))
    ∷ by 6 (with_pattern (field 2 (0 ∷ 5 ∷ 0 ∷ [])))
    ∷ by 6 (with_pattern (field 5 []))
    ∷ by 6 (with_pattern (field 5 (32 ∷ 0 ∷ [])))
    -- a binder of 3 bytes, a function without its number, an empty application
    ∷ by 6 (with_pattern (field 4 (0 ∷ 1 ∷ 0 ∷ [])))
    ∷ by 6 (with_pattern (field 6 []))
    ∷ by 6 (with_pattern (field 3 []))
    -- a binder and a function of no term, and of two
    ∷ by 7 (with_pattern (binder_field []))
    ∷ by 7 (with_pattern (binder_field (symbol_field ++ symbol_field)))
    ∷ by 7 (with_pattern (function_field 0 []))
    ∷ by 7 (with_pattern (function_field 0 (symbol_field ++ symbol_field)))
    -- an empty constraint, one term only, and bytes left after its two terms
    ∷ by 7 (field 7 [])
    ∷ by 7 (field 7 symbol_field)
    ∷ by 7 (field 7 (symbol_field ++ (symbol_field ++ (0 ∷ []))))
    -- a metavariable in an expression, also below the deepest term
    ∷ by 8 (constraint_field symbol_field (metavariable_field 1))
    ∷ by 8 (constraint_field symbol_field (deep 32 (metavariable_field 1)))
    -- a function in an expression
    ∷ by 8 (constraint_field symbol_field (function_field 0 symbol_field))
    -- P(Q(X))
    ∷ by 9 (with_pattern (function_field 0 (function_field 1 (metavariable_field 2))))
    -- metavariable 32, and function 32 before its missing argument
    ∷ by 10 (with_pattern (metavariable_field 32))
    ∷ by 10 (field 7 (0x06 ∷ 0x00 ∷ 0x01 ∷ 0x20 ∷ []))
    -- a 17th constraint
    ∷ by 11 (sixteen ++ constraint_field symbol_field symbol_field)
    -- nine functions, also where one of them is used both ways
    ∷ by 13 (with_pattern (field 3 (function_fields 9)))
    ∷ by 13 (with_pattern (field 3 (function_fields 9 ++ metavariable_field 0)))
    -- a face of 257 nodes, also where (X, a), (X, b) leave no solution
    ∷ by 14 large_face
    ∷ by 14 (large_face ++ (constraint_field (metavariable_field 1) symbol_field ++ constraint_field (metavariable_field 1) other_symbol))
    ∷ []

abbrev pub IsRefused : Refusal → Type 0
IsRefused r = accept r.input ≡ refused r.number

-- At the limits: metavariable 31, depth 32, 16 constraints, 8 functions, a face of 256 nodes; and one of 65, the first that was too
-- large before T-10
abbrev pub at_limits : List Bytes
at_limits =
    with_pattern (metavariable_field 31)
    ∷ constraint_field symbol_field (deep 31 symbol_field)
    ∷ sixteen
    ∷ constraint_field (field 3 (function_fields 8)) symbol_field
    ∷ face_over 255
    ∷ face_over 64
    ∷ []

abbrev pub IsAccepted : Bytes → Type 0
IsAccepted s = (p : Problem) × (accept s ≡ got p)

-- T-05: a symbol of these four bytes
abbrev long_symbol : ℕ → ℕ → ℕ → ℕ → Bytes
long_symbol a b c d = field 1 (a ∷ b ∷ c ∷ d ∷ [])

abbrev pub width_refusals : List Refusal
width_refusals =
    -- a symbol of no byte and of 5, a variable of 4
    by 6 (with_pattern (field 1 []))
    ∷ by 6 (with_pattern (field 1 (0 ∷ 1 ∷ 0 ∷ 0 ∷ 0 ∷ [])))
    ∷ by 6 (with_pattern (field 2 (0 ∷ 1 ∷ 0 ∷ 0 ∷ [])))
    -- 0 and 65,535 in four bytes, in a pattern, in an argument and in an expression
    ∷ by 25 (with_pattern (long_symbol 0 0 0 0))
    ∷ by 25 (with_pattern (function_field 0 (long_symbol 0 0 255 255)))
    ∷ by 25 (constraint_field symbol_field (long_symbol 0 0 255 255))
    -- before an unknown tag that follows, and before the 7 of the constraint around it; after the depth
    ∷ by 25 (constraint_field (long_symbol 0 0 0 5) (field 8 []))
    ∷ by 25 (field 7 (long_symbol 0 0 0 5))
    ∷ by 5 (with_pattern (deep 32 (long_symbol 0 0 0 5)))
    ∷ []

-- 65,535 in two bytes, 65,536 and 4,294,967,295 in four
abbrev pub at_widths : List Bytes
at_widths =
    with_pattern (field 1 (255 ∷ 255 ∷ [])) ∷ with_pattern (long_symbol 0 1 0 0) ∷ with_pattern (long_symbol 255 255 255 255) ∷ []

-- Texts that are refused
abbrev value : ℕ → Bytes → Bytes
value m term = field 8 (m ∷ term)

abbrev open_field : ℕ → Bytes
open_field m = field 11 (m ∷ [])

abbrev pub text_refusals : List Refusal
text_refusals =
    -- 8,193 bytes
    by 19 (times 8193 (0 ∷ []))
    -- 8,192 bytes; a head cut short, a length past the end, another tag
    ∷ by 20 (times 8192 (0 ∷ []))
    ∷ by 20 (11 ∷ 0 ∷ [])
    ∷ by 20 (11 ∷ 0 ∷ 1 ∷ [])
    ∷ by 20 (field 10 [])
    -- a value without a number, without a term, with bytes after its term
    ∷ by 20 (field 8 [])
    ∷ by 20 (value 1 [])
    ∷ by 20 (value 1 (symbol_field ++ (0 ∷ [])))
    -- metavariable 32 with a value and open; an open one with a term
    ∷ by 20 (value 32 symbol_field)
    ∷ by 20 (open_field 32)
    ∷ by 20 (field 11 (1 ∷ symbol_field))
    -- a hole in a value, a metavariable and a function in a body
    ∷ by 20 (value 1 (field 10 []))
    ∷ by 20 (field 9 (0 ∷ metavariable_field 1))
    ∷ by 20 (field 9 (0 ∷ function_field 1 symbol_field))
    -- a hole that is not empty
    ∷ by 20 (field 9 (0 ∷ field 10 (0 ∷ [])))
    -- a symbol at depth 33
    ∷ by 20 (value 1 (deep 32 symbol_field))
    -- T-07: a number below the one before it, and the same one, next to each other and with a field between
    ∷ by 27 (open_field 1 ++ open_field 0)
    ∷ by 27 (open_field 1 ++ open_field 1)
    ∷ by 27 (open_field 1 ++ (open_field 2 ++ open_field 1))
    -- .. in fields of each kind, and at the last number
    ∷ by 27 (value 1 symbol_field ++ field 9 (1 ∷ field 10 []))
    ∷ by 27 (open_field 31 ++ open_field 31)
    -- "checked after 20 over the whole text": another tag, a byte too many and metavariable 32, after such a field and before it
    ∷ by 20 (open_field 1 ++ (open_field 1 ++ field 10 []))
    ∷ by 20 (open_field 1 ++ (open_field 0 ++ (0 ∷ [])))
    ∷ by 20 (open_field 32 ++ (open_field 1 ++ open_field 1))
    ∷ by 20 (open_field 1 ++ (open_field 1 ++ open_field 32))
    -- 19 before both: 2,049 fields of 4 bytes
    ∷ by 19 (times 2049 (open_field 1))
    ∷ []

abbrev pub IsRefusedText : Refusal → Type 0
IsRefusedText r = read_text r.input ≡ refused r.number

abbrev pub IsReadText : Bytes → Type 0
IsReadText s = (is : List Item) × (read_text s ≡ got is)

-- The main theorems. Each of the refusals is refused with its number
pub refusals_hold : All IsRefused refusals
unfolding accepts
refusals_hold = (
  refl,
  (
    refl,
    (
      refl,
      (
        refl,
        (
          refl,
          (
            refl,
            (
              refl,
              (
                refl,
                (
                  refl,
                  (
                    refl,
                    (
                      refl,
                      (
                        refl,
                        (
                          refl,
                          (
                            refl,
                            (
                              refl,
                              (
                                refl,
                                (
                                  refl,
                                  (
                                    refl,
                                    (
                                      refl,
                                      (
                                        refl,
                                        (
                                          refl,
                                          (
                                            refl,
                                            (
                                              refl,
                                              (
                                                refl,
                                                (
                                                  refl,
                                                  (
                                                    refl,
                                                    (
                                                      refl,
                                                      (
                                                        refl,
                                                        (
                                                          refl,
                                                          (
                                                            refl,
                                                            (refl, (refl, (refl, (refl, (refl, (refl, (refl, (refl, (refl, (refl, (refl, (refl, tt)))))))))))),
                                                          ),
                                                        ),
                                                      ),
                                                    ),
                                                  ),
                                                ),
                                              ),
                                            ),
                                          ),
                                        ),
                                      ),
                                    ),
                                  ),
                                ),
                              ),
                            ),
                          ),
                        ),
                      ),
                    ),
                  ),
                ),
              ),
            ),
          ),
        ),
      ),
    ),
  ),
)

pub widths_refused : All IsRefused width_refusals
unfolding accepts
widths_refused = (refl, (refl, (refl, (refl, (refl, (refl, (refl, (refl, (refl, tt)))))))))

pub widths_accepted : All IsAccepted at_widths
unfolding accepts
widths_accepted = ((_, refl), ((_, refl), ((_, refl), tt)))

-- "25 when a 4-byte number is below 65,536 (20 in a text)"
pub widths_refused_text : IsRefusedText (by 20 (value 1 (long_symbol 0 0 255 255)))
unfolding reads
widths_refused_text = refl

pub text_refusals_hold : All IsRefusedText text_refusals
unfolding reads
text_refusals_hold = (
  refl,
  (refl, (refl, (refl, (refl, (refl, (refl, (refl, (refl, (refl, (refl, (refl, (refl, (refl, (refl, (refl, (refl, (refl, (refl, (refl, (refl, (refl, (refl, (refl, (refl, (refl, tt))))))))))))))))))))))))),
)

-- In a body, though of a text every refusal becomes 20: "8 tag 5 or 6 in an expression", and a hole that is not empty
abbrev body_refusals : List Refusal
body_refusals = by 8 (metavariable_field 1) ∷ by 8 (function_field 0 symbol_field) ∷ by 6 (field 10 (0 ∷ [])) ∷ []

pub body_refusals_hold : All (λ (r : Refusal). read_term max_depth in_body r.input ≡ refused r.number) body_refusals
unfolding reads
body_refusals_hold = (refl, (refl, (refl, tt)))

-- The limits themselves are kept
pub limits_accepted : All IsAccepted at_limits
unfolding accepts
limits_accepted = ((_, refl), ((_, refl), ((_, refl), ((_, refl), ((_, refl), ((_, refl), tt))))))

-- A body that is a hole, metavariable 31 after 30, and a symbol at depth 32
abbrev text_at_limits : Bytes
text_at_limits = field 9 (30 ∷ field 10 []) ++ value 31 (deep 31 symbol_field)

pub limits_read : IsReadText text_at_limits
unfolding reads
limits_read = (_, refl)

-- 14 only "if shapes agree": (P(s), 257 nodes), (a, b) is accepted and has no rows
abbrev pub IsRowless : Bytes → Type 0
IsRowless s = (p : Problem) × (accept s ≡ got p) × (rows p ≡ [])

pub large_disagreeing : IsRowless (large_face ++ constraint_field symbol_field other_symbol)
unfolding accepts texts
large_disagreeing = (_, refl, refl)

-- T-09: "14 isn't looked for in it": (P(s), 257 nodes), (Q(Q), s) is accepted and has no rows, in either order of the two
abbrev both_ways_constraint : Bytes
both_ways_constraint = with_pattern (function_field 1 (metavariable_field 1))

pub large_both_ways : IsRowless (large_face ++ both_ways_constraint) × IsRowless (both_ways_constraint ++ large_face)
unfolding accepts texts
large_both_ways = ((_, refl, refl), (_, refl, refl))

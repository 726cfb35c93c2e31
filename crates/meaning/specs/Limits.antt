-- The limits of document 01, as the change requests that have landed leave them, each named once.
use Rattle.std.specs.Prelude.{ℕ}

-- "of at most 4,096 bytes" (refusal 1)
unfoldable pub largest_problem : ℕ
largest_problem = 4096

-- "A problem is 0 to 16 constraints" (refusal 11)
unfoldable pub max_constraints : ℕ
max_constraints = 16

-- "a term directly inside another has one more, at most 32" (refusals 5 and 20)
unfoldable pub max_depth : ℕ
max_depth = 32

-- "25 when a 4-byte number is below 65,536" (T-05): the first number of a symbol that has four bytes
unfoldable pub first_wide : ℕ
first_wide = 65536

-- "number 0 to 31": how many metavariables there can be (refusals 10 and 20)
unfoldable pub metavariable_count : ℕ
metavariable_count = 32

-- "over 8 functions" (refusal 13)
unfoldable pub max_functions : ℕ
max_functions = 8

-- Document 01: "A face has at most 64 nodes"; T-10: "A face may have 256; refusal 14 now begins at 257"
unfoldable pub max_face_nodes : ℕ
max_face_nodes = 256

-- "text over 8,192 bytes" (refusal 19)
unfoldable pub largest_text : ℕ
largest_text = 8192

-- "A text is at most the input's length + 4 × the number of metavariables": so a buffer of so many bytes has room for every text
unfoldable pub largest_written : ℕ
largest_written = 4224

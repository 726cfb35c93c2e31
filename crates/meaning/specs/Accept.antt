-- The checks after reading, and acceptance: "A problem is accepted when none of 1 to 14 applies."; T-05, of 25, which reading gives:
-- "a problem refused so isn't accepted".
use Rattle.std.specs.Prelude.{ℕ, Bool, ◌&&◌, not, length, ltb}
use Rattle.meaning.specs.Limits.{max_face_nodes, max_functions}
use Rattle.meaning.specs.Basics.{Bytes, choose, every, is_some}
use Rattle.meaning.specs.Term.{one, size}
use Rattle.meaning.specs.Problem.{Problem, functions}
use Rattle.meaning.specs.Read.{Answer, after, got, read_problem, refused}
use Rattle.meaning.specs.Face.{faces}
use Rattle.meaning.specs.Row.{face_of}

-- "14 a face over 64 nodes", "if shapes agree"; T-09, of a letter used both ways: "14 isn't looked for in it". The number of nodes that a
-- face may have is handed in, so that the limit before T-10 can be spoken of too (`same_as_before`)
unfoldable pub overlarge : ℕ → Problem → Bool
overlarge limit p = is_some (faces p) && not (every (λ f. not (ltb limit (size (one (face_of p f))))) (functions p))

-- "after reading: .. 13 over 8 functions", then "faces, if shapes agree: 14"; T-09: "Refusal 12 is withdrawn and its number stays unused"
unfoldable pub check_problem : ℕ → Problem → Answer Problem
check_problem limit p =
    choose (ltb max_functions (length (functions p))) (refused 13)
    (choose (overlarge limit p) (refused 14)
    (got p))

-- T-10: "A face may have 256; refusal 14 now begins at 257"
unfoldable pub accept : Bytes → Answer Problem
accept s = after (read_problem s) (check_problem max_face_nodes)

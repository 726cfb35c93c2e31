-- Document 01's (P(X), s) is read from its bytes; its tables are computed in the crate `tokens`.
use mathlib.Core.Path.{◌≡◌, refl}
use mathlib.Core.List.{[], ◌∷◌}
use Rattle.meaning.specs.Limits.{largest_problem, max_constraints, max_depth, metavariable_count}
use Rattle.meaning.specs.Read.{got, metavariable_in, function_in, hole_in, kind_of, parts_of, head_of, content_of, read_exactly, read_all}
use Rattle.meaning.specs.Read.{context_below, read_term, read_pair, constraint_head, read_constraints, read_problem}
use Rattle.tokens.proofs.Examples.{example}

example_read : read_problem (7 ∷ 0 ∷ 13 ∷ 6 ∷ 0 ∷ 5 ∷ 0 ∷ 5 ∷ 0 ∷ 1 ∷ 1 ∷ 1 ∷ 0 ∷ 2 ∷ 0 ∷ 5 ∷ []) ≡ got example
unfolding example read_problem largest_problem max_constraints max_depth metavariable_count read_constraints constraint_head read_pair read_term context_below read_all read_exactly content_of head_of parts_of kind_of metavariable_in function_in hole_in
example_read = refl

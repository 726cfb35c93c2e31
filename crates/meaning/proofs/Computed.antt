-- What examples compute with: to unfold one of these is to unfold all that it rests on.
--   accepts   acceptance
--   texts     the texts of a problem's solution rows, as bytes
--   reads     reading of a text
use mathlib.Core.List.{List, map}
use Rattle.meaning.specs.Limits.{largest_problem, max_constraints, max_depth, first_wide, metavariable_count, max_functions}
use Rattle.meaning.specs.Limits.{max_face_nodes, largest_text}
use Rattle.meaning.specs.Problem.{Problem, both_ways, places_of, functions, metavariables}
use Rattle.meaning.specs.Face.{faces}
use Rattle.meaning.specs.Row.{Row, row_body}
use Rattle.meaning.specs.Rows.{rows}
use Rattle.meaning.specs.Candidate.{candidate, solves, solution_rows}
use Rattle.meaning.specs.Basics.{Bytes}
use Rattle.meaning.specs.Field.{word, field, symbol_bytes, encode}
use Rattle.meaning.specs.Read.{Answer, metavariable_in, function_in, hole_in, kind_of, parts_of, head_of, content_of, read_exactly, read_all}
use Rattle.meaning.specs.Read.{context_below, read_term, read_pair, constraint_head, read_constraints, read_problem}
use Rattle.meaning.specs.Accept.{overlarge, check_problem, accept}
use Rattle.meaning.specs.Text.{Item, entry_of, text_of, read_numbered, read_open, read_item, read_items, read_text}
use Rattle.meaning.specs.Encoded.{encode_text}

unfoldable pub accepts : Bytes → Answer Problem
unfolding largest_problem max_constraints max_depth first_wide metavariable_count max_functions max_face_nodes word field metavariable_in function_in hole_in kind_of parts_of head_of content_of read_exactly read_all context_below read_term read_pair constraint_head read_constraints read_problem places_of functions both_ways faces overlarge check_problem accept
accepts s = accept s

unfoldable pub texts : Problem → List Bytes
unfolding first_wide metavariable_count places_of functions both_ways faces metavariables rows row_body candidate solves solution_rows entry_of text_of word field symbol_bytes encode encode_text
texts p = map (λ (r : Row). encode_text (text_of p r)) (solution_rows p)

unfoldable pub reads : Bytes → Answer (List Item)
unfolding largest_text max_depth first_wide metavariable_count word field metavariable_in function_in hole_in kind_of parts_of head_of content_of read_exactly read_all context_below read_term read_numbered read_open read_item read_items read_text
reads s = read_text s

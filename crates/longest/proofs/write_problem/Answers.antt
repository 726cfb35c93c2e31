-- `write_problem` meets its contract: the terms, and then the head before them.
use Rattle.longest.proofs.WriteLaws.{constraint_head_lem, constraint_long, problem_long, problem_wrote, terms_room}
use Rattle.longest.proofs.write_problem.Goals as goal

pub slice_bounds-write_terms-count : goal.slice_bounds-write_terms-count
slice_bounds-write_terms-count c = problem_long c.requires

pub slice_bounds-write_terms-start : goal.slice_bounds-write_terms-start
slice_bounds-write_terms-start c = problem_long c.requires

pub write_terms-requires : goal.write_terms-requires
write_terms-requires c = terms_room c.requires

pub overflow_sub-length : goal.overflow_sub-length
overflow_sub-length c = constraint_long c.requires

pub write_head-requires : goal.write_head-requires
write_head-requires c = constraint_head_lem c.requires c.write_terms.new.out c.write_terms.auto.out

pub returns : goal.returns
returns c = problem_wrote c.requires c.write_terms.ensures c.write_head.ensures

-- `accept` meets its contract: a problem is read, and its fronts of the tables are checked.
use Rattle.std.proofs.Common.{arith}
use Rattle.std.proofs.lemmas.Result.{err_from_is_err_and}
use Rattle.accept.proofs.AcceptanceLaws.{bytes_fit, patterns_inside_lem, patterns_long, expressions_inside_lem, expressions_long}
use Rattle.accept.proofs.AcceptanceLaws.{pattern_ready, expression_ready, few_tokens, accepts_refused, accepts_checked}
use Rattle.accept.proofs.accept.Goals as goal

pub returns-in_err-read : goal.returns-in_err-read
returns-in_err-read c =
    let p = err_from_is_err_and c.from_residual.result c.from_residual.ensures.1 in
    rw (p.1, p.2) (accepts_refused _ _ _ _ _ _ c.in_err-read.ensures)

pub slice_bounds-checked-end : goal.slice_bounds-checked-end
slice_bounds-checked-end c =
    patterns_inside_lem _ _ _ _ _ (bytes_fit _ c.type_inv.problem) _ c.in_ok-read.ensures

pub slice_bounds-checked-end-2 : goal.slice_bounds-checked-end-2
slice_bounds-checked-end-2 c = patterns_long _ _ _ _ _ (bytes_fit _ c.type_inv.problem) _ c.in_ok-read.ensures

pub slice_bounds-checked-end-3 : goal.slice_bounds-checked-end-3
slice_bounds-checked-end-3 c =
    expressions_inside_lem _ _ _ _ _ (bytes_fit _ c.type_inv.problem) _ c.in_ok-read.ensures

pub slice_bounds-checked-end-4 : goal.slice_bounds-checked-end-4
slice_bounds-checked-end-4 c =
    expressions_long _ _ _ _ _ (bytes_fit _ c.type_inv.problem) _ c.in_ok-read.ensures

pub checked-requires : goal.checked-requires
checked-requires c =
    let bytes = bytes_fit _ c.type_inv.problem in
    record {
      patterns = pattern_ready _ _ _ _ _ bytes _ c.in_ok-read.ensures;
      expressions = expression_ready _ _ _ _ _ bytes _ c.in_ok-read.ensures;
      room = omega (arith, few_tokens _ _ _ _ _ bytes _ c.in_ok-read.ensures, c.requires.faces);
    }

pub returns : goal.returns
returns c =
    accepts_checked _ _ _ _ _ (bytes_fit _ c.type_inv.problem) _ c.in_ok-read.ensures _ _ _ c.checked.ensures

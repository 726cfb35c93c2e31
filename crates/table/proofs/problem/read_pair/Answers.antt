-- `table::problem::read_pair` meets its contract: the pattern is read into its table, and the expression after it into the other.
use Rattle.std.proofs.lemmas.Result.{err_from_is_err_and}
use Rattle.terms.proofs.Bounds.{term_fine}
use Rattle.terms.proofs.TermLaws.{took_fits}
use Rattle.table.proofs.ProblemLaws.{pattern_refused, expression_refused, pair_done, pair_over}
use Rattle.table.proofs.problem.read_pair.Goals as goal

pub returns-in_err-pattern : goal.returns-in_err-pattern
returns-in_err-pattern c =
    let p = err_from_is_err_and c.from_residual.result c.from_residual.ensures.1 in
    rw (p.1, p.2) (pattern_refused _ _ _ c.in_err-pattern.ensures)

pub slice_bounds-rest-start : goal.slice_bounds-rest-start
slice_bounds-rest-start c = (took_fits _ (term_fine _ _) _ _ _ _ c.in_ok-pattern.ensures).within

pub returns-in_err-expression : goal.returns-in_err-expression
returns-in_err-expression c =
    let p = err_from_is_err_and c.from_residual-in_err-expression.result c.from_residual-in_err-expression.ensures.1 in
    rw (p.1, p.2) (expression_refused _ _ _ c.in_ok-pattern.ensures c.in_err-expression.ensures)

pub returns-then-expression-rest : goal.returns-then-expression-rest
returns-then-expression-rest c = pair_done _ _ _ c.in_ok-pattern.ensures c.in_ok-expression.ensures c.if-expression-rest.true

pub returns-else-expression-rest : goal.returns-else-expression-rest
returns-else-expression-rest c = pair_over _ _ _ c.in_ok-pattern.ensures c.in_ok-expression.ensures c.if-expression-rest.false

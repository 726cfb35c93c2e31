-- `run` meets its contract: the start is asked for, and the calls are made from there on.
use mathlib.Core.Path.{refl}
use native.Mathlib.Omega.{arith}
use Rattle.std.proofs.lemmas.Result.{err_from_is_err_and}
use Rattle.accept.proofs.AcceptanceLaws.{are_bytes_lem}
use Rattle.calls.proofs.RunLaws.{run_refused, run_begins}
use Rattle.calls.proofs.run.Goals as goal

pub returns-in_err-place : goal.returns-in_err-place
returns-in_err-place c =
    let p = err_from_is_err_and c.from_residual.result c.from_residual.ensures.1 in
    rw (p.1, p.2) (run_refused _ _ _ _ c.in_err-place.ensures)

pub returns : goal.returns
returns c =
    let bytes = are_bytes_lem c.args.problem.now (λ i. omega (arith, c.type_inv.problem i)) in
    run_begins _ _ _ _ c.in_ok-place.place _ bytes _ refl refl c.from_place-at.ensures c.in_ok-place.ensures

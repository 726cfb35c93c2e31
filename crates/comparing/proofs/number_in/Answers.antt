-- `number_in` meets its contract: what reading and checking lends is what is numbered.
use native.Mathlib.Omega.{arith}
use Prim.Native.Nat.{ℕ}
use lib.ListN.{length-replicate}
use Rattle.std.proofs.lemmas.Result.{err_from_is_err_and}
use Rattle.table.specs.Whole.{table_room}
use Rattle.comparing.proofs.Answering.{numbers_refused, lent_numerable, lent_short, answers_numbered}
use Rattle.comparing.proofs.number_in.Goals as goal

pub returns-in_err-lent : goal.returns-in_err-lent
returns-in_err-lent c =
    let p = err_from_is_err_and c.from_residual.result c.from_residual.ensures.1 in
    rw (p.1, p.2) (numbers_refused _ _ c.in_err-lent.ensures c.args.ns.now)

pub number-requires : goal.number-requires
number-requires c = (
  lent_numerable _ _ c.in_ok-lent.ensures,
  let short = lent_short _ _ c.in_ok-lent.ensures in
      record {
        for_numbers = omega (arith, c.requires, short);
        for_links = omega (arith, length-replicate {A = ℕ} table_room 0, short);
      },
)

pub returns : goal.returns
returns c =
    answers_numbered _ _ c.in_ok-lent.ensures _ (omega (arith, c.requires, c.number.auto.ns)) c.number.ensures

-- `next_line`.
use Rattle.std.proofs.Common.{◌∙◌, arith, sym, length-take-le}
use Rattle.accept.proofs.AcceptanceLaws.{are_bytes_lem}
use Rattle.listing.proofs.LineLaws.{text_room_lem, text_fits, found_next, end_next, paused_next, refused_next}
use Rattle.listing.proofs.next_line.Goals as goal

pub find-requires : goal.find-requires
find-requires c = omega (arith, text_room_lem)

pub slice_bounds-text-end : goal.slice_bounds-text-end
slice_bounds-text-end c = omega (arith, text_fits c.args.at c.in-Ok.ensures c.in-Found.is)

pub slice_bounds-found_line-end : goal.slice_bounds-found_line-end
slice_bounds-found_line-end c = sym (length-take-le _ _ (omega (arith, text_fits c.args.at c.in-Ok.ensures c.in-Found.is, c.find.auto)))

pub returns-in-Err : goal.returns-in-Err
returns-in-Err c = refused_next c.args.at c.in-Err.ensures (c.from.ensures ∙ c.number.ensures) c.last_line.ensures

pub returns-in-Found : goal.returns-in-Found
returns-in-Found c =
    found_next c.args.at c.in-Ok.ensures (are_bytes_lem c.args.problem.now (λ i. omega (arith, c.type_inv.problem i)))
    c.in-Found.is c.found_line.ensures

pub returns-in-End : goal.returns-in-End
returns-in-End c = end_next c.args.at c.in-Ok.ensures c.in-End.is c.last_line-in-End.ensures

pub returns-in-Paused : goal.returns-in-Paused
returns-in-Paused c = paused_next c.args.at c.in-Ok.ensures c.in-Paused.is c.last_line-in-Paused.ensures

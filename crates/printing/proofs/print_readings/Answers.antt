-- `print_readings`. What falls is the number of lines that are left at most.
use Rattle.std.proofs.Common.{sym, length-take-le}
use Rattle.listing.proofs.LineLaws.{lines_end, stands_fits}
use Rattle.printing.proofs.print_readings.Goals as goal

pub slice_bounds-write_all-end : goal.slice_bounds-write_all-end
slice_bounds-write_all-end g c = sym (length-take-le _ _ (stands_fits c.next_line-line.ensures.stands))

pub loop-next-smaller : goal.loop-next-smaller
loop-next-smaller g c = rw c.in-Some.is (lines_end c.next_line-line.ensures (rw c.in-Some.is at c.loop-next.invariant)).0

pub loop-next-preserved : goal.loop-next-preserved
loop-next-preserved g c = (lines_end c.next_line-line.ensures (rw c.in-Some.is at c.loop-next.invariant)).1

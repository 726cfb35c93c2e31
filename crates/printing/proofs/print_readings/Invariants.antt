-- `print_readings`. What falls is the number of lines that are left at most.
use Rattle.listing.proofs.LineLaws.{Few, left}
use Rattle.printing.proofs.print_readings.Given as goal

abbrev pub invariant-loop-next : goal.invariant-loop-next
invariant-loop-next g l = Few l.next

abbrev pub decreases-loop-next : goal.decreases-loop-next
decreases-loop-next g l = left l.next

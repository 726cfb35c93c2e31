-- `write_symbols`. The loop's invariant: i symbols are written.
use Rattle.longest.proofs.WriteLaws.{Symbols}
use Rattle.longest.proofs.write_symbols.Given as goal

abbrev pub invariant-loop-i : goal.invariant-loop-i
invariant-loop-i l = Symbols l.m l.i l.initial.out l.out

-- `write_symbols` meets its contract. The loop's invariant: i symbols are written.
use native.Mathlib.Omega.{arith}
use Rattle.longest.proofs.WriteLaws.{symbol_fits, symbols_end, symbols_go}
use Rattle.longest.proofs.write_symbols.Goals as goal

pub put-requires : goal.put-requires
put-requires c =
    let loop = c.loop-i in
    symbol_fits loop.invariant (omega arith) c.requires

pub loop-i-preserved : goal.loop-i-preserved
loop-i-preserved c =
    let loop = c.loop-i in
    symbols_go loop.invariant (omega arith) c.put.ensures c.put.auto.out

pub returns : goal.returns
returns c = symbols_end c.loop-i.invariant (omega arith)

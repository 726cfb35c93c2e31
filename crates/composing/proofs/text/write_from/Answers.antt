-- `write_from` meets its contract. The loop's invariant: the fields before k are written, and with those from k on they are all from m on.
use native.Mathlib.Omega.{arith}
use Rattle.meaning.specs.Limits.{metavariable_count}
use Rattle.composing.proofs.TextLaws.{entry_written, next_room, next_short, writing_ends}
use Rattle.composing.proofs.TextLaws.{writing_goes}
use Rattle.composing.proofs.text.write_from.Goals as goal

pub write_entry-n-requires : goal.write_entry-n-requires
unfolding metavariable_count
write_entry-n-requires c = next_room c.loop-k.invariant c.requires c.loop-k-test.true c.entry_of.ensures

-- A field is written into the buffer after those before it
pub overflow_add-n : goal.overflow_add-n
unfolding metavariable_count
overflow_add-n c =
    omega (
      arith,
      next_short c.loop-k.invariant c.requires c.loop-k-test.true (entry_written _ _ c.entry_of.ensures c.write_entry-n.ensures),
    )

pub loop-k-preserved : goal.loop-k-preserved
unfolding metavariable_count
loop-k-preserved c =
    writing_goes c.loop-k.invariant c.requires c.loop-k-test.true (entry_written _ _ c.entry_of.ensures c.write_entry-n.ensures)
    c.write_entry-n.auto.out

pub returns : goal.returns
unfolding metavariable_count
returns c = writing_ends c.loop-k.invariant c.loop-k-test.false

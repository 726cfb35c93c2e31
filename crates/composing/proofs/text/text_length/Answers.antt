-- `text_length` meets its contract. The loop's invariant: what is counted and the fields left make up the whole.
use native.Mathlib.Omega.{arith}
use Rattle.meaning.specs.Limits.{metavariable_count}
use Rattle.composing.proofs.TextLaws.{counting_ends, counting_goes_on, entry_at_there}
use Rattle.composing.proofs.TextLaws.{entry_measured, sum_small}
use Rattle.composing.proofs.text.text_length.Goals as goal

pub entry_length-n-requires : goal.entry_length-n-requires
unfolding metavariable_count
entry_length-n-requires c = entry_at_there c.requires c.loop-m-test.true c.entry_of.ensures

pub overflow_add-n : goal.overflow_add-n
unfolding metavariable_count
overflow_add-n c =
    omega (
      arith,
      sum_small c.requires c.loop-m-test.true c.loop-m.invariant (entry_measured _ _
          c.entry_of.ensures c.entry_length-n.ensures),
    )

pub loop-m-preserved : goal.loop-m-preserved
unfolding metavariable_count
loop-m-preserved c =
    counting_goes_on c.loop-m-test.true c.loop-m.invariant (entry_measured _ _ c.entry_of.ensures c.entry_length-n.ensures)

pub returns : goal.returns
unfolding metavariable_count
returns c = counting_ends (omega arith) c.loop-m.invariant

-- `text_length` meets its contract. The loop's invariant: what is counted and the fields left make up the whole.
use Rattle.composing.proofs.TextLaws.{Counting}
use Rattle.composing.proofs.text.text_length.Given as goal

abbrev pub invariant-loop-m : goal.invariant-loop-m
invariant-loop-m l = Counting l.es l.plan l.m l.n

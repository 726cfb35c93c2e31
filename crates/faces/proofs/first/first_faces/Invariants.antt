-- `first::first_faces` meets its contract. The loop's invariant: the functions below m have been looked up.
use Rattle.faces.specs.First.{Listing}
use Rattle.faces.proofs.first.first_faces.Given as goal

abbrev pub invariant-loop-m : goal.invariant-loop-m
invariant-loop-m l = Listing l.ps l.faces l.functions l.m l.firsts

-- `first::first_faces` meets its contract. The loop's invariant: the functions below m have been looked up.
use mathlib.Core.Path.{refl}
use native.Mathlib.Omega.{arith}
use Rattle.faces.proofs.FirstLaws.{listing_start, listing_end, firsts_count}
use borrow.Author.Rules.{rules}
use Rattle.faces.proofs.first.first_faces.Goals as goal

pub loop-m-init : goal.loop-m-init
loop-m-init c =
    let a = c.args in
    listing_start a.ps.now a.faces.now a.functions _ (record { array = refl; count = search rules }) refl

pub looked_up-firsts-requires : goal.looked_up-firsts-requires
looked_up-firsts-requires c =
    (c.loop-m.invariant, c.loop-m-test.true, omega (arith, firsts_count c.args.ps.now c.args.faces.now c.args.functions, c.requires))

pub returns : goal.returns
returns c =
    let s = c.args in
    listing_end s.ps.now s.faces.now s.functions c.loop-m.m c.loop-m.firsts c.loop-m-test.false c.loop-m.invariant

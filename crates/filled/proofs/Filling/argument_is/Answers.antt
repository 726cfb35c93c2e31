-- `Filling::argument_is` meets its contract: the argument is walked, and what the walk records is tested.
use lib.Seq.{length-take-le}
use mathlib.Core.Path.{sym}
use Rattle.lockstep.proofs.Answers.{found, disagreed}
use Rattle.filled.proofs.CodeLaws.{argument_fails, argument_faces, argument_found}
use Rattle.filled.proofs.Filling.argument_is.Goals as goal

pub slice_bounds-values_are-end : goal.slice_bounds-values_are-end
slice_bounds-values_are-end c = (found _ _ _ _ c.walk_across.ensures c.in-Some.n c.in-Some.is).room

pub slice_bounds-values_are-end-in-Some : goal.slice_bounds-values_are-end-in-Some
slice_bounds-values_are-end-in-Some c =
    sym (length-take-le c.in-Some.n _ (found _ _ _ _ c.walk_across.ensures c.in-Some.n c.in-Some.is).room)

pub values_are-requires : goal.values_are-requires
values_are-requires c =
    let a = c.args in
    argument_faces a.self.now.ps.now a.self.now.es.now a.self.now.ts.now a.self.now.said.now a.i a.node _ c.in-Some.n
    (found _ _ _ _ c.walk_across.ensures c.in-Some.n c.in-Some.is) c.requires.1

pub returns-in-None : goal.returns-in-None
returns-in-None c =
    let a = c.args in
    argument_fails a.self.now.ps.now a.self.now.es.now a.self.now.ts.now a.self.now.said.now a.i a.node (disagreed _ _ _ _ c.walk_across.ensures c.in-None.is)

pub returns-in-Some : goal.returns-in-Some
returns-in-Some c =
    let a = c.args in
    argument_found a.self.now.ps.now a.self.now.es.now a.self.now.ts.now a.self.now.said.now a.i a.node _ c.in-Some.n
    (found _ _ _ _ c.walk_across.ensures c.in-Some.n c.in-Some.is) c.values_are.result c.values_are.ensures

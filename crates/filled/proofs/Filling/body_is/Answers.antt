-- `Filling::body_is` meets its contract: the body is walked, and what stands across its holes is tested.
use lib.Seq.{length-take-le}
use mathlib.Core.Path.{sym}
use Rattle.lockstep.proofs.Answers.{found, disagreed}
use Rattle.filled.proofs.CodeLaws.{body_fails, body_holes, body_found}
use Rattle.filled.proofs.Filling.body_is.Goals as goal

pub slice_bounds-arguments_are-end : goal.slice_bounds-arguments_are-end
slice_bounds-arguments_are-end c = (found _ _ _ _ c.walk_across.ensures c.in-Some.n c.in-Some.is).room

pub slice_bounds-arguments_are-end-in-Some : goal.slice_bounds-arguments_are-end-in-Some
slice_bounds-arguments_are-end-in-Some c =
    sym (length-take-le c.in-Some.n _ (found _ _ _ _ c.walk_across.ensures c.in-Some.n c.in-Some.is).room)

pub arguments_are-requires : goal.arguments_are-requires
arguments_are-requires c =
    let a = c.args in (
      c.requires.0.arguments,
      body_holes a.self.now.ps.now a.self.now.es.now a.self.now.ts.now a.self.now.said.now a.b a.i a.node _ c.in-Some.n
          (found _ _ _ _ c.walk_across.ensures c.in-Some.n c.in-Some.is) c.requires.1,
    )

pub returns-in-None : goal.returns-in-None
returns-in-None c =
    let a = c.args in
    body_fails a.self.now.ps.now a.self.now.es.now a.self.now.ts.now a.self.now.said.now a.b a.i a.node (disagreed _ _ _ _ c.walk_across.ensures c.in-None.is)

pub returns-in-Some : goal.returns-in-Some
returns-in-Some c =
    let a = c.args in
    body_found a.self.now.ps.now a.self.now.es.now a.self.now.ts.now a.self.now.said.now a.b a.i a.node _ c.in-Some.n
    (found _ _ _ _ c.walk_across.ensures c.in-Some.n c.in-Some.is) c.arguments_are.result c.arguments_are.ensures

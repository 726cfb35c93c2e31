-- `first::first_face` meets its contract. The loop's invariant: the first face among those left is the first of all.
use mathlib.Core.Path.{ap, sym, ◌∙◌}
use Rattle.faces.specs.First.{option_of}
use Rattle.faces.proofs.FirstLaws.{first_none, first_found, first_next}
use Rattle.faces.proofs.first.first_face.Goals as goal

pub returns-then-applies : goal.returns-then-applies
returns-then-applies c =
    let s = c.args in
    ap option_of
    (first_found s.ps.now s.faces.now s.f c.loop-n.n-index c.loop-n-test.true
    (sym c.applies.ensures ∙ c.if-applies.true) ∙ c.loop-n.invariant)

pub loop-n-preserved : goal.loop-n-preserved
loop-n-preserved c =
    let s = c.args in
    first_next s.ps.now s.faces.now s.f c.loop-n.n-index c.loop-n-test.true
    (sym c.applies.ensures ∙ c.if-applies.false) ∙ c.loop-n.invariant

pub returns : goal.returns
returns c =
    let s = c.args in
    ap option_of (first_none s.ps.now s.faces.now s.f c.loop-n.n-index c.loop-n-test.false ∙ c.loop-n.invariant)

-- `first::looked_up` meets its contract: a function in the set has its first face pushed, any other number is passed.
use mathlib.Core.Path.{ap, subst, sym, ◌∙◌}
use Prim.Native.Nat.{ℕ}
use Rattle.faces.specs.First.{Pushed, first_node}
use Rattle.faces.proofs.FirstLaws.{first_or_absent, listing_skip, listing_room, listing_push}
use Rattle.faces.proofs.first.looked_up.Goals as goal

pub pushed-requires : goal.pushed-requires
pushed-requires c =
    let a = c.args in
    let p = c.requires in (
      p.0.fits,
      listing_room a.ps.now a.faces.now a.functions a.m a.firsts p.0 p.1
          (sym c.in_set.ensures ∙ c.if-in_set.true) p.2,
    )

pub returns-then-in_set : goal.returns-then-in_set
returns-then-in_set c =
    let a = c.args in
    let p = c.requires in
    listing_push a.ps.now a.faces.now a.functions a.m a.firsts p.0 p.1
    (sym c.in_set.ensures ∙ c.if-in_set.true) c.pushed.result
    (subst (λ (j : ℕ). Pushed a.firsts j c.pushed.result)
    (c.unwrap_or.ensures
    ∙ first_or_absent a.ps.now a.faces.now c.from.result c.first_face.result c.first_face.ensures
    ∙ ap (first_node a.ps.now a.faces.now) c.from.ensures)
    c.pushed.ensures)

pub returns-else-in_set : goal.returns-else-in_set
returns-else-in_set c =
    let a = c.args in
    let p = c.requires in
    listing_skip a.ps.now a.faces.now a.functions a.m a.firsts p.0 p.1
    (sym c.in_set.ensures ∙ c.if-in_set.false)

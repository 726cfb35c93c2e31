-- `from_place` meets its contract: from a row on, by what the place names.
use mathlib.Core.Path.{ap, ◌∙◌, subst}
use Rattle.std.specs.Prelude.{Ok}
use Rattle.places.specs.Places.{Tells}
use Rattle.search.proofs.CallLaws.{placed_row}
use Rattle.search.proofs.call.from_place.Goals as goal

pub returns-in-Row : goal.returns-in-Row
returns-in-Row c =
    placed_row _ _ _ c.if-n-eq0.false _ _
    (subst (Tells _ _) (c.in_ok-named_by.was ∙ ap (λ x. Ok x) c.in-Row.is) c.named_by.ensures) c.from_row.ensures

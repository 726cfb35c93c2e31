-- `Filling::value_is` meets its contract: the value lies in the table of the text.
use mathlib.Core.Path.{◌∙◌, ap}
use Rattle.std.specs.Prelude.{Some}
use Rattle.said.specs.declared.Field.{Field}
use Rattle.filled.proofs.Filling.value_is.Goals as goal

pub same_across-requires-clause-first_in : goal.same_across-requires-clause-first_in
same_across-requires-clause-first_in c =
    let arm = c.in-Some-Value in
    let given = rw arm.is at arm.field-0-is in
    c.requires.0.value arm.at (arm.is ∙ ap (λ (f : Field). Some f) given)

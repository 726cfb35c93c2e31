-- `Filling::application_is` meets its contract: the function is the slot's payload, and by the field that the text has for it.
use mathlib.Core.Path.{◌∙◌, ap}
use borrow.Author.Rules.{rules}
use Rattle.std.specs.Prelude.{Some}
use Rattle.said.specs.declared.Field.{Field}
use Rattle.filled.proofs.CodeLaws.{application_says, application_bodied}
use Rattle.filled.proofs.Filling.application_is.Goals as goal

pub returns-in_default : goal.returns-in_default
returns-in_default c = application_says _ _ _ _ _ _ c.payload-f.ensures _ c.in_default.is _ (search rules)

-- the text has no field for it
pub returns-in_default-2 : goal.returns-in_default-2
returns-in_default-2 c = application_says _ _ _ _ _ _ c.payload-f.ensures _ c.in_default.is _ (search rules)

pub body_is-requires : goal.body_is-requires
body_is-requires c =
    let arm = c.in-Some-Body in
    let given = rw arm.is at arm.field-0-is in (
      c.requires.0,
      application_bodied _ _ _ _ _ _ c.payload-f.ensures arm.b (arm.is ∙ ap (λ (f : Field). Some f) given) c.requires.1,
    )

pub returns : goal.returns
returns c =
    let arm = c.in-Some-Body in
    let given = rw arm.is at arm.field-0-is in
    application_says _ _ _ _ _ _ c.payload-f.ensures _ (arm.is ∙ ap (λ (f : Field). Some f) given) _ c.body_is.ensures

-- `body_holed` meets its contract: a body lies in the table, so that it can be searched for a hole.
use Rattle.std.proofs.Common.{ap, ◌∙◌, Some}
use Rattle.said.specs.declared.Field.{Field}
use Rattle.entries.proofs.body_holed.Goals as goal

pub has_hole-requires : goal.has_hole-requires
has_hole-requires c =
    let arm = c.in-Some-Body in
    let body = rw arm.is at arm.field-0-is in
    c.requires.inside arm.node (arm.is ∙ ap (λ (f : Field). Some f) body)

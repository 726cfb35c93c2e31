-- `write_entry` meets its contract: a law for each kind of entry.
use mathlib.Core.Path.{ap, ◌∙◌}
use Rattle.std.proofs.Common.{Some}
use Rattle.composing.proofs.TextLaws.{open_room, value_room, value_written}
use Rattle.composing.proofs.text.write_entry.Goals as goal

pub write_open-requires : goal.write_open-requires
write_open-requires c =
    let is = rw c.in-Some-Open.is at c.in-Some-Open.field-0-is in
    open_room (c.in-Some-Open.is ∙ ap Some is) c.requires

pub write_copied-requires : goal.write_copied-requires
write_copied-requires c =
    let is = rw c.in-Some-Value.is at c.in-Some-Value.field-0-is in
    value_room c.none.ensures (c.in-Some-Value.is ∙ ap Some is)
    c.requires

pub returns-in-Some-Value : goal.returns-in-Some-Value
returns-in-Some-Value c =
    let is = rw c.in-Some-Value.is at c.in-Some-Value.field-0-is in
    value_written c.none.ensures (c.in-Some-Value.is ∙ ap Some is)
    c.write_copied.ensures

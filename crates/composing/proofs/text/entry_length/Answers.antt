-- `entry_length` meets its contract: a law for each kind of entry.
use native.Mathlib.Omega.{arith}
use mathlib.Core.Path.{ap, ◌∙◌}
use Rattle.std.proofs.Common.{Some}
use Rattle.composing.proofs.TextLaws.{body_length, body_measurable, measured_small, open_length}
use Rattle.composing.proofs.TextLaws.{value_length}
use Rattle.composing.proofs.text.entry_length.Goals as goal

pub overflow_add-result : goal.overflow_add-result
overflow_add-result c =
    let is = rw c.in-Some-Value.is at c.in-Some-Value.field-0-is in
    omega (
      arith,
      measured_small c.requires (value_length c.term_length.result (c.in-Some-Value.is ∙ ap Some is)
          c.term_length.ensures),
    )

pub copy_length-requires : goal.copy_length-requires
copy_length-requires c =
    let is = rw c.in-Some-Body.is at c.in-Some-Body.field-0-is in
    body_measurable (c.in-Some-Body.is ∙ ap Some is) c.requires

pub overflow_add-result-in-Some-Body : goal.overflow_add-result-in-Some-Body
overflow_add-result-in-Some-Body c =
    let is = rw c.in-Some-Body.is at c.in-Some-Body.field-0-is in
    omega (
      arith,
      measured_small c.requires (body_length c.copy_length.result (c.in-Some-Body.is ∙ ap Some is)
          c.copy_length.ensures),
    )

pub returns-in-Some-Open : goal.returns-in-Some-Open
returns-in-Some-Open c =
    let is = rw c.in-Some-Open.is at c.in-Some-Open.field-0-is in
    open_length (c.in-Some-Open.is ∙ ap Some is)

pub returns-in-Some-Value : goal.returns-in-Some-Value
returns-in-Some-Value c =
    let is = rw c.in-Some-Value.is at c.in-Some-Value.field-0-is in
    value_length _ (c.in-Some-Value.is ∙ ap Some is) c.term_length.ensures

pub returns-in-Some-Body : goal.returns-in-Some-Body
returns-in-Some-Body c =
    let is = rw c.in-Some-Body.is at c.in-Some-Body.field-0-is in
    body_length _ (c.in-Some-Body.is ∙ ap Some is) c.copy_length.ensures

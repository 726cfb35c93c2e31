-- One field more in what is held of a text.
--   field_with   what a field of a content rule says, its term at a node
--   NoteRoom   the metavariable is one, and each has its place in what is held
--   noted_of    what the field says of its metavariable is held too
use Rattle.std.specs.Prelude.{◌≡◌, ℕ, ◌<◌, length, set, Some}
use Rattle.meaning.specs.Limits.{metavariable_count}
use Rattle.said.specs.declared.Field.{Field}
use Rattle.said.specs.declared.Field.TheVariants.{Value, Body, Open}
use Rattle.said.specs.declared.Said.{Said}
use Rattle.items.specs.declared.Rule.{Rule}
use Rattle.items.specs.declared.Rule.TheVariants as rules

abbrev pub field_with : Rule → ℕ → Field
field_with rules.Value node = Value node
field_with rules.Body node = Body node
field_with rules.Open node = Open

pub record NoteRoom (s : Said) (m : ℕ) : Type 0 where
  pub number : m < metavariable_count
  pub long : length s.fields ≡ metavariable_count

abbrev pub noted_of : Said → ℕ → Field → Said
noted_of s m f = record { fields = set s.fields m (Some f) }

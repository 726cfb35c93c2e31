-- The bytes of a text's items. Encoding is the inverse of reading (`read_text_lem`, `text_read`): the bytes of items are the only ones that are
-- read as these, so that nobody has to believe it.
use Rattle.std.specs.Prelude.{ℕ, List, [], ◌∷◌}
use Rattle.meaning.specs.Basics.{Bytes, each}
use Rattle.meaning.specs.Term.{NamedTerm, one}
use Rattle.meaning.specs.Filling.{Entry, absent, body, left_open, value}
use Rattle.meaning.specs.Text.{Item}
use Rattle.meaning.specs.Field.{encode, field}

abbrev pub encode_entry : ℕ → Entry NamedTerm → Bytes
encode_entry m absent = []
encode_entry m left_open = field 11 (m ∷ [])
encode_entry m (value t) = field 8 (m ∷ encode (one t))
encode_entry m (body t) = field 9 (m ∷ encode (one t))

unfoldable pub encode_text : List Item → Bytes
encode_text is = each (λ (i : Item). encode_entry i.0 i.1) is

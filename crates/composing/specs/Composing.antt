-- What composing a text promises: its length, and its bytes.
--   ..Room     what the writers ask: an entry whose terms are in the table, and room for its bytes, which a field's length can count
--   Writable   what a plan owes, so that its text can be measured and written
use Rattle.std.specs.Prelude.{◌≡◌, ℕ, ◌<◌, ◌≤◌, List, ◌∷◌, Option, length}
use Rattle.meaning.specs.Limits.{metavariable_count}
use Rattle.meaning.specs.Basics.{Bytes}
use Rattle.meaning.specs.Term.{NamedTerm}
use Rattle.meaning.specs.Filling as meant
use Rattle.meaning.specs.Field.{field}
use Rattle.meaning.specs.Encoded.{encode_entry}
use Rattle.tokens.specs.Token.{Table}
use Rattle.copying.specs.Fixed.{Wrote}
use Rattle.copying.specs.Copied.{TermIn, copied}
use Rattle.composing.specs.Entries.{Denotes, DenotesAll, Entries, Planned, fields_of}
use Rattle.composing.specs.declared.entry.Plan.{Plan}
use Rattle.composing.specs.declared.entry.Entry.{Entry}

-- Bytes that fit a buffer, and whose number two bytes can say
pub record BytesFit (bytes : Bytes) (room : ℕ) : Type 0 where
  pub inside : length bytes ≤ room
  pub short : length bytes < 65536

-- One entry
pub record EntryRoom (es : List ℕ) (m : ℕ) (entry : Option Entry) (room : ℕ) : Type 0 where
  pub says : meant.Entry NamedTerm
  pub denotes : Denotes es entry says
  pub fits : BytesFit (encode_entry m says) room

pub record EntryThere (es : List ℕ) (entry : Option Entry) : Type 0 where
  pub table : Table es
  pub number : ℕ
  pub says : meant.Entry NamedTerm
  pub denotes : Denotes es entry says
  pub short : length (encode_entry number says) < 65536

pub record EntryMeasured (es : List ℕ) (entry : Option Entry) (r : ℕ) : Type 0 where
  pub measured : (m : ℕ) (e : meant.Entry NamedTerm) → Denotes es entry e → r ≡ length (encode_entry m e)

pub record EntryWritten (es : List ℕ) (m : ℕ) (entry : Option Entry) (before after : Bytes) (r : ℕ) : Type 0 where
  pub wrote : (e : meant.Entry NamedTerm) → Denotes es entry e → Wrote (encode_entry m e) before after r

-- A field with a number and a copied term
pub record CopyRoom (es : List ℕ) (node mask m tag room : ℕ) : Type 0 where
  pub term : NamedTerm
  pub there : TermIn es node term
  pub fits : BytesFit (field tag (m ∷ copied mask term)) room

pub record CopyWritten (es : List ℕ) (node mask m tag : ℕ) (before after : Bytes) (r : ℕ) : Type 0 where
  pub wrote : (t : NamedTerm) → TermIn es node t → Wrote (field tag (m ∷ copied mask t)) before after r

-- All of them, from metavariable m on
pub record TextRoom (es : List ℕ) (plan : Plan) (m room : ℕ) : Type 0 where
  pub planned : Planned plan
  pub says : Entries
  pub denotes : DenotesAll es plan says
  pub within : m ≤ metavariable_count
  pub fits : BytesFit (fields_of says m) room

pub record FieldsWritten (es : List ℕ) (plan : Plan) (m : ℕ) (before after : Bytes) (r : ℕ) : Type 0 where
  pub wrote : (says : Entries) → DenotesAll es plan says → Wrote (fields_of says m) before after r

pub record TextMeasured (es : List ℕ) (plan : Plan) (r : ℕ) : Type 0 where
  pub measured : (says : Entries) → DenotesAll es plan says → r ≡ length (fields_of says 0)

-- What writing a text asks: a text that a field's length could count
pub record Writable (es : List ℕ) (plan : Plan) : Type 0 where
  pub table : Table es
  pub planned : Planned plan
  pub says : Entries
  pub denotes : DenotesAll es plan says
  pub short : length (fields_of says 0) < 65536

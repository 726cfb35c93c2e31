-- What reading one field of a text promises: "8 (value: number, 1 byte, then an expression), 9 (body: number, 1 byte, then an expression in
-- which 10 may stand for a term), 11 (open: number, 1 byte)".
--   entry_tokens   the tokens of the term that a field has
--   entry_rule     its content rule; `absent`, which no field is, has none
--   read_field     the field at the front of the bytes: its item, and the bytes after it
--   content_read   the same where its tag and its end are known
--   RuleOf        the content rule of a tag, if it has one
--   ended_of       a field up to its end, once its term is read: the term must take all that is left
--   FieldDone     the code's answer, and the front of the table that is lent
use Rattle.std.specs.Prelude.{◌≡◌, ℕ, ◌-◌, ◌≤◌, List, [], length, take, drop, eqb, Option, Some, None, Result, Ok, Err}
use Rattle.meaning.specs.Basics.{choose, Bytes}
use Rattle.meaning.specs.Term.{NamedTerm, one}
use Rattle.meaning.specs.Read.{Answer, refused, got, after, Parts, parts_of}
use Rattle.meaning.specs.Filling.{Entry, absent, body, left_open, value}
use Rattle.meaning.specs.Text.{Item, read_item}
use Rattle.tokens.specs.Token.{tokens}
use Rattle.fields.specs.declared.number.Metavariable.{Metavariable}
use Rattle.terms.specs.Reading.{Written}
use Rattle.refusal.specs.declared.Refusal.{Refusal}
use Rattle.terms.specs.declared.term.Took.{Took}
use Rattle.items.specs.declared.Rule.{Rule}
use Rattle.items.specs.declared.Rule.TheVariants as rules
use Rattle.items.specs.declared.Item as code

abbrev pub entry_tokens : Entry NamedTerm → List ℕ
entry_tokens absent = []
entry_tokens left_open = []
entry_tokens (value t) = tokens [] (one t)
entry_tokens (body t) = tokens [] (one t)

abbrev pub entry_rule : Entry NamedTerm → Option Rule
entry_rule absent = None
entry_rule left_open = Some rules.Open
entry_rule (value t) = Some rules.Value
entry_rule (body t) = Some rules.Body

-- A field by its parts
abbrev pub item_read : Parts → Answer (Item × Bytes)
item_read p = after (read_item p) (λ i. got (i, p.later))

unfoldable pub read_field : Bytes → Answer (Item × Bytes)
read_field s = after (parts_of s) item_read

abbrev pub parts_to : ℕ → ℕ → Bytes → Parts
parts_to tag end s = record { tag = tag; content = take (end - 3) (drop 3 s); later = drop end s }

abbrev pub content_read : ℕ → ℕ → Bytes → Answer (Item × Bytes)
content_read tag end s = item_read (parts_to tag end s)

abbrev pub RuleOf : ℕ → Option Rule → Type 0
RuleOf tag None = (tag ≡ 8 → ⊥) × (tag ≡ 9 → ⊥) × (tag ≡ 11 → ⊥)
RuleOf tag (Some rules.Value) = tag ≡ 8
RuleOf tag (Some rules.Body) = tag ≡ 9
RuleOf tag (Some rules.Open) = tag ≡ 11

-- Such a field has a head, and lies in the bytes
pub record FieldInside (s : Bytes) (end : ℕ) : Type 0 where
  pub head : 3 ≤ end
  pub within : end ≤ length s

abbrev pub ended_of : Rule → Metavariable → ℕ → Result Took Refusal → Option code.Item
ended_of rule m end (Err r) = None
ended_of rule m end (Ok t) = choose (eqb t.bytes (end - 4)) (Some (record { bytes = end; m = m; rule = rule; nodes = t.nodes })) None

abbrev pub field_tokens : Item × Bytes → List ℕ
field_tokens x = entry_tokens x.0.1

-- An item that is read has a content rule
abbrev pub item_with : ℕ → Metavariable → Option Rule → ℕ → Option code.Item
item_with bytes m None nodes = None
item_with bytes m (Some rule) nodes = Some (record { bytes = bytes; m = m; rule = rule; nodes = nodes })

-- Whichever refusal it is, the text's is 20
unfoldable pub field_answer : Bytes → Answer (Item × Bytes) → Option code.Item
field_answer s (refused r) = None
field_answer s (got x) = item_with (length s - length x.1) (record { 0 = x.0.0 }) (entry_rule x.0.1) (length (field_tokens x))

pub record FieldDone (s : Bytes) (a : Answer (Item × Bytes)) (before after : List ℕ) (r : Option code.Item) : Type 0 where
  pub answer : r ≡ field_answer s a
  pub table : Written field_tokens a before after

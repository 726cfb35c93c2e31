-- What a text says of each metavariable.
--   item_of     the entry that a text's items have for a metavariable
--   field_of    the field that is held for a metavariable, if there is one
--   TermAt     a term of the text stands in the table of the text
--   HeldAs     what is held for an entry: nothing where the text has no field, and else the field of its kind, whose term stands at the
--              node that it names
--   SaidBy     what is held of a text's items, whose terms stand in the table
use Rattle.std.specs.Prelude.{◌≡◌, ℕ, ◌<◌, List, [], ◌∷◌, length, eqb, get_or, Option, Some, None}
use Rattle.meaning.specs.Limits.{max_depth, metavariable_count}
use Rattle.meaning.specs.Basics.{All, choose}
use Rattle.meaning.specs.Term.{NamedTerm}
use Rattle.meaning.specs.Read.{Context, in_body, in_expression}
use Rattle.meaning.specs.Filling.{Entry, absent, body, left_open, value}
use Rattle.meaning.specs.Text.{Item}
use Rattle.meaning.specs.Readable.{ReadableItem}
use Rattle.tokens.specs.Token.{Table}
use Rattle.tokens.specs.Key.{Held, Stands}
use Rattle.said.specs.declared.Field.{Field}
use Rattle.said.specs.declared.Field.TheVariants.{Value, Body, Open}
use Rattle.said.specs.declared.Said.{Said}

abbrev pub item_of : List Item → ℕ → Entry NamedTerm
item_of [] m = absent
item_of (i ∷ is) m = choose (eqb m i.0) i.1 (item_of is m)

abbrev pub field_of : Said → ℕ → Option Field
field_of s m = get_or s.fields m None

-- A text's terms have no scope around them
pub record TermAt (table : List ℕ) (n : ℕ) (ctx : Context) (t : NamedTerm) : Type 0 where
  pub held : Held max_depth ctx [] t
  pub stands : Stands table n [] t

abbrev pub HeldAs : List ℕ → Entry NamedTerm → Option Field → Type 0
HeldAs table absent f = f ≡ None
HeldAs table left_open f = f ≡ Some Open
HeldAs table (value t) f = (n : ℕ) × (f ≡ Some (Value n)) × TermAt table n in_expression t
HeldAs table (body t) f = (n : ℕ) × (f ≡ Some (Body n)) × TermAt table n in_body t

pub record SaidBy (table : List ℕ) (is : List Item) (s : Said) : Type 0 where
  pub is_table : Table table
  pub readable : All ReadableItem is
  pub long : length s.fields ≡ metavariable_count
  pub fields : (m : ℕ) → m < metavariable_count → HeldAs table (item_of is m) (field_of s m)

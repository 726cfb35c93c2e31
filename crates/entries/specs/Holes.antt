-- The functions whose body has a hole: "9 (body: number, 1 byte, then an expression in which 10 may stand for a term)".
--   any_hole      some token is a hole
--   field_holed   a field is a body, and some token of the body, in the table of the text, is a hole
--   holed_at      the same of the field that is held for a metavariable
--   BodyIn       a field's body lies in the table; Bodied, all bodies that are held do
use Rattle.std.specs.Prelude.{ℕ, ◌<◌, ◌≡◌, Bool, false, List, eqb, Option, Some, None}
use Rattle.std.specs.List.{list_any}
use Rattle.meaning.specs.Limits.{metavariable_count}
use Rattle.tokens.specs.Token.{tag_in}
use Rattle.tokens.specs.Key.{part, Inside}
use Rattle.said.specs.Said.{field_of}
use Rattle.said.specs.declared.Field.{Field}
use Rattle.said.specs.declared.Field.TheVariants.{Value, Body, Open}
use Rattle.said.specs.declared.Said.{Said}

abbrev pub any_hole : List ℕ → Bool
any_hole xs = list_any (λ x. eqb (tag_in x) 10) xs

abbrev pub field_holed : List ℕ → Option Field → Bool
field_holed ts None = false
field_holed ts (Some (Value n)) = false
field_holed ts (Some (Body n)) = any_hole (part ts n)
field_holed ts (Some Open) = false

abbrev pub holed_at : List ℕ → Said → ℕ → Bool
holed_at ts s m = field_holed ts (field_of s m)

pub record BodyIn (ts : List ℕ) (f : Option Field) : Type 0 where
  pub inside : (n : ℕ) → f ≡ Some (Body n) → Inside ts n

pub record Bodied (ts : List ℕ) (s : Said) : Type 0 where
  pub bodies : (m : ℕ) → m < metavariable_count → BodyIn ts (field_of s m)

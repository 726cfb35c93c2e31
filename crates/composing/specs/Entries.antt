-- What the text of a row has for each metavariable, by the numbers that the code holds.
--   value_from  the entry of a metavariable that is no function, by where its value is copied from: open, where from nowhere
--   entry_at    the entry of a metavariable: its function's face and node set, or where its value is copied from
--   Denotes    which entry of a text it is, the terms looked up in the table of expressions; a body is that of a choice
--   fields_of   the fields of the metavariables from m on, by their entries: "one field for each metavariable that occurs, ascending"
use Rattle.std.specs.Prelude.{◌≡◌, ℕ, ◌-◌, ◌<◌, true, List, [], Option, Some, None, get_or}
use Rattle.masks.specs.Sets.{mask}
use Rattle.meaning.specs.Limits.{max_functions, metavariable_count}
use Rattle.meaning.specs.Basics.{Bytes, choose, count_from, each}
use Rattle.meaning.specs.Term.{NamedTerm, one}
use Rattle.meaning.specs.Filling.{absent, body, left_open, value}
use Rattle.meaning.specs.Filling as meant
use Rattle.meaning.specs.Field.{encode}
use Rattle.meaning.specs.Encoded.{encode_entry}
use Rattle.tokens.specs.Key.{at}
use Rattle.metavariables.specs.Survey.{count, has}
use Rattle.sources.specs.Demand.{first_of}
use Rattle.copying.specs.Copied.{TermIn, copied}
use Rattle.copying.specs.Measure.{Chosen}
use Rattle.composing.specs.declared.entry.Plan.{Plan}
use Rattle.composing.specs.declared.entry.Entry.{Entry}
use Rattle.composing.specs.declared.entry.Entry.TheVariants as entries

-- Each function has its place in the arrays
pub record Planned (plan : Plan) : Type 0 where
  pub rank : (m : ℕ) → m < metavariable_count → has plan.occurring.functions m ≡ true
      → count m plan.occurring.functions < max_functions

-- The k-th function's
unfoldable pub body_at : Plan → ℕ → Entry
body_at plan k = entries.Body (at plan.nodes k) (get_or plan.row k (record { words = [] }))

-- A metavariable's own, by where its value is copied from
abbrev pub value_from : Option ℕ → Entry
value_from None = entries.Open
value_from (Some n) = entries.Value n

unfoldable pub value_at : Plan → ℕ → Entry
value_at plan m = value_from (first_of plan.sources.nodes m)

-- None for a metavariable that does not occur
unfoldable pub entry_at : Plan → ℕ → Option Entry
entry_at plan m =
    choose (has plan.occurring.functions m) (Some (body_at plan (count m plan.occurring.functions)))
    (choose (has plan.occurring.plain m) (Some (value_at plan m)) None)

-- "Bodies and values are copied from the problem with its bound names"
abbrev pub Denotes : List ℕ → Option Entry → meant.Entry NamedTerm → Type 0
Denotes es None e = e ≡ absent
Denotes es (Some entries.Open) e = e ≡ left_open
Denotes es (Some (entries.Value n)) e = (t : NamedTerm) × TermIn es n t × (e ≡ value t)
Denotes es (Some (entries.Body n set)) e =
    (t b : NamedTerm) × TermIn es n t × (e ≡ body b) × (copied (mask set) t ≡ encode (one b)) × Chosen (mask set) t

-- What a text says of each metavariable, absent where it says nothing
abbrev pub Entries : Type 0
Entries = ℕ → meant.Entry NamedTerm

abbrev pub DenotesAll : List ℕ → Plan → Entries → Type 0
DenotesAll es plan says = (m : ℕ) → m < metavariable_count → Denotes es (entry_at plan m) (says m)

unfoldable pub fields_of : Entries → ℕ → Bytes
fields_of says m = each (λ k. encode_entry k (says k)) (count_from m (metavariable_count - m))

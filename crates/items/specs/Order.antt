-- The order of a text's fields, as it is known while they are read: T-07, "metavariable numbers must rise from field to field".
--   next_of       the lowest number that may come after these: one above the last
--   InOrder      what is held of the numbers so far
--   followed_by   the same with one number more at their end
use Rattle.std.specs.Prelude.{◌≡◌, ℕ, suc, ◌+◌, false, List, [], ◌∷◌, ltb}
use Rattle.meaning.specs.Basics.{choose}
use Rattle.meaning.specs.Text.{rises}
use Rattle.items.specs.declared.Order.{Order}

abbrev pub next_after : ℕ → List ℕ → ℕ
next_after n [] = n
next_after n (m ∷ ms) = next_after (suc m) ms

abbrev pub next_of : List ℕ → ℕ
next_of ms = next_after 0 ms

pub record InOrder (ms : List ℕ) (o : Order) : Type 0 where
  pub rising : o.rising ≡ rises ms
  pub next : o.next ≡ next_of ms

abbrev pub followed_by : Order → ℕ → Order
followed_by o m = record { rising = choose (ltb m o.next) false o.rising; next = m + 1 }

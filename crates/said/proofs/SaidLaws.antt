-- What is held of a text says what the text says.
use mathlib.Core.Path.{◌≡◌, refl}
use mathlib.Core.Bool.{Bool, true, false}
use mathlib.Core.List.{List, [], ◌∷◌}
use Prim.Native.Nat.{ℕ}
use native.Mathlib.Omega.{arith}
use lib.ListN.{replicate, get_or-replicate}
use Rattle.std.proofs.Common.{None}
use lib.Dec.{eqb}
use Rattle.meaning.specs.Limits.{metavariable_count}
use Rattle.meaning.specs.Basics.{choose}
use Rattle.meaning.specs.Text.{Item, meant, said}
use Rattle.said.specs.Said.{SaidBy, item_of}

-- The filling that a text names gives each metavariable what its field means
pub said_item : (is : List Item) (m : ℕ) → said is m ≡ meant (item_of is m)
said_item [] m = refl
said_item (i ∷ is) m = go (eqb m i.0) (said_item is m)
  where
    go : (b : Bool) → said is m ≡ meant (item_of is m) → choose b (meant i.1) (said is m) ≡ meant (choose b i.1 (item_of is m))
    go true e = refl
    go false e = e

-- An empty text
pub said_nothing : SaidBy [] [] (record { fields = replicate 32 None })
unfolding metavariable_count
said_nothing = record {
  is_table = record { counted = λ k h. absurd (omega arith); small = omega arith };
  readable = tt;
  long = refl;
  fields = λ m h. get_or-replicate 32 m None None h;
}

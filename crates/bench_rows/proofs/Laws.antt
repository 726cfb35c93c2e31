-- Stepping stays among the rows.
use mathlib.Core.Path.{◌≡◌, sym, subst}
use mathlib.Core.Bool.{Bool, true}
use mathlib.Core.List.Memᴰ
use mathlib.Core.List.{List, [], ◌∷◌}
use Rattle.meaning.specs.Basics.{◌∈◌}
use Rattle.meaning.specs.Search.{at, place_of}
use Rattle.meaning.proofs.Lists.{mem_split, never}
use Rattle.choosing.specs.Rows.{MaskRow, Steps}
use Rattle.rows.specs.Rows.{StepsFrom, rows_of}
use Rattle.rows.specs.Functions.{numbers_in, rows_in, tokens_in}
use Rattle.rows.specs.declared.functions.Functions.{Functions}

pub place_mem : (rs : List MaskRow) (r : MaskRow) → place_of rs ≡ at r → r ∈ rs
place_mem [] r e = never (cc)
place_mem (x ∷ rs) r e = Memᴰ.head (let q : r ≡ x = cc in q)

pub step_in : (f : Functions) (row next : MaskRow) (more : Bool) → more ≡ true
    → StepsFrom (tokens_in f) (numbers_in f) f.firsts row more next → row ∈ rows_in f → next ∈ rows_in f
unfolding StepsFrom Steps rows_of
step_in f row next more e s m =
    let r = mem_split row (rows_in f) m in
    subst (λ (l : List MaskRow). next ∈ l) (sym r.2)
    (Memᴰ.append_right r.0 (Memᴰ.tail (place_mem r.1 next ((s r.0 r.1 r.2).goes e))))

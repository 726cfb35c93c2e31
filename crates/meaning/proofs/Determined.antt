-- Document 01 says all of the lists `choices` and `rows`: a list that holds just the choices of a face, in order, is `choices`, and a
-- list that holds just the rows of a problem, in order, is `rows`.
use mathlib.Core.Path.{◌≡◌, ap, sym, ◌∙◌}
use mathlib.Core.Logic.{◌↔◌}
use Prim.Native.Nat.{ℕ, ◌<◌}
use mathlib.Core.List.{List}
use mathlib.Core.Option.{none, some}
use native.Mathlib.Omega.{arith}
use lib.ListN.{get_elem?}
use Rattle.meaning.specs.Basics.{◌∈◌, Ordered}
use Rattle.meaning.specs.Term.{Term}
use Rattle.meaning.specs.Problem.{Problem}
use Rattle.meaning.specs.Choice.{Mark, Marks, Choice, Before, Earlier}
use Rattle.meaning.specs.Difference.{FirstDifference, ByFirst, HasNode, Compared}
use Rattle.meaning.specs.Choices.{choices}
use Rattle.meaning.specs.Row.{Row, IsRow, EarlierRow}
use Rattle.meaning.specs.Rows.{rows}
use Rattle.meaning.proofs.OrderLaws.{earlier_words, earlier_asymmetric, earlier_compared, row_asymmetric}
use Rattle.meaning.proofs.Ordered.{ordered_unique}
use Rattle.meaning.proofs.ChoiceLaws.{at_other, choices_are, choices_ordered, rows_are, rows_ordered}

-- Two choices of a face. With one place a mark says no more than whether the node is in the set
module _ (face : Term) (ms us : Marks) (c : Choice 1 face ms) (d : Choice 1 face us) where
  earlier_has : ByFirst Before ms us → (k : ℕ) × FirstDifference ms us k × HasNode k ms
  earlier_has b = (b.place, b.first, hole b.left b.on_left b.related)
    where
      hole : (m : Mark) → get_elem? ms b.place ≡ some m → Before m b.right → HasNode b.place ms
      hole none e h = absurd h
      hole (some i) e h = (i, e)

  has_earlier : (k : ℕ) → FirstDifference ms us k → HasNode k ms → ByFirst Before ms us
  has_earlier k f (i, e) =
      let (u, g) = at_other ms us k (some i) (c.long ∙ sym d.long) e in
      record { place = k; first = f; left = some i; right = u; on_left = e; on_right = g; related = before u g }
    where
      before : (u : Mark) → get_elem? us k ≡ some u → Before (some i) u
      before none g = tt
      before (some j) g =
          let p : i < 1 = c.places k i e in
          let q : j < 1 = d.places k j g in
          absurd (f.differ (e ∙ ap (λ (n : ℕ). some (some n)) (omega arith) ∙ sym g))

  -- "the earlier is the one that has the lowest node in which they differ"
  pub earlier_lowest : Earlier ms us ↔ ((k : ℕ) × FirstDifference ms us k × HasNode k ms)
  earlier_lowest =
      let w = earlier_words ms us in
      (λ h. earlier_has (w.0 h), λ h. w.1 (has_earlier h.0 h.1 h.2))

pub choices_compared : (n : ℕ) (face : Term) (ms us : Marks) → Choice n face ms → Choice n face us → Compared Earlier ms us
choices_compared n face ms us c d = earlier_compared ms us (c.long ∙ sym d.long)

pub choices_determined : (n : ℕ) (face : Term) (cs : List Marks)
    → Ordered Earlier cs → ((ms : Marks) → (ms ∈ cs) ↔ Choice n face ms) → cs ≡ choices n face
choices_determined n face cs o f =
    ordered_unique Earlier earlier_asymmetric cs (choices n face) o (choices_ordered n face)
    (λ ms. let g = choices_are n face ms in (λ m. g.1 ((f ms).0 m), λ m. (f ms).1 (g.0 m)))

pub rows_determined : (p : Problem) (rs : List Row) → Ordered EarlierRow rs → ((r : Row) → (r ∈ rs) ↔ IsRow p r) → rs ≡ rows p
rows_determined p rs o f =
    ordered_unique EarlierRow row_asymmetric rs (rows p) o (rows_ordered p)
    (λ r. let g = rows_are p r in (λ m. g.1 ((f r).0 m), λ m. (f r).1 (g.0 m)))

-- Each metavariable passes a test on what the text says of it, just when those do that have a field.
use mathlib.Core.Path.{◌≡◌, ap, sym, ◌∙◌}
use Prim.Native.Nat.{ℕ}
use mathlib.Core.Bool.{Bool, true, ◌||◌, false≢true}
use mathlib.Core.List.{List}
use Rattle.meaning.specs.Basics.{All, every, is_in, up_to, ◌∈◌}
use Rattle.meaning.specs.Limits.{metavariable_count}
use Rattle.meaning.specs.Readable.{ReadableItem}
use Rattle.meaning.specs.Text.{Item, numbers, said}
use Rattle.meaning.specs.Passing.{is_absent}
use Rattle.meaning.proofs.Lists.{all_mem, by_test, is_in_mem, map_mem, mem_is_in, mem_up_to, or_left}
use Rattle.meaning.proofs.FieldOrder.{said_nowhere}
use Rattle.masks.proofs.Cases.{same_truth}
use Rattle.entries.proofs.TestLaws.{every_at, at_every}

module _ (occurs : ℕ → Bool) (is : List Item) (r : All ReadableItem is) where
  abbrev is_known : ℕ → Bool
  is_known m = is_absent (said is m) || occurs m

  -- The numbers of fields are those of metavariables
  small : (m : ℕ) → m ∈ numbers is → m ∈ up_to metavariable_count
  small m q =
      let (i, k, e) = map_mem (λ (j : Item). j.0) m is q in
      rw e (mem_up_to metavariable_count i.0 (all_mem ReadableItem i is r k).0)

  pub known_items : every is_known (up_to metavariable_count) ≡ every is_known (numbers is)
  known_items = same_truth _ _ fields all
    where
      fields : every is_known (up_to metavariable_count) ≡ true → every is_known (numbers is) ≡ true
      fields e = at_every is_known (numbers is) (λ m q. every_at is_known (up_to metavariable_count) e m (small m q))

      all : every is_known (numbers is) ≡ true → every is_known (up_to metavariable_count) ≡ true
      all e =
          at_every is_known (up_to metavariable_count) (λ m q.
          by_test (is_in m (numbers is)) (λ i. every_at is_known (numbers is) e m (is_in_mem m (numbers is) i))
          (λ n. or_left (is_absent (said is m)) (occurs m)
          (ap is_absent (said_nowhere is m (λ i. false≢true (sym n ∙ mem_is_in m (numbers is) i))))))

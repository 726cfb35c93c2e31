-- Tests of each element of a list, and of each metavariable of a set.
use mathlib.Core.Path.{◌≡◌, ap, ◌∙◌}
use Prim.Native.Nat.{ℕ, ◌<◌}
use mathlib.Core.Bool.{Bool, true, false, ◌||◌, not, false≢true}
use mathlib.Core.List.{List}
use Rattle.meaning.specs.Limits.{metavariable_count}
use Rattle.meaning.specs.Basics.{every, is_in, up_to, ◌∈◌}
use Rattle.meaning.proofs.Lists.{T_true, true_T, by_test, or_right, is_in_mem, mem_is_in, all_mem, mem_all, every_all, all_every, mem_up_to}
use Rattle.meaning.proofs.Lists.{up_to_mem}
use Rattle.masks.proofs.Cases.{same_truth}
use Rattle.metavariables.specs.Survey.{has}
use Rattle.metavariables.proofs.BitLaws.{every_same}

module _ {A : Type 0} (p : A → Bool) (xs : List A) where
  pub every_at : every p xs ≡ true → (x : A) → x ∈ xs → p x ≡ true
  every_at e x q = all_mem (λ y. p y ≡ true) x xs (every_all p xs (true_T e)) q

  pub at_every : ((x : A) → x ∈ xs → p x ≡ true) → every p xs ≡ true
  at_every f = T_true (all_every p xs (mem_all (λ y. p y ≡ true) xs f))

pub implied : (a b : Bool) → a ≡ true → not a || b ≡ true → b ≡ true
implied true b e h = h
implied false b e h = absurd (false≢true e)

-- The elements of a list of numbers below n are among all numbers below n
every_among : (q : ℕ → Bool) (xs : List ℕ) (n : ℕ) → ((m : ℕ) → m ∈ xs → m < n)
    → every (λ m. not (is_in m xs) || q m) (up_to n) ≡ every q xs
every_among q xs n small = same_truth _ _ listed numbered
  where
    listed : every (λ m. not (is_in m xs) || q m) (up_to n) ≡ true → every q xs ≡ true
    listed e =
        at_every q xs (λ x i.
        implied (is_in x xs) (q x) (mem_is_in x xs i) (every_at (λ m. not (is_in m xs) || q m) (up_to n) e x (mem_up_to n x (small x i))))

    numbered : every q xs ≡ true → every (λ m. not (is_in m xs) || q m) (up_to n) ≡ true
    numbered e =
        at_every (λ m. not (is_in m xs) || q m) (up_to n) (λ m i.
        by_test (is_in m xs) (λ h. or_right (not (is_in m xs)) (q m) (every_at q xs e m (is_in_mem m xs h)))
        (λ h. ap (λ (b : Bool). not b || q m) h))

-- A test of each metavariable of the set that a list makes up
pub set_tests : (set : ℕ) (xs : List ℕ) → ((m : ℕ) → m ∈ xs → m < metavariable_count)
    → ((m : ℕ) → m < metavariable_count → has set m ≡ is_in m xs) → (p q : ℕ → Bool) → ((m : ℕ) → m ∈ xs → p m ≡ q m)
    → every (λ m. not (has set m) || p m) (up_to metavariable_count) ≡ every q xs
set_tests set xs small told p q same =
    every_same (λ m. not (has set m) || p m) (λ m. not (is_in m xs) || p m) (up_to metavariable_count)
    (λ m i. ap (λ (b : Bool). not b || p m) (told m (up_to_mem metavariable_count m i)))
    ∙ every_among p xs metavariable_count small
    ∙ every_same p q xs same

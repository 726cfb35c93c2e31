-- Which metavariables occur, from the pattern's tokens: as functions, and otherwise.
--   set       a set of numbers below some width as one number: m is in it where bit m, from the lowest, is 1
--   numbers   the numbers of the tokens of one tag, in order
use Rattle.std.specs.Prelude.{◌≡◌, ℕ, ◌/◌, ◌%◌, ◌^◌, ◌<◌, Bool, ◌&&◌, ◌||◌, not, List, [], ◌∷◌, length, eqb}
use Rattle.meaning.specs.Limits.{metavariable_count}
use Rattle.meaning.specs.Basics.{choose, keep, up_to, is_in, every}
use Rattle.tokens.specs.Token.{tag_in, payload_in}
use Rattle.metavariables.specs.declared.Occurring.{Occurring}

abbrev pub has : ℕ → ℕ → Bool
has s m = eqb (s / 2 ^ m % 2) 1

unfoldable pub numbers : ℕ → List ℕ → List ℕ
numbers g [] = []
numbers g (x ∷ xs) = choose (eqb (tag_in x) g) (payload_in x ∷ numbers g xs) (numbers g xs)

-- r is the set s with m as well, where a test is yes; a number that no metavariable has adds nothing
unfoldable pub Joined : ℕ → Bool → ℕ → ℕ → Type 0
Joined s test m r = (k : ℕ) → k < metavariable_count → has r k ≡ (test && eqb k m) || has s k

pub record Surveyed (ts : List ℕ) (r : Occurring) : Type 0 where
  pub functions : (m : ℕ) → m < metavariable_count → has r.functions m ≡ is_in m (numbers 6 ts)
  pub plain : (m : ℕ) → m < metavariable_count → has r.plain m ≡ is_in m (numbers 5 ts)

-- Whether two sets meet, and how many there are in a set
unfoldable pub meets : ℕ → ℕ → ℕ → Bool
meets w s t = not (every (λ m. not (has s m && has t m)) (up_to w))

unfoldable pub count : ℕ → ℕ → ℕ
count w s = length (keep (has s) (up_to w))

-- The functions of a pattern's table, ascending, and whether a metavariable occurs both ways
unfoldable pub functions_in : List ℕ → List ℕ
functions_in ps = keep (λ m. is_in m (numbers 6 ps)) (up_to metavariable_count)

unfoldable pub both_in : List ℕ → Bool
both_in ps = not (every (λ m. not (is_in m (numbers 6 ps) && is_in m (numbers 5 ps))) (up_to metavariable_count))

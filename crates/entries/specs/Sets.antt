-- Sets of metavariables, each as one number: m is in it where bit m is 1 (`has`).
--   SetOf    r is the set of the metavariables that pass a test
--   within   each metavariable of one set is in another
use Rattle.std.specs.Prelude.{◌≡◌, ℕ, ◌<◌, Bool, ◌||◌, not}
use Rattle.meaning.specs.Limits.{metavariable_count}
use Rattle.meaning.specs.Basics.{every, up_to}
use Rattle.metavariables.specs.Survey.{has}

unfoldable pub SetOf : (ℕ → Bool) → ℕ → Type 0
SetOf test r = (m : ℕ) → m < metavariable_count → has r m ≡ test m

unfoldable pub within : ℕ → ℕ → Bool
within inner outer = every (λ m. not (has inner m) || has outer m) (up_to metavariable_count)

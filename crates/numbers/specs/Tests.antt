-- What the search asks of the nodes of a table of expressions, whoever answers it.
--   Tests     two tests. `same`: whether the subterms at two nodes are equal. `uses`: whether the subterm at a node has a variable that is
--             bound outside it, and inside a root at binder depth d
--   Beneath   s binders lie above both of two nodes: no node from one to the other is less deep
--   Tells     the tests say what the table does, of two nodes wherever each binder outside the first that it uses lies above the second too.
--             Elsewhere keys tell nothing (the caveat of `tokens`), and whoever asks owes that it is so
--   told      the tests by numbers: T-08's "in the search equality becomes equality of numbers"
-- A number is one word: the first node that is equal to the node, and 65536 times the level of the innermost binder outside that it uses
-- (0 where it uses none). Equal nodes use the same binders, so that two numbers are the same just when their first nodes are.
use Rattle.std.specs.Prelude.{◌≡◌, ℕ, ◌/◌, ◌<◌, ◌≤◌, min, max, Bool, false, not, List, length, eqb, ltb}
use Rattle.tokens.specs.Token.{depth_in}
use Rattle.tokens.specs.Key.{at, same_at, uses_at}

pub record Tests : Type 0 where
  pub same : ℕ → ℕ → Bool
  pub uses : ℕ → ℕ → Bool

-- No variable of the subterm is bound outside it
abbrev pub closed_by : Tests → ℕ → Bool
closed_by q a = not (q.uses a 0)

abbrev pub Beneath : List ℕ → ℕ → ℕ → ℕ → Type 0
Beneath t s a b = (y : ℕ) → min a b ≤ y → y ≤ max a b → s ≤ depth_in (at t y)

pub record Tells (t : List ℕ) (q : Tests) : Type 0 where
  pub uses : (a d : ℕ) → a < length t → q.uses a d ≡ uses_at t a d
  pub same : (s a b : ℕ) → a < length t → b < length t → Beneath t s a b → uses_at t a s ≡ false → q.same a b ≡ same_at t a b

abbrev pub level_in : ℕ → ℕ
level_in n = n / 65536

abbrev pub told : List ℕ → Tests
told ns = record { same = λ a b. eqb (at ns a) (at ns b); uses = λ a d. ltb d (level_in (at ns a)) }

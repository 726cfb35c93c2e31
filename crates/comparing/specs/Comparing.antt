-- What comparing two nodes of a problem's expressions promises (T-02).
--   Nested       a table through which one can go from subterm to subterm: each lies in it, and none of its nodes is less deep than its root
--   Between      the nodes from one of two nodes to the other, both counted
--   Shared       how many binders lie above both of two nodes: the least depth of a node between them
--   ComparedIn   the comparison of two nodes of one table
--   Present      the same of two numbers, if they are nodes of the table
--   Judged       what `meaning` says of two nodes, each of which may be missing
--   Compares     the answer for any bytes and any two numbers
use Rattle.std.specs.Prelude.{◌≡◌, ℕ, ◌+◌, ◌<◌, ◌≤◌, min, max, List, length, Result, Ok, Err, Some, None}
use Rattle.std.specs.Prelude as std
use Rattle.std.proofs.Math.Option.{Option, none, some}
use Rattle.std.proofs.Math.ListN.{get_elem?}
use Rattle.meaning.specs.Problem.{Problem}
use Rattle.meaning.specs.Equal.{View}
use Rattle.meaning.specs.Choice.{Owner}
use Rattle.meaning.specs.Read.{Answer, refused, got}
use Rattle.meaning.specs.Compare.{Comparison, subexpressions}
use Rattle.tokens.specs.Token.{depth_in, size_in}
use Rattle.tokens.specs.Key.{at, compared_across}
use Rattle.tokens.specs.declared.same.Compared.{Compared}
use Rattle.refusal.specs.Number.{number}
use Rattle.refusal.specs.declared.Refusal.{Refusal}

pub record Nested (t : List ℕ) : Type 0 where
  pub counted : (k : ℕ) → k < length t → 1 ≤ size_in (at t k)
  pub ends : (k : ℕ) → k < length t → k + size_in (at t k) ≤ length t
  pub deep : (k y : ℕ) → k < length t → k ≤ y → y < k + size_in (at t k) → depth_in (at t k) ≤ depth_in (at t y)

abbrev pub Between : ℕ → ℕ → ℕ → Type 0
Between a b y = (min a b ≤ y) × (y ≤ max a b)

pub record Shared (t : List ℕ) (a b s : ℕ) : Type 0 where
  pub least : (y : ℕ) → Between a b y → s ≤ depth_in (at t y)
  pub node : ℕ
  pub between : Between a b node
  pub reached : depth_in (at t node) ≡ s

pub record ComparedIn (t : List ℕ) (a b : ℕ) (r : Compared) : Type 0 where
  pub above : ℕ
  pub shared : Shared t a b above
  pub compared : r ≡ compared_across t a t b above

-- The same of two numbers that may be no node of the table
pub record Present (t : List ℕ) (a b : ℕ) (r : std.Option Compared) : Type 0 where
  pub first : length t ≤ a → r ≡ None
  pub second : length t ≤ b → r ≡ None
  pub both : a < length t → b < length t → (c : Compared) × (r ≡ Some c) × ComparedIn t a b c

unfoldable pub Judged : Option (View Owner) → Option (View Owner) → std.Option Compared → Type 0
Judged none w r = r ≡ None
Judged (some u) none r = r ≡ None
Judged (some u) (some v) r = (c : Compared) × (r ≡ Some c) × Comparison u v c.equal c.pairs

-- A refusal is document 01's, with its number; any other answer is of the problem that document 01 accepts
unfoldable pub Compares : Answer Problem → ℕ → ℕ → Result (std.Option Compared) Refusal → Type 0
Compares x a b (Err r) = x ≡ refused (number r)
Compares x a b (Ok c) = (p : Problem) × (x ≡ got p) × Judged (get_elem? (subexpressions p) a) (get_elem? (subexpressions p) b) c

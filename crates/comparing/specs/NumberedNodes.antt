-- What numbering the nodes of a problem's expressions promises (T-08).
--   NumbersNodes   the answer for any bytes: "a number, the same for two nodes exactly when their subexpressions are equal" (`Numbers`)
use Rattle.std.specs.Prelude.{◌≡◌, ℕ, ◌≤◌, List, length, take, Result, Ok, Err}
use Rattle.meaning.specs.Problem.{Problem}
use Rattle.meaning.specs.Read.{Answer, refused, got}
use Rattle.meaning.specs.Compare.{Numbers}
use Rattle.refusal.specs.Number.{number}
use Rattle.refusal.specs.declared.Refusal.{Refusal}

-- A refusal is document 01's, with its number; any other answer is of the problem that document 01 accepts
unfoldable pub NumbersNodes : Answer Problem → List ℕ → Result ℕ Refusal → Type 0
NumbersNodes x ns (Err r) = x ≡ refused (number r)
NumbersNodes x ns (Ok n) = (p : Problem) × (x ≡ got p) × (n ≤ length ns) × Numbers p (take n ns)

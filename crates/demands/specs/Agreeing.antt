-- Demands that agree.
--   Agreeing     of each metavariable, all demands have the term of the first, and that is closed
--   agree_after   the same as a test, one demand after the other
use Rattle.std.specs.Prelude.{◌≡◌, ℕ, Bool, true, ◌&&◌, List, [], ◌∷◌, ◌++◌}
use Rattle.std.proofs.Math.Option.{Option, none, some}
use Rattle.meaning.specs.Basics.{◌∈◌}
use Rattle.meaning.specs.Term.{one}
use Rattle.meaning.specs.Shift.{ClosedTerm}
use Rattle.meaning.specs.Value.{Source, lookup}
use Rattle.meaning.specs.Same.{same_terms}
use Rattle.meaning.specs.ClosedTest.{is_closed}

pub record Agreeing (ds : List Source) : Type 0 where
  pub same : (d : Source) → d ∈ ds → (s : Source) × (lookup d.number ds ≡ some s) × (s.term ≡ d.term)
  -- "Values and bodies have no variable bound outside themselves"
  pub closed : (m : ℕ) (s : Source) → lookup m ds ≡ some s → ClosedTerm s.term

-- One demand against the first of its metavariable, if there is one before it
abbrev pub agrees_with : Option Source → Source → Bool
agrees_with none d = is_closed 0 (one d.term)
agrees_with (some s) d = same_terms (one s.term) (one d.term)

-- ks are the demands before
abbrev pub agree_after : List Source → List Source → Bool
agree_after ks [] = true
agree_after ks (d ∷ ds) = agrees_with (lookup d.number ks) d && agree_after (ks ++ (d ∷ [])) ds

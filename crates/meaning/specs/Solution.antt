-- Solutions, as the section "Fillings" has them.
--   needs    a standing that needs a value: alone, or in an argument of a function whose body has the hole for it
--   idle     a metavariable none of whose standings needs a value: it "stands only in such arguments"
use Rattle.std.specs.Prelude.{◌≡◌, ℕ, Bool, true, false, ◌||◌, ◌⊎◌, eqb}
use Rattle.meaning.specs.Basics.{◌∈◌}
use Rattle.meaning.specs.Term.{IsExpression, Term, Terms, cons, function, hole, metavariable, nil, one, own, slot}
use Rattle.meaning.specs.Problem.{Problem, Where, alone, applied, argument_of, both_ways, expressions, patterns, places_of, plain}
use Rattle.meaning.specs.Problem.{standings}
use Rattle.meaning.specs.Shift.{ClosedTerm}
use Rattle.meaning.specs.Filling.{Filling, IsBody, absent, body, body_or, filled, left_open, value}

-- Whether a body has a hole for argument i
abbrev pub has_hole : ℕ → Terms → Bool
has_hole i nil = false
has_hole i (cons (own o) c s) = has_hole i c || has_hole i s
has_hole i (cons (slot (metavariable m)) c s) = has_hole i c || has_hole i s
has_hole i (cons (slot (function f n)) c s) = has_hole i c || has_hole i s
has_hole i (cons (slot (hole j)) c s) = eqb i j || (has_hole i c || has_hole i s)

abbrev pub needs : Filling → Where → Bool
needs σ alone = true
needs σ (argument_of f i) = has_hole i (one (body_or f (σ f)))

abbrev pub Idle : Problem → Filling → ℕ → Type 0
Idle p σ m = (w : Where) → (m, w) ∈ standings (patterns p) → needs σ w ≡ false

-- "A solution is a filling of just the metavariables that occur"; "Values and bodies have no variable bound outside themselves"
pub record Solution (p : Problem) (σ : Filling) : Type 0 where
  -- T-09: a problem that uses a letter both ways "has by definition no solutions"
  pub one_way : both_ways p ≡ false
  -- "each filled pattern equals its expression"
  pub meets : filled σ (patterns p) ≡ expressions p
  -- "each function metavariable a body"
  pub bodies : (f : ℕ) → f ∈ applied (patterns p) → (b : Term) × (σ f ≡ body b) × IsBody (places_of p f) (one b) × ClosedTerm b
  -- "each other metavariable an expression or nothing (open)"
  pub values : (m : ℕ) → m ∈ plain (patterns p) → (σ m ≡ left_open) ⊎ ((t : Term) × (σ m ≡ value t) × IsExpression (one t) × ClosedTerm t)
  -- "just the metavariables that occur"
  pub others : (m : ℕ) → (m ∈ applied (patterns p) → ⊥) → (m ∈ plain (patterns p) → ⊥) → σ m ≡ absent
  -- "an open metavariable stands only in arguments of functions whose body has no hole"
  pub open_idle : (m : ℕ) → σ m ≡ left_open → Idle p σ m
  -- "a metavariable that stands only in such arguments is open"
  pub idle_open : (m : ℕ) → m ∈ plain (patterns p) → Idle p σ m → σ m ≡ left_open

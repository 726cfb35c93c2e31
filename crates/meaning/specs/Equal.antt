-- Equality of document 01: "Two terms are equal when they differ at most in the names of bound variables. Binder numbers, symbol
-- numbers and numbers of children must agree. So must free variables by number, and those bound outside both terms by their binder."
--   view     a term as it is seen from outside: a variable is free, bound inside the term, or bound outside by a certain binder
--   who      which binder an index that reaches out of the term belongs to: the binder's identity, of any type
-- Two terms are equal when their views are. For two whole terms nothing is bound outside, and the view says what `nameless` says.
use Rattle.std.specs.Prelude.{◌≡◌, ℕ, ◌-◌, ltb, []}
use Rattle.meaning.specs.Basics.{choose}
use Rattle.meaning.specs.Term.{Forest, Label, NamedTerm, Term, Terms, Variable, bound, free, inner, one, relabel}
use Rattle.meaning.specs.Scope.{nameless_term}
use Rattle.meaning.specs.Shift.{with_variable}

-- A variable seen from outside its term, W the identities of binders
pub data Seen (W : Type 0) : Type 0 where
  seen_free : ℕ → Seen W
  inside : ℕ → Seen W
  outside : W → Seen W

abbrev pub see : {W : Type 0} → (ℕ → W) → ℕ → Variable → Seen W
see who k (free x) = seen_free x
see who k (bound i) = choose (ltb i k) (inside i) (outside (who (i - k)))

abbrev pub View : Type 0 → Type 0
View W = Forest (Label (Seen W) (Unit {0}))

abbrev pub view : {W : Type 0} → (ℕ → W) → Terms → View W
view who u = relabel inner (λ k. with_variable (see who k)) 0 u

-- Equality of two terms, each with the binders outside it
abbrev pub Equal : {W : Type 0} → (ℕ → W) → (ℕ → W) → Term → Term → Type 0
Equal {W} who who' t u = ◌≡◌ {A = View W} (view who (one t)) (view who' (one u))

-- Equality of two whole terms as the bytes have them
abbrev pub EqualWhole : NamedTerm → NamedTerm → Type 0
EqualWhole t u = nameless_term [] t ≡ nameless_term [] u

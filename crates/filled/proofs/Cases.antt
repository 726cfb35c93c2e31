-- Which case of a test applies.
use mathlib.Core.Path.{◌≡◌, ap, ◌∙◌}
use mathlib.Core.List.{List}
use Prim.Native.Nat.{ℕ, ◌+◌}
use borrow.Author.Tests.{eq-eqb, ne_eqb}
use Rattle.meaning.proofs.Lists.{choose_true, choose_false}
use Rattle.tokens.specs.Token.{tag_in}
use Rattle.tokens.specs.Key.{at}
use Rattle.lockstep.specs.Walk.{pattern_node, expression_node}
use Rattle.std.specs.Prelude.{Option}
use Rattle.said.specs.Said.{field_of}
use Rattle.said.specs.declared.Field.{Field}
use Rattle.said.specs.declared.Said.{Said}
use Rattle.filled.specs.Filled.{value_in, value_at, number_at, faced_value_at, body_in, application_at, face_at}

-- The value that the text gives a metavariable, by its field
pub value_says : (ts : List ℕ) (s : Said) (es : List ℕ) (m j : ℕ) (f : Option Field) → field_of s m ≡ f
    → value_at ts s es m j ≡ value_in ts f es j
unfolding value_at
value_says ts s es m j f e = ap (λ (o : Option Field). value_in ts o es j) e

module _ (ps es ts : List ℕ) (s : Said) (n : ℕ) where
  -- The body that it gives a function, by its field
  pub body_says : (m : ℕ) → number_at ps n ≡ m → (f : Option Field) → field_of s m ≡ f
      → application_at ps es ts s n ≡ body_in ps es ts s f (pattern_node n + 1) (expression_node n)
  unfolding application_at
  body_says m k f e =
      ap (λ (o : Option Field). body_in ps es ts s o (pattern_node n + 1) (expression_node n)) (ap (field_of s) k ∙ e)

  -- The face of a metavariable, and that of an application
  pub plain_face : (tag_in (at ps (pattern_node n)) ≡ 6 → ⊥) → face_at ps es ts s n ≡ faced_value_at ps es ts s n
  unfolding face_at
  plain_face h = choose_false (application_at ps es ts s n) (faced_value_at ps es ts s n) (ne_eqb (tag_in (at ps (pattern_node n))) 6 h)

  pub applied_face : tag_in (at ps (pattern_node n)) ≡ 6 → face_at ps es ts s n ≡ application_at ps es ts s n
  unfolding face_at
  applied_face e = choose_true (application_at ps es ts s n) (faced_value_at ps es ts s n) (eq-eqb (tag_in (at ps (pattern_node n))) 6 e)

-- "No variable of a value, body or argument is ever caught": filling with names and no index.
-- Patterns and a filling, written with bound names that catch nothing, are filled as the text stands; what that gives equals the
-- expressions, up to bound names, just when the filling by indices does. And there are always such bound names.
use mathlib.Core.Path.{◌≡◌, refl, ap₂, sym, ◌∙◌, subst, fun_ext}
use mathlib.Core.Logic.{◌↔◌, ◌⊎◌, inl, inr}
use Prim.Native.Nat.{ℕ, zero, suc}
use mathlib.Core.Bool.{false}
use mathlib.Core.List.{[]}
use Rattle.meaning.specs.Basics.{◌∈◌}
use Rattle.meaning.specs.Term.{Forest, IsExpression, Named, NamedTerm, Term, Terms, application, binder, bound, graft, hole, nil, one, own}
use Rattle.meaning.specs.Term.{slot, symbol, variable}
use Rattle.meaning.specs.Scope.{nameless}
use Rattle.meaning.specs.Shift.{ClosedTerm}
use Rattle.meaning.specs.Rename.{Alpha}
use Rattle.meaning.specs.Problem.{Problem, named_patterns, named_expressions, patterns, expressions, applied}
use Rattle.meaning.specs.Filling.{Entry, absent, left_open, value, body, Filling, filled, plug}
use Rattle.meaning.specs.Solution.{Solution}
use Rattle.meaning.specs.Textual.{is_free, NamedFilling, textual, UncaughtIn, Uncaught, meant_by, ClosedEntry, Spelling, Respelling}
use Rattle.meaning.specs.Case.{var, all, box, equals, not_caught}
use Rattle.meaning.proofs.Lists.{never}
use Rattle.meaning.proofs.Proper.{by_role}
use Rattle.meaning.proofs.Renaming.{alpha_nameless, nameless_alpha}
use Rattle.meaning.proofs.ViewLaws.{nameless_closed}
use Rattle.meaning.proofs.TextualLaws.{textual_filled}
use Rattle.meaning.proofs.Uncaught.{spellings_exist}
use Rattle.meaning.proofs.AlphaTexts.{alpha_meant}

-- Whatever the spelling, filling as the text stands means the filled patterns
pub spelled_filled : (u : Terms) (σ : Filling) (s : Spelling u σ) → nameless [] (textual s.filling s.pattern) ≡ filled σ u
spelled_filled u σ s = textual_filled s.filling s.pattern s.uncaught ∙ ap₂ filled s.filling_means s.pattern_means

-- "each filled pattern equals its expression", with names
pub meets_textual : (p : Problem) (σ : Filling) (s : Spelling (patterns p) σ)
    → (filled σ (patterns p) ≡ expressions p) ↔ Alpha (textual s.filling s.pattern) (named_expressions p)
meets_textual p σ s =
    let e : nameless [] (textual s.filling s.pattern) ≡ filled σ (patterns p) = spelled_filled (patterns p) σ s in (
      λ m. nameless_alpha (textual s.filling s.pattern) (named_expressions p) [] (e ∙ m),
      λ a. sym e ∙ alpha_nameless (textual s.filling s.pattern) (named_expressions p) a [],
    )

-- Every problem, with every closed filling, has such a spelling, so every solution has
pub problem_spelled : (p : Problem) (σ : Filling) → ((m : ℕ) → ClosedEntry (σ m)) → Spelling (patterns p) σ
problem_spelled p σ closed = spellings_exist (patterns p) σ (nameless_closed [] (named_patterns p)) closed

solution_closed : (p : Problem) (σ : Filling) → Solution p σ → (m : ℕ) → ClosedEntry (σ m)
solution_closed p σ s m = by_role p m as_function (λ i. as_other_lem (s.values m i)) (λ nf nv. is absent (s.others m nf nv) tt)
  where
    is : (x : Entry Term) → σ m ≡ x → ClosedEntry x → ClosedEntry (σ m)
    is x e c = subst ClosedEntry (sym e) c

    as_function : m ∈ applied (patterns p) → ClosedEntry (σ m)
    as_function i = let (b, e, _, c) = s.bodies m i in is (body b) e c

    as_other_lem : (σ m ≡ left_open) ⊎ ((t : Term) × (σ m ≡ value t) × IsExpression (one t) × ClosedTerm t) → ClosedEntry (σ m)
    as_other_lem (inl e) = is left_open e tt
    as_other_lem (inr (t, e, _, c)) = is (value t) e c

pub solution_spelled : (p : Problem) (σ : Filling) → Solution p σ → Spelling (patterns p) σ
solution_spelled p σ s = problem_spelled p σ (solution_closed p σ s)

-- "bound names are changed first where they would catch one": whatever change it is, it comes to the filling by indices
pub respelled_filled : (u : Forest Named) (τ : NamedFilling) (r : Respelling u τ)
    → nameless [] (textual r.filling r.pattern) ≡ filled (meant_by τ) (nameless [] u)
respelled_filled u τ r =
    let entries = fun_ext (λ (m : ℕ). sym (alpha_meant (τ m) (r.filling m) (r.same_filling m))) in
    textual_filled r.filling r.pattern r.uncaught
    ∙ ap₂ filled entries (sym (alpha_nameless u r.pattern r.same_pattern []))

-- Document 01's example "(P(X), ∀y.y=z) .. with (P(Y), ∀w.w=y)": P is ∀y.y=□ with the bound name that y has here, X is z, Y is y
abbrev written : ℕ → NamedFilling
written y zero = body (all y (equals (var y) box))
written y (suc zero) = value (var 5)
written y (suc (suc m)) = value (var 4)

-- With the name that the problem has, 4, the y that Y is would be caught
pub careless_caught : ¬ (nameless [] (textual (written 4) (named_patterns not_caught.problem)) ≡ expressions not_caught.problem)
careless_caught e = never (cc)

-- as filling by indices does not
pub indices_keep : filled (meant_by (written 4)) (patterns not_caught.problem) ≡ expressions not_caught.problem
indices_keep = refl

-- and `Uncaught` says so
pub careless_refused : ¬ Uncaught (written 4) (named_patterns not_caught.problem)
careless_refused a = careless_caught (textual_filled (written 4) (named_patterns not_caught.problem) a ∙ indices_keep)

-- With another it stays free: "Y is y, not caught"
avoided : (arguments : ℕ → NamedTerm) → is_free 6 (one (arguments 0)) ≡ false → UncaughtIn (all 6 (equals (var 6) box)) arguments
avoided arguments e = (tt, (tt, (tt, tt, (tt, tt, ((e, tt), tt, tt))), tt), tt)

pub renamed_uncaught : Uncaught (written 6) (named_patterns not_caught.problem)
renamed_uncaught = ((tt, avoided (λ i. var 5) refl), (tt, tt, tt), ((tt, avoided (λ i. var 4) refl), (tt, tt, tt), tt))

pub renamed_fills : nameless [] (textual (written 6) (named_patterns not_caught.problem)) ≡ expressions not_caught.problem
renamed_fills = refl

-- A variable that is bound outside a body is not caught either: the body ∀w.w=□ with it as argument
abbrev outer : ℕ → Term
outer i = (own (variable (bound i)), nil)

abbrev equals_self : Term → Term
equals_self t = (own (binder 1 tt), one (own (application 3), graft (own (symbol 10), nil) (graft (outer 0) (one t))))

pub argument_not_caught : plug (λ i. outer 0) (equals_self (slot (hole 0), nil)) ≡ equals_self (outer 1)
argument_not_caught = refl

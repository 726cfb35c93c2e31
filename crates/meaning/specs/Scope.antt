-- From names to binders.
--   scope     the bound names of the binders around a node, the innermost first
--   nameless  a term with each variable resolved: "A variable belongs to the nearest enclosing binder of its number, else it is free."
use Rattle.std.specs.Prelude.{ℕ, suc, List, [], ◌∷◌, eqb}
use Rattle.meaning.specs.Basics.{choose, if_some}
use Rattle.meaning.specs.Term.{Forest, Named, NamedTerm, Nameless, Term, Terms, Variable, application, binder, binder_of, bound, free}
use Rattle.meaning.specs.Term.{own, relabel, slot, symbol, variable}

-- The variable x, when i binders lie between it and the scope that is left to search
abbrev pub resolve : List ℕ → ℕ → ℕ → Variable
resolve [] i x = free x
resolve (y ∷ ys) i x = choose (eqb x y) (bound i) (resolve ys (suc i) x)

abbrev pub enter : Named → List ℕ → List ℕ
enter l sc = if_some (binder_of l) (λ x ys. x ∷ ys) sc

abbrev pub nameless_label : List ℕ → Named → Nameless
nameless_label sc (own (symbol n)) = own (symbol n)
nameless_label sc (own (variable x)) = own (variable (resolve sc 0 x))
nameless_label sc (own (application n)) = own (application n)
nameless_label sc (own (binder b x)) = own (binder b tt)
nameless_label sc (slot z) = slot z

abbrev pub nameless : List ℕ → Forest Named → Terms
nameless sc u = relabel enter nameless_label sc u

abbrev pub nameless_term : List ℕ → NamedTerm → Term
nameless_term sc t = (nameless_label sc t.0, nameless (enter t.0 sc) t.1)

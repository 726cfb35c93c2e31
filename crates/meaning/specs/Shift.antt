-- Moving a nameless term under more binders.
--   shift n k   n more binders around a term that has k of its own around it: the indices from k on rise by n
--   closed k    no index reaches past the k binders around the term: "no variable bound outside themselves" is closed 0
use Rattle.std.specs.Prelude.{ℕ, ◌+◌, ◌<◌, ltb}
use Rattle.meaning.specs.Basics.{AllOf, choose}
use Rattle.meaning.specs.Term.{Label, Nameless, Term, Terms, Variable, application, binder, bound, cons, free, inner, nil, one, own}
use Rattle.meaning.specs.Term.{relabel, slot, symbol, variable, variable_of}

-- A label with another variable in place of its own
abbrev pub with_variable : {X Y B : Type 0} → (X → Y) → Label X B → Label Y B
with_variable f (own (symbol n)) = own (symbol n)
with_variable f (own (variable v)) = own (variable (f v))
with_variable f (own (application n)) = own (application n)
with_variable f (own (binder b x)) = own (binder b x)
with_variable f (slot z) = slot z

abbrev pub raise : ℕ → ℕ → Variable → Variable
raise n k (free x) = free x
raise n k (bound i) = choose (ltb i k) (bound i) (bound (i + n))

abbrev pub shift_label : ℕ → ℕ → Nameless → Nameless
shift_label n k l = with_variable (raise n k) l

abbrev pub shift : ℕ → ℕ → Terms → Terms
shift n k u = relabel inner (shift_label n) k u

abbrev pub shift_term : ℕ → Term → Term
shift_term n t = (shift_label n 0 t.0, shift n (inner t.0 0) t.1)

abbrev pub ClosedVariable : ℕ → Variable → Type 0
ClosedVariable k (free x) = Unit {0}
ClosedVariable k (bound i) = i < k

abbrev pub ClosedLabel : ℕ → Nameless → Type 0
ClosedLabel k l = AllOf (ClosedVariable k) (variable_of l)

abbrev pub Closed : ℕ → Terms → Type 0
Closed k nil = Unit {0}
Closed k (cons l c s) = ClosedLabel k l × Closed (inner l k) c × Closed k s

abbrev pub ClosedTerm : Term → Type 0
ClosedTerm t = Closed 0 (one t)

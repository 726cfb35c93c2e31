-- Fillings, and how they fill.
--   Handler   what stands, under k binders of the term that is filled, for a slot with its filled children
--   plug      a body with its holes filled: "Filling m(t) puts the filled t in each hole of m's body"
--   Filling   what each metavariable is given
-- "No variable of a value, body or argument is ever caught": an argument under k binders of the body is shifted past them, and
-- values and bodies are closed, so that they need no shift.
use Rattle.std.specs.Prelude.{◌≡◌, ℕ, zero, suc, ◌<◌}
use Rattle.meaning.specs.Term.{Forest, Label, Nameless, Slot, Term, Terms, Tree, cons, function, graft, hole, inner, metavariable}
use Rattle.meaning.specs.Term.{nil, own, slot}
use Rattle.meaning.specs.Shift.{shift_term}

abbrev pub Handler : Type 0
Handler = ℕ → Slot → Terms → Term

abbrev pub fill_label : Handler → ℕ → Nameless → Terms → Term
fill_label h k (own o) c = (own o, c)
fill_label h k (slot z) c = h k z c

abbrev pub fill : Handler → ℕ → Terms → Terms
fill h k nil = nil
fill h k (cons l c s) = graft (fill_label h k l (fill h (inner l k) c)) (fill h k s)

abbrev pub fill_term : Handler → ℕ → Term → Term
fill_term h k t = fill_label h k t.0 (fill h (inner t.0 k) t.1)

-- Hole i under k binders of the body gets argument i, moved under these
abbrev pub plug_handler : (ℕ → Term) → Handler
plug_handler arguments k (metavariable m) c = (slot (metavariable m), c)
plug_handler arguments k (function f n) c = (slot (function f n), c)
plug_handler arguments k (hole i) c = shift_term k (arguments i)

abbrev pub plug : (ℕ → Term) → Term → Term
plug arguments b = fill_term (plug_handler arguments) 0 b

-- Argument i of a function application, by its children
abbrev pub argument : {X B : Type 0} → Forest (Label X B) → ℕ → Tree (Label X B)
argument nil i = (slot (hole i), nil)
argument (cons l c s) zero = (l, c)
argument (cons l c s) (suc i) = argument s i

-- "each function metavariable a body, and each other metavariable an expression or nothing (open)"; T is what terms are
pub data Entry (T : Type 0) : Type 0 where
  absent : Entry T
  left_open : Entry T
  value : T → Entry T
  body : T → Entry T

abbrev pub Filling : Type 0
Filling = ℕ → Entry Term

-- A metavariable without a value, and a function without a body, stay as they are
abbrev pub value_or : {X B : Type 0} → ℕ → Entry (Tree (Label X B)) → Tree (Label X B)
value_or m absent = (slot (metavariable m), nil)
value_or m left_open = (slot (metavariable m), nil)
value_or m (value t) = t
value_or m (body t) = (slot (metavariable m), nil)

abbrev pub body_or : {X B : Type 0} → ℕ → Entry (Tree (Label X B)) → Tree (Label X B)
body_or f absent = (slot (function f 0), nil)
body_or f left_open = (slot (function f 0), nil)
body_or f (value t) = (slot (function f 0), nil)
body_or f (body b) = b

abbrev pub fill_handler : Filling → Handler
fill_handler σ k (metavariable m) c = value_or m (σ m)
fill_handler σ k (function f n) c = plug (argument c) (body_or f (σ f))
fill_handler σ k (hole i) c = (slot (hole i), c)

-- Patterns filled
abbrev pub filled : Filling → Terms → Terms
filled σ u = fill (fill_handler σ) 0 u

-- "A body is an expression with 0 or more holes": of n places
abbrev pub BodyLabel : ℕ → Nameless → Terms → Type 0
BodyLabel n (own o) c = Unit {0}
BodyLabel n (slot (metavariable m)) c = ⊥
BodyLabel n (slot (function f a)) c = ⊥
BodyLabel n (slot (hole i)) c = (i < n) × (c ≡ nil)

abbrev pub IsBody : ℕ → Terms → Type 0
IsBody n nil = Unit {0}
IsBody n (cons l c s) = BodyLabel n l c × IsBody n c × IsBody n s

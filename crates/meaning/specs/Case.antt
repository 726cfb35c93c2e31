-- The starred examples of document 01, and those of the source documents 001 and 000, as problems with what each must give.
--   Case    a problem, by its constraints, with the number of its rows and the texts of its solutions
-- Notation for terms as they are written in document 01: capitals are metavariables, P and Q functions.
use Rattle.std.specs.Prelude.{ℕ, List, [], ◌∷◌, length}
use Rattle.meaning.specs.Term.{NamedTerm, application, binder, function, hole, metavariable, nil, one, own, slot, symbol, variable}
use Rattle.meaning.specs.Problem.{Constraint, Problem, forest_of}
use Rattle.meaning.specs.Filling.{body, left_open, value}
use Rattle.meaning.specs.Text.{Item}

pub record Case : Type 0 where
  pub problem : Problem
  pub row_count : ℕ
  -- in row order
  pub texts : List (List Item)

abbrev sym : ℕ → NamedTerm
sym n = (own (symbol n), nil)

abbrev pub var : ℕ → NamedTerm
var x = (own (variable x), nil)

abbrev app : List NamedTerm → NamedTerm
app ts = (own (application (length ts)), forest_of ts)

-- "∀x.t": binder 1
abbrev pub all : ℕ → NamedTerm → NamedTerm
all x t = (own (binder 1 x), one t)

abbrev meta : ℕ → NamedTerm
meta m = (slot (metavariable m), nil)

abbrev call : ℕ → NamedTerm → NamedTerm
call f t = (slot (function f 1), one t)

abbrev pub box : NamedTerm
box = (slot (hole 0), nil)

abbrev infixed : ℕ → NamedTerm → NamedTerm → NamedTerm
infixed op t u = app (sym op ∷ t ∷ u ∷ [])

-- Equations, sums, inequations, conjunctions by the number of their symbol
abbrev pub equals : NamedTerm → NamedTerm → NamedTerm
equals t u = infixed 10 t u

abbrev plus : NamedTerm → NamedTerm → NamedTerm
plus t u = infixed 11 t u

abbrev unequal : NamedTerm → NamedTerm → NamedTerm
unequal t u = infixed 12 t u

abbrev and : NamedTerm → NamedTerm → NamedTerm
and t u = infixed 13 t u

abbrev con : NamedTerm → NamedTerm → Constraint
con p e = record { pattern = p; expression = e }

abbrev P : NamedTerm → NamedTerm
P t = call 0 t

abbrev X : NamedTerm
X = meta 1

abbrev Y : NamedTerm
Y = meta 2

abbrev body_p : NamedTerm → Item
body_p t = (0, body t)

abbrev is_x : NamedTerm → Item
is_x t = (1, value t)

abbrev open_x : Item
open_x = (1, left_open)

abbrev is_y : NamedTerm → Item
is_y t = (2, value t)

-- "no constraint: one solution, empty text"
abbrev pub no_constraint : Case
no_constraint = record { problem = []; row_count = 1; texts = [] ∷ [] }

-- "(P(X), s), s symbol 5, P 0, X 1"
abbrev pub one_symbol : Case
one_symbol = record {
  problem = con (P X) (sym 5) ∷ [];
  row_count = 2;
  texts = (body_p box ∷ is_x (sym 5) ∷ []) ∷ (body_p (sym 5) ∷ open_x ∷ []) ∷ [];
}

-- "(X, a), (X, b): none"
abbrev pub two_values : Case
two_values = record { problem = con X (sym 6) ∷ con X (sym 7) ∷ []; row_count = 1; texts = [] }

-- "(P(1), 1+1): □+□, □+1, 1+□, 1+1, in this order"
abbrev pub one_plus_one : Case
one_plus_one = record {
  problem = con (P (sym 1)) (plus (sym 1) (sym 1)) ∷ [];
  row_count = 6;
  texts = (body_p (plus box box) ∷ []) ∷ (body_p (plus box (sym 1)) ∷ []) ∷ (body_p (plus (sym 1) box) ∷ []) ∷ (body_p (plus (sym 1) (sym 1)) ∷ []) ∷ [];
}

-- "001's example 3, (P(1)∧P(2), 0≠1∧0≠2): only 0≠□"
abbrev pub two_applications : Case
two_applications = record {
  problem = con (and (P (sym 1)) (P (sym 2))) (and (unequal (sym 0) (sym 1)) (unequal (sym 0) (sym 2))) ∷ [];
  row_count = 5;
  texts = (body_p (unequal (sym 0) box) ∷ []) ∷ [];
}

-- "(∀x.X, ∀y.y): none"
abbrev pub bound_value : Case
bound_value = record { problem = con (all 3 X) (all 4 (var 4)) ∷ []; row_count = 1; texts = [] }

-- "(∀x.P(x), ∀y.a): only the body a"
abbrev pub unused_variable : Case
unused_variable = record { problem = con (all 3 (P (var 3))) (all 4 (sym 6)) ∷ []; row_count = 2; texts = (body_p (sym 6) ∷ []) ∷ [] }

-- "(P(X), ∀y.y=z): holes at the root, at =, at z, none"
abbrev pub under_binder : Case
under_binder = record {
  problem = con (P X) (all 4 (equals (var 4) (var 5))) ∷ [];
  row_count = 4;
  texts =
      (body_p box ∷ is_x (all 4 (equals (var 4) (var 5))) ∷ [])
      ∷ (body_p (all 4 (app (box ∷ var 4 ∷ var 5 ∷ []))) ∷ is_x (sym 10) ∷ [])
      ∷ (body_p (all 4 (equals (var 4) box)) ∷ is_x (var 5) ∷ [])
      ∷ (body_p (all 4 (equals (var 4) (var 5))) ∷ open_x ∷ [])
      ∷ [];
}

-- "the same with (P(Y), ∀w.w=y): two, root and z; Y is y, not caught"
abbrev pub not_caught : Case
not_caught = record {
  problem = con (P X) (all 4 (equals (var 4) (var 5))) ∷ con (P Y) (all 6 (equals (var 6) (var 4))) ∷ [];
  row_count = 4;
  texts =
      (body_p box ∷ is_x (all 4 (equals (var 4) (var 5))) ∷ is_y (all 6 (equals (var 6) (var 4))) ∷ [])
      ∷ (body_p (all 4 (equals (var 4) box)) ∷ is_x (var 5) ∷ is_y (var 4) ∷ [])
      ∷ [];
}

-- Source document 001: its wrapper w, and the symbols of its examples
abbrev wrapped : List NamedTerm → NamedTerm
wrapped ts = app (sym 20 ∷ ts)

abbrev exists : ℕ → NamedTerm → NamedTerm
exists x t = (own (binder 2 x), one t)

abbrev squared : NamedTerm → NamedTerm
squared t = infixed 21 t (sym 2)

abbrev cubed : NamedTerm → NamedTerm
cubed t = infixed 21 t (sym 3)

abbrev less : NamedTerm → NamedTerm → NamedTerm
less t u = infixed 22 t u

abbrev implies : NamedTerm → NamedTerm → NamedTerm
implies t u = infixed 23 t u

abbrev square_above : NamedTerm → NamedTerm
square_above t = less (sym 0) (plus (squared t) (sym 1))

abbrev next_below : NamedTerm → NamedTerm
next_below t = less (plus t (sym 1)) (sym 5)

abbrev is_cube_root : NamedTerm → NamedTerm
is_cube_root t = equals (cubed t) (sym 24)

-- Example 1: (X∧Y, a∧(b∨c))
abbrev pub conjunction : Case
conjunction = record {
  problem = con (and X Y) (and (sym 6) (infixed 14 (sym 7) (sym 8))) ∷ [];
  row_count = 1;
  texts = (is_x (sym 6) ∷ is_y (infixed 14 (sym 7) (sym 8)) ∷ []) ∷ [];
}

-- Example 2: ((X+Y)·(X-Y), (3+k)·(3-p)): none
abbrev pub two_differences : Case
two_differences = record {
  problem = con (infixed 15 (plus X Y) (infixed 16 X Y)) (infixed 15 (plus (sym 3) (var 1)) (infixed 16 (sym 3) (var 2))) ∷ [];
  row_count = 1;
  texts = [];
}

-- "001's table, its first pattern read as P(x): one"
abbrev pub table_first : Case
table_first = record {
  problem = con (wrapped (all 3 (P (var 3)) ∷ P X ∷ [])) (wrapped (all 4 (square_above (var 4)) ∷ square_above (sym 9) ∷ [])) ∷ [];
  row_count = 11;
  texts = (body_p (square_above box) ∷ is_x (sym 9) ∷ []) ∷ [];
}

-- The second of the table
abbrev pub table_second : Case
table_second = record {
  problem = con (wrapped (wrapped (X ∷ P X ∷ []) ∷ all 3 (P (var 3)) ∷ [])) (wrapped (wrapped (var 7 ∷ next_below (var 7) ∷ []) ∷ all 4 (next_below (var 4)) ∷ [])) ∷ [];
  row_count = 8;
  texts = (body_p (next_below box) ∷ is_x (var 7) ∷ []) ∷ [];
}

-- "third: none": the x that the second line binds
abbrev pub table_third : Case
table_third = record {
  problem = con
      (wrapped (exists 3 (P (var 3)) ∷ all 4 (implies (P (var 4)) X) ∷ X ∷ []))
      (wrapped (exists 3 (is_cube_root (var 3)) ∷ all 3 (implies (is_cube_root (var 3)) (less (var 3) (sym 5))) ∷ less (var 3) (sym 5) ∷ []))
      ∷ [];
  row_count = 8;
  texts = [];
}

-- Which spelling is written. A value comes from an occurrence outside arguments, though one in an argument stands before it
abbrev self : ℕ → NamedTerm
self x = all x (var x)

abbrev pub outside_spelling : Case
outside_spelling = record {
  problem = con (P X) (self 4) ∷ con X (self 5) ∷ [];
  row_count = 2;
  texts = (body_p box ∷ is_x (self 5) ∷ []) ∷ (body_p (self 4) ∷ is_x (self 5) ∷ []) ∷ [];
}

-- Of two holes that are equal up to bound names, the lowest one's names
abbrev pub lowest_spelling : Case
lowest_spelling = record {
  problem = con (P X) (equals (self 4) (self 5)) ∷ [];
  row_count = 6;
  texts =
      (body_p box ∷ is_x (equals (self 4) (self 5)) ∷ [])
      ∷ (body_p (app (box ∷ self 4 ∷ self 5 ∷ [])) ∷ is_x (sym 10) ∷ [])
      ∷ (body_p (equals box box) ∷ is_x (self 4) ∷ [])
      ∷ (body_p (equals box (self 5)) ∷ is_x (self 4) ∷ [])
      ∷ (body_p (equals (self 4) box) ∷ is_x (self 5) ∷ [])
      ∷ (body_p (equals (self 4) (self 5)) ∷ open_x ∷ [])
      ∷ [];
}

-- (∀x.X, ∀y.x): the x on the right is free, so X is x
abbrev pub free_name : Case
free_name = record { problem = con (all 3 X) (all 4 (var 3)) ∷ []; row_count = 1; texts = (is_x (var 3) ∷ []) ∷ [] }

-- (∀x.P(x), ∀y.y): the choice without a hole is a row, and no solution, since its body would have a variable bound outside itself
abbrev pub only_bound : Case
only_bound = record { problem = con (all 3 (P (var 3))) (all 4 (var 4)) ∷ []; row_count = 2; texts = (body_p box ∷ []) ∷ [] }

-- (P(X)∧Q(X), a∧b): where P's body has no hole, the value comes from Q's
abbrev Q : NamedTerm → NamedTerm
Q t = call 3 t

abbrev body_q : NamedTerm → Item
body_q t = (3, body t)

abbrev pub second_application : Case
second_application = record {
  problem = con (and (P X) (Q X)) (and (sym 6) (sym 7)) ∷ [];
  row_count = 4;
  texts =
      (body_p box ∷ is_x (sym 6) ∷ body_q (sym 7) ∷ [])
      ∷ (body_p (sym 6) ∷ is_x (sym 7) ∷ body_q box ∷ [])
      ∷ (body_p (sym 6) ∷ open_x ∷ body_q (sym 7) ∷ [])
      ∷ [];
}

-- T-05: (P(X), f(s, t)), (X, s) with s symbol 65,541, in four bytes, and t symbol 5, its low half: they are not equal
abbrev pub both_widths : Case
both_widths = record {
  problem = con (P X) (app (sym 65541 ∷ sym 5 ∷ [])) ∷ con X (sym 65541) ∷ [];
  row_count = 4;
  texts =
      (body_p (app (box ∷ sym 5 ∷ [])) ∷ is_x (sym 65541) ∷ [])
      ∷ (body_p (app (sym 65541 ∷ sym 5 ∷ [])) ∷ is_x (sym 65541) ∷ [])
      ∷ [];
}

-- T-09: "(P(P), a)", which no rule in the catalogue fits
abbrev pub letter_both_ways : Case
letter_both_ways = record { problem = con (P (meta 0)) (sym 6) ∷ []; row_count = 0; texts = [] }

-- Source document 000, section 8, with w for its ρ. A rule's bound variables are bound variables here, not metavariables
-- Example 1, "conjunction introduction": A is X and B is Y
abbrev root_equation : NamedTerm
root_equation = equals (plus (squared (var 3)) (sym 1)) (sym 0)

abbrev is_five : NamedTerm
is_five = equals (var 4) (sym 5)

abbrev pub conjunction_introduced : Case
conjunction_introduced = record {
  problem = con (wrapped (X ∷ Y ∷ and X Y ∷ [])) (wrapped (root_equation ∷ is_five ∷ and root_equation is_five ∷ [])) ∷ [];
  row_count = 1;
  texts = (is_x root_equation ∷ is_y is_five ∷ []) ∷ [];
}

-- Example 2, "universal elimination": t is X; "the only way" is P as v⁴ ≥ 0 and t as -0.1, minus applied to 0.1
abbrev fourth_power : NamedTerm → NamedTerm
fourth_power t = infixed 25 (infixed 21 t (sym 4)) (sym 0)

abbrev minus_tenth : NamedTerm
minus_tenth = app (sym 16 ∷ sym 27 ∷ [])

abbrev pub universal_eliminated : Case
universal_eliminated = record {
  problem = con
      (wrapped (all 3 (P (var 3)) ∷ P X ∷ []))
      (wrapped (all 3 (fourth_power (var 3)) ∷ fourth_power minus_tenth ∷ []))
      ∷ [];
  row_count = 8;
  texts = (body_p (fourth_power box) ∷ is_x minus_tenth ∷ []) ∷ [];
}

-- Example 3, "existential elimination": Q is X. What 000 finds "does not respect free variables", and its section 7 would "filter it out"
abbrev divides : NamedTerm → NamedTerm → NamedTerm
divides t u = infixed 26 t u

abbrev divides_term : NamedTerm → NamedTerm
divides_term t = divides t (infixed 16 (infixed 15 (sym 3) (var 7)) (sym 2))

abbrev pub existential_eliminated : Case
existential_eliminated = record {
  problem = con
      (wrapped (exists 3 (P (var 3)) ∷ all 4 (implies (P (var 4)) X) ∷ X ∷ []))
      (wrapped (exists 5 (divides_term (var 5)) ∷ all 6 (implies (divides_term (var 6)) (divides (var 6) (var 8))) ∷ divides (var 6) (var 8) ∷ []))
      ∷ [];
  row_count = 11;
  texts = [];
}

-- Example 4, "equality elimination": a is X and b is Y; "judged an invalid use of the rule"
abbrev pub equality_eliminated : Case
equality_eliminated = record {
  problem = con
      (wrapped (equals X Y ∷ P X ∷ P Y ∷ []))
      (wrapped (equals (var 7) (sym 7) ∷ equals (squared (sym 7)) (squared (var 7)) ∷ equals (squared (var 7)) (squared (sym 7)) ∷ []))
      ∷ [];
  row_count = 13;
  texts = [];
}

abbrev pub further : List Case
further =
    outside_spelling ∷ lowest_spelling ∷ conjunction ∷ two_differences ∷ table_first ∷ table_second ∷ table_third
    ∷ free_name ∷ only_bound ∷ second_application ∷ []

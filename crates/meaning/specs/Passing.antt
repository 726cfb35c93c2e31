-- The checker's test. It is yes exactly for the texts that pass (`passes_is_right`), so that nobody has to believe it.
--   both_ways   T-09: "the checker says no to every well-formed text"
--   known    no metavariable that does not occur
--   kinds    a body for each function, a value or nothing for each other metavariable
--   open_unneeded, unneeded_open   open just where no value is needed
--   meets    each filled pattern equals its expression
-- The parts stand apart, since an editor will ask which of them fails.
use Rattle.std.specs.Prelude.{ℕ, Bool, true, false, ◌&&◌, ◌||◌, not, List, eqb, ltb}
use Rattle.meaning.specs.Basics.{every}
use Rattle.meaning.specs.Term.{Nameless, Term, Terms, cons, function, hole, metavariable, nil, one, own, slot}
use Rattle.meaning.specs.Problem.{Problem, Standing, applied, both_ways, expressions, is_function, is_plain, patterns, places_of, plain}
use Rattle.meaning.specs.Problem.{standings}
use Rattle.meaning.specs.Filling.{Entry, Filling, absent, body, filled, left_open, value}
use Rattle.meaning.specs.Solution.{needs}
use Rattle.meaning.specs.Text.{Item, numbers, said}
use Rattle.meaning.specs.Same.{same_terms}
use Rattle.meaning.specs.ClosedTest.{is_closed}

-- A body of n places, and an expression: a body of none
abbrev pub is_body_label : ℕ → Nameless → Terms → Bool
is_body_label n (own o) c = true
is_body_label n (slot (metavariable m)) c = false
is_body_label n (slot (function f k)) c = false
is_body_label n (slot (hole i)) nil = ltb i n
is_body_label n (slot (hole i)) (cons l c s) = false

abbrev pub is_body : ℕ → Terms → Bool
is_body n nil = true
is_body n (cons l c s) = is_body_label n l c && (is_body n c && is_body n s)

abbrev pub is_whole : ℕ → Term → Bool
is_whole n t = is_body n (one t) && is_closed 0 (one t)

-- "each function metavariable a body, and each other metavariable an expression or nothing (open)"
abbrev pub is_body_entry : ℕ → Entry Term → Bool
is_body_entry n absent = false
is_body_entry n left_open = false
is_body_entry n (value t) = false
is_body_entry n (body b) = is_whole n b

abbrev pub is_value_entry : Entry Term → Bool
is_value_entry absent = false
is_value_entry left_open = true
is_value_entry (value t) = is_whole 0 t
is_value_entry (body b) = false

abbrev pub is_open : Entry Term → Bool
is_open absent = false
is_open left_open = true
is_open (value t) = false
is_open (body b) = false

abbrev pub is_absent : Entry Term → Bool
is_absent absent = true
is_absent left_open = false
is_absent (value t) = false
is_absent (body b) = false

-- Whether one of the standings of m needs a value
abbrev pub is_needed : Filling → List Standing → ℕ → Bool
is_needed σ ws m = not (every (λ (w : Standing). not (eqb m w.0 && needs σ w.1)) ws)

abbrev pub known : Problem → List Item → Bool
known p is = every (λ m. is_absent (said is m) || (is_function p m || is_plain p m)) (numbers is)

abbrev pub kinds : Problem → Filling → Bool
kinds p σ = every (λ f. is_body_entry (places_of p f) (σ f)) (applied (patterns p)) && every (λ m. is_value_entry (σ m)) (plain (patterns p))

-- "an open metavariable stands only in arguments of functions whose body has no hole"
abbrev pub open_unneeded : Problem → Filling → Bool
open_unneeded p σ = every (λ (w : Standing). not (is_open (σ w.0) && needs σ w.1)) (standings (patterns p))

-- "a metavariable that stands only in such arguments is open"
abbrev pub unneeded_open : Problem → Filling → Bool
unneeded_open p σ = every (λ m. is_open (σ m) || is_needed σ (standings (patterns p)) m) (plain (patterns p))

abbrev pub meets : Problem → Filling → Bool
meets p σ = same_terms (filled σ (patterns p)) (expressions p)

unfoldable pub passes : Problem → List Item → Bool
passes p is =
    not (both_ways p)
    && (known p is && (kinds p (said is) && (open_unneeded p (said is) && (unneeded_open p (said is) && meets p (said is)))))

-- A problem: its constraints, and what occurs in them.
--   patterns, expressions   the constraints' terms, resolved; the two forests are walked and compared tree by tree
--   places                  the arguments that a function has, and for which its body has holes
--   Standing                where a metavariable that is no function stands: alone, or in an argument of a function
--   functions               the metavariables that are applied, ascending: "by ascending metavariable number"
--   both_ways                a letter "stands both as a function and alone" (T-09)
use Rattle.std.specs.Prelude.{ℕ, suc, Bool, ◌&&◌, ◌||◌, not, List, [], ◌∷◌, ◌++◌, map, eqb}
use Rattle.meaning.specs.Limits.{metavariable_count}
use Rattle.meaning.specs.Basics.{choose, every, is_in, keep, up_to}
use Rattle.meaning.specs.Term.{Forest, Named, NamedTerm, Terms, Tree, cons, function, graft, hole, metavariable, nil, one, own, slot}
use Rattle.meaning.specs.Scope.{nameless}

-- "the pattern term, the expression term"
pub record Constraint : Type 0 where
  pub pattern : NamedTerm
  pub expression : NamedTerm

abbrev pub Problem : Type 0
Problem = List Constraint

abbrev pub forest_of : {L : Type 0} → List (Tree L) → Forest L
forest_of [] = nil
forest_of (t ∷ ts) = graft t (forest_of ts)

abbrev pub named_patterns : Problem → Forest Named
named_patterns p = forest_of (map (λ (c : Constraint). c.pattern) p)

abbrev pub named_expressions : Problem → Forest Named
named_expressions p = forest_of (map (λ (c : Constraint). c.expression) p)

abbrev pub patterns : Problem → Terms
patterns p = nameless [] (named_patterns p)

abbrev pub expressions : Problem → Terms
expressions p = nameless [] (named_expressions p)

-- Metavariables that are no function, in preorder
abbrev pub plain : Terms → List ℕ
plain nil = []
plain (cons (own o) c s) = plain c ++ plain s
plain (cons (slot (metavariable m)) c s) = m ∷ plain s
plain (cons (slot (function f n)) c s) = plain c ++ plain s
plain (cons (slot (hole i)) c s) = plain s

-- Function applications, in preorder: the function, and how many arguments it has there
abbrev pub applications : Terms → List (ℕ × ℕ)
applications nil = []
applications (cons (own o) c s) = applications c ++ applications s
applications (cons (slot (metavariable m)) c s) = applications s
applications (cons (slot (function f n)) c s) = (f, n) ∷ (applications c ++ applications s)
applications (cons (slot (hole i)) c s) = applications s

-- Functions, in preorder
abbrev pub applied : Terms → List ℕ
applied u = map (λ (a : ℕ × ℕ). a.0) (applications u)

-- How many arguments the first application of f has
abbrev pub places_among : ℕ → List (ℕ × ℕ) → ℕ
places_among f [] = 0
places_among f (a ∷ rest) = choose (eqb f a.0) a.1 (places_among f rest)

pub data Where : Type 0 where
  alone : Where
  -- in an argument of this function, at this place
  argument_of : ℕ → ℕ → Where

abbrev pub Standing : Type 0
Standing = ℕ × Where

-- The standings in the arguments c of f, the first of which has the place i
abbrev pub in_arguments : ℕ → ℕ → Terms → List Standing
in_arguments f i nil = []
in_arguments f i (cons l c s) = map (λ (m : ℕ). (m, argument_of f i)) (plain (one (l, c))) ++ in_arguments f (suc i) s

abbrev pub standings : Terms → List Standing
standings nil = []
standings (cons (own o) c s) = standings c ++ standings s
standings (cons (slot (metavariable m)) c s) = (m, alone) ∷ standings s
standings (cons (slot (function f n)) c s) = in_arguments f 0 c ++ standings s
standings (cons (slot (hole i)) c s) = standings s

abbrev pub is_function : Problem → ℕ → Bool
is_function p m = is_in m (applied (patterns p))

-- A function's number of places
unfoldable pub places_of : Problem → ℕ → ℕ
places_of p f = places_among f (applications (patterns p))

abbrev pub is_plain : Problem → ℕ → Bool
is_plain p m = is_in m (plain (patterns p))

unfoldable pub functions : Problem → List ℕ
functions p = keep (is_function p) (up_to metavariable_count)

-- T-09: "a rule in which P stands both as a function and alone"
unfoldable pub both_ways : Problem → Bool
both_ways p = not (every (λ m. not (is_function p m && is_plain p m)) (up_to metavariable_count))

-- "one field for each metavariable that occurs, ascending"
unfoldable pub metavariables : Problem → List ℕ
metavariables p = keep (λ m. is_function p m || is_plain p m) (up_to metavariable_count)

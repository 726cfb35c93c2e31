-- Subexpressions compared (T-02): the worked examples.
--   Compared   expressions, two of their nodes, and what comparing these must give
use mathlib.Core.Path.{◌≡◌, refl}
use Prim.Native.Nat.{ℕ}
use mathlib.Core.Bool.{Bool, true, false}
use mathlib.Core.List.{List, [], ◌∷◌}
use mathlib.Core.Option.{Option, some}
use lib.ListN.{length, get_elem?}
use Rattle.meaning.specs.Basics.{All, and_then}
use Rattle.meaning.specs.Term.{NamedTerm, application, binder, nil, one, own, symbol, variable}
use Rattle.meaning.specs.Scope.{nameless}
use Rattle.meaning.specs.Problem.{forest_of}
use Rattle.meaning.specs.Equal.{View}
use Rattle.meaning.specs.Choice.{Owner, views_from}
use Rattle.meaning.specs.Choices.{same_owned}
use Rattle.meaning.specs.Compare.{pairs_of}

abbrev s : ℕ → NamedTerm
s n = (own (symbol n), nil)

abbrev v : ℕ → NamedTerm
v x = (own (variable x), nil)

abbrev app : List NamedTerm → NamedTerm
app ts = (own (application (length ts)), forest_of ts)

abbrev all : ℕ → NamedTerm → NamedTerm
all x t = (own (binder 1 x), one t)

pub record Compared : Type 0 where
  pub expressions : List NamedTerm
  pub first : ℕ
  pub second : ℕ
  pub equal : Bool
  pub count : ℕ

abbrev compared : List NamedTerm → ℕ → ℕ → Bool → ℕ → Compared
compared es a b e n = record { expressions = es; first = a; second = b; equal = e; count = n }

-- Yes by the test that is right (`same_owned_eq`, `same_owned_refl`), and the number of pairs
abbrev given : Compared → Option (Bool × ℕ)
given c =
    let us = views_from [] 0 (nameless [] (forest_of c.expressions)) in
    and_then (get_elem? us c.first) (λ (u : View Owner). and_then (get_elem? us c.second) (λ (w : View Owner). some (same_owned u w, pairs_of u w)))

abbrev Holds : Compared → Type 0
Holds c = given c ≡ some (c.equal, c.count)

-- ∀x.(x ∀y.(x s3)): node 0 is ∀x, 3 is ∀y, 2 and 5 are x
abbrev nested : List NamedTerm
nested = all 0 (app (v 0 ∷ all 1 (app (v 0 ∷ s 3 ∷ [])) ∷ [])) ∷ []

-- (∀x.x) (∀y.y): 1 and 3 are the binders, 2 and 4 their variables
abbrev two_selves : List NamedTerm
two_selves = app (all 0 (v 0) ∷ all 1 (v 1) ∷ []) ∷ []

-- ((s1 s2) (s1 s3)): 1 and 4 are the two parts
abbrev last_differs : List NamedTerm
last_differs = app (app (s 1 ∷ s 2 ∷ []) ∷ app (s 1 ∷ s 3 ∷ []) ∷ []) ∷ []

-- ∀x.∀y.(x y), ∀y.∀x.(y x) and ∀x.∀y.(y x), of three constraints: nodes 0, 5 and 10
abbrev swapped : List NamedTerm
swapped = all 0 (all 1 (app (v 0 ∷ v 1 ∷ []))) ∷ all 1 (all 0 (app (v 1 ∷ v 0 ∷ []))) ∷ all 0 (all 1 (app (v 1 ∷ v 0 ∷ []))) ∷ []

-- ((s1) (s1 s1)) and ∀x.(x x'), where x' is free: 1 and 3 are the parts of the first, 7 the application of the second
abbrev others : List NamedTerm
others = app (app (s 1 ∷ []) ∷ app (s 1 ∷ s 1 ∷ []) ∷ []) ∷ all 0 (app (v 0 ∷ v 1 ∷ [])) ∷ []

abbrev compareds : List Compared
compareds =
    -- "a variable bound inside one of the two and outside the other disagrees"
    compared nested 0 3 false 3
    -- bound outside both by one binder
    ∷ compared nested 2 5 true 1
    -- a node against itself
    ∷ compared nested 0 0 true 7
    ∷ compared nested 4 4 true 3
    -- bound outside by two binders of one depth, and inside each by its own
    ∷ compared two_selves 2 4 false 1
    ∷ compared two_selves 1 3 true 2
    -- the last pair, the first, and one between
    ∷ compared last_differs 1 4 false 3
    ∷ compared last_differs 3 6 false 1
    ∷ compared last_differs 0 4 false 2
    -- only bound names differ; bound names agree and binders do not
    ∷ compared swapped 0 5 true 5
    ∷ compared swapped 0 10 false 4
    ∷ compared swapped 5 10 false 4
    -- child counts; a variable bound outside and a free one; two free ones of one number
    ∷ compared others 1 3 false 1
    ∷ compared others 8 9 false 1
    ∷ compared others 9 9 true 1
    ∷ []

pub compareds_hold : All Holds compareds
unfolding pairs_of
compareds_hold =
    (refl, (refl, (refl, (refl, (refl, (refl, (refl, (refl, (refl, (refl, (refl, (refl, (refl, (refl, (refl, tt)))))))))))))))

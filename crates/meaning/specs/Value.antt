-- Where the values of a row come from.
--   Source    a metavariable, and a node of the expressions whose subexpression it stands for
--   sources   those of a row, in the order in which they are asked: the first of a metavariable's is the one that its value is copied from
use Rattle.std.specs.Prelude.{ℕ, Bool, false, List, [], ◌∷◌, ◌++◌, eqb}
use Rattle.std.proofs.Math.Option.{Option, none, some}
use Rattle.meaning.specs.Basics.{and_then, choose, each, or_none, up_to}
use Rattle.meaning.specs.Term.{Slot, Term, function, hole, metavariable, one}
use Rattle.meaning.specs.Problem.{Problem}
use Rattle.meaning.specs.Filling.{argument}
use Rattle.meaning.specs.Face.{Face, faces, walk}
use Rattle.meaning.specs.Row.{Row, row_body}
use Rattle.meaning.specs.Lower.{lower_term}

pub record Source : Type 0 where
  pub number : ℕ
  pub node : ℕ
  pub term : Term

-- What a metavariable faces
abbrev pub source_at : Slot → ℕ → Term → List Source
source_at (metavariable m) n t = record { number = m; node = n; term = t } ∷ []
source_at (function f a) n t = []
source_at (hole i) n t = []

abbrev pub source_of : Face → List Source
source_of x = source_at x.what x.node x.term

-- "at the position of the body's lowest hole"
abbrev pub is_hole : ℕ → Slot → Bool
is_hole i (metavariable m) = false
is_hole i (function f n) = false
is_hole i (hole j) = eqb i j

abbrev pub lowest_hole : ℕ → List Face → Option Face
lowest_hole i [] = none
lowest_hole i (x ∷ xs) = choose (is_hole i x.what) (some x) (lowest_hole i xs)

-- The argument's metavariables against the subexpression at a hole h, without the binders of the body above it; k binders are above
-- the application
abbrev pub from_hole : ℕ → Term → Option Face → List Source
from_hole k t none = []
from_hole k t (some h) = each source_of (or_none (and_then (lower_term h.under h.term) (λ u. walk k h.node (one t) (one u))))

-- "in the subexpression which this application faces", for each place in turn
abbrev pub from_application : (ℕ → Term) → Face → Slot → List Source
from_application b x (metavariable m) = []
from_application b x (function f n) =
    each (λ i. from_hole x.under (argument x.children i) (lowest_hole i (or_none (walk 0 x.node (one (b f)) (one x.term))))) (up_to n)
from_application b x (hole i) = []

-- "A value comes from the metavariable's first occurrence outside arguments, else from the first application whose function has a hole
-- and whose argument has that metavariable"
abbrev pub sources_in : (ℕ → Term) → List Face → List Source
sources_in b xs = each source_of xs ++ each (λ x. from_application b x x.what) xs

abbrev pub sources : Problem → Row → List Source
sources p r = sources_in (row_body p r) (or_none (faces p))

abbrev pub lookup : ℕ → List Source → Option Source
lookup m [] = none
lookup m (x ∷ xs) = choose (eqb m x.number) (some x) (lookup m xs)

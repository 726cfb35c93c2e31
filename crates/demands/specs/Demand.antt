-- What a row demands of the metavariables.
--   demand              a metavariable, and a node of the expressions whose subexpression it must stand for: a `Source`
--   application_lowest   of one application: what its arguments demand at the lowest hole of each place
--   lowest_demands       of a row: those of the plain faces in order, then those of the applications in order; none where a walk fails
use Rattle.std.specs.Prelude.{ℕ, List, [], ◌∷◌}
use Rattle.std.proofs.Math.Option.{Option, none, some}
use Rattle.meaning.specs.Basics.{each, up_to, and_then, join}
use Rattle.meaning.specs.Term.{one, Slot, metavariable, function, hole, Term}
use Rattle.meaning.specs.Problem.{Problem}
use Rattle.meaning.specs.Filling.{argument}
use Rattle.meaning.specs.Face.{Face, walk, faces}
use Rattle.meaning.specs.Row.{Row, row_body}
use Rattle.meaning.specs.Value.{Source, source_of, lowest_hole}
use Rattle.meaning.specs.Lower.{lower_term}

-- A list for each element, joined in order; none if one of them has none
abbrev pub each_some : {A B : Type 0} → (A → Option (List B)) → List A → Option (List B)
each_some f [] = some []
each_some f (x ∷ xs) = join (f x) (each_some f xs)

-- Every metavariable that a walk meets demands what it faces
abbrev pub sources_met : Option (List Face) → Option (List Source)
sources_met o = and_then o (λ ys. some (each source_of ys))

-- What a hole holds, without the binders of the body above it; none where one of these is used
abbrev pub lowered : Face → Option Term
lowered h = lower_term h.under h.term

-- At a hole h, with k binders above the application: the argument t against what the hole holds; none where the shapes disagree
abbrev pub hole_demands : ℕ → Term → Face → Option (List Source)
hole_demands k t h = and_then (lowered h) (λ u. sources_met (walk k h.node (one t) (one u)))

-- A place without a hole demands nothing: "an open metavariable stands only in arguments of functions whose body has no hole"
abbrev pub lowest_demand : ℕ → Term → Option Face → Option (List Source)
lowest_demand k t none = some []
lowest_demand k t (some h) = hole_demands k t h

-- Of place i of an application, where its body's holes are hs: "at the position of the body's lowest hole"
abbrev pub place_demands : Face → List Face → ℕ → Option (List Source)
place_demands x hs i = lowest_demand x.under (argument x.children i) (lowest_hole i hs)

-- "in the subexpression which this application faces", for each of the n places in turn
abbrev pub application_lowest : Term → ℕ → Face → Option (List Source)
application_lowest b n x = and_then (walk 0 x.node (one b) (one x.term)) (λ hs. each_some (place_demands x hs) (up_to n))

abbrev pub slot_lowest : (ℕ → Term) → Face → Slot → Option (List Source)
slot_lowest b x (metavariable m) = some []
slot_lowest b x (function f n) = application_lowest (b f) n x
slot_lowest b x (hole i) = some []

-- "the metavariable's first occurrence outside arguments, else .. the first application"
abbrev pub lowest_in : (ℕ → Term) → List Face → Option (List Source)
lowest_in b xs = join (some (each source_of xs)) (each_some (λ x. slot_lowest b x x.what) xs)

unfoldable pub lowest_demands : Problem → Row → Option (List Source)
lowest_demands p r = and_then (faces p) (lowest_in (row_body p r))

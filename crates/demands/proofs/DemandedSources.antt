-- What a row demands are document 01's sources, in their order: the first demand of a metavariable is where its value comes from.
use mathlib.Core.Path.{◌≡◌, ap, ap₂, sym, ◌∙◌}
use Prim.Native.Nat.{ℕ}
use mathlib.Core.List.{List, ◌++◌}
use mathlib.Core.Option.{Option, none, some}
use Rattle.meaning.specs.Basics.{each, up_to, and_then, or_none}
use Rattle.meaning.specs.Term.{one, Slot, metavariable, function, hole, Term}
use Rattle.meaning.specs.Problem.{Problem}
use Rattle.meaning.specs.Filling.{argument}
use Rattle.meaning.specs.Face.{Face, walk, faces}
use Rattle.meaning.specs.Row.{Row, row_body}
use Rattle.meaning.specs.Value.{Source, source_of, lowest_hole, from_hole, from_application, sources_in, sources}
use Rattle.demands.specs.Demand.{each_some, sources_met, lowered, hole_demands, lowest_demand, place_demands, slot_lowest, lowest_in}
use Rattle.demands.specs.Demand.{lowest_demands}
use Rattle.demands.proofs.Answers.{then_some, joined, each-some-is}

met_sources : (o : Option (List Face)) (ds : List Source) → sources_met o ≡ some ds → ds ≡ each source_of (or_none o)
met_sources none ds e = cc
met_sources (some ys) ds e = cc

hole_sources : (k : ℕ) (t : Term) (h : Face) (ds : List Source) → hole_demands k t h ≡ some ds → ds ≡ from_hole k t (some h)
hole_sources k t h ds e =
    let (u, l, w) = then_some (lowered h) (λ u. sources_met (walk k h.node (one t) (one u))) ds e in
    met_sources (walk k h.node (one t) (one u)) ds w
    ∙ ap (λ (o : Option Term). each source_of (or_none (and_then o (λ v. walk k h.node (one t) (one v))))) (sym l)

lowest_sources : (k : ℕ) (t : Term) (o : Option Face) (ds : List Source) → lowest_demand k t o ≡ some ds → ds ≡ from_hole k t o
lowest_sources k t none ds e = cc
lowest_sources k t (some h) ds e = hole_sources k t h ds e

slot_sources : (b : ℕ → Term) (x : Face) (z : Slot) (ds : List Source) → slot_lowest b x z ≡ some ds → ds ≡ from_application b x z
slot_sources b x (metavariable m) ds e = cc
slot_sources b x (hole i) ds e = cc
slot_sources b x (function f n) ds e =
    let (hs, w, q) = then_some (walk 0 x.node (one (b f)) (one x.term)) (λ hs. each_some (place_demands x hs) (up_to n)) ds e in
    each-some-is (place_demands x hs) (λ i. from_place (some hs) i) (up_to n) ds
    (λ i es r. lowest_sources x.under (argument x.children i) (lowest_hole i hs) es r) q
    ∙ ap (λ (o : Option (List Face)). each (λ i. from_place o i) (up_to n)) (sym w)
  where
    from_place : Option (List Face) → ℕ → List Source
    from_place o i = from_hole x.under (argument x.children i) (lowest_hole i (or_none o))

in_sources : (b : ℕ → Term) (xs : List Face) (ds : List Source) → lowest_in b xs ≡ some ds → ds ≡ sources_in b xs
in_sources b xs ds e =
    let (us, vs, d, q, w) = joined (some (each source_of xs)) (each_some (λ x. slot_lowest b x x.what) xs) ds e in
    w ∙ ap₂ (λ (y z : List Source). y ++ z) (let s : us ≡ each source_of xs = cc in s)
    (each-some-is (λ x. slot_lowest b x x.what) (λ x. from_application b x x.what) xs vs (λ x es r. slot_sources b x x.what es r) q)

-- THE DEMANDS ARE THE SOURCES
pub demands_are_sources : (p : Problem) (r : Row) (ds : List Source) → lowest_demands p r ≡ some ds → ds ≡ sources p r
unfolding lowest_demands
demands_are_sources p r ds e =
    let (xs, d, q) = then_some (faces p) (lowest_in (row_body p r)) ds e in
    in_sources (row_body p r) xs ds q ∙ ap (λ (o : Option (List Face)). sources_in (row_body p r) (or_none o)) (sym d)

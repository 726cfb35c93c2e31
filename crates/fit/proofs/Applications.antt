-- One application: the code's test of it is that its body suits what it faces, with the demands at the lowest hole.
use mathlib.Core.Path.{◌≡◌, ap, sym, ◌∙◌, subst}
use mathlib.Core.Logic.{◌↔◌, ◌⊎◌, inl, inr}
use mathlib.Core.Bool.{true}
use mathlib.Core.List.{List, [], ◌∷◌, ◌++◌, append-nil}
use mathlib.Core.Option.{Option, none, some}
use Prim.Native.Nat.{ℕ, zero, suc, ◌^◌, ◌<◌, ◌≤◌}
use native.Mathlib.Nat.{one-mul}
use native.Mathlib.Omega.{arith}
use lib.ListN.{length, get_elem?}
use lib.Pow.{pow_pos}
use lib.Dec.{eqb}
use borrow.Author.Tests.{eq-eqb, ne_eqb}
use Rattle.meaning.specs.Limits.{max_face_nodes}
use Rattle.meaning.specs.Basics.{choose, each, up_to, and_then, join}
use Rattle.meaning.specs.Term.{one, size, node_at, function, Terms, Term, IsExpression}
use Rattle.meaning.specs.Problem.{Problem, expressions}
use Rattle.meaning.specs.Shift.{ClosedTerm}
use Rattle.meaning.specs.Filling.{argument, IsBody}
use Rattle.meaning.specs.Face.{Face, walk}
use Rattle.meaning.specs.Choice.{Choice, Marks, punch_term}
use Rattle.meaning.specs.Value.{Source, source_of, lowest_hole}
use Rattle.meaning.specs.Readable.{WithinLimits}
use Rattle.meaning.specs.PlaceValue.{mask_of}
use Rattle.meaning.proofs.Lists.{never, choose_true, choose_false}
use Rattle.meaning.proofs.RowBodies.{punch_one}
use Rattle.tokens.specs.Token.{pattern_tokens, expression_tokens}
use Rattle.numbers.specs.Tests.{Tests, Tells}
use Rattle.lockstep.specs.Walk.{expression_node}
use Rattle.lockstep.specs.Span.{span_walk}
use Rattle.lockstep.specs.Recorded.{Both}
use Rattle.demands.specs.Demand.{each_some, sources_met, lowest_demand, place_demands, application_lowest}
use Rattle.demands.specs.Fit.{Suits, SuitsWalked}
use Rattle.demands.specs.LowestMark.{LowestMark}
use Rattle.demands.proofs.LowestNode.{Unmarked, unmarked_walk}
use Rattle.demands.proofs.Suiting.{suits_walked}
use Rattle.bodies.specs.Suits.{suits_at}
use Rattle.bodies.proofs.MarkLaws.{lowest_mark, empty_mask}
use Rattle.bodies.proofs.HoleTests.{Spotted}
use Rattle.bodies.proofs.SuitsMeaning.{suits_means}
use Rattle.sources.specs.Demand.{Nodes, demands_in, kept_after}
use Rattle.sources.proofs.KeptMeaning.{Firsts, kept_means}
use Rattle.fit.specs.Judging.{argument_span, argument_kept, application_kept}
use Rattle.fit.proofs.Steps.{Step, step_nothing, step_none, step_told, step_guard, step_as}
use Rattle.fit.proofs.Arguments.{RecordedFace, SameDemands, Argued, argued}

-- With a node marked the mask is not 0
filled_mask : (w : ℕ) (ms : Marks) (i j : ℕ) → length ms ≤ w → get_elem? ms j ≡ some (some i) → 0 < mask_of w ms
unfolding mask_of
filled_mask w [] i j h e = never (cc)
filled_mask zero (m ∷ ms) i j h e = absurd (omega arith)
filled_mask (suc w) (some k ∷ ms) i zero h e = omega (arith, one-mul (2 ^ w), pow_pos w)
filled_mask (suc w) (none ∷ ms) i zero h e = never (cc)
filled_mask (suc w) (m ∷ ms) i (suc j) h e = let q = filled_mask w ms i j (omega arith) e in omega arith

module _ (p : Problem) (w : WithinLimits p) (n f : ℕ) (x : Face) (recorded : RecordedFace p n x) (applies : x.what ≡ function f 1)
    (spotted : Spotted (expression_tokens p) 0 x) (node : ℕ) (face : Term) (face_at : node_at node (expressions p) ≡ some face)
    (is_face : IsExpression (one face)) (ms : Marks) (choice : Choice 1 face ms) (few : size (one face) ≤ max_face_nodes)
    (is_body : IsBody 1 (one (punch_term ms face))) (closed : ClosedTerm (punch_term ms face)) (q : Tests)
    (tells : Tells (expression_tokens p) q) where
  abbrev ps : List ℕ
  ps = pattern_tokens p

  abbrev es : List ℕ
  es = expression_tokens p

  abbrev mask : ℕ
  mask = mask_of max_face_nodes ms

  abbrev body : Term
  body = punch_term ms face

  -- "Filling m(t) puts the filled t in each hole of m's body"
  suited : (suits_at q es node (expression_node n) mask ≡ true) ↔ Suits body x.term
  suited =
      let s = suits_means p w node x.node face x.term face_at recorded.term ms choice few closed q tells in
      let e : suits_at q es node (expression_node n) mask ≡ suits_at q es node x.node mask =
      ap (λ (j : ℕ). suits_at q es node j mask) recorded.node in
      (λ t. s.0 (sym e ∙ t), λ t. e ∙ s.1 t)

  walked_to : Suits body x.term → SuitsWalked x.node body x.term
  walked_to q = (suits_walked 1 x.node body x.term is_body).0 q

  -- The body has a hole, or none
  data Holes (s : SuitsWalked x.node body x.term) : Type 0 where
    without : mask ≡ 0 → lowest_hole 0 s.holes ≡ none → Holes s
    with_lowest : (mask ≡ 0 → ⊥) → Argued p n mask x s.holes → Holes s

  holes_of_lem : (s : SuitsWalked x.node body x.term) → Holes s
  unfolding max_face_nodes
  holes_of_lem s = go (lowest_mark ms)
    where
      go : ((i j : ℕ) × (j < length ms) × LowestMark i j ms) ⊎ Unmarked (length ms) ms → Holes s
      go (inr u) =
          let (empty, same) =
          unmarked_walk 0 x.node ms (one face) (one x.term) s.holes is_face (λ k h. u k (omega (arith, choice.long)))
          (ap (λ (t : Terms). walk 0 x.node t (one x.term)) (sym (punch_one ms face)) ∙ s.found) in
          without (empty_mask max_face_nodes ms u) (ap (lowest_hole 0) empty)
      go (inl (i, j, small, low)) =
          let z : i ≡ 0 = omega (arith, choice.places j i low.marked) in
          with_lowest (λ e. omega (arith, filled_mask max_face_nodes ms i j (omega (arith, choice.long, few)) low.marked))
          (argued p w n f x recorded applies spotted face is_face ms choice few s j small (subst (λ (k : ℕ). LowestMark k j ms) z low))

  -- Where the code walks the argument, there is a lowest hole
  pub walked_argument : suits_at q es node (expression_node n) mask ≡ true → (mask ≡ 0 → ⊥) → (hs : List Face) × Argued p n mask x hs
  walked_argument t z = go (walked_to (suited.0 t)) (holes_of_lem (walked_to (suited.0 t)))
    where
      go : (s : SuitsWalked x.node body x.term) → Holes s → (hs : List Face) × Argued p n mask x hs
      go s (without e q) = absurd (z e)
      go s (with_lowest e a) = (s.holes, a)

  -- The demands, by the walk of the body
  module _ (s : SuitsWalked x.node body x.term) where
    abbrev t : Term
    t = argument x.children 0

    lowest_is : (o : Option Face) → lowest_hole 0 s.holes ≡ o
        → application_lowest body 1 x ≡ join (lowest_demand x.under t o) (some [])
    lowest_is o e =
        ap (λ (v : Option (List Face)). and_then v (λ hs. each_some (place_demands x hs) (up_to 1))) s.found
        ∙ ap (λ (v : Option Face). join (lowest_demand x.under t v) (some [])) e

    argued_step : (a : Argued p n mask x s.holes) (kept : Nodes) (ks : List Source) → Firsts es kept ks
        → Step es (argument_kept q ps es n mask kept) ks (Unit {0}) (application_lowest body 1 x)
    unfolding argument_kept
    argued_step a kept ks first =
        step_as es ks (argument_kept q ps es n mask kept) (Unit {0}) (Unit {0})
        (join (sources_met (walk x.under a.hole.node (one t) (one a.held))) (some []))
        (application_lowest body 1 x) (λ u. u) (λ u. u) (sym demands)
        (go (span_walk ps es (argument_span ps es n mask)) (walk x.under a.hole.node (one t) (one a.held)) a.met)
      where
        demands : application_lowest body 1 x ≡ join (sources_met (walk x.under a.hole.node (one t) (one a.held))) (some [])
        demands =
            lowest_is (some a.hole) a.is_lowest
            ∙ ap (λ (v : Option Term). join (and_then v (λ u. sources_met (walk x.under a.hole.node (one t) (one u)))) (some []))
            a.holds

        go : (o : Option (List ℕ)) (v : Option (List Face)) → Both (SameDemands ps es) o v
            → Step es (and_then o (λ ns. kept_after q kept (demands_in ps ns))) ks (Unit {0}) (join (sources_met v) (some []))
        go none none m = step_none es ks (Unit {0})
        go none (some ys) m = absurd m
        go (some ns) none m = absurd m
        go (some ns) (some ys) m =
            step_as es ks (kept_after q kept (demands_in ps ns)) (Unit {0}) (Unit {0}) (some (each source_of ys))
            (some (each source_of ys ++ [])) (λ u. u) (λ u. u)
            (ap some (sym (append-nil (each source_of ys))))
            (step_told es ks (kept_after q kept (demands_in ps ns)) (each source_of ys)
            (kept_means es q tells kept ks (demands_in ps ns) (each source_of ys) first m.0))

    suited_step : Holes s → (kept : Nodes) (ks : List Source) → Firsts es kept ks
        → Step es (choose (eqb mask 0) (some kept) (argument_kept q ps es n mask kept)) ks (Unit {0}) (application_lowest body 1 x)
    suited_step (without z e) kept ks first =
        subst (λ (o : Option Nodes). Step es o ks (Unit {0}) (application_lowest body 1 x)) (sym (choose_true _ _ (eq-eqb mask 0 z)))
        (step_as es ks (some kept) (Unit {0}) (Unit {0}) (some []) (application_lowest body 1 x) (λ u. u) (λ u. u) (sym (lowest_is none e))
        (step_nothing es ks kept first))
    suited_step (with_lowest z a) kept ks first =
        subst (λ (o : Option Nodes). Step es o ks (Unit {0}) (application_lowest body 1 x)) (sym (choose_false _ _ (ne_eqb mask 0 z)))
        (argued_step a kept ks first)

  -- THE APPLICATION
  pub application_step : (kept : Nodes) (ks : List Source) → Firsts es kept ks
      → Step es (application_kept q ps es n node mask kept) ks (Suits body x.term) (application_lowest body 1 x)
  unfolding application_kept
  application_step kept ks first =
      step_guard es ks (suits_at q es node (expression_node n) mask) (choose (eqb mask 0) (some kept) (argument_kept q ps es n mask kept))
      (Suits body x.term)
      (application_lowest body 1 x) suited.0 suited.1 (λ u. suited_step (walked_to u) (holes_of_lem (walked_to u)) kept ks first)

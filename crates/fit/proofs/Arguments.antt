-- An application whose body has a hole and suits: its argument is walked, on the tables, against what the lowest hole holds.
--   Argued   the lowest hole, what it holds without the binders above it, and the two walks, which meet the same demands
use mathlib.Core.Path.{◌≡◌, refl, ap, sym, ◌∙◌, subst}
use mathlib.Core.List.{List, [], append-nil}
use mathlib.Core.Option.{Option, none, some}
use Prim.Native.Nat.{ℕ, ◌+◌, ◌-◌, ◌<◌, ◌≤◌}
use native.Mathlib.Omega.{arith}
use lib.ListN.{length}
use Rattle.meaning.specs.Limits.{max_depth, max_face_nodes}
use Rattle.meaning.specs.Basics.{All, each, ◌∈◌}
use Rattle.meaning.specs.Term.{one, size, node_at, slot, Slot, function, hole, Term, inner, IsExpression}
use Rattle.meaning.specs.Problem.{Problem, patterns, expressions, named_expressions}
use Rattle.meaning.specs.Shift.{shift_label, shift}
use Rattle.meaning.specs.Lower.{lower_term}
use Rattle.meaning.specs.Filling.{argument}
use Rattle.meaning.specs.Face.{Face, walk, faces}
use Rattle.meaning.specs.Choice.{Choice, Marks, punch_term}
use Rattle.meaning.specs.Value.{source_of, lowest_hole}
use Rattle.meaning.specs.Read.{in_expression}
use Rattle.meaning.specs.Readable.{WithinLimits}
use Rattle.meaning.specs.PlaceValue.{mask_of}
use Rattle.meaning.proofs.Lists.{all_mem, mem_all}
use Rattle.meaning.proofs.Nodes.{Stands, node_stands, stands_node, stands_in, relabel_stands, walk_node}
use Rattle.meaning.proofs.Proper.{expressions_readable}
use Rattle.meaning.proofs.OneWay.{faces_walk}
use Rattle.meaning.proofs.ShiftLaws.{shift_lower_term}
use Rattle.meaning.proofs.Sources.{lowest_is}
use Rattle.tokens.specs.Token.{depth_in, size_in, tokens, pattern_tokens, expression_tokens}
use Rattle.tokens.specs.Key.{at}
use Rattle.tokens.proofs.KeyLaws.{stands_depth}
use Rattle.tokens.proofs.ProblemTokens.{expressions_room}
use Rattle.lockstep.specs.Walk.{pattern_node}
use Rattle.lockstep.specs.Span.{span_walk}
use Rattle.lockstep.specs.declared.Span.{Span}
use Rattle.lockstep.specs.Recorded.{Records, RecordedBy, Both}
use Rattle.faces.proofs.NodeTokens.{AtNode, node_inside, pattern_node_lem, expression_node_lem}
use Rattle.faces.proofs.ArgumentWalk.{argument_walk_lem}
use Rattle.demands.specs.Demand.{lowered}
use Rattle.demands.specs.Fit.{SuitsWalked}
use Rattle.demands.specs.LowestMark.{LowestMark}
use Rattle.demands.proofs.LowestNode.{HoleAt, lowest_hole_lem}
use Rattle.bodies.proofs.MarkLaws.{lowest_means}
use Rattle.bodies.proofs.HoleTests.{Spotted, spots}
use Rattle.sources.specs.Demand.{demands_in}
use Rattle.sources.specs.Kept.{Demandable}
use Rattle.sources.proofs.KeptMeaning.{MovedAt, AllSay}
use Rattle.sources.proofs.RecordedDemands.{MovedFace, recorded_say, recorded_reads}
use Rattle.fit.specs.Judging.{hole_node, argument_span}

-- One of a problem's recorded faces
abbrev pub RecordedFace : Problem → ℕ → Face → Type 0
RecordedFace p n x = Records (λ i. node_at i (patterns p)) (λ j. node_at j (expressions p)) (λ i. depth_in (at (pattern_tokens p) i)) n x

-- Demands met by a walk on the tables and by one of terms, which can be asked where each node has a number
abbrev pub SameDemands : List ℕ → List ℕ → List ℕ → List Face → Type 0
SameDemands ps es ns ys =
    AllSay es (demands_in ps ns) (each source_of ys) × ((ks : List ℕ) → length ks ≡ length es → All (Demandable ps ks) ns)

pub record Argued (p : Problem) (n mask : ℕ) (x : Face) (hs : List Face) : Type 0 where
  pub hole : Face
  pub is_lowest : lowest_hole 0 hs ≡ some hole
  pub held : Term
  pub holds : lowered hole ≡ some held
  pub inside : hole_node n mask < length (expression_tokens p)
  pub met : Both (SameDemands (pattern_tokens p) (expression_tokens p))
      (span_walk (pattern_tokens p) (expression_tokens p) (argument_span (pattern_tokens p) (expression_tokens p) n mask))
      (walk x.under hole.node (one (argument x.children 0)) (one held))

-- The depth that a token tells
node_depth : (table : List ℕ) (i : ℕ) (t : Term) (a : AtNode table i t) → depth_in (at table i) ≡ length a.scope
node_depth table i t a = stands_depth a.levels a.context table i a.scope a.named a.held a.stands

-- Answers that belong together in one way do so in another
both_map : {A B : Type 0} (R S : A → B → Type 0) (a : Option A) (b : Option B) → ((x : A) (y : B) → b ≡ some y → R x y → S x y) → Both R a b
    → Both S a b
both_map R S none none f r = tt
both_map R S none (some y) f r = absurd r
both_map R S (some x) none f r = absurd r
both_map R S (some x) (some y) f r = f x y refl r

module _ (p : Problem) (w : WithinLimits p) where
  abbrev ps : List ℕ
  ps = pattern_tokens p

  abbrev es : List ℕ
  es = expression_tokens p

  -- What a problem's faces face stands under as many binders as their slots
  pub faces_spotted : (xs : List Face) → faces p ≡ some xs → All (Spotted es 0) xs
  unfolding expression_tokens
  faces_spotted xs e =
      spots (expression_tokens p) 0 0 0 max_depth in_expression (patterns p) [] (named_expressions p) []
      (sym (append-nil (tokens [] (named_expressions p)))) refl
      (expressions_readable p w) (expressions_room p w) xs (faces_walk p xs e)

  -- What stands below a lowered term stands, under more binders, below the term itself
  moved_in : (j under : ℕ) (t u : Term) → node_at j (expressions p) ≡ some t → lower_term under t ≡ some u → (i : ℕ) (v : Term) → j ≤ i
      → node_at (i - j) (one u) ≡ some v → MovedAt es i v
  moved_in j under t u e d i v h q =
      let r = relabel_stands inner (shift_label under) (node_stands (i - j) (one u) v q) 0 in
      let z : i ≡ j + (i - j) = omega arith in
      let v' : Term = (shift_label under r.0 v.0, shift under (inner v.0 r.0) v.1) in
      let there : node_at i (expressions p) ≡ some v' =
      stands_node (stands_in (node_stands j (expressions p) t e)
      (subst (λ (x : Term). Stands (i - j) (one x) v') (shift_lower_term under t u d) r.1) z) in
      record { whole = v'; stands = expression_node_lem p w i v' there; more = under; under = r.0; moved = refl }

  -- One application, with a body that suits what it faces and has a hole: node j of the choice is the lowest
  module _ (n f : ℕ) (x : Face) (recorded : RecordedFace p n x) (applies : x.what ≡ function f 1) (spotted : Spotted es 0 x)
      (face : Term) (is_face : IsExpression (one face)) (ms : Marks) (choice : Choice 1 face ms) (few : size (one face) ≤ max_face_nodes)
      (s : SuitsWalked x.node (punch_term ms face) x.term) (j : ℕ) (small : j < length ms) (low : LowestMark 0 j ms) where
    hole_at : HoleAt 0 j 0 x.node (one x.term) s.holes
    hole_at = lowest_hole_lem 0 j x.node ms face x.term s.holes is_face (omega (arith, choice.long)) low s.found

    h : Face
    h = hole_at.face

    among : (h ∈ s.holes) × (h.what ≡ hole 0)
    unfolding h
    among = lowest_is 0 s.holes h hole_at.is_lowest

    holds : (u : Term) × (lowered h ≡ some u) × (lowered h ≡ some u)
    unfolding h
    holds = s.same 0 h h among.0 among.1 hole_at.is_lowest

    there : node_at h.node (expressions p) ≡ some h.term
    unfolding h
    there =
        stands_node (stands_in (node_stands x.node (expressions p) x.term recorded.term)
        (node_stands j (one x.term) h.term hole_at.is_term) hole_at.is_node)

    number : hole_node n (mask_of max_face_nodes ms) ≡ h.node
    unfolding h
    number =
        let l = lowest_means ms 0 j (omega (arith, choice.long, few)) low in
        omega (arith, recorded.node, hole_at.is_node)

    faced : AtNode es x.node x.term
    faced = expression_node_lem p w x.node x.term recorded.term

    spotted_hole : Spotted es (length faced.scope) h
    spotted_hole =
        all_mem (Spotted es (length faced.scope)) h s.holes
        (spots es (length faced.scope) 0 x.node faced.levels faced.context (one (punch_term ms face)) faced.scope
        (one faced.named)
        faced.stands.after faced.stands.split (omega arith) faced.held.readable
        (record { depths = faced.held.depths; sizes = faced.held.sizes }) s.holes
        (ap (λ (t : Term). walk 0 x.node (one (punch_term ms face)) (one t)) (sym faced.term) ∙ s.found)) among.0

    deeper : depth_in (at es h.node) ≡ h.under + depth_in (at ps (pattern_node n))
    deeper =
        let a = node_depth es h.node h.term spotted_hole.there in
        let b = node_depth es x.node x.term faced in
        let c = node_depth es x.node x.term spotted.there in
        omega (arith, spotted_hole.deep, spotted.deep, recorded.under)

    slots : node_at (pattern_node n) (patterns p) ≡ some (slot (function f 1), x.children)
    slots = recorded.slots ∙ ap (λ (z : Slot). some (slot z, x.children)) applies

    span : argument_span ps es n (mask_of max_face_nodes ms)
        ≡ record {
          from = pattern_node n + 1;
          to = pattern_node n + size_in (at ps (pattern_node n));
          at = h.node;
          d = depth_in (at ps (pattern_node n));
          e = depth_in (at es h.node);
        }
    unfolding argument_span
    span = ap (λ (i : ℕ). record {
      from = pattern_node n + 1;
      to = pattern_node n + size_in (at ps (pattern_node n));
      at = i;
      d = depth_in (at ps (pattern_node n));
      e = depth_in (at es i);
    }) number

    met : Both (SameDemands ps es) (span_walk ps es (argument_span ps es n (mask_of max_face_nodes ms)))
        (walk x.under h.node (one (argument x.children 0)) (one holds.0))
    met =
        both_map (RecordedBy (λ i. node_at i (patterns p)) (λ i. node_at (i - h.node) (one holds.0)) (λ i. depth_in (at ps i)))
        (SameDemands ps es)
        (span_walk ps es (argument_span ps es n (mask_of max_face_nodes ms)))
        (walk x.under h.node (one (argument x.children 0)) (one holds.0)) same
        (subst (λ (q : Span). Both (RecordedBy (λ i. node_at i (patterns p)) (λ i. node_at (i - h.node) (one holds.0))
        (λ i. depth_in (at ps i)))
        (span_walk ps es q) (walk x.under h.node (one (argument x.children 0)) (one holds.0))) (sym span)
        (argument_walk_lem p w (pattern_node n) f 1 x.children slots h.node h.under h.term holds.0 there holds.1 deeper
        x.under recorded.under))
      where
        same : (ns : List ℕ) (ys : List Face) → walk x.under h.node (one (argument x.children 0)) (one holds.0) ≡ some ys
            → RecordedBy (λ i. node_at i (patterns p)) (λ i. node_at (i - h.node) (one holds.0)) (λ i. depth_in (at ps i)) ns ys
            → SameDemands ps es ns ys
        same ns ys e r =
            let moved : All (MovedFace es) ys =
            mem_all (MovedFace es) ys (λ y m. let (g, q) =
            walk_node x.under h.node (one (argument x.children 0)) (one holds.0) ys e y m in
            moved_in h.node h.under h.term holds.0 there holds.1 y.node y.term g q) in (
              recorded_say ps es (λ i. node_at i (patterns p)) (λ i. node_at (i - h.node) (one holds.0)) (λ i. depth_in (at ps i))
                  (pattern_node_lem p w) ns ys r moved,
              λ ks long. recorded_reads ps es (λ i. node_at i (patterns p)) (λ i. node_at (i - h.node) (one holds.0))
                  (λ i. depth_in (at ps i)) (pattern_node_lem p w) ks long ns ys r moved,
            )

    -- THE ARGUMENT IS WALKED
    pub argued : Argued p n (mask_of max_face_nodes ms) x s.holes
    unfolding h
    argued = record {
      hole = h;
      is_lowest = hole_at.is_lowest;
      held = holds.0;
      holds = holds.1;
      inside = subst (λ (i : ℕ). i < length es) (sym number) (node_inside es h.node h.term spotted_hole.there);
      met = met;
    }

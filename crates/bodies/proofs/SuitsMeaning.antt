-- What `suits` answers: whether some argument in its holes makes the body what is faced.
use mathlib.Core.Path.{◌≡◌, refl, ap, ap₂, sym, ◌∙◌, subst}
use mathlib.Core.Logic.{◌↔◌, inl, inr, ◌⊎◌}
use Prim.Native.Nat.{ℕ, ◌+◌, ◌-◌, ◌<◌, ◌≤◌}
use native.Mathlib.Omega.{arith}
use mathlib.Core.Bool.{Bool, true, false, ◌&&◌, false≢true}
use mathlib.Core.List.Memᴰ
use mathlib.Core.List.{List, [], ◌∷◌, map}
use mathlib.Core.Option.{Option, none, some, some-injective}
use lib.ListN.{length, drop}
use Rattle.meaning.specs.Limits.{max_face_nodes, max_depth}
use Rattle.meaning.specs.Basics.{every, ◌∈◌}
use Rattle.meaning.specs.Term.{one, size, node_at, hole, Terms, Term, IsExpression}
use Rattle.meaning.specs.Problem.{Problem, named_expressions, expressions}
use Rattle.meaning.specs.Scope.{enter, nameless_label}
use Rattle.meaning.specs.Shift.{Closed, ClosedTerm}
use Rattle.meaning.specs.Filling.{IsBody}
use Rattle.meaning.specs.Face.{Face, walk}
use Rattle.meaning.specs.Readable.{WithinLimits}
use Rattle.meaning.specs.Choice.{Marks, punch_term, Choice}
use Rattle.meaning.specs.Value.{lowest_hole}
use Rattle.meaning.specs.PlaceValue.{mask_of}
use Rattle.meaning.proofs.Lists.{T_true, true_T, all_mem, mem_all, mem_at, every_all, all_every}
use Rattle.meaning.proofs.Nodes.{Stands, here, below, beside, stands_size, node_stands, walk_node}
use Rattle.meaning.proofs.Proper.{readable_expression, expressions_readable}
use Rattle.meaning.proofs.ShiftLaws.{relabel_size}
use Rattle.meaning.proofs.RowBodies.{punch_one}
use Rattle.meaning.proofs.Solutions.{punch_body}
use Rattle.meaning.proofs.Sources.{lowest_is, lowest_there}
use Rattle.tokens.specs.Token.{depth_in, expression_tokens}
use Rattle.tokens.specs.Key.{at, part}
use Rattle.tokens.proofs.Codes.{view_from}
use Rattle.tokens.proofs.KeyLaws.{stands_depth, stands_part}
use Rattle.tokens.proofs.Spots.{forest_deep}
use Rattle.numbers.specs.Tests.{Tests, Beneath, Tells}
use Rattle.demands.specs.Demand.{lowered}
use Rattle.demands.specs.Fit.{Suits, SuitsWalked}
use Rattle.demands.specs.LowestMark.{LowestMark}
use Rattle.demands.proofs.LowestNode.{Unmarked, unmarked_walk, lowest_hole_lem}
use Rattle.demands.proofs.SlotKinds.{body_face}
use Rattle.demands.proofs.Suiting.{suits_walked}
use Rattle.lockstep.specs.Walk.{expression_node, lockstep}
use Rattle.lockstep.proofs.WalkTrees.{seen_walk, flat_trees}
use Rattle.faces.proofs.NodeTokens.{AtNode, expression_node_lem}
use Rattle.bodies.specs.Marked.{marked, lowest_marked}
use Rattle.bodies.specs.Suits.{hole_fits, at_marks, all_faced, suits_at}
use Rattle.bodies.proofs.MarkLaws.{marked_left, lowest_means, lowest_mark}
use Rattle.bodies.proofs.MarkedWalk.{nodes_of, nodes_met, marked_walk}
use Rattle.bodies.proofs.HoleTests.{Spotted, spots, hole_means}

-- A subterm of an expression is one
stands_expression : {n : ℕ} {u : Terms} {t : Term} → Stands n u t → IsExpression u → IsExpression (one t)
stands_expression here x = (x.0, x.1, tt)
stands_expression (below h) x = stands_expression h x.1
stands_expression (beside h e) x = stands_expression h x.2

-- A test of all nodes that a walk found
module _ (test : ℕ → Bool) where
  abbrev all_nodes : Option (List ℕ) → Bool
  all_nodes none = false
  all_nodes (some ns) = every test ns

  every_map : {A : Type 0} (g : A → ℕ) (xs : List A) → every test (map g xs) ≡ every (λ x. test (g x)) xs
  every_map g [] = refl
  every_map g (x ∷ xs) = ap (λ (b : Bool). test (g x) && b) (every_map g xs)

  faced_nodes : (o : Option (List ℕ)) → all_faced test o ≡ all_nodes (nodes_of o)
  faced_nodes none = refl
  faced_nodes (some xs) = sym (every_map expression_node xs)

  met_in : (o : Option (List Face)) → all_nodes (nodes_met o) ≡ true
      → (hs : List Face) × (o ≡ some hs) × ((h : Face) → h ∈ hs → test h.node ≡ true)
  met_in none e = absurd (false≢true e)
  met_in (some hs) e = (
    hs,
    refl,
    λ h q. all_mem (λ (x : Face). test x.node ≡ true) h hs
        (every_all (λ (x : Face). test x.node) hs (true_T (sym (every_map (λ (x : Face). x.node) hs) ∙ e))) q,
  )

  met_out : (hs : List Face) → ((h : Face) → h ∈ hs → test h.node ≡ true) → all_nodes (nodes_met (some hs)) ≡ true
  met_out hs f =
      every_map (λ (x : Face). x.node) hs
      ∙ T_true (all_every (λ (x : Face). test x.node) hs (mem_all (λ (x : Face). test x.node ≡ true) hs f))

-- Node f of the expressions holds the face, node n the term e that an application faces
module _ (p : Problem) (w : WithinLimits p) (f n : ℕ) (face e : Term) (at_f : node_at f (expressions p) ≡ some face)
    (at_n : node_at n (expressions p) ≡ some e) (ms : Marks) (choice : Choice 1 face ms) (few : size (one face) ≤ max_face_nodes)
    (closed : ClosedTerm (punch_term ms face)) (q : Tests) (tells : Tells (expression_tokens p) q) where
  abbrev es : List ℕ
  es = expression_tokens p

  abbrev mask : ℕ
  mask = mask_of max_face_nodes ms

  abbrev body : Term
  body = punch_term ms face

  F : AtNode es f face
  F = expression_node_lem p w f face at_f

  E : AtNode es n e
  E = expression_node_lem p w n e at_n

  whole : IsExpression (expressions p)
  whole = readable_expression max_depth [] (named_expressions p) (expressions_readable p w)

  is_face : IsExpression (one face)
  is_face = stands_expression (node_stands f (expressions p) face at_f) whole

  is_faced : IsExpression (one e)
  is_faced = stands_expression (node_stands n (expressions p) e at_n) whole

  is_body : IsBody 1 (one body)
  is_body =
      subst (IsBody 1) (sym (punch_one ms face))
      (punch_body 1 ms (one face) is_face (λ i q. let (k, z) = mem_at ms (some i) q in choice.places k i z))

  fits : length ms ≤ max_face_nodes
  fits = omega (arith, choice.long, few)

  d : ℕ
  d = length E.scope

  depth : depth_in (at es n) ≡ d
  unfolding d
  depth = stands_depth E.levels E.context es n E.scope E.named E.held E.stands

  abbrev tokens_walk : Option (List ℕ)
  tokens_walk = lockstep (at_marks mask) (depth_in (at es f)) (depth_in (at es n)) 0 0 n (part es f) (drop n es)

  -- On the tokens, on the views
  flat : tokens_walk ≡ seen_walk (λ i l. marked mask i) 0 n (view_from F.scope 0 (one face)) (view_from E.scope 0 (one e))
  unfolding d
  flat =
      ap₂ (λ (x y : ℕ). lockstep (at_marks mask) x y 0 0 n (part es f) (drop n es))
      (stands_depth F.levels F.context es f F.scope F.named F.held F.stands) depth
      ∙ ap₂ (lockstep (at_marks mask) (length F.scope) (length E.scope) 0 0 n)
      (stands_part F.levels F.context es f F.scope F.named F.held F.stands) E.stands.split
      ∙ flat_trees (at_marks mask) (λ i l. marked mask i) F.scope E.scope (λ i k sc l c r s. refl) 0 n F.levels E.levels
      F.context E.context
      (one F.named) (one E.named) E.stands.after F.held.readable E.held.readable
      (record { depths = F.held.depths; sizes = F.held.sizes }) (record { depths = E.held.depths; sizes = E.held.sizes }) refl
      ∙ ap₂ (λ (x y : Term). seen_walk (λ i l. marked mask i) 0 n (view_from F.scope 0 (one x)) (view_from E.scope 0 (one y)))
      (sym F.term) (sym E.term)

  -- ... and on the terms: the nodes are those that the walk of the body meets
  walked : nodes_of tokens_walk ≡ nodes_met (walk 0 n (one body) (one e))
  unfolding max_face_nodes
  walked =
      ap nodes_of flat
      ∙ marked_walk (marked mask) ms (λ i. marked_left ms i fits) F.scope E.scope 0 n 0 0 (one face) (one e) refl is_face is_faced
      (subst (Closed 0) (punch_one ms face) closed) (omega (arith, few))
      ∙ ap (λ (u : Terms). nodes_met (walk 0 n u (one e))) (sym (punch_one ms face))

  abbrev test : ℕ → Bool
  test m = hole_fits q (depth_in (at es n)) (n + lowest_marked mask) m

  tested : suits_at q es f n mask ≡ all_nodes test (nodes_met (walk 0 n (one body) (one e)))
  unfolding suits_at
  tested = faced_nodes test tokens_walk ∙ ap (all_nodes test) walked

  module _ (hs : List Face) (found : walk 0 n (one body) (one e) ≡ some hs) where
    spotted : (h : Face) → h ∈ hs → Spotted es d h
    unfolding d
    spotted h m =
        all_mem (Spotted es d) h hs
        (spots es d 0 n E.levels E.context (one body) E.scope (one E.named) E.stands.after E.stands.split (omega arith)
        E.held.readable (record { depths = E.held.depths; sizes = E.held.sizes }) hs
        (ap (λ (t : Term). walk 0 n (one body) (one t)) (sym E.term) ∙ found)) m

    -- Each is a node of what is faced, none of whose nodes is less deep than its root
    within : (h : Face) → h ∈ hs → (n ≤ h.node) × (h.node < n + size (one e))
    within h m =
        let (g, z) = walk_node 0 n (one body) (one e) hs found h m in
        (g, omega (arith, stands_size (node_stands (h.node - n) (one e) h.term z)))

    beneath : (h l : Face) → h ∈ hs → l ∈ hs → Beneath es d h.node l.node
    unfolding d
    beneath h l m k y from to =
        let long : size (one e) ≡ size (one E.named) =
        ap (λ (t : Term). size (one t)) E.term ∙ relabel_size enter nameless_label E.scope (one E.named) in
        forest_deep E.levels E.context E.scope (one E.named) E.held.readable E.held.depths es n E.stands.after
        E.stands.split y (omega (arith, (within h m).0, (within l k).0)) (omega (arith, (within h m).1, (within l k).1, long))

    -- There is one place
    single : (h : Face) (i : ℕ) → h ∈ hs → h.what ≡ hole i → i ≡ 0
    single h i q z =
        let (j, y, small) = body_face 0 n (one body) (one e) hs found h q 1 is_body in
        let same : i ≡ j = cc in
        omega arith

    -- The lowest hole stands where the lowest node of the choice does
    lowest_node : (i : ℕ) (l : Face) → lowest_hole i hs ≡ some l → l.node ≡ n + lowest_marked mask
    lowest_node i l low = go (lowest_mark ms)
      where
        go : ((i j : ℕ) × (j < length ms) × LowestMark i j ms) ⊎ Unmarked (length ms) ms → l.node ≡ n + lowest_marked mask
        go (inl (k, j, small, m)) =
            let h = lowest_hole_lem k j n ms face e hs is_face (omega (arith, choice.long)) m found in
            let (q, z) = lowest_is i hs l low in
            let a : i ≡ 0 = single l i q z in
            let b : k ≡ i = omega (arith, choice.places j k m.marked) in
            let c : l ≡ h.face = some-injective l h.face (sym low ∙ ap (λ (x : ℕ). lowest_hole x hs) (sym b) ∙ h.is_lowest) in
            ap (λ (x : Face). x.node) c ∙ h.is_node ∙ ap (λ (x : ℕ). n + x) (sym (lowest_means ms k j fits m))
        go (inr u) =
            let (q, z) = lowest_is i hs l low in
            let (empty, same) =
            unmarked_walk 0 n ms (one face) (one e) hs is_face (λ k s. u k (omega (arith, choice.long)))
            (ap (λ (t : Terms). walk 0 n t (one e)) (sym (punch_one ms face)) ∙ found) in
            absurd (Memᴰ.not-nil (subst (λ (xs : List Face). l ∈ xs) empty q))

    -- The test at a hole, with the lowest hole of its place
    test_means : (i : ℕ) (h l : Face) → h ∈ hs → lowest_hole i hs ≡ some l
        → (test h.node ≡ true) ↔ ((t : Term) × (lowered h ≡ some t) × (lowered l ≡ some t))
    test_means i h l m low =
        let z : test h.node ≡ hole_fits q d l.node h.node =
        ap₂ (λ (x y : ℕ). hole_fits q x y h.node) depth (sym (lowest_node i l low)) in
        let k = (lowest_is i hs l low).0 in
        let t = hole_means es d q tells l h (spotted l k) (spotted h m) (beneath h l m k) in
        (λ x. t.0 (sym z ∙ x), λ x. z ∙ t.1 x)

  suits_in : suits_at q es f n mask ≡ true → SuitsWalked n body e
  suits_in t =
      let (hs, found, good) = met_in test (walk 0 n (one body) (one e)) (sym tested ∙ t) in
      record { holes = hs; found = found; same = λ i h l m z low. (test_means hs found i h l m low).0 (good h m) }

  suits_out : SuitsWalked n body e → suits_at q es f n mask ≡ true
  suits_out s = tested ∙ ap (λ (o : Option (List Face)). all_nodes test (nodes_met o)) s.found ∙ met_out test s.holes good
    where
      good : (h : Face) → h ∈ s.holes → test h.node ≡ true
      good h m =
          let (i, z, small) = body_face 0 n (one body) (one e) s.holes s.found h m 1 is_body in
          let (l, low) = lowest_there i s.holes h m z in
          (test_means s.holes s.found i h l m low).1 (s.same i h l m z low)

  -- THE BODY SUITS: "Filling m(t) puts the filled t in each hole of m's body"
  pub suits_means : (suits_at q es f n mask ≡ true) ↔ Suits body e
  suits_means =
      let s = suits_walked 1 n body e is_body in
      (λ t. s.1 (suits_in t), λ t. suits_out (s.0 t))

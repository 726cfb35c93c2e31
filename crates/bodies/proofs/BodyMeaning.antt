-- What `body_closed` answers: whether the body is closed.
--   hole   whether node i of the face becomes a hole, as the marks ms say it
use mathlib.Core.Path.{◌≡◌, refl, ap, ap₂, sym, ◌∙◌}
use mathlib.Core.Logic.{◌↔◌}
use Prim.Native.Nat.{ℕ, zero, suc, ◌+◌, ◌-◌, ◌<◌, ◌≤◌}
use native.Mathlib.Omega.{arith}
use mathlib.Core.Bool.{Bool, true, false, ◌&&◌, not, and_assoc, and-true, not-not}
use mathlib.Core.List.{List, [], ◌∷◌, ◌++◌, append_assoc, append-nil}
use mathlib.Core.Option.{none, some}
use lib.ListN.{length, drop}
use lib.Seq.{drop_at}
use Rattle.meaning.specs.Limits.{max_face_nodes}
use Rattle.meaning.specs.Basics.{is_some}
use Rattle.meaning.specs.Term.{Forest, nil, cons, one, size, node_at, Named, Nameless, NamedTerm, Terms, Term, inner}
use Rattle.meaning.specs.Scope.{enter, nameless_label, nameless, nameless_term}
use Rattle.meaning.specs.Problem.{Problem, expressions}
use Rattle.meaning.specs.Shift.{ClosedTerm}
use Rattle.meaning.specs.ClosedTest.{is_closed_label, is_closed}
use Rattle.meaning.specs.Read.{Context, context_below}
use Rattle.meaning.specs.Readable.{NodeFits, Readable, WithinLimits}
use Rattle.meaning.specs.Choice.{Mark, Marks, mark, punch_node, punch, punch_term}
use Rattle.meaning.specs.PlaceValue.{mask_of}
use Rattle.meaning.proofs.Lists.{T_true, true_T}
use Rattle.meaning.proofs.ShiftLaws.{relabel_size, test_closed, closed_test}
use Rattle.meaning.proofs.RowBodies.{punch_one}
use Rattle.tokens.specs.Token.{tokens, expression_tokens}
use Rattle.tokens.specs.Key.{Held, Stands}
use Rattle.tokens.proofs.TokenParts.{tokens_length}
use Rattle.tokens.proofs.Levels.{enter_deep}
use Rattle.tokens.proofs.Reaching.{closed_token}
use Rattle.tokens.proofs.KeyLaws.{stands_depth, stands_part}
use Rattle.tokens.proofs.ProblemTokens.{token_at, size_at_lem, Room, room_depth, room_size, room_below, room_later}
use Rattle.faces.proofs.NodeTokens.{AtNode, expression_node_lem}
use Rattle.bodies.specs.Marked.{marked}
use Rattle.bodies.specs.BodyClosed.{closed_from, body_closed_at}
use Rattle.bodies.proofs.MarkLaws.{marked_left, punch_left}
use Rattle.bodies.proofs.ClosedLaws.{closed_hole, closed_own, closed_skip}

regroup : (a b c d : Bool) → a && (b && (c && d)) ≡ a && (b && c) && d
regroup true b c d = sym (and_assoc b c d)
regroup false b c d = refl

module _ (hole : ℕ → Bool) (ms : Marks) (told : (i : ℕ) → hole i ≡ is_some (mark (drop i ms))) where
  module _ (d : ℕ) where
    abbrev flat : ℕ → List ℕ → Bool
    flat i xs = closed_from hole d 0 i xs

    -- One node, with the tokens below it and after it
    module _ (i k : ℕ) (sc : List ℕ) (l : Named) (c : Forest Named) (xs : List ℕ) (room : length sc < 256)
        (small : suc (size c) < 65536) where
      node_hole : hole i ≡ true → flat i (token_at sc l c ∷ (tokens (enter l sc) c ++ xs)) ≡ flat (suc i + size c) xs
      node_hole e =
          let n : suc (size c) - 1 ≡ size c = omega arith in
          closed_hole hole d i (token_at sc l c) (tokens (enter l sc) c ++ xs) e
          ∙ ap (λ (m : ℕ). closed_from hole d (m - 1) (suc i) (tokens (enter l sc) c ++ xs)) (size_at_lem sc l c room small)
          ∙ ap (λ (m : ℕ). closed_from hole d m (suc i) (tokens (enter l sc) c ++ xs)) n
          ∙ closed_skip hole d (size c) (suc i) (tokens (enter l sc) c ++ xs)
          ∙ ap (flat (suc i + size c)) (drop_at (tokens (enter l sc) c) xs (size c) (tokens_length (enter l sc) c))

      abbrev l' : Nameless
      l' = nameless_label sc l

      -- b and t are what the marks make of the nodes below and after it, and after is the test of what comes after these
      closed_node : (ctx : Context) → length sc ≡ k + d → NodeFits ctx l c → (b t : Terms) (after : Bool)
          → flat (suc i) (tokens (enter l sc) c ++ xs) ≡ is_closed (inner (nameless_label sc l) k) b && flat (suc i + size c) xs
          → flat (suc i + size c) xs ≡ is_closed k t && after
          → flat i (token_at sc l c ∷ (tokens (enter l sc) c ++ xs))
          ≡ is_closed k (punch_node (mark (drop i ms)) (nameless_label sc l) b t) && after
      closed_node ctx deep fits b t after below later = go (mark (drop i ms)) refl
        where
          go : (m : Mark) → mark (drop i ms) ≡ m
              → flat i (token_at sc l c ∷ (tokens (enter l sc) c ++ xs)) ≡ is_closed k (punch_node m l' b t) && after
          go (some h) e = node_hole (told i ∙ ap is_some e) ∙ later
          go none e =
              closed_own hole d i (token_at sc l c) (tokens (enter l sc) c ++ xs) (told i ∙ ap is_some e)
              ∙ ap₂ ◌&&◌
              (ap not (closed_token d k ctx sc (suc (size c)) deep room small l c fits) ∙ not-not (is_closed_label k l'))
              (below ∙ ap (λ (y : Bool). is_closed (inner l' k) b && y) later)
              ∙ regroup (is_closed_label k l') (is_closed (inner l' k) b) (is_closed k t) after

    closed_trees : (i k levels : ℕ) (ctx : Context) (sc : List ℕ) (u : Forest Named) (xs : List ℕ) → length sc ≡ k + d
        → Readable levels ctx u
        → Room levels sc u → flat i (tokens sc u ++ xs) ≡ is_closed k (punch (drop i ms) (nameless sc u)) && flat (i + size u) xs
    unfolding tokens
    closed_trees i k levels ctx sc nil xs deep r m = let e : i ≡ i + 0 = omega arith in ap (λ (j : ℕ). flat j xs) e
    closed_trees i k zero ctx sc (cons l c s) xs deep r m = absurd r
    closed_trees i k (suc levels) ctx sc (cons l c s) xs deep r m =
        let n : suc i + size c + size s ≡ i + suc (size c + size s) = omega arith in
        let same : size (nameless (enter l sc) c) ≡ size c = relabel_size enter nameless_label (enter l sc) c in
        ap (λ (ys : List ℕ). flat i (token_at sc l c ∷ ys)) (append_assoc (tokens (enter l sc) c) (tokens sc s) xs)
        ∙ closed_node i k sc l c (tokens sc s ++ xs) (room_depth levels sc l c s m) (room_size levels sc l c s m) ctx deep r.0
        (punch (drop (suc i) ms) (nameless (enter l sc) c)) (punch (drop (suc i + size c) ms) (nameless sc s))
        (flat (i + suc (size c + size s)) xs)
        (closed_trees (suc i) (inner (nameless_label sc l) k) levels (context_below l ctx) (enter l sc) c (tokens sc s ++ xs)
        (enter_deep k d sc l deep) r.1
        (room_below levels sc l c s m))
        (closed_trees (suc i + size c) k (suc levels) ctx sc s xs deep r.2 (room_later levels sc l c s m)
        ∙ ap (λ (j : ℕ). is_closed k (punch (drop (suc i + size c) ms) (nameless sc s)) && flat j xs) n)
        ∙ ap (λ (b : Terms). is_closed k b && flat (i + suc (size c + size s)) xs)
        (ap (λ (j : ℕ). punch_node (mark (drop i ms)) (nameless_label sc l) (punch (drop (suc i) ms) (nameless (enter l sc) c))
        (punch (drop (suc i + j) ms) (nameless sc s))) (sym same)
        ∙ sym (punch_left ms i (nameless_label sc l) (nameless (enter l sc) c) (nameless sc s)))

-- A face that stands in a table
closed_stands : (levels : ℕ) (ctx : Context) (es : List ℕ) (f : ℕ) (sc : List ℕ) (t : NamedTerm) → Held levels ctx sc t → Stands es f sc t
    → (ms : Marks) → length ms ≤ max_face_nodes
    → body_closed_at es f (mask_of max_face_nodes ms) ≡ is_closed 0 (one (punch_term ms (nameless_term sc t)))
unfolding body_closed_at closed_from
closed_stands levels ctx es f sc t h s ms few =
    let hole : ℕ → Bool = marked (mask_of max_face_nodes ms) in
    ap₂ (λ (d : ℕ) (xs : List ℕ). closed_from hole d 0 0 xs) (stands_depth levels ctx es f sc t h s)
    (stands_part levels ctx es f sc t h s ∙ sym (append-nil (tokens sc (one t))))
    ∙ closed_trees hole ms (λ i. marked_left ms i few) (length sc) 0 0 levels ctx sc (one t) [] (omega arith) h.readable
    (record { depths = h.depths; sizes = h.sizes })
    ∙ and-true (is_closed 0 (punch ms (one (nameless_term sc t))))
    ∙ sym (ap (is_closed 0) (punch_one ms (nameless_term sc t)))

-- THE BODY IS CLOSED: "Values and bodies have no variable bound outside themselves"
pub body_closed_means : (p : Problem) → WithinLimits p → (f : ℕ) (face : Term) → node_at f (expressions p) ≡ some face
    → (ms : Marks) → length ms ≤ max_face_nodes
    → (body_closed_at (expression_tokens p) f (mask_of max_face_nodes ms) ≡ true) ↔ ClosedTerm (punch_term ms face)
body_closed_means p w f face there ms few =
    let n : AtNode (expression_tokens p) f face = expression_node_lem p w f face there in
    let e : body_closed_at (expression_tokens p) f (mask_of max_face_nodes ms) ≡ is_closed 0 (one (punch_term ms face)) =
    closed_stands n.levels n.context (expression_tokens p) f n.scope n.named n.held n.stands ms few
    ∙ ap (λ (t : Term). is_closed 0 (one (punch_term ms t))) (sym n.term) in
    (λ q. test_closed 0 (one (punch_term ms face)) (true_T (sym e ∙ q)), λ q. e ∙ T_true (closed_test 0 (one (punch_term ms face)) q))

-- What is copied: under the empty mask the term itself, under the mask of a choice the body of the choice; and what is copied from.
use mathlib.Core.Path.{◌≡◌, refl, ap, ap₂, sym, ◌∙◌, subst}
use Prim.Native.Nat.{ℕ, zero, suc, ◌+◌, ◌<◌, ◌≤◌}
use native.Mathlib.Omega.{arith}
use native.Mathlib.Numerals.{add-one}
use mathlib.Core.Bool.{Bool, false}
use mathlib.Core.List.{List, [], ◌∷◌, append-nil}
use mathlib.Core.Option.{none, some}
use lib.ListN.{drop, get_elem?, length}
use lib.Seq.{drop-drop}
use Rattle.meaning.specs.Limits.{max_depth, max_face_nodes}
use Rattle.meaning.specs.Basics.{choose, is_some}
use Rattle.meaning.specs.Term.{Forest, Named, NamedTerm, cons, hole, nil, node_at, one, size, slot}
use Rattle.meaning.specs.Problem.{Problem, named_expressions}
use Rattle.meaning.specs.Field.{encode}
use Rattle.meaning.specs.Readable.{WithinLimits}
use Rattle.meaning.specs.Choice.{Mark, Marks, mark, punch, punch_node, punch_term, rest}
use Rattle.meaning.specs.PlaceValue.{mask_of}
use Rattle.meaning.proofs.Lists.{choose_true, choose_false, never}
use Rattle.meaning.proofs.Nodes.{Stands, below, beside, here, node_stands}
use Rattle.meaning.proofs.Proper.{expressions_readable}
use Rattle.meaning.proofs.RowBodies.{punch_one}
use Rattle.tokens.specs.Token.{expression_tokens, size_in, tokens}
use Rattle.tokens.specs.Key.{at}
use Rattle.tokens.proofs.ProblemTokens.{expressions_room}
use Rattle.bodies.specs.Marked.{marked}
use Rattle.bodies.proofs.MarkLaws.{marked_left, marked_means}
use Rattle.copying.specs.Copied.{Spans, TermIn, copied, copied_from, punch_from}
use Rattle.copying.proofs.SpanLaws.{span_first, span_later, term_below, term_size}

-- With no node marked nothing changes
punch_none : (test : ℕ → Bool) → ((i : ℕ) → test i ≡ false) → (i : ℕ) (u : Forest Named) → punch_from test i u ≡ u
punch_none test h i nil = refl
punch_none test h i (cons l c s) =
    choose_false _ _ (h i) ∙ ap₂ (λ (a b : Forest Named). cons l a b) (punch_none test h (suc i) c) (punch_none test h (suc i + size c) s)

none_marked : (i : ℕ) → marked 0 i ≡ false
unfolding mask_of
none_marked i = marked_means [] i (omega arith)

-- The marks that are left from a node on
rest_drop : (ms : Marks) (i : ℕ) → rest (drop i ms) ≡ drop (i + 1) ms
rest_drop ms i = go (drop i ms) ∙ drop-drop 1 i ms
  where
    go : (ns : Marks) → rest ns ≡ drop 1 ns
    go [] = refl
    go (m ∷ ns) = refl

mark_some : (ms : Marks) (i j : ℕ) → mark (drop i ms) ≡ some j → get_elem? ms i ≡ some (some j)
mark_some [] zero j e = never (cc)
mark_some [] (suc i) j e = never (cc)
mark_some (m ∷ ms) zero j e = ap some e
mark_some (m ∷ ms) (suc i) j e = mark_some ms i j e

-- The nodes that the marks make holes, all of the first place
module _ (test : ℕ → Bool) (ms : Marks) (told : (i : ℕ) → test i ≡ is_some (mark (drop i ms)))
    (first : (i j : ℕ) → mark (drop i ms) ≡ some j → j ≡ 0) where
  punch_marked : (i : ℕ) (u : Forest Named) → punch_from test i u ≡ punch (drop i ms) u
  punch_marked i nil = refl
  punch_marked i (cons l c s) =
      let below : punch_from test (suc i) c ≡ punch (rest (drop i ms)) c =
      punch_marked (suc i) c ∙ ap (λ (ns : Marks). punch ns c) (sym (rest_drop ms i ∙ ap (λ (k : ℕ). drop k ms) (add-one i))) in
      let later : punch_from test (suc i + size c) s ≡ punch (drop (size c) (rest (drop i ms))) s =
      punch_marked (suc i + size c) s
      ∙ ap (λ (ns : Marks). punch ns s)
      (sym (ap (drop (size c)) (rest_drop ms i ∙ ap (λ (k : ℕ). drop k ms) (add-one i)) ∙ drop-drop (size c) (suc i) ms)) in
      go (mark (drop i ms)) refl below later
    where
      go : {a b a' b' : Forest Named} (m : Mark) → mark (drop i ms) ≡ m → a ≡ a' → b ≡ b'
          → choose (test i) (cons (slot (hole 0)) nil b) (cons l a b) ≡ punch_node m l a' b'
      go none e p q = choose_false _ _ (told i ∙ ap is_some e) ∙ ap₂ (λ (x y : Forest Named). cons l x y) p q
      go (some j) e p q =
          choose_true _ _ (told i ∙ ap is_some e)
          ∙ ap₂ (λ (k : ℕ) (y : Forest Named). cons (slot (hole k)) nil y) (sym (first i j e)) q

-- MAIN THEOREMS: a value is copied as it is, a body is the body of its choice
pub copied_whole : (t : NamedTerm) → copied 0 t ≡ encode (one t)
unfolding copied copied_from
copied_whole t = ap encode (punch_none (marked 0) none_marked 0 (one t))

pub copied_choice : (ms : Marks) (t : NamedTerm) → length ms ≤ max_face_nodes → ((k i : ℕ) → get_elem? ms k ≡ some (some i) → i < 1)
    → copied (mask_of max_face_nodes ms) t ≡ encode (one (punch_term ms t))
unfolding copied copied_from
copied_choice ms t few places =
    ap encode
    (punch_marked (marked (mask_of max_face_nodes ms)) ms (λ i. marked_left ms i few)
    (λ i j e. let small = places i j (mark_some ms i j e) in omega arith) 0 (one t) ∙ sym (punch_one ms t))

-- Each node of terms that stand in a table stands there
pub node_in : {es : List ℕ} {node to n : ℕ} {u : Forest Named} {t : NamedTerm} → Stands n u t → Spans es node to u
    → (m : ℕ) → m ≡ node + n → TermIn es m t
node_in {es} {node} {t} here h m e = let same : m ≡ node = omega arith in subst (λ (k : ℕ). TermIn es k t) (sym same) (span_first h)
node_in {es} {node} (below g) h m e = node_in {node = node + 1} g (term_below (span_first h) (size_in (at es node)) refl) m (omega arith)
node_in {es} {node} (beside g d) h m e =
    node_in {node = node + size_in (at es node)} g (span_later h (size_in (at es node)) refl) m (omega (arith, term_size (span_first h)))

-- and so does each term of a problem's expressions
pub expression_in : (p : Problem) → WithinLimits p → (n : ℕ) (t : NamedTerm) → node_at n (named_expressions p) ≡ some t
    → TermIn (expression_tokens p) n t
unfolding expression_tokens
expression_in p w n t e = node_in (node_stands n (named_expressions p) t e) whole n (omega arith)
  where
    whole : Spans (tokens [] (named_expressions p)) 0 (size (named_expressions p)) (named_expressions p)
    whole =
        let room = expressions_room p w in
        record {
          levels = max_depth;
          scope = [];
          readable = expressions_readable p w;
          depths = room.depths;
          sizes = room.sizes;
          after = [];
          split = sym (append-nil (tokens [] (named_expressions p)));
          ends = omega arith;
        }

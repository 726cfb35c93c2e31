-- Terms that stand in the table, taken apart: the node's token, the terms below it, the first of several and those after it.
use mathlib.Core.Path.{◌≡◌, refl, ap, sym, ◌∙◌}
use Prim.Native.Nat.{ℕ, zero, suc, ◌+◌, ◌<◌, ◌≤◌}
use native.Mathlib.Omega.{arith}
use native.Mathlib.Nat.{add-zero}
use mathlib.Core.Bool.{false}
use mathlib.Core.List.{List, ◌++◌, append_assoc, append-nil}
use lib.ListN.{length, get_or, drop}
use lib.Seq.{get_or-drop, drop-drop, drop_at}
use Rattle.meaning.specs.Term.{Forest, Named, NamedTerm, cons, function, graft, hole, metavariable, nil, one, own, size, slot}
use Rattle.meaning.specs.Scope.{enter}
use Rattle.meaning.specs.Field.{fixed_part, tag_of}
use Rattle.meaning.specs.Read.{context_below, in_expression}
use Rattle.meaning.specs.Readable.{NodeFits, Readable}
use Rattle.tokens.specs.Token.{size_in, tag_in, tokens}
use Rattle.tokens.specs.Key.{Inside, at}
use Rattle.tokens.proofs.TokenParts.{enter_room, tokens_graft, tokens_length}
use Rattle.tokens.proofs.ProblemTokens.{token_at, tag_at, size_at_lem}
use Rattle.tokens.proofs.KeyLaws.{stands_inside}
use Rattle.bodies.specs.Marked.{marked}
use Rattle.copying.specs.Fixed.{fixed_in, head_in}
use Rattle.copying.specs.Copied.{Spans, TermIn, copied_from}
use Rattle.copying.proofs.FixedLaws.{Node, fixed_said, node_headed}
use Rattle.copying.proofs.CopiedBytes.{node_bytes, node_length}

-- Below a node of an expression there are expressions
own_below : (levels : ℕ) (l : Named) (c : Forest Named) → NodeFits in_expression l c → Readable levels (context_below l in_expression) c
    → Readable levels in_expression c
unfolding context_below
own_below levels (own o) c f r = r
own_below levels (slot (metavariable m)) c f r = absurd f.0
own_below levels (slot (function m n)) c f r = absurd f.0
own_below levels (slot (hole i)) c f r = absurd f.0

-- The first node of expressions that can be read
module _ (sc : List ℕ) (l : Named) (c s : Forest Named) where
  pub record Opened (levels : ℕ) : Type 0 where
    pub node : Node sc l c
    pub levels_below : ℕ
    pub below : Readable levels_below in_expression c
    pub depths : length (enter l sc) + levels_below ≤ 256
    pub first : Readable levels in_expression (one (l, c))
    pub later : Readable levels in_expression s

  pub opened : (levels : ℕ) → Readable levels in_expression (cons l c s) → length sc + levels ≤ 256 → size (cons l c s) < 65536
      → Opened levels
  opened zero r d z = absurd r
  opened (suc levels) r d z =
      record {
        node = record { fits = r.0; deep = omega arith; small = omega arith };
        levels_below = levels;
        below = own_below levels l c r.0 r.1;
        depths = omega (arith, enter_room sc l);
        first = (r.0, r.1, tt);
        later = r.2;
      }

-- A term at a node
module _ {es : List ℕ} {node : ℕ} {t : NamedTerm} (h : TermIn es node t) where
  open_term_lem : Opened h.scope t.0 t.1 nil h.levels
  open_term_lem = opened h.scope t.0 t.1 nil h.levels h.held.readable h.held.depths h.held.sizes

  term_token : at es node ≡ token_at h.scope t.0 t.1
  unfolding tokens
  term_token =
      sym (ap (at es) (add-zero node)) ∙ sym (get_or-drop node es 0 0) ∙ ap (λ (xs : List ℕ). get_or xs 0 0) h.stands.split

  pub term_inside : Inside es node
  term_inside = stands_inside h.levels in_expression es node h.scope t h.held h.stands

  pub term_size : size_in (at es node) ≡ suc (size t.1)
  term_size = let n = open_term_lem.node in ap size_in term_token ∙ size_at_lem h.scope t.0 t.1 n.deep n.small

  pub term_tag : tag_in (at es node) ≡ tag_of t.0
  term_tag = let n = open_term_lem.node in ap tag_in term_token ∙ tag_at h.scope t.0 t.1 n.deep n.small

  pub term_fixed : fixed_in (at es node) ≡ fixed_part t.0
  term_fixed = ap fixed_in term_token ∙ fixed_said h.scope t.0 t.1 open_term_lem.node

  -- The terms below it
  pub term_below : (m : ℕ) → m ≡ size_in (at es node) → Spans es (node + 1) (node + m) t.1
  unfolding tokens
  term_below m is_m =
      let q = open_term_lem in
      record {
        levels = q.levels_below;
        scope = enter t.0 h.scope;
        readable = q.below;
        depths = q.depths;
        sizes = omega (arith, h.held.sizes);
        after = h.stands.after;
        split = sym (drop-drop 1 node es) ∙ ap (drop 1) h.stands.split
            ∙ ap (λ (xs : List ℕ). xs ++ h.stands.after) (append-nil (tokens (enter t.0 h.scope) t.1));
        ends = omega (arith, is_m, term_size);
      }

  -- Its bytes, unless it is a hole: the token's own, and then those below
  module _ (mask i : ℕ) (e : marked mask i ≡ false) where
    pub term_bytes : copied_from mask i (one t)
        ≡ head_in (at es node) (length (copied_from mask (suc i) t.1)) ++ copied_from mask (suc i) t.1
    term_bytes = node_bytes mask i t.0 t.1 e ∙ node_headed (at es node) t.0 (copied_from mask (suc i) t.1) term_tag term_fixed

    pub term_long : length (copied_from mask i (one t)) ≡ 3 + length (fixed_in (at es node)) + length (copied_from mask (suc i) t.1)
    term_long = omega (arith, node_length mask i t.0 t.1 e, ap length term_fixed)

-- Terms up to a node: the first, and those after it
module _ {es : List ℕ} {node to : ℕ} {t : NamedTerm} {s : Forest Named} (h : Spans es node to (graft t s)) where
  open_span : Opened h.scope t.0 t.1 s h.levels
  open_span = opened h.scope t.0 t.1 s h.levels h.readable h.depths h.sizes

  pub span_first : TermIn es node t
  span_first =
      record {
        levels = h.levels;
        scope = h.scope;
        held = record { readable = open_span.first; depths = h.depths; sizes = omega (arith, h.sizes) };
        stands = record {
          after = tokens h.scope s ++ h.after;
          split = h.split ∙ ap (λ (xs : List ℕ). xs ++ h.after) (tokens_graft h.scope t s)
              ∙ append_assoc (tokens h.scope (one t)) (tokens h.scope s) h.after;
        };
      }

  pub span_later : (m : ℕ) → m ≡ size_in (at es node) → Spans es (node + m) to s
  unfolding span_first
  span_later m is_m =
      let n : length (tokens h.scope (one t)) ≡ m = omega (arith, tokens_length h.scope (one t), term_size span_first, is_m) in
      record {
        levels = h.levels;
        scope = h.scope;
        readable = open_span.later;
        depths = h.depths;
        sizes = omega (arith, h.sizes);
        after = h.after;
        split = sym (drop-drop m node es) ∙ ap (drop m) span_first.stands.split
            ∙ drop_at (tokens h.scope (one t)) (tokens h.scope s ++ h.after) m n;
        ends = omega (arith, h.ends, term_size span_first, is_m);
      }

-- Up to the node itself there is nothing
pub span_none : {es : List ℕ} {node to : ℕ} (u : Forest Named) → Spans es node to u → to ≤ node → u ≡ nil
span_none nil h e = refl
span_none (cons l c s) h e = absurd (omega (arith, h.ends))

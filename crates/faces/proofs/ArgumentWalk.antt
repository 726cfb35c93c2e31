-- The walk of an application's argument against a subexpression, on a problem's token tables.
--   ArgumentAt   what stands below an application's node in the table: the one argument that the bytes have, in its scope
--   i, j         the application's node among the patterns, the subexpression's node among the expressions
--   under        the number of binders by which the subexpression lies deeper than the application; it uses none of them
use mathlib.Core.Path.{◌≡◌, refl, ap, ap₂, sym, ◌∙◌, subst}
use mathlib.Core.List.{List, ◌++◌, append-nil}
use mathlib.Core.Option.{Option, some}
use Prim.Native.Nat.{ℕ, zero, suc, ◌+◌, ◌-◌, ◌≤◌}
use native.Mathlib.Omega.{arith}
use native.Mathlib.Numerals.{add-one}
use lib.ListN.{length, take, drop}
use lib.Seq.{drop-drop, take_at}
use Rattle.meaning.specs.Term.{Forest, nil, cons, one, size, trees, node_at, symbol, variable, application, binder, own, slot}
use Rattle.meaning.specs.Term.{metavariable, function, hole, Named, NamedTerm, Terms, Term}
use Rattle.meaning.specs.Scope.{enter, nameless_label, nameless}
use Rattle.meaning.specs.Problem.{Problem, patterns, expressions}
use Rattle.meaning.specs.Filling.{argument}
use Rattle.meaning.specs.Lower.{lower_term}
use Rattle.meaning.specs.Face.{Face, walk}
use Rattle.meaning.specs.Read.{Context, in_argument, context_below}
use Rattle.meaning.specs.Readable.{Readable, WithinLimits}
use Rattle.meaning.proofs.Lists.{never}
use Rattle.meaning.proofs.Nodes as nodes
use Rattle.meaning.proofs.Proper.{relabel_trees}
use Rattle.meaning.proofs.ShiftLaws.{relabel_size}
use Rattle.tokens.specs.Token.{depth_in, size_in, tokens, pattern_tokens, expression_tokens}
use Rattle.tokens.specs.Key.{at, Held, Stands}
use Rattle.tokens.proofs.TokenParts.{tokens_length}
use Rattle.tokens.proofs.KeyLaws.{stands_depth, stands_size, stands_inside}
use Rattle.tokens.proofs.ProblemTokens.{Room, pattern_table_lem}
use Rattle.lockstep.specs.declared.Span.{Span}
use Rattle.lockstep.specs.Walk.{lockstep, at_slots}
use Rattle.lockstep.specs.Span.{span_walk}
use Rattle.lockstep.specs.Recorded.{RecordedBy, Both}
use Rattle.lockstep.proofs.SlotWalk.{Looks, look_below, Deep}
use Rattle.lockstep.proofs.TokenDepths.{tokens_deep}
use Rattle.lockstep.proofs.LoweredWalk.{lowered_walk}
use Rattle.faces.proofs.NodeTokens.{AtNode, pattern_node_lem, expression_node_lem}

-- A subterm stands in the whole from its node on
looks_at : (u : Terms) (i : ℕ) (t : Term) → node_at i u ≡ some t → Looks (λ m. node_at m u) i (one t)
looks_at u i t e m h =
    let (v, s) = nodes.node_there m (one t) h in
    nodes.stands_node (nodes.stands_in {m = i + m} (nodes.node_stands i u t e) s refl) ∙ sym (nodes.stands_node s)

-- The one argument
only : (u : Terms) → trees u ≡ 1 → one (argument u 0) ≡ u
only nil e = absurd (omega arith)
only (cons l c nil) e = refl
only (cons l c (cons l' c' s)) e = absurd (omega arith)

record ArgumentAt (table : List ℕ) (i : ℕ) (cs : Terms) : Type 0 where
  scope : List ℕ
  levels : ℕ
  named : Forest Named
  is : nameless scope named ≡ cs
  single : trees named ≡ 1
  readable : Readable levels in_argument named
  room : Room levels scope named
  depth : depth_in (at table i) ≡ length scope
  nodes : size_in (at table i) ≡ suc (size named)
  ends : i + size_in (at table i) ≤ length table
  after : List ℕ
  split : drop (suc i) table ≡ tokens scope named ++ after

module _ (table : List ℕ) (i f n : ℕ) (cs : Terms) where
  opened : (levels : ℕ) (ctx : Context) (sc : List ℕ) (l : Named) (c : Forest Named) → nameless_label sc l ≡ slot (function f n)
      → nameless (enter l sc) c ≡ cs → Held levels ctx sc (l, c) → Stands table i sc (l, c) → ArgumentAt table i cs
  unfolding context_below tokens
  opened levels ctx sc (own (symbol m)) c q e h s = never (cc)
  opened levels ctx sc (own (variable x)) c q e h s = never (cc)
  opened levels ctx sc (own (application m)) c q e h s = never (cc)
  opened levels ctx sc (own (binder b x)) c q e h s = never (cc)
  opened levels ctx sc (slot (metavariable m)) c q e h s = never (cc)
  opened levels ctx sc (slot (hole m)) c q e h s = never (cc)
  opened zero ctx sc (slot (function g m)) c q e h s = absurd h.readable
  opened (suc levels) ctx sc (slot (function g m)) c q e h s =
      let t : NamedTerm = (slot (function g m), c) in
      let long : size_in (at table i) ≡ size (one t) = stands_size (suc levels) ctx table i sc t h s in
      record {
        scope = sc;
        levels = levels;
        named = c;
        is = e;
        single = h.readable.0.3 ∙ h.readable.0.2;
        readable = h.readable.1;
        room = record { depths = omega (arith, h.depths); sizes = omega (arith, h.sizes) };
        depth = stands_depth (suc levels) ctx table i sc t h s;
        nodes = omega arith;
        ends = (stands_inside (suc levels) ctx table i sc t h s).ends;
        after = s.after;
        split = ap (λ (m : ℕ). drop m table) (sym (add-one i)) ∙ sym (drop-drop 1 i table) ∙ ap (drop 1) s.split
            ∙ ap (λ (l : List ℕ). l ++ s.after) (append-nil (tokens sc c));
      }

  argument_at_lem : AtNode table i (slot (function f n), cs) → ArgumentAt table i cs
  argument_at_lem a =
      opened a.levels a.context a.scope a.named.0 a.named.1 (sym (ap (λ (t : Term). t.0) a.term))
      (sym (ap (λ (t : Term). t.1) a.term)) a.held a.stands

module _ (p : Problem) (w : WithinLimits p) (i f n : ℕ) (cs : Terms)
    (applied : node_at i (patterns p) ≡ some (slot (function f n), cs)) where
  abbrev pub argument_span : ℕ → Span
  argument_span j =
      record {
        from = i + 1;
        to = i + size_in (at (pattern_tokens p) i);
        at = j;
        d = depth_in (at (pattern_tokens p) i);
        e = depth_in (at (expression_tokens p) j);
      }

  below : ArgumentAt (pattern_tokens p) i cs
  below = argument_at_lem (pattern_tokens p) i f n cs (pattern_node_lem p w i (slot (function f n), cs) applied)

  pub argument_inside : i + size_in (at (pattern_tokens p) i) ≤ length (pattern_tokens p)
  argument_inside = below.ends

  -- The tokens of the span
  span_tokens : take (i + size_in (at (pattern_tokens p) i) - (i + 1)) (drop (i + 1) (pattern_tokens p)) ≡ tokens below.scope below.named
  span_tokens =
      let m : i + size_in (at (pattern_tokens p) i) - (i + 1) ≡ size below.named = omega (arith, below.nodes) in
      ap₂ take m (ap (λ (k : ℕ). drop k (pattern_tokens p)) (add-one i) ∙ below.split)
      ∙ take_at (tokens below.scope below.named) below.after (size below.named) (tokens_length below.scope below.named)

  module _ (j under : ℕ) (v u : Term) (stands : node_at j (expressions p) ≡ some v) (lowers : lower_term under v ≡ some u)
      (deeper : depth_in (at (expression_tokens p) j) ≡ under + depth_in (at (pattern_tokens p) i)) where
    across : AtNode (expression_tokens p) j v
    across = expression_node_lem p w j v stands

    across_depth : depth_in (at (expression_tokens p) j) ≡ length across.scope
    across_depth =
        stands_depth across.levels across.context (expression_tokens p) j across.scope across.named across.held
        across.stands

    span_walk_lem : span_walk (pattern_tokens p) (expression_tokens p) (argument_span j)
        ≡ lockstep at_slots (length below.scope) (length across.scope) 0 (suc i) j (tokens below.scope below.named)
        (tokens across.scope (one across.named) ++ across.stands.after)
    span_walk_lem =
        ap₂ (λ (a b : ℕ). lockstep at_slots a b 0 (i + 1) j
        (take (i + size_in (at (pattern_tokens p) i) - (i + 1)) (drop (i + 1) (pattern_tokens p))) (drop j (expression_tokens p)))
        below.depth across_depth
        ∙ ap₂ (lockstep at_slots (length below.scope) (length across.scope) 0 (i + 1) j) span_tokens across.stands.split
        ∙ ap (λ (a : ℕ). lockstep at_slots (length below.scope) (length across.scope) 0 a j (tokens below.scope below.named)
        (tokens across.scope (one across.named) ++ across.stands.after)) (add-one i)

    -- The patterns' nodes by their numbers, and those of the lowered subexpression, which begins at node j
    abbrev pub Meets : Option (List ℕ) → Option (List Face) → Type 0
    Meets ns xs =
        Both (RecordedBy (λ m. node_at m (patterns p)) (λ m. node_at (m - j) (one u)) (λ m. depth_in (at (pattern_tokens p) m))) ns xs

    -- THE THEOREM: the walk of the span fails just where that of the argument against the lowered subexpression fails, and else records its
    -- faces in order. k is the number of binders above the application
    pub argument_walk_lem : (k : ℕ) → depth_in (at (pattern_tokens p) i) ≡ k
        → Meets (span_walk (pattern_tokens p) (expression_tokens p) (argument_span j)) (walk k j (one (argument cs 0)) (one u))
    argument_walk_lem k deep =
        subst (λ (o : Option (List ℕ)). Meets o (walk k j (one (argument cs 0)) (one u)))
        (sym span_walk_lem)
        (subst (λ (a : Terms). Meets flat (walk k j a (one u)))
        (below.is ∙ sym (only cs (sym (ap trees below.is) ∙ same_count ∙ below.single)))
        (lowered_walk below.scope across.scope under (sym across_depth ∙ deeper ∙ ap (λ (m : ℕ). under + m) below.depth)
        below.named across.named u (ap (lower_term under) (sym across.term) ∙ lowers)
        below.levels across.levels in_argument across.context below.readable below.room below.single across.held
        (λ m. node_at m (patterns p)) (λ m. node_at (m - j) (one u)) (λ m. depth_in (at (pattern_tokens p) m)) k (suc i) j
        across.stands.after
        (subst (Looks (λ m. node_at m (patterns p)) (suc i)) (sym below.is)
        (look_below (λ m. node_at m (patterns p)) i (slot (function f n)) cs nil
        (looks_at (patterns p) i (slot (function f n), cs) applied)))
        (λ m h. let e : j + m - j ≡ m = omega arith in ap (λ (x : ℕ). node_at x (one u)) e)
        (subst (λ (d : ℕ). Deep (λ m. depth_in (at (pattern_tokens p) m)) (suc i) d (nameless below.scope below.named))
        (sym below.depth ∙ deep)
        (tokens_deep (pattern_tokens p) (suc i) below.levels in_argument below.scope below.named below.after below.split
        below.readable below.room))
        (omega (
          arith,
          below.ends,
          below.nodes,
          (pattern_table_lem p w).small,
          relabel_size enter nameless_label below.scope below.named,
        ))))
      where
        flat : Option (List ℕ)
        flat =
            lockstep at_slots (length below.scope) (length across.scope) 0 (suc i) j (tokens below.scope below.named)
            (tokens across.scope (one across.named) ++ across.stands.after)

        same_count : trees (nameless below.scope below.named) ≡ trees below.named
        same_count = relabel_trees enter nameless_label below.scope below.named

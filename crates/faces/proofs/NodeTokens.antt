-- The term at a node stands in the table at the node's number, so that its token says what it is.
--   AtNode    the term t at node i: the term that the bytes have, in its scope, with its tokens in the table from i on
use mathlib.Core.Path.{◌≡◌, refl, ap, ap₂, sym, ◌∙◌}
use mathlib.Core.Bool.{true, false, ◌&&◌}
use mathlib.Core.List.{List, [], ◌∷◌, ◌++◌, append_assoc, append-nil}
use mathlib.Core.Option.{some}
use Prim.Native.Nat.{ℕ, zero, suc, ◌+◌, ◌-◌, ◌<◌}
use native.Mathlib.Omega.{arith}
use native.Mathlib.Nat.{add-zero}
use lib.ListN.{length, drop}
use lib.Seq.{get_or-drop, drop-append-le, drop-append-add}
use lib.Dec.{eqb, ltb}
use borrow.Author.Tests.{ltb-true, ltb-false}
use Rattle.meaning.specs.Limits.{max_depth}
use Rattle.meaning.specs.Term.{Forest, nil, cons, one, size, node_at, symbol, variable, application, binder, own, slot, Slot, metavariable}
use Rattle.meaning.specs.Term.{function, hole, Named, NamedTerm, Terms, Term}
use Rattle.meaning.specs.Scope.{enter, nameless_label, nameless, nameless_term}
use Rattle.meaning.specs.Problem.{Problem, named_patterns, named_expressions, patterns, expressions}
use Rattle.meaning.specs.Face.{is_application}
use Rattle.meaning.specs.Field.{tag_of}
use Rattle.meaning.specs.Read.{Context, in_pattern, in_expression, context_below}
use Rattle.meaning.specs.Readable.{Readable, WithinLimits}
use Rattle.meaning.proofs.Lists.{never, by_test, choose_true, choose_false}
use Rattle.tokens.specs.Token.{tag_in, size_in, payload_in, payload_of, tokens, pattern_tokens, expression_tokens}
use Rattle.tokens.specs.Key.{at, Held, Stands}
use Rattle.tokens.proofs.KeyLaws.{some_levels, stands_size, stands_inside}
use Rattle.tokens.proofs.ProblemTokens.{token_at, tag_at, payload_at, Room, room_below, room_later, patterns_room, expressions_room}
use Rattle.meaning.proofs.ShiftLaws.{relabel_size}
use Rattle.meaning.proofs.Proper.{patterns_readable, expressions_readable}
use Rattle.tokens.proofs.TokenParts.{tokens_length}

pub record AtNode (table : List ℕ) (i : ℕ) (t : Term) : Type 0 where
  pub scope : List ℕ
  pub named : NamedTerm
  pub levels : ℕ
  pub context : Context
  pub term : t ≡ nameless_term scope named
  pub held : Held levels context scope named
  pub stands : Stands table i scope named

-- The same in a larger table
moved : (table table' more : List ℕ) (i i' : ℕ) (t : Term) → drop i' table' ≡ drop i table ++ more → AtNode table i t → AtNode table' i' t
moved table table' more i i' t e n =
    record {
      scope = n.scope;
      named = n.named;
      levels = n.levels;
      context = n.context;
      term = n.term;
      held = n.held;
      stands = record {
        after = n.stands.after ++ more;
        split = e ∙ ap (λ (l : List ℕ). l ++ more) n.stands.split
            ∙ append_assoc (tokens n.scope (one n.named)) n.stands.after more;
      };
    }

at_node : (levels : ℕ) (ctx : Context) (sc : List ℕ) (u : Forest Named) → Readable levels ctx u → Room levels sc u
    → (i : ℕ) (t : Term) → node_at i (nameless sc u) ≡ some t → AtNode (tokens sc u) i t
unfolding tokens
at_node levels ctx sc nil r m i t e = absurd (let z : ◌≡◌ {A = ℕ} 0 1 = cc in omega arith)
at_node zero ctx sc (cons l c s) r m i t e = absurd r
at_node (suc levels) ctx sc (cons l c s) r m zero t e =
    let q : t ≡ nameless_term sc (l, c) = cc in
    record {
      scope = sc;
      named = (l, c);
      levels = suc levels;
      context = ctx;
      term = q;
      held = record { readable = (r.0, r.1, tt); depths = m.depths; sizes = omega (arith, m.sizes) };
      stands = record {
        after = tokens sc s;
        split = ap (λ (ts : List ℕ). token_at sc l c ∷ (ts ++ tokens sc s)) (sym (append-nil (tokens (enter l sc) c)));
      };
    }
at_node (suc levels) ctx sc (cons l c s) r m (suc n) t e =
    by_test (ltb n (size (nameless (enter l sc) c)))
    (λ y. below y (at_node levels (context_below l ctx) (enter l sc) c r.1 (room_below levels sc l c s m) n t
    (sym (choose_true _ _ y) ∙ e)))
    (λ y. later y (at_node (suc levels) ctx sc s r.2 (room_later levels sc l c s m) (n - size (nameless (enter l sc) c)) t
    (sym (choose_false _ _ y) ∙ e)))
  where
    tc : List ℕ
    tc = tokens (enter l sc) c

    ts : List ℕ
    ts = tokens sc s

    long : size (nameless (enter l sc) c) ≡ length tc
    long = relabel_size enter nameless_label (enter l sc) c ∙ sym (tokens_length (enter l sc) c)

    below : ltb n (size (nameless (enter l sc) c)) ≡ true → AtNode tc n t → AtNode (token_at sc l c ∷ (tc ++ ts)) (suc n) t
    below y k = moved tc (token_at sc l c ∷ (tc ++ ts)) ts n (suc n) t
        (drop-append-le n tc ts (omega (arith, long, ltb-true n (size (nameless (enter l sc) c)) y))) k

    later : ltb n (size (nameless (enter l sc) c)) ≡ false → AtNode ts (n - size (nameless (enter l sc) c)) t
        → AtNode (token_at sc l c ∷ (tc ++ ts)) (suc n) t
    later y k =
        let j : ℕ = n - size (nameless (enter l sc) c) in
        let d : n ≡ length tc + j = omega (arith, long, ltb-false n (size (nameless (enter l sc) c)) y) in
        moved ts (token_at sc l c ∷ (tc ++ ts)) [] j (suc n) t
        (ap (λ (x : ℕ). drop x (tc ++ ts)) d ∙ drop-append-add tc ts j ∙ sym (append-nil (drop j ts))) k

-- What the token of a node says
module _ (table : List ℕ) (i : ℕ) (t : Term) (n : AtNode table i t) where
  pub node_inside : i < length table
  node_inside = (stands_inside n.levels n.context table i n.scope n.named n.held n.stands).starts

  pub node_size : size_in (at table i) ≡ size (one t)
  node_size =
      let u : NamedTerm = n.named in
      let a : size (one u) ≡ size (one (nameless_term n.scope u)) =
      omega (arith, relabel_size enter nameless_label (enter u.0 n.scope) u.1) in
      stands_size n.levels n.context table i n.scope u n.held n.stands ∙ a ∙ sym (ap (λ (v : Term). size (one v)) n.term)

  node_token_lem : at table i ≡ token_at n.scope n.named.0 n.named.1
  unfolding tokens
  node_token_lem =
      let z : i + 0 ≡ i = add-zero i in
      ap (at table) (sym z) ∙ sym (get_or-drop i table 0 0) ∙ ap (λ (l : List ℕ). at l 0) n.stands.split

-- The token of a slot has its tag and its number
module _ (table : List ℕ) (i : ℕ) (z : Slot) (cs : Terms) (n : AtNode table i (slot z, cs)) where
  slot_label_lem : (l : Named) → nameless_label n.scope l ≡ slot z → l ≡ slot z
  slot_label_lem (own (symbol m)) e = never (cc)
  slot_label_lem (own (variable x)) e = never (cc)
  slot_label_lem (own (application m)) e = never (cc)
  slot_label_lem (own (binder b x)) e = never (cc)
  slot_label_lem (slot y) e = let w : y ≡ z = cc in ap (λ (x : Slot). slot x) w

  slot_token : at table i ≡ token_at n.scope (slot z) n.named.1
  slot_token =
      node_token_lem table i (slot z, cs) n
      ∙ ap (λ (l : Named). token_at n.scope l n.named.1) (slot_label_lem n.named.0 (sym (ap (λ (u : Term). u.0) n.term)))

  deep : length n.scope < 256
  deep = omega (arith, n.held.depths, some_levels n.levels n.context n.named n.held.readable)

  small : suc (size n.named.1) < 65536
  small = omega (arith, n.held.sizes)

  pub node_tag : tag_in (at table i) ≡ tag_of (slot z)
  node_tag = ap tag_in slot_token ∙ tag_at n.scope (slot z) n.named.1 deep small

  pub node_payload : payload_in (at table i) ≡ payload_of n.scope (slot z)
  node_payload = ap payload_in slot_token ∙ payload_at n.scope (slot z) n.named.1 deep small

-- Whether the token of a slot is that of an application of f
pub node_applies : (table : List ℕ) (i : ℕ) (z : Slot) (cs : Terms) (f : ℕ) → AtNode table i (slot z, cs)
    → eqb (tag_in (at table i)) 6 && eqb f (payload_in (at table i)) ≡ is_application f z
unfolding payload_of
node_applies table i z cs f n =
    ap₂ (λ (g m : ℕ). eqb g 6 && eqb f m) (node_tag table i z cs n) (node_payload table i z cs n) ∙ said n.scope z
  where
    said : (sc : List ℕ) (z : Slot) → eqb (tag_of (slot z)) 6 && eqb f (payload_of sc (slot z)) ≡ is_application f z
    said sc (metavariable m) = refl
    said sc (function g a) = refl
    said sc (hole h) = refl

-- THE THEOREM: meaning's node numbers are the places of the tables
module _ (p : Problem) (w : WithinLimits p) where
  pub pattern_node_lem : (i : ℕ) (t : Term) → node_at i (patterns p) ≡ some t → AtNode (pattern_tokens p) i t
  unfolding pattern_tokens
  pattern_node_lem i t e = at_node max_depth in_pattern [] (named_patterns p) (patterns_readable p w) (patterns_room p w) i t e

  pub expression_node_lem : (j : ℕ) (t : Term) → node_at j (expressions p) ≡ some t → AtNode (expression_tokens p) j t
  unfolding expression_tokens
  expression_node_lem j t e = at_node max_depth in_expression [] (named_expressions p) (expressions_readable p w) (expressions_room p w) j t e

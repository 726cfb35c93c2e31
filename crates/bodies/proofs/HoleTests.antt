-- What the test of a hole means: the hole holds, without the binders of the body above it, what the lowest hole does.
--   Spotted   what a face of a walk faces stands in the table at its node; d binders are above the whole that is walked
use mathlib.Core.Path.{◌≡◌, refl, ap, ap₂, sym, ◌∙◌, subst}
use mathlib.Core.Logic.{◌↔◌}
use Prim.Native.Nat.{ℕ, zero, suc, ◌+◌, ◌-◌}
use native.Mathlib.Omega.{arith}
use mathlib.Core.Bool.{Bool, true, false, ◌&&◌, not, true≢false}
use mathlib.Core.List.{List, [], ◌++◌, append_assoc, append-nil}
use mathlib.Core.Option.{Option, none, some}
use lib.ListN.{length, drop, replicate, length-replicate}
use lib.Seq.{drop-drop, drop-append-add}
use Rattle.meaning.specs.Basics.{All}
use Rattle.meaning.specs.Term.{Forest, nil, cons, one, size, own, slot, Named, Nameless, Terms, Term, inner}
use Rattle.meaning.specs.Scope.{enter, nameless_label, nameless, nameless_term}
use Rattle.meaning.specs.Shift.{Closed}
use Rattle.meaning.specs.Lower.{lower_term}
use Rattle.meaning.specs.Equal.{View, view}
use Rattle.meaning.specs.Choice.{Owner, owner_of, uses_face}
use Rattle.meaning.specs.Face.{Face, walk}
use Rattle.meaning.specs.Read.{Context, context_below}
use Rattle.meaning.specs.Readable.{Readable}
use Rattle.meaning.proofs.Lists.{never, by_test, T_true, true_T, and_T, all_append}
use Rattle.meaning.proofs.ShiftLaws.{relabel_size}
use Rattle.meaning.proofs.ViewLaws.{nameless_closed}
use Rattle.meaning.proofs.Lockstep.{agrees_eq}
use Rattle.meaning.proofs.Lowered.{lowered_view, lowered_none, view_injective}
use Rattle.meaning.proofs.Nodes.{walked_own, walked_slot}
use Rattle.tokens.specs.Token.{tokens}
use Rattle.tokens.specs.Key.{level_from, same_at, uses_at}
use Rattle.tokens.proofs.TokenParts.{tokens_length}
use Rattle.tokens.proofs.Levels.{enter_deep}
use Rattle.tokens.proofs.KeyLaws.{uses_means, same_means}
use Rattle.tokens.proofs.Owners.{equal_levels}
use Rattle.tokens.proofs.ProblemTokens.{Room, room_below, room_later}
use Rattle.demands.specs.Demand.{lowered}
use Rattle.numbers.specs.Tests.{Tests, Beneath, Tells}
use Rattle.faces.proofs.NodeTokens.{AtNode, node_inside}
use Rattle.bodies.specs.Suits.{hole_fits}

pub record Spotted (es : List ℕ) (d : ℕ) (h : Face) : Type 0 where
  pub there : AtNode es h.node h.term
  pub deep : length there.scope ≡ h.under + d

-- The faces of a walk of terms whose tokens stand in the table
module _ (es : List ℕ) (d : ℕ) where
  -- One node further, and behind all nodes below it
  module _ (n : ℕ) (sc : List ℕ) (l : Named) (c s : Forest Named) (rest : List ℕ) (split : drop n es ≡ tokens sc (cons l c s) ++ rest) where
    split_below : drop (suc n) es ≡ tokens (enter l sc) c ++ (tokens sc s ++ rest)
    unfolding tokens
    split_below =
        let e : n + 1 ≡ suc n = omega arith in
        ap (λ (m : ℕ). drop m es) (sym e) ∙ sym (drop-drop 1 n es) ∙ ap (drop 1) split
        ∙ append_assoc (tokens (enter l sc) c) (tokens sc s) rest

    split_later : drop (suc n + size c) es ≡ tokens sc s ++ rest
    split_later =
        let e : length (tokens (enter l sc) c) + 0 ≡ size c = omega (arith, tokens_length (enter l sc) c) in
        sym (drop-drop (size c) (suc n) es) ∙ ap (drop (size c)) split_below
        ∙ ap (λ (m : ℕ). drop m (tokens (enter l sc) c ++ (tokens sc s ++ rest))) (sym e)
        ∙ drop-append-add (tokens (enter l sc) c) (tokens sc s ++ rest) 0

    split_here : drop n es ≡ tokens sc (one (l, c)) ++ (tokens sc s ++ rest)
    unfolding tokens
    split_here = split ∙ simp (append_assoc, append-nil)

  pub spots : (k n levels : ℕ) (ctx : Context) (b : Terms) (sc : List ℕ) (v : Forest Named) (rest : List ℕ)
      → drop n es ≡ tokens sc v ++ rest
      → length sc ≡ k + d → Readable levels ctx v → Room levels sc v → (hs : List Face) → walk k n b (nameless sc v) ≡ some hs
      → All (Spotted es d) hs
  spots k n levels ctx nil sc nil rest split deep r m hs w = let e : [] ≡ hs = cc in subst (All (Spotted es d)) e tt
  spots k n levels ctx nil sc (cons l' c' s') rest split deep r m hs w = never (cc)
  spots k n levels ctx (cons l c s) sc nil rest split deep r m hs w = never (cc)
  spots k n zero ctx (cons l c s) sc (cons l' c' s') rest split deep r m hs w = absurd r
  spots k n (suc levels) ctx (cons (own o) c s) sc (cons l' c' s') rest split deep r m hs w =
      let y = walked_own k n o c s (nameless_term sc (l', c')) (nameless sc s') hs w in
      let e : own o ≡ nameless_label sc l' = agrees_eq o (nameless_label sc l') y.agree in
      let z : size (nameless (enter l' sc) c') ≡ size c' = relabel_size enter nameless_label (enter l' sc) c' in
      subst (All (Spotted es d)) (sym y.whole)
      (all_append (Spotted es d) y.inside y.later
      (spots (inner (own o) k) (suc n) levels (context_below l' ctx) c (enter l' sc) c' (tokens sc s' ++ rest)
      (split_below n sc l' c' s' rest split)
      (enter_deep k d sc l' deep ∙ ap (λ (a : Nameless). inner a k + d) (sym e)) r.1 (room_below levels sc l' c' s' m) y.inside
      y.are_inside)
      (spots k (suc n + size (nameless (enter l' sc) c')) (suc levels) ctx s sc s' rest
      (ap (λ (a : ℕ). drop (suc n + a) es) z ∙ split_later n sc l' c' s' rest split) deep r.2 (room_later levels sc l' c' s' m)
      y.later y.are_later))
  spots k n (suc levels) ctx (cons (slot z) c s) sc (cons l' c' s') rest split deep r m hs w =
      let y = walked_slot k n z c s (nameless_term sc (l', c')) (nameless sc s') hs w in
      let q : size (nameless (enter l' sc) c') ≡ size c' = relabel_size enter nameless_label (enter l' sc) c' in
      subst (All (Spotted es d)) (sym y.whole) (
        record {
          there = record {
            scope = sc;
            named = (l', c');
            levels = suc levels;
            context = ctx;
            term = refl;
            held = record { readable = (r.0, r.1, tt); depths = m.depths; sizes = omega (arith, m.sizes) };
            stands = record { after = tokens sc s' ++ rest; split = split_here n sc l' c' s' rest split };
          };
          deep = deep;
        },
        spots k (suc n + size (nameless (enter l' sc) c')) (suc levels) ctx s sc s' rest
            (ap (λ (a : ℕ). drop (suc n + a) es) q ∙ split_later n sc l' c' s' rest split) deep r.2 (room_later levels sc l' c' s' m)
            y.later y.are_later,
      )

-- Two such faces, with any binders of the body above them: only how many there are counts
abbrev binders : Face → List ℕ
binders h = replicate h.under 0

abbrev seen : Face → View Owner
seen h = view (owner_of (binders h)) (one h.term)

count : (h : Face) → length (binders h) ≡ h.under
count h = length-replicate h.under 0

seen_none : (h : Face) → (lowered h ≡ none) ↔ (uses_face (seen h) ≡ true)
seen_none h =
    let e : lower_term (length (binders h)) h.term ≡ lowered h = ap (λ (n : ℕ). lower_term n h.term) (count h) in
    let q = lowered_none (binders h) h.term in
    (λ z. q.0 (e ∙ z), λ z. sym e ∙ q.1 z)

seen_some : (h : Face) (t : Term) → lowered h ≡ some t → seen h ≡ view (owner_of []) (one t)
seen_some h t e = lowered_view (binders h) h.term t (ap (λ (n : ℕ). lower_term n h.term) (count h) ∙ e)

seen_free_lem : (h : Face) (t : Term) → lowered h ≡ some t → uses_face (seen h) ≡ false
seen_free_lem h t e = by_test (uses_face (seen h)) (λ z. let q : none ≡ some t = sym ((seen_none h).1 z) ∙ e in never (cc)) (λ z. z)

free_some : (h : Face) → uses_face (seen h) ≡ false → (t : Term) × (lowered h ≡ some t)
free_some h e = go (lowered h) refl
  where
    go : (o : Option Term) → lowered h ≡ o → (t : Term) × (lowered h ≡ some t)
    go none q = absurd (true≢false (sym ((seen_none h).0 q) ∙ e))
    go (some t) q = (t, q)

module _ (es : List ℕ) (d : ℕ) where
  -- The test of binders in between
  uses_lowered : (h : Face) → Spotted es d h → (uses_at es h.node d ≡ true) ↔ (uses_face (seen h) ≡ true)
  uses_lowered h s =
      let n : AtNode es h.node h.term = s.there in
      let k : length n.scope - d ≡ h.under = omega (arith, s.deep) in
      let e : lower_term (length n.scope - d) (nameless_term n.scope n.named) ≡ lowered h =
      ap₂ lower_term k (sym n.term) in
      let q = uses_means n.levels n.context es h.node n.scope n.named n.held n.stands d in
      (λ z. (seen_none h).0 (sym e ∙ q.0 z), λ z. q.1 (e ∙ (seen_none h).1 z))

  closed_there : (i : ℕ) (t : Term) (n : AtNode es i t) → Closed (length n.scope) (one t)
  closed_there i t n =
      subst (λ (u : Term). Closed (length n.scope) (one u)) (sym n.term) (nameless_closed n.scope (one n.named))

  -- The test of equality, where the first uses no binder in between
  same_seen : (l h : Face) → Spotted es d l → Spotted es d h → uses_face (seen h) ≡ false
      → (same_at es h.node l.node ≡ true) ↔ (seen h ≡ seen l)
  same_seen l h s r free =
      let n : AtNode es l.node l.term = s.there in
      let m : AtNode es h.node h.term = r.there in
      let x = ap (λ (t : Term). view (level_from n.scope) (one t)) n.term in
      let y = ap (λ (t : Term). view (level_from m.scope) (one t)) m.term in
      let a =
      same_means m.levels n.levels m.context n.context es h.node l.node m.scope n.scope m.named n.named
      m.held n.held m.stands n.stands in
      let b =
      equal_levels d m.scope (binders h) n.scope (binders l) h.term l.term (omega (arith, r.deep, count h))
      (omega (arith, s.deep, count l))
      (closed_there h.node h.term m) (closed_there l.node l.term n) free in
      (λ e. b.1 (y ∙ a.0 e ∙ sym x), λ e. a.1 (sym y ∙ b.0 e ∙ x))

  -- What is asked of the nodes, as the table says it: the d binders lie above both
  hole_told : (q : Tests) → Tells es q → (l h : Face) → Spotted es d l → Spotted es d h → Beneath es d h.node l.node
      → hole_fits q d l.node h.node ≡ not (uses_at es h.node d) && same_at es h.node l.node
  unfolding hole_fits
  hole_told q tells l h s r beneath =
      let small = node_inside es h.node h.term r.there in
      let low = node_inside es l.node l.term s.there in
      ap (λ (b : Bool). not b && q.same h.node l.node) (tells.uses h.node d small)
      ∙ by_test (uses_at es h.node d) (λ e. rw e refl)
      (λ e. ap (λ (b : Bool). not (uses_at es h.node d) && b) (tells.same d h.node l.node small low beneath e))

  -- THE TEST OF A HOLE
  pub hole_means : (q : Tests) → Tells es q → (l h : Face) → Spotted es d l → Spotted es d h → Beneath es d h.node l.node
      → (hole_fits q d l.node h.node ≡ true) ↔ ((t : Term) × (lowered h ≡ some t) × (lowered l ≡ some t))
  hole_means q tells l h s r beneath =
      let z = hole_told q tells l h s r beneath in
      (λ e. there (sym z ∙ e), λ e. z ∙ back e)
    where
      there : not (uses_at es h.node d) && same_at es h.node l.node ≡ true → (t : Term) × (lowered h ≡ some t) × (lowered l ≡ some t)
      there e =
          let (a, b) = and_T (not (uses_at es h.node d)) (same_at es h.node l.node) (true_T e) in
          let f : uses_face (seen h) ≡ false =
          by_test (uses_face (seen h)) (λ z. absurd (true≢false (sym (T_true a) ∙ ap not ((uses_lowered h r).1 z)))) (λ z. z) in
          let i : seen h ≡ seen l = (same_seen l h s r f).0 (T_true b) in
          let (t, x) = free_some h f in
          let (u, y) = free_some l (sym (ap uses_face i) ∙ f) in
          let w : t ≡ u = view_injective t u (sym (seen_some h t x) ∙ i ∙ seen_some l u y) in
          (t, x, y ∙ ap some (sym w))

      back : (t : Term) × (lowered h ≡ some t) × (lowered l ≡ some t) → not (uses_at es h.node d) && same_at es h.node l.node ≡ true
      back (t, x, y) =
          let f : uses_face (seen h) ≡ false = seen_free_lem h t x in
          let u : uses_at es h.node d ≡ false =
          by_test (uses_at es h.node d) (λ z. absurd (true≢false (sym ((uses_lowered h r).0 z) ∙ f))) (λ z. z) in
          ap₂ (λ (a b : Bool). not a && b) u ((same_seen l h s r f).1 (seen_some h t x ∙ sym (seen_some l t y)))

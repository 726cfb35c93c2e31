-- The tokens of a node's subterm tell the labels that are seen there.
--   root     the scope around the node; bs, the binders above it, by their nodes (`Chain`, of Spots)
--   k        the number of binders between the node and one inside its subterm
--   InPairs  two lists of one length, related element by element
use mathlib.Core.Path.{◌≡◌, refl, ap, sym, ◌∙◌, subst}
use Prim.Native.Nat.{ℕ, zero, suc, ◌+◌, ◌-◌, ◌<◌, ◌≤◌}
use mathlib.Core.Bool.{Bool, ◌&&◌, not, not-not, and-true}
use mathlib.Core.List.{List, [], ◌∷◌, ◌++◌}
use native.Mathlib.Omega.{arith}
use native.Mathlib.Decide.{dec_lt}
use lib.ListN.{length}
use lib.Dec.{ltb, leb}
use borrow.Author.Tests.{le-leb}
use Rattle.meaning.specs.Basics.{AllOf}
use Rattle.meaning.specs.Term.{Forest, nil, cons, size, symbol, variable, application, binder, own, slot, variable_of, Named, Variable, free}
use Rattle.meaning.specs.Term.{bound, Nameless, inner}
use Rattle.meaning.specs.Scope.{resolve, enter, nameless_label, nameless}
use Rattle.meaning.specs.Shift.{with_variable, ClosedVariable, ClosedLabel}
use Rattle.meaning.specs.Equal.{outside, see}
use Rattle.meaning.specs.Choice.{node_of_face, owner_of}
use Rattle.meaning.specs.Read.{Context, context_below}
use Rattle.meaning.specs.Readable.{NodeFits, Readable}
use Rattle.meaning.specs.Field.{tag_of}
use Rattle.meaning.specs.Compare.{preorder}
use Rattle.meaning.proofs.Lowered.{view_under, see_low, see_high}
use Rattle.meaning.proofs.ViewLaws.{nameless_closed}
use Rattle.tokens.specs.Token.{token_of, level_of, payload_of, tokens}
use Rattle.tokens.specs.Key.{level_from}
use Rattle.tokens.proofs.TokenParts.{enter_room}
use Rattle.tokens.proofs.Levels.{Resolved, is_free, is_bound, resolved, enter_deep}
use Rattle.tokens.proofs.Codes.{Coded, code, seen_label, label_code, fits_label}
use Rattle.tokens.proofs.Owners.{deep_seen, deep_label}
use Rattle.tokens.proofs.Reaching.{Told, test_label, label_reaches, level_above, level_below}
use Rattle.tokens.proofs.Spots.{depth_at, Over, Chain}
use Rattle.comparing.proofs.Agreement.{level_of_seen, levelled, SeenOver, Tells}

abbrev pub InPairs : {A B : Type 0} → (A → B → Type 0) → List A → List B → Type 0
InPairs R [] [] = Unit {0}
InPairs R [] (y ∷ ys) = ⊥
InPairs R (x ∷ xs) [] = ⊥
InPairs R (x ∷ xs) (y ∷ ys) = R x y × InPairs R xs ys

in_pairs_append : {A B : Type 0} (R : A → B → Type 0) (xs xs' : List A) (ys ys' : List B) → InPairs R xs ys → InPairs R xs' ys'
    → InPairs R (xs ++ xs') (ys ++ ys')
in_pairs_append R [] xs' [] ys' h g = g
in_pairs_append R [] xs' (y ∷ ys) ys' h g = absurd h
in_pairs_append R (x ∷ xs) xs' [] ys' h g = absurd h
in_pairs_append R (x ∷ xs) xs' (y ∷ ys) ys' h g = (h.0, in_pairs_append R xs xs' ys ys' h.1 g)

-- A variable bound outside past s binders, by its token and by its label
told_deep : (root : List ℕ) (s : ℕ) → Told (λ k v. not (deep_seen s (see (level_from root) k v))) s (length root)
told_deep root s k sc x long = go (resolved sc 0 x)
  where
    split : (j : ℕ) → j < length sc → level_of sc x + j ≡ length sc → Dec (j < k)
        → ltb s (level_of sc x) && leb (level_of sc x) (length root) ≡ deep_seen s (see (level_from root) k (bound j))
    split j g q (yes y) = level_below s (length root) (level_of sc x) (omega arith) ∙ sym (ap (deep_seen s) (see_low (level_from root) k j y))
    split j g q (no y) =
        let z : level_of sc x ≡ level_from root (j - k) = omega arith in
        ap (λ (c : Bool). ltb s (level_of sc x) && c) (le-leb (level_of sc x) (length root) (omega arith)) ∙ and-true (ltb s (level_of sc x))
        ∙ ap (ltb s) z ∙ sym (ap (deep_seen s) (see_high (level_from root) k j (omega arith)))

    go : Resolved sc 0 x → ltb s (level_of sc x) && leb (level_of sc x) (length root)
        ≡ not (not (deep_seen s (see (level_from root) k (resolve sc 0 x))))
    go (is_free a q) =
        level_above s (length root) (level_of sc x) (omega arith)
        ∙ sym (ap (λ (v : Variable). not (not (deep_seen s (see (level_from root) k v)))) a)
    go (is_bound j g a q) =
        let z : 0 + j ≡ j = omega arith in
        split j g q (dec_lt j k) ∙ sym (not-not _)
        ∙ sym (ap (λ (v : Variable). not (not (deep_seen s (see (level_from root) k v)))) (a ∙ ap bound z))

tested_deep : (root : List ℕ) (s k : ℕ) (l : Nameless)
    → not (test_label (λ j v. not (deep_seen s (see (level_from root) j v))) k l) ≡ deep_label s (seen_label root k l)
unfolding test_label
tested_deep root s k (own (symbol n)) = refl
tested_deep root s k (own (variable v)) = not-not (deep_seen s (see (level_from root) k v))
tested_deep root s k (own (application n)) = refl
tested_deep root s k (own (binder b x)) = refl
tested_deep root s k (slot z) = refl

-- A binder above the node, by its index: its level, and that it lies above
module _ (t : List ℕ) (a : ℕ) where
  pub chain_at : (bs : List ℕ) (i : ℕ) → i < length bs → Chain 0 t a (suc a) bs
      → (x : ℕ) × (owner_of bs i ≡ node_of_face x) × (suc (depth_at t x) ≡ length bs - i) × (x < a) × Over t x (suc a)
  chain_at [] i h c = absurd (omega arith)
  chain_at (x ∷ bs) zero h c = (x, refl, omega (arith, c.0), c.1, c.2)
  chain_at (x ∷ bs) (suc i) h c = let r = chain_at bs i (omega arith) c.3 in (r.0, r.1, omega (arith, r.2), r.3, r.4)

  module _ (root bs : List ℕ) (long : length root ≡ length bs) (chain : Chain 0 t a (suc a) bs) where
    owner_level : (i : ℕ) → i < length root
        → (level_of_seen t (outside (owner_of bs i)) ≡ outside (level_from root i)) × SeenOver t a (outside (owner_of bs i))
    owner_level i h =
        let r = chain_at bs i (omega arith) chain in
        let e : suc (depth_at t r.0) ≡ level_from root i = omega (arith, r.2) in (
          ap (λ w. level_of_seen t (outside w)) r.1 ∙ ap outside e,
          subst (λ w. SeenOver t a (outside w)) (sym r.1) (r.3, r.4),
        )

    seen_level : (k : ℕ) (v : Variable) → ClosedVariable (k + length root) v
        → (level_of_seen t (see (owner_of bs) k v) ≡ see (level_from root) k v) × SeenOver t a (see (owner_of bs) k v)
    seen_level k (free x) c = (refl, tt)
    seen_level k (bound i) c = elim (dec_lt i k) [
      | yes h ↦
          let e = see_low (owner_of bs) k i h in
          (ap (level_of_seen t) e ∙ sym (see_low (level_from root) k i h), subst (SeenOver t a) (sym e) tt)
      | no h ↦
          let r = owner_level (i - k) (omega arith) in
          let e = see_high (owner_of bs) k i (omega arith) in
          (ap (level_of_seen t) e ∙ r.0 ∙ sym (see_high (level_from root) k i (omega arith)), subst (SeenOver t a) (sym e) r.1)
    ]

    label_level : (k : ℕ) (l : Nameless) → ClosedLabel (k + length root) l
        → (levelled t (with_variable (see (owner_of bs) k) l) ≡ seen_label root k l)
        × AllOf (SeenOver t a) (variable_of (with_variable (see (owner_of bs) k) l))
    label_level k (own (symbol n)) c = (refl, tt)
    label_level k (own (variable v)) c = let r = seen_level k v c in (ap (λ w. own (variable w)) r.0, r.1)
    label_level k (own (application n)) c = (refl, tt)
    label_level k (own (binder b x)) c = (refl, tt)
    label_level k (slot z) c = (refl, tt)

    -- One node, and all of a forest, in preorder
    token_tells : (s k : ℕ) (ctx : Context) (sc : List ℕ) (n : ℕ) → length sc ≡ k + length root → length sc < 256 → n < 65536
        → (l : Named) (c : Forest Named)
        → NodeFits ctx l c → ClosedLabel (k + length root) (nameless_label sc l)
        → Tells t a (length root) s (token_of (tag_of l) (length sc) n (payload_of sc l)) (with_variable (see (owner_of bs) k) (nameless_label sc l))
    token_tells s k ctx sc n deep room small l c f closed =
        let (same, over) = label_level k (nameless_label sc l) closed in
        record {
          key = label_code root ctx k sc n deep room small l c f ∙ sym (ap code same);
          reach =
              label_reaches (λ j v. not (deep_seen s (see (level_from root) j v))) s (length root) (told_deep root s) ctx k sc n deep room small l c f
              ∙ tested_deep root s k (nameless_label sc l) ∙ sym (ap (deep_label s) same);
          coded = subst Coded (sym same) (fits_label root k ctx sc l c f).0;
          over = over;
        }

    pub forest_tells : (s k levels : ℕ) (ctx : Context) (sc : List ℕ) (u : Forest Named) → length sc ≡ k + length root → Readable levels ctx u
        → length sc + levels ≤ 256
        → size u < 65536
        → InPairs (Tells t a (length root) s) (tokens sc u) (preorder (view_under (owner_of bs) k (nameless sc u)))
    unfolding tokens
    forest_tells s k levels ctx sc nil deep r room small = tt
    forest_tells s k zero ctx sc (cons l c u) deep r room small = absurd r
    forest_tells s k (suc levels) ctx sc (cons l c u) deep r room small =
        let l' = nameless_label sc l in (
          token_tells s k ctx sc (suc (size c)) deep (omega arith) (omega arith) l c r.0
              (subst (λ (m : ℕ). ClosedLabel m l') deep (nameless_closed sc (cons l c u)).0),
          in_pairs_append (Tells t a (length root) s) (tokens (enter l sc) c) (tokens sc u)
              (preorder (view_under (owner_of bs) (inner l' k) (nameless (enter l sc) c))) (preorder (view_under (owner_of bs) k (nameless sc u)))
              (forest_tells s (inner l' k) levels (context_below l ctx) (enter l sc) c (enter_deep k (length root) sc l deep) r.1
              (omega (arith, enter_room sc l)) (omega arith))
              (forest_tells s k (suc levels) ctx sc u deep r.2 room (omega arith)),
        )

-- What document 01 says of the nodes of a choice, in terms of lowered subexpressions: a node uses no variable bound inside the face above
-- it when its subexpression can be lowered by the binders of the face above it, and two such nodes are equal when the lowered terms are.
--   view_under  a forest seen from outside the term that it is part of, with k binders of that term above it
--   unsee      the variable that is seen so, for a term with no binder of the face above it
--   Node       a subexpression with the binders of the face above it
--   lowers     for the nodes of a face in preorder: the subexpression lowered by the number of binders of the face above it, if it can be
use mathlib.Core.Path.{◌≡◌, refl, ap, sym, ◌∙◌}
use mathlib.Core.Logic.{◌⊎◌, inl, inr, ◌↔◌}
use Prim.Native.Nat.{ℕ, zero, suc, ◌+◌, ◌-◌, ◌<◌, ◌≤◌}
use mathlib.Core.Bool.{Bool, true, false, ◌||◌, true≢false}
use mathlib.Core.List.{List, [], ◌∷◌, ◌++◌, map, map-append}
use mathlib.Core.Option.{Option, none, some, some-injective, none-ne-some, some-ne-none}
use native.Mathlib.Omega.{arith}
use native.Mathlib.Decide.{dec_lt}
use lib.ListN.{length, get_elem?, length-map}
use lib.Dec.{ltb}
use Rattle.meaning.specs.Basics.{choose}
use Rattle.meaning.specs.Term.{Forest, nil, cons, one, size, relabel, symbol, variable, application, binder, Label, own, slot}
use Rattle.meaning.specs.Term.{Variable, free, bound, Nameless, Terms, Term, inner}
use Rattle.meaning.specs.Shift.{with_variable, raise, shift_term}
use Rattle.meaning.specs.Lower.{sink, lower_label, lower, lower_term}
use Rattle.meaning.specs.Equal.{Seen, seen_free, inside, outside, see, View, view}
use Rattle.meaning.specs.Choice.{Mark, Marks, Owner, node_of_face, above_face, owner_of, below, views_from, views, of_face, uses_label}
use Rattle.meaning.specs.Choice.{uses_face, Apart, Choice}
use Rattle.meaning.specs.Choices.{is_place}
use Rattle.meaning.proofs.ShiftLaws.{ltb_yes, ltb_no, inner_with, pair_eq, shift_lower_term, lowered}
use Rattle.meaning.proofs.Lists.{never, or-false, by_test, eqb_self}
use Rattle.meaning.proofs.ChoiceLaws.{at_other, length_views, is_place_eq}

-- Relabelling twice, and with nothing changed
with_with : {X Y Z B : Type 0} (f : X → Y) (g : Y → Z) (h : X → Z) → ((x : X) → g (f x) ≡ h x) → (l : Label X B)
    → with_variable g (with_variable f l) ≡ with_variable h l
with_with f g h e (own (symbol n)) = refl
with_with f g h e (own (variable v)) = ap (λ w. own (variable w)) (e v)
with_with f g h e (own (application n)) = refl
with_with f g h e (own (binder b x)) = refl
with_with f g h e (slot z) = refl

with_self : {X B : Type 0} (l : Label X B) → with_variable (λ x. x) l ≡ l
with_self (own (symbol n)) = refl
with_self (own (variable v)) = refl
with_self (own (application n)) = refl
with_self (own (binder b x)) = refl
with_self (slot z) = refl

abbrev pub relabelled : {X Y B : Type 0} → (ℕ → X → Y) → ℕ → Forest (Label X B) → Forest (Label Y B)
relabelled f k u = relabel inner (λ j. with_variable (f j)) k u

pub relabel_twice : {X Y Z B : Type 0} (f : ℕ → X → Y) (g : ℕ → Y → Z) (h : ℕ → X → Z) → ((k : ℕ) (x : X) → g k (f k x) ≡ h k x)
    → (k : ℕ) (u : Forest (Label X B)) → relabelled g k (relabelled f k u) ≡ relabelled h k u
relabel_twice f g h e k nil = refl
relabel_twice f g h e k (cons l c s) =
    rw (inner_with (f k) k l, with_with (f k) (g k) (h k) (e k) l, relabel_twice f g h e (inner l k) c, relabel_twice f g h e k s)

relabel_self : {X B : Type 0} (k : ℕ) (u : Forest (Label X B)) → relabelled (λ j x. x) k u ≡ u
relabel_self k nil = refl
relabel_self k (cons l c s) = rw (with_self l, relabel_self (inner l k) c, relabel_self k s)

-- The binders above a node: the first are of the face, the others above it
pub owner_above : (bs : List ℕ) (j i : ℕ) → j ≡ i + length bs → owner_of bs j ≡ above_face i
owner_above [] j i e = ap above_face (omega arith)
owner_above (b ∷ bs) zero i e = absurd (omega arith)
owner_above (b ∷ bs) (suc j) i e = owner_above bs j i (omega arith)

pub owner_below : (bs : List ℕ) (i : ℕ) → i < length bs → (b : ℕ) × (owner_of bs i ≡ node_of_face b)
owner_below [] i h = absurd (omega arith)
owner_below (b ∷ bs) zero h = (_, refl)
owner_below (b ∷ bs) (suc i) h = owner_below bs i (omega arith)

-- One variable
pub see_low : {W : Type 0} (who : ℕ → W) (k i : ℕ) → i < k → see who k (bound i) ≡ inside i
see_low who k i h = rw (ltb_yes i k h)

pub see_high : {W : Type 0} (who : ℕ → W) (k i : ℕ) → k ≤ i → see who k (bound i) ≡ outside (who (i - k))
see_high who k i h = rw (ltb_no i k h)

see_raise : (bs : List ℕ) (k : ℕ) (v : Variable) → see (owner_of bs) k (raise (length bs) k v) ≡ see (owner_of []) k v
see_raise bs k (free x) = refl
see_raise bs k (bound i) = go (dec_lt i k)
  where
    go : Dec (i < k) → see (owner_of bs) k (raise (length bs) k (bound i)) ≡ see (owner_of []) k (bound i)
    go (yes h) = rw (ltb_yes i k h) (see_low (owner_of bs) k i h)
    go (no h) =
        rw (ltb_no i k (omega arith))
        (see_high (owner_of bs) k (i + length bs) (omega arith) ∙ ap outside (owner_above bs (i + length bs - k) (i - k) (omega arith)))

-- A variable that belongs to no binder of the face can be lowered
sink_free : (bs : List ℕ) (k : ℕ) (v : Variable) → of_face (see (owner_of bs) k v) ≡ false → (w : Variable) × (sink (length bs) k v ≡ some w)
sink_free bs k (free x) e = (free x, refl)
sink_free bs k (bound i) e = go (dec_lt i k) (dec_lt i (k + length bs))
  where
    go : Dec (i < k) → Dec (i < k + length bs) → (w : Variable) × (sink (length bs) k (bound i) ≡ some w)
    go (yes h) d = (bound i, rw (ltb_yes i k h))
    go (no h) (yes g) =
        let (b, q) = owner_below bs (i - k) (omega arith) in
        absurd (true≢false (ap of_face (sym (see_high (owner_of bs) k i (omega arith) ∙ ap outside q)) ∙ e))
    go (no h) (no g) = (bound (i - length bs), rw (ltb_no i k (omega arith), ltb_no i (k + length bs) (omega arith)))

-- With no binder of the face above, a view tells the variable
unsee : ℕ → Seen Owner → Variable
unsee k (seen_free x) = free x
unsee k (inside i) = bound i
unsee k (outside (node_of_face n)) = bound n
unsee k (outside (above_face j)) = bound (j + k)

unsee_see : (k : ℕ) (v : Variable) → unsee k (see (owner_of []) k v) ≡ v
unfolding unsee
unsee_see k (free x) = refl
unsee_see k (bound i) = go (dec_lt i k)
  where
    go : Dec (i < k) → unsee k (see (owner_of []) k (bound i)) ≡ bound i
    go (yes h) = rw (see_low (owner_of []) k i h)
    go (no h) = rw (see_high (owner_of []) k i (omega arith)) (ap bound (omega arith))

above_free : (k : ℕ) (v : Variable) → of_face (see (owner_of []) k v) ≡ false
above_free k (free x) = refl
above_free k (bound i) = go (ltb i k)
  where
    go : (b : Bool) → of_face (choose b (inside i) (outside (above_face (i - k)))) ≡ false
    go true = refl
    go false = refl

-- Labels and forests
label_free : (bs : List ℕ) (k : ℕ) (l : Nameless) → uses_label (with_variable (see (owner_of bs) k) l) ≡ false
    → (m : Nameless) × (lower_label (length bs) k l ≡ some m)
label_free bs k (own (symbol n)) e = (own (symbol n), refl)
label_free bs k (own (variable v)) e = let (w, q) = sink_free bs k v e in (own (variable w), rw q)
label_free bs k (own (application n)) e = (own (application n), refl)
label_free bs k (own (binder b x)) e = (own (binder b x), refl)
label_free bs k (slot z) e = (slot z, refl)

above_label_lem : (k : ℕ) (l : Nameless) → uses_label (with_variable (see (owner_of []) k) l) ≡ false
above_label_lem k (own (symbol n)) = refl
above_label_lem k (own (variable v)) = above_free k v
above_label_lem k (own (application n)) = refl
above_label_lem k (own (binder b x)) = refl
above_label_lem k (slot z) = refl

abbrev pub view_under : {W : Type 0} → (ℕ → W) → ℕ → Terms → View W
view_under who k u = relabelled (see who) k u

forest_free : (bs : List ℕ) (k : ℕ) (u : Terms) → uses_face (view_under (owner_of bs) k u) ≡ false
    → (v : Terms) × (lower (length bs) k u ≡ some v)
forest_free bs k nil e = (nil, refl)
forest_free bs k (cons l c s) e =
    let (el, e') = or-false (uses_label (with_variable (see (owner_of bs) k) l))
    (uses_face (view_under (owner_of bs) (inner l k) c) || uses_face (view_under (owner_of bs) k s)) e in
    let (ec, es) = or-false (uses_face (view_under (owner_of bs) (inner l k) c)) (uses_face (view_under (owner_of bs) k s)) e' in
    let (l', p) = label_free bs k l el in
    let (c', q) = forest_free bs (inner l k) c ec in
    let (s', r) = forest_free bs k s es in
    (cons l' c' s', rw (p, q, r))

above_unused : (k : ℕ) (u : Terms) → uses_face (view_under (owner_of []) k u) ≡ false
above_unused k nil = refl
above_unused k (cons l c s) = rw (above_label_lem k l, above_unused (inner l k) c, above_unused k s)

term_free : (bs : List ℕ) (t : Term) → uses_face (view (owner_of bs) (one t)) ≡ false → (a : Term) × (lower_term (length bs) t ≡ some a)
term_free bs t e =
    let (v, p) = forest_free bs 0 (one t) e in
    let r = lowered (length bs) 0 t.0 t.1 nil v p in
    ((r.label, r.children), rw (r.is_label, r.are_children))

-- Main theorems: views and lowered terms
pub view_shift : (bs : List ℕ) (t : Term) → view (owner_of bs) (one (shift_term (length bs) t)) ≡ view (owner_of []) (one t)
view_shift bs t = relabel_twice (raise (length bs)) (see (owner_of bs)) (see (owner_of [])) (see_raise bs) 0 (one t)

pub view_shift_unbound : (bs : List ℕ) (t : Term) → uses_face (view (owner_of bs) (one (shift_term (length bs) t))) ≡ false
view_shift_unbound bs t = ap uses_face (view_shift bs t) ∙ above_unused 0 (one t)

pub view_injective : (t u : Term) → view (owner_of []) (one t) ≡ view (owner_of []) (one u) → t ≡ u
view_injective t u e = let q : one t ≡ one u = sym (back t) ∙ ap (relabelled unsee 0) e ∙ back u in pair_eq (cc) (cc)
  where
    back : (x : Term) → relabelled unsee 0 (view (owner_of []) (one x)) ≡ one x
    back x = relabel_twice (see (owner_of [])) unsee (λ k v. v) unsee_see 0 (one x) ∙ relabel_self 0 (one x)

pub lowered_view : (bs : List ℕ) (t a : Term) → lower_term (length bs) t ≡ some a → view (owner_of bs) (one t) ≡ view (owner_of []) (one a)
lowered_view bs t a e = sym (ap (λ (x : Term). view (owner_of bs) (one x)) (shift_lower_term (length bs) t a e)) ∙ view_shift bs a

pub lowered_none : (bs : List ℕ) (t : Term) → (lower_term (length bs) t ≡ none) ↔ (uses_face (view (owner_of bs) (one t)) ≡ true)
lowered_none bs t = (
  λ e. by_test (uses_face (view (owner_of bs) (one t))) (λ h. h) (λ h. absurd (some_none e h)),
  back (lower_term (length bs) t) refl,
)
  where
    some_none : lower_term (length bs) t ≡ none → uses_face (view (owner_of bs) (one t)) ≡ false → ⊥
    some_none e h = let (a, q) = term_free bs t h in some-ne-none a (sym q ∙ e)

    back : (o : Option Term) → lower_term (length bs) t ≡ o → uses_face (view (owner_of bs) (one t)) ≡ true → lower_term (length bs) t ≡ none
    back none e h = e
    back (some a) e h = absurd (true≢false (sym h ∙ ap uses_face (lowered_view bs t a e) ∙ above_unused 0 (one a)))

-- The nodes of a forest in preorder, each with the binders of the face above it, the innermost first; n is the number of the first
abbrev Node : Type 0
Node = List ℕ × Term

nodes_from : List ℕ → ℕ → Terms → List Node
nodes_from bs n nil = []
nodes_from bs n (cons l c s) = (bs, (l, c)) ∷ (nodes_from (below n l bs) (suc n) c ++ nodes_from bs (suc n + size c) s)

abbrev node_view : Node → View Owner
node_view x = view (owner_of x.0) (one x.1)

abbrev node_lowered : Node → Option Term
node_lowered x = lower_term (length x.0) x.1

abbrev pub lowers_from : ℕ → Terms → List (Option Term)
lowers_from d nil = []
lowers_from d (cons l c s) = lower_term d (l, c) ∷ (lowers_from (inner l d) c ++ lowers_from d s)

abbrev pub lowers : Term → List (Option Term)
lowers face = lowers_from 0 (one face)

length_below : (n : ℕ) (l : Nameless) (bs : List ℕ) → length (below n l bs) ≡ inner l (length bs)
length_below n (own (symbol m)) bs = refl
length_below n (own (variable v)) bs = refl
length_below n (own (application m)) bs = refl
length_below n (own (binder b x)) bs = refl
length_below n (slot z) bs = refl

views_nodes : (bs : List ℕ) (n : ℕ) (u : Terms) → views_from bs n u ≡ map node_view (nodes_from bs n u)
unfolding nodes_from
views_nodes bs n nil = refl
views_nodes bs n (cons l c s) =
    rw (
      views_nodes (below n l bs) (suc n) c,
      views_nodes bs (suc n + size c) s,
      map-append node_view (nodes_from (below n l bs) (suc n) c) (nodes_from bs (suc n + size c) s),
    )

lowers_nodes : (bs : List ℕ) (n : ℕ) (u : Terms) → lowers_from (length bs) u ≡ map node_lowered (nodes_from bs n u)
unfolding nodes_from
lowers_nodes bs n nil = refl
lowers_nodes bs n (cons l c s) =
    rw (
      ← length_below n l bs,
      lowers_nodes (below n l bs) (suc n) c,
      lowers_nodes bs (suc n + size c) s,
      map-append node_lowered (nodes_from (below n l bs) (suc n) c) (nodes_from bs (suc n + size c) s),
    )

at_map : {A B : Type 0} (f : A → B) (xs : List A) (k : ℕ) (x : A) → get_elem? xs k ≡ some x → get_elem? (map f xs) k ≡ some (f x)
at_map f [] k x e = never (cc)
at_map f (y ∷ xs) zero x e = let p : y ≡ x = cc in rw p
at_map f (y ∷ xs) (suc k) x e = at_map f xs k x e

-- Where a face of so many nodes has a mark, it has a node
node_at : (face : Term) (ms : Marks) (k : ℕ) (m : Mark) → length ms ≡ size (one face) → get_elem? ms k ≡ some m
    → (x : Node) × (get_elem? (views face) k ≡ some (node_view x)) × (get_elem? (lowers face) k ≡ some (node_lowered x))
node_at face ms k m l e =
    let nodes : List Node = nodes_from [] 0 (one face) in
    let long : length nodes ≡ size (one face) =
    sym (length-map nodes node_view) ∙ ap length (sym (views_nodes [] 0 (one face))) ∙ length_views [] 0 (one face) in
    let (x, q) = at_other ms nodes k m (l ∙ sym long) e in (
      x,
      ap (λ (us : List (View Owner)). get_elem? us k) (views_nodes [] 0 (one face)) ∙ at_map node_view nodes k x q,
      ap (λ (os : List (Option Term)). get_elem? os k) (lowers_nodes [] 0 (one face)) ∙ at_map node_lowered nodes k x q,
    )

-- Whether some node is marked for place i
marked : (i : ℕ) (ms : Marks) → ((k : ℕ) × (get_elem? ms k ≡ some (some i))) ⊎ ((k : ℕ) → get_elem? ms k ≡ some (some i) → ⊥)
marked i [] = inr (λ k e. none-ne-some (some i) e)
marked i (m ∷ ms) = by_test (is_place i m) (λ e. inl (0, ap some (is_place_eq i m e))) (λ e. further e (marked i ms))
  where
    unmarked : is_place i m ≡ false → ((k : ℕ) → get_elem? ms k ≡ some (some i) → ⊥) → (k : ℕ) → get_elem? (m ∷ ms) k ≡ some (some i) → ⊥
    unmarked e h zero q = true≢false (sym (eqb_self i) ∙ sym (ap (is_place i) (some-injective m (some i) q)) ∙ e)
    unmarked e h (suc k) q = h k q

    further : is_place i m ≡ false → ((k : ℕ) × (get_elem? ms k ≡ some (some i))) ⊎ ((k : ℕ) → get_elem? ms k ≡ some (some i) → ⊥)
        → ((k : ℕ) × (get_elem? (m ∷ ms) k ≡ some (some i))) ⊎ ((k : ℕ) → get_elem? (m ∷ ms) k ≡ some (some i) → ⊥)
    further e (inl r) = inl (suc r.0, r.1)
    further e (inr h) = inr (unmarked e h)

-- An argument for each place: each marked node's subexpression, lowered by the binders of the face above it, is the argument of its place
abbrev pub Takes : Term → Marks → (ℕ → Term) → Type 0
Takes face ms a = (k i : ℕ) → get_elem? ms k ≡ some (some i) → get_elem? (lowers face) k ≡ some (some (a i))

module _ (n : ℕ) (face : Term) (ms : Marks) where
  marked_term : Choice n face ms → (k i : ℕ) → get_elem? ms k ≡ some (some i)
      → (a : Term) × (get_elem? (lowers face) k ≡ some (some a)) × (get_elem? (views face) k ≡ some (view (owner_of []) (one a)))
  marked_term c k i e =
      let (x, v, w) = node_at face ms k (some i) c.long e in
      let (a, q) = term_free x.0 x.1 (c.unbound k i (node_view x) e v) in
      (a, w ∙ ap some q, v ∙ ap some (lowered_view x.0 x.1 a q))

  place_term : Choice n face ms → (i : ℕ)
      → (a : Term) × ((k : ℕ) → get_elem? ms k ≡ some (some i) → get_elem? (lowers face) k ≡ some (some a))
  place_term c i = go (marked i ms)
    where
      go : ((k : ℕ) × (get_elem? ms k ≡ some (some i))) ⊎ ((k : ℕ) → get_elem? ms k ≡ some (some i) → ⊥)
          → (a : Term) × ((k : ℕ) → get_elem? ms k ≡ some (some i) → get_elem? (lowers face) k ≡ some (some a))
      go (inr h) = (face, λ k e. absurd (h k e))
      go (inl (j, d)) =
          let (a, p, v) = marked_term c j i d in (
            a,
            λ k e.
                let (b, q, w) = marked_term c k i e in
                let same = some-injective (view (owner_of []) (one b)) (view (owner_of []) (one a))
                (sym w ∙ sym (c.equal j k i d e) ∙ v) in
                q ∙ ap {B = Option (Option Term)} (λ (t : Term). some (some t)) (view_injective b a same),
          )

  choice_takes : Choice n face ms → (a : ℕ → Term) × Takes face ms a
  choice_takes c = (λ i. (place_term c i).0, λ k i e. (place_term c i).1 k e)

  takes_view : length ms ≡ size (one face) → (a : ℕ → Term) → Takes face ms a
      → (k i : ℕ) → get_elem? ms k ≡ some (some i) → get_elem? (views face) k ≡ some (view (owner_of []) (one (a i)))
  takes_view l a h k i e =
      let (x, v, w) = node_at face ms k (some i) l e in
      v ∙ ap some (lowered_view x.0 x.1 (a i) (some-injective (node_lowered x) (some (a i)) (sym w ∙ h k i e)))

  takes_choice : length ms ≡ size (one face) → ((k i : ℕ) → get_elem? ms k ≡ some (some i) → i < n) → Apart ms (views face) → (a : ℕ → Term)
      → Takes face ms a → Choice n face ms
  takes_choice l low apart a h =
      record {
        long = l;
        places = low;
        equal = λ j k i d e. takes_view l a h j i d ∙ sym (takes_view l a h k i e);
        unbound = λ k i u d e.
            let p : u ≡ view (owner_of []) (one (a i)) =
            some-injective u (view (owner_of []) (one (a i))) (sym e ∙ takes_view l a h k i d) in
            ap uses_face p ∙ above_unused 0 (one (a i));
        apart = apart;
      }

-- Main theorem: a choice is a set of nodes, none below another, whose lowered subexpressions, place by place, are all defined and equal
pub choice_lowered : (n : ℕ) (face : Term) (ms : Marks) → length ms ≡ size (one face) → ((k i : ℕ) → get_elem? ms k ≡ some (some i) → i < n)
    → Apart ms (views face) → Choice n face ms ↔ ((a : ℕ → Term) × Takes face ms a)
choice_lowered n face ms l low apart = (choice_takes n face ms, λ h. takes_choice n face ms l low apart h.0 h.1)

-- The nodes of a forest: what stands at node i in the table of its tokens, among its views and in the forest itself.
--
--   Spot      the named term at node i, with the scope around it and the binders of the face above it
--   d         the number of binders above the face
--   table     the tokens of the whole face, in which the forest begins at node n
--   Over      the binder x lies above all nodes after it and before e, since each of them is deeper
--   Chain     the binders of the face above node a, the innermost first: each stands at its depth, before a, and is over all nodes before e
use mathlib.Core.Path.{◌≡◌, refl, ap, sym, ◌∙◌}
use mathlib.Core.List.{List, [], ◌∷◌, ◌++◌, append_assoc, append-nil}
use mathlib.Core.Option.{some}
use Prim.Native.Nat.{ℕ, zero, suc, ◌+◌, ◌-◌, ◌≤◌, ◌<◌}
use native.Mathlib.Nat.{add-zero, zero-add, suc-add}
use native.Mathlib.Omega.{arith}
use native.Mathlib.Decide.{dec_lt}
use lib.ListN.{length, drop, get_elem?, get_or-append}
use lib.Seq.{drop-append-add, drop-drop, drop_at, get_or-drop}
use Rattle.meaning.specs.Basics.{All}
use Rattle.meaning.specs.Term.{Forest, nil, cons, one, size, node_at, symbol, variable, application, binder, own, slot, Named, Nameless}
use Rattle.meaning.specs.Term.{NamedTerm, Terms}
use Rattle.meaning.specs.Scope.{enter, nameless_label, nameless, nameless_term}
use Rattle.meaning.specs.Equal.{View, view}
use Rattle.meaning.specs.Read.{Context, context_below}
use Rattle.meaning.specs.Readable.{Readable}
use Rattle.meaning.specs.Choice.{Owner, owner_of, below, views_from}
use Rattle.meaning.specs.Field.{tag_of}
use Rattle.meaning.proofs.Lists.{choose_true, choose_false, all_append}
use Rattle.meaning.proofs.ShiftLaws.{ltb_yes, ltb_no, relabel_size}
use Rattle.meaning.proofs.ChoiceLaws.{length_views}
use Rattle.tokens.specs.Token.{depth_in, payload_of, tokens}
use Rattle.tokens.specs.Key.{at}
use Rattle.tokens.proofs.TokenParts.{depth_token, tokens_length, tag_room, enter_room}
use Rattle.tokens.proofs.ProblemTokens.{all_at}

abbrev pub depth_at : List ℕ → ℕ → ℕ
depth_at t x = depth_in (at t x)

abbrev pub Over : List ℕ → ℕ → ℕ → Type 0
Over t x e = (y : ℕ) → x < y → y < e → depth_at t x < depth_at t y

abbrev pub Chain : ℕ → List ℕ → ℕ → ℕ → List ℕ → Type 0
Chain d t a e [] = Unit {0}
Chain d t a e (x ∷ bs) = (depth_at t x ≡ length bs + d) × (x < a) × Over t x e × Chain d t a e bs

-- The binders above stay above as long as no node is less deep than what they bind
longer : (d : ℕ) (t : List ℕ) (a e a' e' : ℕ) (bs : List ℕ) → a ≤ a' → ((y : ℕ) → e ≤ y → y < e' → length bs + d ≤ depth_at t y)
    → Chain d t a e bs → Chain d t a' e' bs
longer d t a e a' e' [] h deep c = tt
longer d t a e a' e' (x ∷ bs) h deep c = (
  c.0,
  omega (arith, c.1),
  λ y p q. elim (dec_lt y e) [
    | yes r ↦ c.2 y p r
    | no r ↦ omega (arith, c.0, deep y (omega arith) q)
  ],
  longer d t a e a' e' bs h (λ y p q. omega (arith, deep y p q)) c.3,
)

pub record Spot (d limit : ℕ) (table : List ℕ) (a : ℕ) (ts : List ℕ) (us : List (View Owner)) (u : Terms) (i : ℕ) : Type 0 where
  pub levels : ℕ
  pub ctx : Context
  pub scope : List ℕ
  pub named : NamedTerm
  pub binders : List ℕ
  pub after : List ℕ
  pub readable : Readable levels ctx (one named)
  pub depths : length scope + levels ≤ 256
  pub sizes : size (one named) ≤ limit
  pub deep : length scope ≡ length binders + d
  pub split : drop i ts ≡ tokens scope (one named) ++ after
  pub seen : get_elem? us i ≡ some (view (owner_of binders) (one (nameless_term scope named)))
  pub term : node_at i u ≡ some (nameless_term scope named)
  pub chain : Chain d table a (suc a) binders

-- The same node in a larger forest
widen : (d limit more : ℕ) (table : List ℕ) (node : ℕ) (ts rs : List ℕ) (us vs : List (View Owner)) (u v : Terms) (i j : ℕ) → limit ≤ more
    → drop i ts ≡ drop j rs
    → get_elem? us i ≡ get_elem? vs j → node_at i u ≡ node_at j v → Spot d limit table node rs vs v j → Spot d more table node ts us u i
widen d limit more table node ts rs us vs u v i j h a b c s = record {
  levels = s.levels;
  ctx = s.ctx;
  scope = s.scope;
  named = s.named;
  binders = s.binders;
  after = s.after;
  readable = s.readable;
  depths = s.depths;
  sizes = omega (arith, s.sizes);
  deep = s.deep;
  split = a ∙ s.split;
  seen = b ∙ s.seen;
  term = c ∙ s.term;
  chain = s.chain;
}

-- Lists that are joined
at_front : {A : Type 0} (xs ys : List A) (i : ℕ) → i < length xs → get_elem? (xs ++ ys) i ≡ get_elem? xs i
at_front [] ys i h = absurd (omega arith)
at_front (x ∷ xs) ys zero h = refl
at_front (x ∷ xs) ys (suc i) h = at_front xs ys i (omega arith)

at_back : {A : Type 0} (xs ys : List A) (i : ℕ) → get_elem? (xs ++ ys) (length xs + i) ≡ get_elem? ys i
at_back [] ys i = rw (zero-add i)
at_back (x ∷ xs) ys i = rw (suc-add (length xs) i) (at_back xs ys i)

tokens_head : (sc : List ℕ) (l : Named) (c s : Forest Named) (rest : List ℕ)
    → tokens sc (cons l c s) ++ rest ≡ tokens sc (one (l, c)) ++ (tokens sc s ++ rest)
unfolding tokens
tokens_head sc l c s rest = simp (append_assoc, append-nil)

tokens_inner : (sc : List ℕ) (l : Named) (c s : Forest Named) (rest : List ℕ) (i : ℕ)
    → drop (suc i) (tokens sc (cons l c s) ++ rest) ≡ drop i (tokens (enter l sc) c ++ (tokens sc s ++ rest))
unfolding tokens
tokens_inner sc l c s rest i = ap (drop i) (append_assoc (tokens (enter l sc) c) (tokens sc s) rest)

enter_deep : (d n : ℕ) (sc bs : List ℕ) (l : Named) → length sc ≡ length bs + d
    → length (enter l sc) ≡ length (below n (nameless_label sc l) bs) + d
enter_deep d n sc bs (own (symbol m)) h = h
enter_deep d n sc bs (own (variable x)) h = h
enter_deep d n sc bs (own (application m)) h = h
enter_deep d n sc bs (own (binder b x)) h = omega arith
enter_deep d n sc bs (slot z) h = h

-- No node of a forest is less deep than what is around it
first_depth : (sc : List ℕ) (l : Named) (c s : Forest Named) (rest table : List ℕ) (n : ℕ) → length sc < 256
    → drop n table ≡ tokens sc (cons l c s) ++ rest → depth_at table n ≡ length sc
unfolding tokens
first_depth sc l c s rest table n room is =
    ap depth_in (sym (ap (at table) (add-zero n)) ∙ sym (get_or-drop n table 0 0) ∙ ap (λ (xs : List ℕ). at xs 0) is)
    ∙ depth_token (tag_of l) (length sc) (suc (size c)) (payload_of sc l) (tag_room l) room

tokens_under : (levels : ℕ) (ctx : Context) (sc : List ℕ) (u : Forest Named) → Readable levels ctx u → length sc + levels ≤ 256
    → All (λ x. length sc ≤ depth_in x) (tokens sc u)
unfolding tokens
tokens_under levels ctx sc nil r room = tt
tokens_under zero ctx sc (cons l c s) r room = absurd r
tokens_under (suc levels) ctx sc (cons l c s) r room = (
  omega (arith, depth_token (tag_of l) (length sc) (suc (size c)) (payload_of sc l) (tag_room l) (omega arith)),
  all_append (λ x. length sc ≤ depth_in x) (tokens (enter l sc) c) (tokens sc s)
      (below_all (tokens (enter l sc) c) (tokens_under levels (context_below l ctx) (enter l sc) c r.1 (omega (arith, enter_room sc l))))
      (tokens_under (suc levels) ctx sc s r.2 room),
)
  where
    grows : (l : Named) → length sc ≤ length (enter l sc)
    grows (own (symbol n)) = omega arith
    grows (own (variable x)) = omega arith
    grows (own (application n)) = omega arith
    grows (own (binder b x)) = omega arith
    grows (slot z) = omega arith

    below_all : (xs : List ℕ) → All (λ x. length (enter l sc) ≤ depth_in x) xs → All (λ x. length sc ≤ depth_in x) xs
    below_all [] h = tt
    below_all (x ∷ xs) h = (omega (arith, grows l, h.0), below_all xs h.1)

module _ (levels : ℕ) (ctx : Context) (sc : List ℕ) (u : Forest Named) (r : Readable levels ctx u) (room : length sc + levels ≤ 256)
    (table : List ℕ) (n : ℕ) (rest : List ℕ) (is : drop n table ≡ tokens sc u ++ rest) where
  pub forest_deep : (y : ℕ) → n ≤ y → y < n + size u → length sc ≤ depth_at table y
  forest_deep y p q =
      let i : n + (y - n) ≡ y = omega arith in
      let j : y - n < length (tokens sc u) = omega (arith, tokens_length sc u) in
      let e : at (tokens sc u) (y - n) ≡ at table y =
      sym (get_or-append (tokens sc u) rest 0 (y - n) j) ∙ ap (λ (xs : List ℕ). at xs (y - n)) (sym is) ∙ get_or-drop n table (y - n) 0
      ∙ ap (at table) i in
      omega (arith, ap depth_in e, all_at (λ x. length sc ≤ depth_in x) (tokens sc u) (tokens_under levels ctx sc u r room) (y - n) j)

pub spot : (d levels : ℕ) (ctx : Context) (sc bs : List ℕ) (n : ℕ) (u : Forest Named) (rest : List ℕ) (table : List ℕ) (a i : ℕ)
    → a ≡ n + i → i < size u
    → Readable levels ctx u
    → length sc + levels ≤ 256 → length sc ≡ length bs + d
    → drop n table ≡ tokens sc u ++ rest → Chain d table n n bs
    → Spot d (size u) table a (tokens sc u ++ rest) (views_from bs n (nameless sc u)) (nameless sc u) i
spot d levels ctx sc bs n nil rest table a i w h r room deep is up = absurd (omega arith)
spot d zero ctx sc bs n (cons l c s) rest table a i w h r room deep is up = absurd r
spot d (suc levels) ctx sc bs n (cons l c s) rest table a zero w h r room deep is up =
    record {
      levels = suc levels;
      ctx = ctx;
      scope = sc;
      named = (l, c);
      binders = bs;
      after = tokens sc s ++ rest;
      readable = (r.0, r.1, tt);
      depths = room;
      sizes = omega arith;
      deep = deep;
      split = tokens_head sc l c s rest;
      seen = refl;
      term = refl;
      chain =
          longer d table n n a (suc a) bs (omega arith)
          (λ y p q. omega (arith, deep, forest_deep (suc levels) ctx sc (cons l c s) r room table n rest is y p (omega arith))) up;
    }
spot d (suc levels) ctx sc bs n (cons l c s) rest table a (suc i) w h r room deep is up =
    go (dec_lt i (size c))
    (λ g. spot d levels (context_below l ctx) (enter l sc) (below n l' bs) (suc n) c (tokens sc s ++ rest) table a i (omega arith) g r.1
    (omega (arith, enter_room sc l)) (enter_deep d n sc bs l deep) inner_is (entered l))
    (λ g. spot d (suc levels) ctx sc bs (suc n + size c') s rest table a (i - size c) (omega (arith, same)) (omega arith) r.2 room deep
    later_is (longer d table n n _ _ bs (omega arith) (λ y p q. around y p (omega (arith, same))) up))
  where
    l' : Nameless
    l' = nameless_label sc l

    c' : Terms
    c' = nameless (enter l sc) c

    s' : Terms
    s' = nameless sc s

    same : size c' ≡ size c
    same = relabel_size enter nameless_label (enter l sc) c

    around : (y : ℕ) → n ≤ y → y < n + size (cons l c s) → length bs + d ≤ depth_at table y
    around y p q = omega (arith, deep, forest_deep (suc levels) ctx sc (cons l c s) r room table n rest is y p q)

    inner_is : drop (suc n) table ≡ tokens (enter l sc) c ++ (tokens sc s ++ rest)
    inner_is =
        let e : suc n ≡ n + 1 = omega arith in
        ap (λ (m : ℕ). drop m table) e ∙ sym (drop-drop 1 n table) ∙ ap (drop 1) is ∙ tokens_inner sc l c s rest 0

    kept : Chain d table (suc n) (suc n) bs
    kept = longer d table n n (suc n) (suc n) bs (omega arith) (λ y p q. around y p (omega arith)) up

    entered : (m : Named) → Chain d table (suc n) (suc n) (below n (nameless_label sc m) bs)
    entered (own (symbol k)) = kept
    entered (own (variable x)) = kept
    entered (own (application k)) = kept
    entered (own (binder b x)) =
        (omega (arith, deep, first_depth sc l c s rest table n (omega arith) is), omega arith, λ y p q. absurd (omega arith), kept)
    entered (slot z) = kept

    later_is : drop (suc n + size c') table ≡ tokens sc s ++ rest
    later_is =
        ap (λ (m : ℕ). drop (suc n + m) table) same ∙ sym (drop-drop (size c) (suc n) table) ∙ ap (drop (size c)) inner_is
        ∙ drop_at (tokens (enter l sc) c) (tokens sc s ++ rest) (size c) (tokens_length (enter l sc) c)

    go : Dec (i < size c)
        → (i < size c → Spot d (size c) table a (tokens (enter l sc) c ++ (tokens sc s ++ rest)) (views_from (below n l' bs) (suc n) c') c' i)
        → (size c ≤ i → Spot d (size s) table a (tokens sc s ++ rest) (views_from bs (suc n + size c') s') s' (i - size c))
        → Spot d (size (cons l c s)) table a (tokens sc (cons l c s) ++ rest) (views_from bs n (cons l' c' s')) (cons l' c' s') (suc i)
    go (yes g) child sibling =
        widen d (size c) (size (cons l c s)) table a (tokens sc (cons l c s) ++ rest) (tokens (enter l sc) c ++ (tokens sc s ++ rest))
        (views_from bs n (cons l' c' s')) (views_from (below n l' bs) (suc n) c') (cons l' c' s') c' (suc i) i (omega arith)
        (tokens_inner sc l c s rest i)
        (at_front (views_from (below n l' bs) (suc n) c') (views_from bs (suc n + size c') s') i
        (omega (arith, length_views (below n l' bs) (suc n) c', same)))
        (choose_true (node_at i c') (node_at (i - size c') s') (ltb_yes i (size c') (omega (arith, same))))
        (child g)
    go (no g) child sibling =
        let j : ℕ = i - size c in
        let x : length (tokens (enter l sc) c) + j ≡ i = omega (arith, tokens_length (enter l sc) c) in
        let y : length (views_from (below n l' bs) (suc n) c') + j ≡ i = omega (arith, length_views (below n l' bs) (suc n) c', same) in
        widen d (size s) (size (cons l c s)) table a (tokens sc (cons l c s) ++ rest) (tokens sc s ++ rest)
        (views_from bs n (cons l' c' s')) (views_from bs (suc n + size c') s') (cons l' c' s') s' (suc i) j (omega arith)
        (tokens_inner sc l c s rest i ∙ ap (λ (k : ℕ). drop k (tokens (enter l sc) c ++ (tokens sc s ++ rest))) (sym x)
        ∙ drop-append-add (tokens (enter l sc) c) (tokens sc s ++ rest) j)
        (ap (get_elem? (views_from (below n l' bs) (suc n) c' ++ views_from bs (suc n + size c') s')) (sym y)
        ∙ at_back (views_from (below n l' bs) (suc n) c') (views_from bs (suc n + size c') s') j)
        (choose_false (node_at i c') (node_at (i - size c') s') (ltb_no i (size c') (omega (arith, same)))
        ∙ ap (λ (k : ℕ). node_at (i - k) s') same)
        (sibling (omega arith))

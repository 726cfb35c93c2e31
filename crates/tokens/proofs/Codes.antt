-- The key of a token is the code of its label's view.
--   root     the scope around the term whose tokens are looked at; its length is the binder depth from which keys are seen
--   k        the number of binders between the root and a node inside the term
--   code     a label of a view as the number that is its key; codes, those of a view in preorder
--   Coded    a label that can be read back from its code, so that two ranked views with the same codes are the same
use mathlib.Core.Path.{◌≡◌, refl, ap, ap₂, sym, ◌∙◌}
use mathlib.Core.List.{List, [], ◌∷◌, ◌++◌, map, map-append}
use Prim.Native.Nat.{ℕ, zero, suc, ◌+◌, ◌*◌, ◌-◌, ◌/◌, ◌%◌, ◌<◌, ◌≤◌}
use native.Mathlib.Omega.{arith}
use native.Mathlib.Decide.{dec_lt}
use lib.ListN.{length}
use lib.Dec.{eqb}
use Rattle.meaning.specs.Basics.{choose, All}
use Rattle.meaning.specs.Term.{Forest, nil, cons, size, trees, relabel, symbol, variable, application, binder, Label, own, slot}
use Rattle.meaning.specs.Term.{metavariable, function, hole, Named, Variable, bound, Nameless, Terms, inner}
use Rattle.meaning.specs.Scope.{resolve, enter, nameless_label, nameless}
use Rattle.meaning.specs.Shift.{with_variable}
use Rattle.meaning.specs.Equal.{Seen, seen_free, inside, outside, see, View}
use Rattle.meaning.specs.Field.{tag_of}
use Rattle.meaning.specs.Read.{Context, context_below}
use Rattle.meaning.specs.Readable.{NodeFits, Readable}
use Rattle.meaning.specs.Compare.{preorder}
use Rattle.meaning.proofs.Lists.{never, choose_true, choose_false, all_append}
use Rattle.meaning.proofs.ShiftLaws.{ltb_yes, ltb_no}
use Rattle.tokens.specs.Token.{token_of, level_of, payload_of, tokens}
use Rattle.tokens.specs.Key.{key_of_variable, key_of_payload, key_of, keys, level_from}
use Rattle.tokens.proofs.same.Laws.{key_free, key_inside, key_outside}
use Rattle.meaning.proofs.CompareLaws.{arity, Ranked, preorder_injective, fits_arity, with_arity}
use Rattle.tokens.proofs.TokenParts.{key_token, enter_room}
use Rattle.tokens.proofs.Levels.{Resolved, is_free, is_bound, resolved, enter_deep}

-- Codes of views
abbrev pub code_of_seen : Seen ℕ → ℕ
code_of_seen (seen_free x) = 4 * x
code_of_seen (inside i) = 4 * i + 1
code_of_seen (outside w) = 4 * w + 2

abbrev pub Viewed : Type 0
Viewed = Label (Seen ℕ) (Unit {0})

abbrev pub code : Viewed → ℕ
code (own (symbol n)) = 1 + 256 * n
code (own (variable v)) = 2 + 256 * code_of_seen v
code (own (application n)) = 3 + 256 * n
code (own (binder b x)) = 4 + 256 * b
code (slot (metavariable m)) = 5 + 256 * m
code (slot (function f n)) = 6 + 256 * f
code (slot (hole i)) = 10 + 256 * i

abbrev pub codes : View ℕ → List ℕ
codes u = map code (preorder u)

-- A code can be read back
decode_seen : ℕ → ℕ → Seen ℕ
decode_seen kind n = choose (eqb kind 0) (seen_free n) (choose (eqb kind 1) (inside n) (outside n))

decode : ℕ → ℕ → Viewed
decode tag p =
    choose (eqb tag 1) (own (symbol p))
    (choose (eqb tag 2) (own (variable (decode_seen (p % 4) (p / 4))))
    (choose (eqb tag 3) (own (application p))
    (choose (eqb tag 4) (own (binder p tt))
    (choose (eqb tag 5) (slot (metavariable p))
    (choose (eqb tag 6) (slot (function p 1)) (slot (hole p)))))))

read_back : (g p : ℕ) → g < 256 → decode ((g + 256 * p) % 256) ((g + 256 * p) / 256) ≡ decode g p
read_back g p h =
    let a : (g + 256 * p) % 256 ≡ g = omega arith in
    let b : (g + 256 * p) / 256 ≡ p = omega arith in
    ap₂ decode a b

seen_back : (v : Seen ℕ) → decode_seen (code_of_seen v % 4) (code_of_seen v / 4) ≡ v
unfolding decode_seen
seen_back (seen_free x) =
    let a : (4 * x) % 4 ≡ 0 = omega arith in
    let b : (4 * x) / 4 ≡ x = omega arith in
    ap₂ decode_seen a b
seen_back (inside i) =
    let a : (4 * i + 1) % 4 ≡ 1 = omega arith in
    let b : (4 * i + 1) / 4 ≡ i = omega arith in
    ap₂ decode_seen a b
seen_back (outside w) =
    let a : (4 * w + 2) % 4 ≡ 2 = omega arith in
    let b : (4 * w + 2) / 4 ≡ w = omega arith in
    ap₂ decode_seen a b

-- A label that can be read back from its code, which does not tell how many places a function has: there is one
abbrev pub Coded : Viewed → Type 0
Coded (own o) = Unit {0}
Coded (slot (metavariable m)) = Unit {0}
Coded (slot (function f n)) = n ≡ 1
Coded (slot (hole i)) = Unit {0}

code_back : (l : Viewed) → Coded l → decode (code l % 256) (code l / 256) ≡ l
unfolding decode
code_back (own (symbol n)) h = read_back 1 n (omega arith)
code_back (own (variable v)) h = read_back 2 (code_of_seen v) (omega arith) ∙ ap (λ (w : Seen ℕ). own (variable w)) (seen_back v)
code_back (own (application n)) h = read_back 3 n (omega arith)
code_back (own (binder b x)) h = read_back 4 b (omega arith)
code_back (slot (metavariable m)) h = read_back 5 m (omega arith)
code_back (slot (function f n)) h = read_back 6 f (omega arith) ∙ ap (λ (k : ℕ). slot (function f k)) (sym h)
code_back (slot (hole i)) h = read_back 10 i (omega arith)

pub code_injective : (l m : Viewed) → Coded l → Coded m → code l ≡ code m → l ≡ m
code_injective l m h g e = sym (code_back l h) ∙ ap (λ (n : ℕ). decode (n % 256) (n / 256)) e ∙ code_back m g

map_code_injective : (xs ys : List Viewed) → All Coded xs → All Coded ys → map code xs ≡ map code ys → xs ≡ ys
map_code_injective [] [] h g e = refl
map_code_injective [] (y ∷ ys) h g e = never (cc)
map_code_injective (x ∷ xs) [] h g e = never (cc)
map_code_injective (x ∷ xs) (y ∷ ys) h g e =
    ap₂ ◌∷◌ (code_injective x y h.0 g.0 (cc)) (map_code_injective xs ys h.1 g.1 (cc))

pub codes_injective : (u v : View ℕ) → trees u ≡ trees v → Ranked u → Ranked v → All Coded (preorder u) → All Coded (preorder v)
    → codes u ≡ codes v → u ≡ v
codes_injective u v n a b h g e =
    (preorder_injective u v [] [] n a b (ap (λ (xs : List Viewed). xs ++ []) (map_code_injective (preorder u) (preorder v) h g e))).0

-- The key of a token is the code of the label's view. `root` is the scope of the term, and k binders of the term are above the node
module _ (root : List ℕ) where
  abbrev pub seen_label : ℕ → Nameless → Viewed
  seen_label k l = with_variable (see (level_from root) k) l

  abbrev pub view_from : ℕ → Terms → View ℕ
  view_from k u = relabel inner seen_label k u

  variable_code : (k : ℕ) (sc : List ℕ) (x : ℕ) → length sc ≡ k + length root
      → key_of_variable (length root) (length sc) x (level_of sc x) ≡ code_of_seen (see (level_from root) k (resolve sc 0 x))
  variable_code k sc x h = go (resolved sc 0 x)
    where
      split : (j : ℕ) → j < length sc → level_of sc x + j ≡ length sc → Dec (j < k)
          → key_of_variable (length root) (length sc) x (level_of sc x) ≡ code_of_seen (see (level_from root) k (bound j))
      split j g q (yes y) =
          let z : length sc - level_of sc x ≡ j = omega arith in
          key_inside _ _ _ _ (λ e. omega arith) (omega arith) ∙ ap (λ (i : ℕ). 4 * i + 1) z
          ∙ sym (ap code_of_seen (choose_true _ _ (ltb_yes j k y)))
      split j g q (no y) =
          let z : level_of sc x ≡ level_from root (j - k) = omega arith in
          key_outside _ _ _ _ (λ e. omega arith) (omega arith) ∙ ap (λ (i : ℕ). 4 * i + 2) z
          ∙ sym (ap code_of_seen (choose_false _ _ (ltb_no j k (omega arith))))

      go : Resolved sc 0 x → key_of_variable (length root) (length sc) x (level_of sc x) ≡ code_of_seen (see (level_from root) k (resolve sc 0 x))
      go (is_free p q) = key_free _ _ _ _ q ∙ sym (ap (λ (v : Variable). code_of_seen (see (level_from root) k v)) p)
      go (is_bound j g p q) =
          let z : 0 + j ≡ j = omega arith in
          split j g q (dec_lt j k) ∙ sym (ap (λ (v : Variable). code_of_seen (see (level_from root) k v)) (p ∙ ap bound z))

  module _ (ctx : Context) (k : ℕ) (sc : List ℕ) (n : ℕ) (deep : length sc ≡ k + length root) (room : length sc < 256)
      (small : n < 65536) where
    pub label_code : (l : Named) (c : Forest Named) → NodeFits ctx l c
        → key_of (length root) (token_of (tag_of l) (length sc) n (payload_of sc l)) ≡ code (seen_label k (nameless_label sc l))
    unfolding payload_of key_of_payload
    label_code (own (symbol m)) c f = key_token 1 (length sc) n m (omega arith) room small (length root)
    label_code (own (variable x)) c f =
        let a : (x + 65536 * level_of sc x) % 65536 ≡ x = omega (arith, f.0) in
        let b : (x + 65536 * level_of sc x) / 65536 ≡ level_of sc x = omega (arith, f.0) in
        key_token 2 (length sc) n (x + 65536 * level_of sc x) (omega arith) room small (length root)
        ∙ ap (λ (v : ℕ). 2 + 256 * v) (ap₂ (key_of_variable (length root) (length sc)) a b ∙ variable_code k sc x deep)
    label_code (own (application m)) c f = key_token 3 (length sc) n m (omega arith) room small (length root)
    label_code (own (binder b x)) c f =
        let a : (b + 65536 * x) % 65536 ≡ b = omega (arith, f.0) in
        key_token 4 (length sc) n (b + 65536 * x) (omega arith) room small (length root) ∙ ap (λ (v : ℕ). 4 + 256 * v) a
    label_code (slot (metavariable m)) c f = key_token 5 (length sc) n m (omega arith) room small (length root)
    label_code (slot (function g a)) c f = key_token 6 (length sc) n g (omega arith) room small (length root)
    label_code (slot (hole i)) c f = key_token 10 (length sc) n i (omega arith) room small (length root)

-- The keys of a forest's tokens are the codes of its view
pub keys_codes : (root : List ℕ) (k levels : ℕ) (ctx : Context) (sc : List ℕ) (u : Forest Named) → length sc ≡ k + length root
    → Readable levels ctx u
    → length sc + levels ≤ 256 → size u < 65536 → keys (length root) (tokens sc u) ≡ codes (view_from root k (nameless sc u))
unfolding tokens
keys_codes root k levels ctx sc nil deep r room small = refl
keys_codes root k zero ctx sc (cons l c s) deep r room small = absurd r
keys_codes root k (suc levels) ctx sc (cons l c s) deep r room small =
    let el = label_code root ctx k sc (suc (size c)) deep (omega arith) (omega arith) l c r.0 in
    let ec =
    keys_codes root (inner (nameless_label sc l) k) levels (context_below l ctx) (enter l sc) c (enter_deep k (length root) sc l deep) r.1
    (omega (arith, enter_room sc l)) (omega arith) in
    let es = keys_codes root k (suc levels) ctx sc s deep r.2 room (omega arith) in
    let l' = nameless_label sc l in
    ap₂ ◌∷◌ el
    (map-append (key_of (length root)) (tokens (enter l sc) c) (tokens sc s) ∙ ap₂ ◌++◌ ec es
    ∙ sym (map-append code (preorder (view_from root (inner l' k) (nameless (enter l sc) c))) (preorder (view_from root k (nameless sc s)))))

-- The labels of a readable term's view can be read back
fits_coded : (root : List ℕ) (k : ℕ) (ctx : Context) (sc : List ℕ) (l : Named) (c : Forest Named) → NodeFits ctx l c
    → Coded (seen_label root k (nameless_label sc l))
fits_coded root k ctx sc (own (symbol n)) c f = tt
fits_coded root k ctx sc (own (variable x)) c f = tt
fits_coded root k ctx sc (own (application n)) c f = tt
fits_coded root k ctx sc (own (binder b x)) c f = tt
fits_coded root k ctx sc (slot (metavariable m)) c f = tt
fits_coded root k ctx sc (slot (function g n)) c f = f.2
fits_coded root k ctx sc (slot (hole i)) c f = tt

pub fits_label : (root : List ℕ) (k : ℕ) (ctx : Context) (sc : List ℕ) (l : Named) (c : Forest Named) → NodeFits ctx l c
    → Coded (seen_label root k (nameless_label sc l)) × (trees c ≡ arity (seen_label root k (nameless_label sc l)))
fits_label root k ctx sc l c f =
    (fits_coded root k ctx sc l c f, fits_arity ctx sc l c f ∙ sym (with_arity (see (level_from root) k) (nameless_label sc l)))

pub readable_coded : (root : List ℕ) (k levels : ℕ) (ctx : Context) (sc : List ℕ) (u : Forest Named) → Readable levels ctx u
    → All Coded (preorder (view_from root k (nameless sc u)))
readable_coded root k levels ctx sc nil r = tt
readable_coded root k zero ctx sc (cons l c s) r = absurd r
readable_coded root k (suc levels) ctx sc (cons l c s) r =
    let k' = inner (nameless_label sc l) k in (
      fits_coded root k ctx sc l c r.0,
      all_append Coded (preorder (view_from root k' (nameless (enter l sc) c))) (preorder (view_from root k (nameless sc s)))
          (readable_coded root k' levels (context_below l ctx) (enter l sc) c r.1)
          (readable_coded root k (suc levels) ctx sc s r.2),
    )

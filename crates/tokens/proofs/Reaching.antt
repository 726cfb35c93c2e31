-- The variables of a term that are bound outside it, told by their levels.
--   all_variables   a test holds of every variable of a forest, each with the number of the forest's binders above it
--   Told           a test of variables fails just where the level lies above d and is at most r
use mathlib.Core.Path.{◌≡◌, refl, ap, ap₂, sym, ◌∙◌}
use mathlib.Core.Bool.{Bool, true, false, ◌&&◌, ◌||◌, not, or_assoc, and-true, and-false}
use mathlib.Core.List.{List, [], ◌∷◌, ◌++◌}
use mathlib.Core.Option.{Option, none, some}
use Prim.Native.Nat.{ℕ, zero, suc, ◌+◌, ◌*◌, ◌-◌, ◌/◌, ◌<◌, ◌≤◌}
use native.Mathlib.Omega.{arith}
use native.Mathlib.Decide.{dec_lt}
use lib.ListN.{length}
use lib.Dec.{ltb, leb}
use borrow.Author.Tests.{lt-ltb, le-ltb, le-leb, lt-leb}
use Rattle.meaning.specs.Basics.{and_then, is_some}
use Rattle.meaning.specs.Term.{Forest, nil, cons, one, size, symbol, variable, application, binder, own, slot, metavariable, function, hole}
use Rattle.meaning.specs.Term.{Named, Variable, bound, Nameless, Terms, Term, inner}
use Rattle.meaning.specs.Scope.{resolve, enter, nameless_label, nameless}
use Rattle.meaning.specs.Lower.{sink, lower_label, lower, lower_term}
use Rattle.meaning.specs.ClosedTest.{is_closed_variable, is_closed_label, is_closed}
use Rattle.meaning.specs.Field.{tag_of}
use Rattle.meaning.specs.Read.{Context, context_below}
use Rattle.meaning.specs.Readable.{NodeFits, Readable}
use Rattle.meaning.proofs.ShiftLaws.{ltb_yes, ltb_no}
use Rattle.tokens.specs.Token.{token_of, level_of, payload_of, tokens}
use Rattle.tokens.specs.Key.{reaches, any_reaches}
use Rattle.tokens.proofs.same.Laws.{reaches_no_variable, reaches_level}
use Rattle.tokens.proofs.TokenParts.{tag_token, payload_token, enter_room}
use Rattle.tokens.proofs.Levels.{Resolved, is_free, is_bound, resolved, enter_deep}

-- A test of all variables of a forest, each with the number of the forest's binders above it
module _ (p : ℕ → Variable → Bool) where
  unfoldable pub test_label : ℕ → Nameless → Bool
  test_label k (own (symbol n)) = true
  test_label k (own (variable v)) = p k v
  test_label k (own (application n)) = true
  test_label k (own (binder b x)) = true
  test_label k (slot z) = true

  pub all_variables : ℕ → Terms → Bool
  all_variables k nil = true
  all_variables k (cons l c s) = test_label k l && (all_variables (inner l k) c && all_variables k s)

closed_label_lem : (k : ℕ) (l : Nameless) → is_closed_label k l ≡ test_label is_closed_variable k l
unfolding test_label
closed_label_lem k (own (symbol n)) = refl
closed_label_lem k (own (variable v)) = refl
closed_label_lem k (own (application n)) = refl
closed_label_lem k (own (binder b x)) = refl
closed_label_lem k (slot z) = refl

pub closed_all : (k : ℕ) (u : Terms) → is_closed k u ≡ all_variables is_closed_variable k u
unfolding all_variables
closed_all k nil = refl
closed_all k (cons l c s) = rw (closed_label_lem k l, closed_all (inner l k) c, closed_all k s)

abbrev pub sinks : ℕ → ℕ → Variable → Bool
sinks n k v = is_some (sink n k v)

some_then : {A B : Type 0} (o : Option A) (f : A → B) → is_some (and_then o (λ a. some (f a))) ≡ is_some o
some_then none f = refl
some_then (some a) f = refl

both_then : {A B : Type 0} (o : Option A) (f : A → Option B) (b : Bool) → ((a : A) → is_some (f a) ≡ b)
    → is_some (and_then o f) ≡ is_some o && b
both_then none f b h = refl
both_then (some a) f b h = h a

lower_label_lem : (n k : ℕ) (l : Nameless) → is_some (lower_label n k l) ≡ test_label (sinks n) k l
unfolding test_label
lower_label_lem n k (own (symbol m)) = refl
lower_label_lem n k (own (variable v)) = some_then (sink n k v) _
lower_label_lem n k (own (application m)) = refl
lower_label_lem n k (own (binder b x)) = refl
lower_label_lem n k (slot z) = refl

lower_all : (n k : ℕ) (u : Terms) → is_some (lower n k u) ≡ all_variables (sinks n) k u
unfolding all_variables
lower_all n k nil = refl
lower_all n k (cons l c s) =
    both_then (lower_label n k l) _ _ (λ l'. both_then (lower n (inner l k) c) _ _ (λ c'. some_then (lower n k s) _))
    ∙ rw (lower_label_lem n k l, lower_all n (inner l k) c, lower_all n k s)

-- Tokens against such a test
not_all : (a b c : Bool) → not a || (not b || not c) ≡ not (a && (b && c))
not_all true true c = refl
not_all true false c = refl
not_all false b c = refl

any_append : (d r : ℕ) (xs ys : List ℕ) → any_reaches d r (xs ++ ys) ≡ any_reaches d r xs || any_reaches d r ys
unfolding any_reaches
any_append d r [] ys = refl
any_append d r (x ∷ xs) ys =
    ap (λ (b : Bool). reaches d r x || b) (any_append d r xs ys) ∙ sym (or_assoc (reaches d r x) (any_reaches d r xs) (any_reaches d r ys))

-- A test of variables that fails where the level lies above d and is at most r
abbrev pub Told : (ℕ → Variable → Bool) → ℕ → ℕ → Type 0
Told p d r = (k : ℕ) (sc : List ℕ) (x : ℕ) → length sc ≡ k + r → ltb d (level_of sc x) && leb (level_of sc x) r ≡ not (p k (resolve sc 0 x))

module _ (p : ℕ → Variable → Bool) (d r : ℕ) (told : Told p d r) where
  module _ (e n : ℕ) (room : e < 256) (small : n < 65536) where
    other_reaches : (g q : ℕ) → g < 256 → (g ≡ 2 → ⊥) → reaches d r (token_of g e n q) ≡ false
    other_reaches g q h m = reaches_no_variable d r (token_of g e n q) (λ z. m (sym (tag_token g e n q h room small) ∙ z))

    variable_reaches : (x level : ℕ) → x < 65536 → reaches d r (token_of 2 e n (x + 65536 * level)) ≡ ltb d level && leb level r
    variable_reaches x level h =
        let a : (x + 65536 * level) / 65536 ≡ level = omega arith in
        let q = x + 65536 * level in
        reaches_level d r (token_of 2 e n q) (tag_token 2 e n q (omega arith) room small) level
        (sym (ap (λ (i : ℕ). i / 65536) (payload_token 2 e n q (omega arith) room small) ∙ a))

  pub label_reaches : (ctx : Context) (k : ℕ) (sc : List ℕ) (n : ℕ) → length sc ≡ k + r → length sc < 256 → n < 65536
      → (l : Named) (c : Forest Named)
      → NodeFits ctx l c → reaches d r (token_of (tag_of l) (length sc) n (payload_of sc l)) ≡ not (test_label p k (nameless_label sc l))
  unfolding payload_of test_label
  label_reaches ctx k sc n deep room small (own (symbol m)) c f =
      other_reaches (length sc) n room small 1 m (omega arith) (λ z. omega arith)
  label_reaches ctx k sc n deep room small (own (variable x)) c f =
      variable_reaches (length sc) n room small x (level_of sc x) f.0 ∙ told k sc x deep
  label_reaches ctx k sc n deep room small (own (application m)) c f =
      other_reaches (length sc) n room small 3 m (omega arith) (λ z. omega arith)
  label_reaches ctx k sc n deep room small (own (binder b x)) c f =
      other_reaches (length sc) n room small 4 (b + 65536 * x) (omega arith) (λ z. omega arith)
  label_reaches ctx k sc n deep room small (slot (metavariable m)) c f =
      other_reaches (length sc) n room small 5 m (omega arith) (λ z. omega arith)
  label_reaches ctx k sc n deep room small (slot (function g a)) c f =
      other_reaches (length sc) n room small 6 g (omega arith) (λ z. omega arith)
  label_reaches ctx k sc n deep room small (slot (hole i)) c f =
      other_reaches (length sc) n room small 10 i (omega arith) (λ z. omega arith)

  pub tokens_reach : (k levels : ℕ) (ctx : Context) (sc : List ℕ) (u : Forest Named) → length sc ≡ k + r → Readable levels ctx u
      → length sc + levels ≤ 256
      → size u < 65536 → any_reaches d r (tokens sc u) ≡ not (all_variables p k (nameless sc u))
  unfolding tokens any_reaches all_variables
  tokens_reach k levels ctx sc nil deep f room small = refl
  tokens_reach k zero ctx sc (cons l c s) deep f room small = absurd f
  tokens_reach k (suc levels) ctx sc (cons l c s) deep f room small =
      let el = label_reaches ctx k sc (suc (size c)) deep (omega arith) (omega arith) l c f.0 in
      let ec = tokens_reach (inner (nameless_label sc l) k) levels (context_below l ctx) (enter l sc) c (enter_deep k r sc l deep) f.1
      (omega (arith, enter_room sc l)) (omega arith) in
      let es = tokens_reach k (suc levels) ctx sc s deep f.2 room (omega arith) in
      ap₂ ◌||◌ el (any_append d r (tokens (enter l sc) c) (tokens sc s) ∙ ap₂ ◌||◌ ec es)
      ∙ not_all (test_label p k (nameless_label sc l)) (all_variables p (inner (nameless_label sc l) k) (nameless (enter l sc) c))
      (all_variables p k (nameless sc s))

-- Whether a level lies between two depths, and whether an index belongs to one of the binders between
module _ (d r level : ℕ) where
  pub level_above : level ≤ d → ltb d level && leb level r ≡ false
  level_above h = ap (λ (b : Bool). b && leb level r) (le-ltb d level h)

  pub level_below : r < level → ltb d level && leb level r ≡ false
  level_below h = ap (λ (b : Bool). ltb d level && b) (lt-leb level r h) ∙ and-false (ltb d level)

  level_between : d < level → level ≤ r → ltb d level && leb level r ≡ true
  level_between h g = ap₂ ◌&&◌ (lt-ltb d level h) (le-leb level r g)

module _ (n k j : ℕ) where
  sinks_low : j < k → sinks n k (bound j) ≡ true
  sinks_low h = rw (ltb_yes j k h)

  sinks_between : k ≤ j → j < k + n → sinks n k (bound j) ≡ false
  sinks_between h g = rw (ltb_no j k h, ltb_yes j (k + n) g)

  sinks_high : k + n ≤ j → sinks n k (bound j) ≡ true
  sinks_high h = rw (ltb_no j k (omega arith), ltb_no j (k + n) h)

pub told_closed : (r : ℕ) → Told is_closed_variable 0 r
told_closed r k sc x deep = go (resolved sc 0 x)
  where
    split : (j : ℕ) → j < length sc → level_of sc x + j ≡ length sc → Dec (j < k)
        → ltb 0 (level_of sc x) && leb (level_of sc x) r ≡ not (ltb j k)
    split j g q (yes y) = level_below 0 r (level_of sc x) (omega arith) ∙ sym (ap not (ltb_yes j k y))
    split j g q (no y) = level_between 0 r (level_of sc x) (omega arith) (omega arith) ∙ sym (ap not (ltb_no j k (omega arith)))

    go : Resolved sc 0 x → ltb 0 (level_of sc x) && leb (level_of sc x) r ≡ not (is_closed_variable k (resolve sc 0 x))
    go (is_free a q) = level_above 0 r (level_of sc x) (omega arith) ∙ sym (ap (λ (v : Variable). not (is_closed_variable k v)) a)
    go (is_bound j g a q) =
        let z : 0 + j ≡ j = omega arith in
        split j g q (dec_lt j k) ∙ sym (ap (λ (v : Variable). not (is_closed_variable k v)) (a ∙ ap bound z))

pub told_sinks : (d r : ℕ) → Told (sinks (r - d)) d r
told_sinks d r k sc x deep = go (resolved sc 0 x)
  where
    split : (j : ℕ) → j < length sc → level_of sc x + j ≡ length sc → Dec (j < k) → Dec (j < k + (r - d))
        → ltb d (level_of sc x) && leb (level_of sc x) r ≡ not (sinks (r - d) k (bound j))
    split j g q (yes y) w = level_below d r (level_of sc x) (omega arith) ∙ sym (ap not (sinks_low (r - d) k j y))
    split j g q (no y) (yes w) =
        level_between d r (level_of sc x) (omega arith) (omega arith) ∙ sym (ap not (sinks_between (r - d) k j (omega arith) w))
    split j g q (no y) (no w) = level_above d r (level_of sc x) (omega arith) ∙ sym (ap not (sinks_high (r - d) k j (omega arith)))

    go : Resolved sc 0 x → ltb d (level_of sc x) && leb (level_of sc x) r ≡ not (sinks (r - d) k (resolve sc 0 x))
    go (is_free a q) = level_above d r (level_of sc x) (omega arith) ∙ sym (ap (λ (v : Variable). not (sinks (r - d) k v)) a)
    go (is_bound j g a q) =
        let z : 0 + j ≡ j = omega arith in
        split j g q (dec_lt j k) (dec_lt j (k + (r - d))) ∙ sym (ap (λ (v : Variable). not (sinks (r - d) k v)) (a ∙ ap bound z))

pub lower_term_lem : (n : ℕ) (t : Term) → is_some (lower_term n t) ≡ all_variables (sinks n) 0 (one t)
unfolding all_variables
lower_term_lem n t =
    both_then (lower_label n 0 t.0) _ _ (λ l. some_then (lower n (inner t.0 0) t.1) _)
    ∙ ap₂ ◌&&◌ (lower_label_lem n 0 t.0) (lower_all n (inner t.0 0) t.1 ∙ sym (and-true _))

-- One token, seen from a root at depth r: it reaches out of it where its variable is bound by none of the k binders below the root
pub closed_token : (r k : ℕ) (ctx : Context) (sc : List ℕ) (n : ℕ) → length sc ≡ k + r → length sc < 256 → n < 65536
    → (l : Named) (c : Forest Named)
    → NodeFits ctx l c → reaches 0 r (token_of (tag_of l) (length sc) n (payload_of sc l)) ≡ not (is_closed_label k (nameless_label sc l))
closed_token r k ctx sc n deep room small l c f =
    label_reaches is_closed_variable 0 r (told_closed r) ctx k sc n deep room small l c f ∙ sym (ap not (closed_label_lem k (nameless_label sc l)))

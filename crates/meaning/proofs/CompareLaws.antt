-- What the number of pairs says (T-02): together with the last pair it says what yes and no say.
--   arity    how many children a label tells
--   Ranked   each node has as many children as its label tells; then the labels in preorder tell the whole forest
--   AgreeAt  the pair of that number agrees
use mathlib.Core.Path.{◌≡◌, refl, ap, ap₂, sym, ◌∙◌, subst}
use mathlib.Core.Logic.{◌↔◌}
use Prim.Native.Nat.{ℕ, zero, suc, ◌+◌, ◌-◌, ◌<◌}
use mathlib.Core.Bool.{Bool, true, false, true≢false}
use mathlib.Core.List.{List, [], ◌∷◌, ◌++◌, append_assoc, append-nil}
use mathlib.Core.Option.{some}
use native.Mathlib.Omega.{arith}
use lib.ListN.{length, get_elem?, length-append}
use Rattle.meaning.specs.Limits.{max_depth}
use Rattle.meaning.specs.Basics.{All, choose}
use Rattle.meaning.specs.Term.{Forest, nil, cons, one, size, trees, relabel, symbol, variable, application, binder, Label, own, slot}
use Rattle.meaning.specs.Term.{metavariable, function, hole, Named, Terms, inner}
use Rattle.meaning.specs.Scope.{enter, nameless_label, nameless}
use Rattle.meaning.specs.Shift.{with_variable}
use Rattle.meaning.specs.Equal.{Seen, see, View}
use Rattle.meaning.specs.Problem.{Problem, expressions, named_expressions}
use Rattle.meaning.specs.Choice.{Owner, below, owner_of, views_from}
use Rattle.meaning.specs.Choices.{same_owner}
use Rattle.meaning.specs.Same.{all_alike, same_seen}
use Rattle.meaning.specs.Read.{Context, context_below, in_expression}
use Rattle.meaning.specs.Readable.{NodeFits, Readable, WithinLimits}
use Rattle.meaning.specs.Compare.{preorder, agree, pairs, pairs_of, subexpressions, Comparison}
use Rattle.meaning.proofs.Lists.{T_true, true_T, and_T, T_and, by_test, choose_true, choose_false, all_append, all_mem, at_mem}
use Rattle.meaning.proofs.Alike.{Sound, Fair, decides, owner_eq, owner_refl, seen_eq, seen_refl, label_eq, label_refl}
use Rattle.meaning.proofs.Proper.{relabel_trees, expressions_readable}

-- Forests that their labels tell
abbrev pub arity : {X B : Type 0} → Label X B → ℕ
arity (own (symbol n)) = 0
arity (own (variable v)) = 0
arity (own (application n)) = n
arity (own (binder b x)) = 1
arity (slot (metavariable m)) = 0
arity (slot (function f n)) = n
arity (slot (hole i)) = 0

abbrev pub Ranked : {X B : Type 0} → Forest (Label X B) → Type 0
Ranked nil = Unit {0}
Ranked (cons l c s) = (trees c ≡ arity l) × Ranked c × Ranked s

-- One term of that kind
abbrev pub RankedTerm : {X B : Type 0} → Forest (Label X B) → Type 0
RankedTerm u = Ranked u × (trees u ≡ 1)

length_preorder : {L : Type 0} (u : Forest L) → length (preorder u) ≡ size u
length_preorder nil = refl
length_preorder (cons l c s) = ap suc (length-append (preorder c) (preorder s) ∙ ap₂ ◌+◌ (length_preorder c) (length_preorder s))

pub preorder_injective : {X B : Type 0} (u v : Forest (Label X B)) (xs ys : List (Label X B)) → trees u ≡ trees v → Ranked u → Ranked v
    → preorder u ++ xs ≡ preorder v ++ ys
    → (u ≡ v) × (xs ≡ ys)
preorder_injective nil nil xs ys n a b e = (refl, e)
preorder_injective nil (cons l c s) xs ys n a b e = absurd (omega arith)
preorder_injective (cons l c s) nil xs ys n a b e = absurd (omega arith)
preorder_injective (cons l c s) (cons l' c' s') xs ys n a b e =
    let el : l ≡ l' = cc in
    let rest : (preorder c ++ preorder s) ++ xs ≡ (preorder c' ++ preorder s') ++ ys = cc in
    let nc : trees c ≡ trees c' = a.0 ∙ ap arity el ∙ sym b.0 in
    let rc = preorder_injective c c' (preorder s ++ xs) (preorder s' ++ ys) nc a.1 b.1 (simp append_assoc at rest) in
    let rs = preorder_injective s s' xs ys (omega arith) a.2 b.2 rc.1 in
    let ec : c ≡ c' = rc.0 in
    let es : s ≡ s' = rs.0 in
    (cc, rs.1)

-- What can be read is such a forest, and so is what is seen of it
pub fits_arity : (ctx : Context) (sc : List ℕ) (l : Named) (c : Forest Named) → NodeFits ctx l c → trees c ≡ arity (nameless_label sc l)
fits_arity ctx sc (own (symbol n)) c f = ap trees f.1
fits_arity ctx sc (own (variable x)) c f = ap trees f.1
fits_arity ctx sc (own (application n)) c f = sym f.0
fits_arity ctx sc (own (binder b x)) c f = f.2
fits_arity ctx sc (slot (metavariable m)) c f = ap trees f.2
fits_arity ctx sc (slot (function g n)) c f = f.3
fits_arity ctx sc (slot (hole i)) c f = ap trees f.2

pub readable_ranked : (levels : ℕ) (ctx : Context) (sc : List ℕ) (u : Forest Named) → Readable levels ctx u → Ranked (nameless sc u)
readable_ranked levels ctx sc nil r = tt
readable_ranked zero ctx sc (cons l c s) r = absurd r
readable_ranked (suc levels) ctx sc (cons l c s) r = (
  relabel_trees enter nameless_label (enter l sc) c ∙ fits_arity ctx sc l c r.0,
  readable_ranked levels (context_below l ctx) (enter l sc) c r.1,
  readable_ranked (suc levels) ctx sc s r.2,
)

pub with_arity : {X Y B : Type 0} (f : X → Y) (l : Label X B) → arity (with_variable f l) ≡ arity l
with_arity f (own (symbol n)) = refl
with_arity f (own (variable v)) = refl
with_arity f (own (application n)) = refl
with_arity f (own (binder b x)) = refl
with_arity f (slot (metavariable m)) = refl
with_arity f (slot (function g n)) = refl
with_arity f (slot (hole i)) = refl

pub view_ranked : {W : Type 0} (who : ℕ → W) (k : ℕ) (u : Terms) → Ranked u → Ranked (relabel inner (λ j. with_variable (see who j)) k u)
view_ranked who k nil r = tt
view_ranked who k (cons l c s) r = (
  relabel_trees inner (λ j. with_variable (see who j)) (inner l k) c ∙ r.0 ∙ sym (with_arity (see who k) l),
  view_ranked who (inner l k) c r.1,
  view_ranked who k s r.2,
)

-- Lists that are alike, by a test of elements
module _ {L : Type 0} (same : L → L → Bool) where
  all_alike_eq : Sound same → Sound (all_alike same)
  all_alike_eq h [] [] t = refl
  all_alike_eq h [] (y ∷ ys) t = absurd t
  all_alike_eq h (x ∷ xs) [] t = absurd t
  all_alike_eq h (x ∷ xs) (y ∷ ys) t =
      let r = and_T (same x y) (all_alike same xs ys) t in ap₂ ◌∷◌ (h x y r.0) (all_alike_eq h xs ys r.1)

  all_alike_refl : Fair same → Fair (all_alike same)
  all_alike_refl g [] = tt
  all_alike_refl g (x ∷ xs) = T_and (same x x) (all_alike same xs xs) (g x) (all_alike_refl g xs)

  pairs_self : Fair same → (xs : List L) → pairs same xs xs ≡ length xs
  pairs_self g [] = refl
  pairs_self g (x ∷ xs) = ap suc (choose_true {b = same x x} (pairs same xs xs) 0 (T_true (g x)) ∙ pairs_self g xs)

-- Labels of what is seen
agree_sound : Sound agree
agree_sound = label_eq (same_seen same_owner) (seen_eq same_owner owner_eq)

agree_fair : Fair agree
agree_fair = label_refl (same_seen same_owner) (seen_refl same_owner owner_refl)

-- Two nodes agree exactly when all that their labels say is the same
pub agree_equal : (l m : Label (Seen Owner) (Unit {0})) → (agree l m ≡ true) ↔ (l ≡ m)
agree_equal = decides agree agree_sound agree_fair

-- All pairs agree exactly when the two are equal
pub alike_equal : (u v : View Owner) → trees u ≡ trees v → Ranked u → Ranked v
    → (all_alike agree (preorder u) (preorder v) ≡ true) ↔ (u ≡ v)
alike_equal u v n a b = (
  λ e.
      let q : preorder u ≡ preorder v = all_alike_eq agree agree_sound (preorder u) (preorder v) (true_T e) in
      (preorder_injective u v [] [] n a b (ap (λ (xs : List (Label (Seen Owner) (Unit {0}))). xs ++ []) q)).0,
  λ e. sym (ap (λ (w : View Owner). all_alike agree (preorder u) (preorder w)) e) ∙ T_true (all_alike_refl agree agree_fair (preorder u)),
)

-- The pair of number k, counted from 0
abbrev pub AgreeAt : View Owner → View Owner → ℕ → Type 0
AgreeAt u v k = get_elem? (preorder u) k ≡ get_elem? (preorder v) k

abbrev Seens : Type 0
Seens = List (Label (Seen Owner) (Unit {0}))

-- Where the last pair agrees, one of the two lists begins with the other
abbrev OneBegins : Seens → Seens → Type 0
OneBegins xs ys = (more : Seens) × (more' : Seens) × (xs ++ more ≡ ys ++ more')

none_compared : (xs ys : Seens) → pairs agree xs ys ≡ 0 → OneBegins xs ys
none_compared [] ys n = (ys, [], sym (append-nil ys))
none_compared (x ∷ xs) [] n = ([], x ∷ xs, append-nil (x ∷ xs))
none_compared (x ∷ xs) (y ∷ ys) n = absurd (omega arith)

begins : (xs ys : Seens) → get_elem? xs (pairs agree xs ys - 1) ≡ get_elem? ys (pairs agree xs ys - 1) → OneBegins xs ys
begins [] ys e = none_compared [] ys refl
begins (x ∷ xs) [] e = none_compared (x ∷ xs) [] refl
begins (x ∷ xs) (y ∷ ys) e =
    by_test (agree x y) (λ d. agreed d (rest (begins xs ys) (pairs agree xs ys) refl (at (choose_true _ _ d)))) (λ d. absurd (differed d))
  where
    at : {n : ℕ} → choose (agree x y) (pairs agree xs ys) 0 ≡ n → get_elem? (x ∷ xs) n ≡ get_elem? (y ∷ ys) n
    at {n} q =
        let i : pairs agree (x ∷ xs) (y ∷ ys) - 1 ≡ n = omega arith in
        ap (get_elem? (x ∷ xs)) (sym i) ∙ e ∙ ap (get_elem? (y ∷ ys)) i

    rest : (get_elem? xs (pairs agree xs ys - 1) ≡ get_elem? ys (pairs agree xs ys - 1) → OneBegins xs ys)
        → (n : ℕ) → pairs agree xs ys ≡ n → get_elem? (x ∷ xs) n ≡ get_elem? (y ∷ ys) n → OneBegins xs ys
    rest ih zero q f = none_compared xs ys q
    rest ih (suc n) q f =
        let i : n ≡ pairs agree xs ys - 1 = omega arith in ih (ap (get_elem? xs) (sym i) ∙ f ∙ ap (get_elem? ys) i)

    agreed : agree x y ≡ true → OneBegins xs ys → OneBegins (x ∷ xs) (y ∷ ys)
    agreed d r = (r.0, r.1, ap₂ ◌∷◌ ((agree_equal x y).0 d) r.2)

    differed : agree x y ≡ false → ⊥
    differed d =
        let q : some x ≡ some y = at {n = 0} (choose_false _ _ d) in
        let h : x ≡ y = cc in
        true≢false (sym ((agree_equal x y).1 h) ∙ d)

-- Pairs before the last one agree
pairs_agree : (xs ys : Seens) (k : ℕ) → suc k < pairs agree xs ys → get_elem? xs k ≡ get_elem? ys k
pairs_agree [] ys k h = absurd (omega arith)
pairs_agree (x ∷ xs) [] k h = absurd (omega arith)
pairs_agree (x ∷ xs) (y ∷ ys) k h = by_test (agree x y) (agreed k h (pairs_agree xs ys)) (λ d. absurd (differed d))
  where
    agreed : (k : ℕ) → suc k < pairs agree (x ∷ xs) (y ∷ ys)
        → ((j : ℕ) → suc j < pairs agree xs ys → get_elem? xs j ≡ get_elem? ys j)
        → agree x y ≡ true → get_elem? (x ∷ xs) k ≡ get_elem? (y ∷ ys) k
    agreed zero g ih d = ap some ((agree_equal x y).0 d)
    agreed (suc k) g ih d =
        let m : choose (agree x y) (pairs agree xs ys) 0 ≡ pairs agree xs ys = choose_true _ _ d in ih k (omega arith)

    differed : agree x y ≡ false → ⊥
    differed d = let m : choose (agree x y) (pairs agree xs ys) 0 ≡ 0 = choose_false _ _ d in omega arith

-- Main theorems, of two subexpressions. Pairs are "compared .. up to and with the first .. that disagrees": those before the last agree
pub pairs_before : (u v : View Owner) (k : ℕ) → suc k < pairs_of u v → AgreeAt u v k
unfolding pairs_of
pairs_before u v k h = pairs_agree (preorder u) (preorder v) k h

-- and the last one tells: the two are equal exactly when it agrees, so that where they are not it is "the first pair" that disagrees
pub last_tells : (u v : View Owner) → trees u ≡ trees v → Ranked u → Ranked v → (u ≡ v) ↔ AgreeAt u v (pairs_of u v - 1)
unfolding pairs_of
last_tells u v n a b = (λ e. ap (λ (w : View Owner). get_elem? (preorder w) (pairs_of u v - 1)) e, back)
  where
    back : AgreeAt u v (pairs_of u v - 1) → u ≡ v
    back h = let r = begins (preorder u) (preorder v) h in (preorder_injective u v r.0 r.1 n a b r.2).0

-- Yes exactly when the number of pairs is the number of nodes and the last pair agrees
pub equal_counted : (u v : View Owner) → trees u ≡ trees v → Ranked u → Ranked v
    → (u ≡ v) ↔ ((pairs_of u v ≡ size u) × AgreeAt u v (pairs_of u v - 1))
unfolding pairs_of
equal_counted u v n a b = (λ e. (all e, (last_tells u v n a b).0 e), λ h. (last_tells u v n a b).1 h.1)
  where
    all : u ≡ v → pairs_of u v ≡ size u
    all e =
        sym (ap (λ (w : View Owner). pairs agree (preorder u) (preorder w)) e) ∙ pairs_self agree agree_fair (preorder u)
        ∙ length_preorder u

-- The subexpressions of a problem are such views
views_ranked : (bs : List ℕ) (n : ℕ) (u : Terms) → Ranked u → All RankedTerm (views_from bs n u)
views_ranked bs n nil r = tt
views_ranked bs n (cons l c s) r = (
  (view_ranked (owner_of bs) 0 (one (l, c)) (r.0, r.1, tt), refl),
  all_append RankedTerm (views_from (below n l bs) (suc n) c) (views_from bs (suc n + size c) s)
      (views_ranked (below n l bs) (suc n) c r.1)
      (views_ranked bs (suc n + size c) s r.2),
)

pub subexpressions_ranked : (p : Problem) → WithinLimits p → All RankedTerm (subexpressions p)
unfolding subexpressions
subexpressions_ranked p w =
    views_ranked [] 0 (expressions p) (readable_ranked max_depth in_expression [] (named_expressions p) (expressions_readable p w))

-- Of a comparison's answer: yes exactly when the number of pairs is the number of nodes and the last pair agrees
pub answer_counted : (p : Problem) → WithinLimits p → (a b : ℕ) (u v : View Owner) (equal : Bool) (n : ℕ)
    → get_elem? (subexpressions p) a ≡ some u → get_elem? (subexpressions p) b ≡ some v → Comparison u v equal n
    → (equal ≡ true) ↔ ((n ≡ size u) × AgreeAt u v (n - 1))
answer_counted p w a b u v equal n d e h =
    let ranked = subexpressions_ranked p w in
    let (x, i) = all_mem RankedTerm u (subexpressions p) ranked (at_mem (subexpressions p) a u d) in
    let (y, j) = all_mem RankedTerm v (subexpressions p) ranked (at_mem (subexpressions p) b v e) in
    let q = equal_counted u v (i ∙ sym j) x y in
    let c = h.count in (
      λ z. let r = q.0 (h.verdict.0 z) in (c ∙ r.0, subst (λ (m : ℕ). AgreeAt u v (m - 1)) (sym c) r.1),
      λ z. h.verdict.1 (q.1 (sym c ∙ z.0, subst (λ (m : ℕ). AgreeAt u v (m - 1)) c z.1)),
    )

-- Laws of shift, lower and closed: lowering undoes shifting, and a closed term is not moved.
use mathlib.Core.Path.{◌≡◌, refl, ap, ap₂, sym, ◌∙◌, subst}
use Prim.Native.Nat.{ℕ, ◌+◌, ◌-◌, ◌<◌, ◌≤◌}
use mathlib.Core.Bool.{true, false, ◌&&◌}
use mathlib.Core.Option.{Option, none, some}
use native.Mathlib.Omega.{arith}
use native.Mathlib.Decide.{dec_lt}
use lib.Dec.{ltb, T, ltb→lt, lt→ltb}
use Rattle.meaning.specs.Basics.{and_then}
use Rattle.meaning.specs.Term.{Forest, nil, cons, Tree, one, size, relabel, symbol, variable, application, binder, Label, own, slot}
use Rattle.meaning.specs.Term.{Variable, free, bound, Nameless, Terms, Term, inner, OwnLabel, IsExpression}
use Rattle.meaning.specs.Shift.{with_variable, raise, shift_label, shift, shift_term, ClosedVariable, ClosedLabel, Closed, ClosedTerm}
use Rattle.meaning.specs.Lower.{sink, lower_label, lower, lower_term}
use Rattle.meaning.specs.ClosedTest.{is_closed_variable, is_closed_label, is_closed}
use Rattle.meaning.proofs.Lists.{never, T_true, not_T, and_T, T_and}

pub ltb_yes : (m n : ℕ) → m < n → ltb m n ≡ true
ltb_yes m n h = T_true (lt→ltb m n h)

pub ltb_no : (m n : ℕ) → n ≤ m → ltb m n ≡ false
ltb_no m n h = not_T (λ t. let g : m < n = ltb→lt m n t in omega arith)

-- One variable
pub raise_low : (n k i : ℕ) → i < k → raise n k (bound i) ≡ bound i
raise_low n k i h = rw (ltb_yes i k h)

pub raise_high : (n k i : ℕ) → k ≤ i → raise n k (bound i) ≡ bound (i + n)
raise_high n k i h = rw (ltb_no i k h)

sink_low : (n k i : ℕ) → i < k → sink n k (bound i) ≡ some (bound i)
sink_low n k i h = rw (ltb_yes i k h)

sink_between : (n k i : ℕ) → k ≤ i → i < k + n → sink n k (bound i) ≡ none
sink_between n k i h g = rw (ltb_no i k h, ltb_yes i (k + n) g)

sink_high : (n k i : ℕ) → k + n ≤ i → sink n k (bound i) ≡ some (bound (i - n))
sink_high n k i h = rw (ltb_no i k (omega arith), ltb_no i (k + n) h)

pub sink_raise : (n k : ℕ) (v : Variable) → sink n k (raise n k v) ≡ some v
sink_raise n k (free x) = refl
sink_raise n k (bound i) = go (dec_lt i k)
  where
    go : Dec (i < k) → sink n k (raise n k (bound i)) ≡ some (bound i)
    go (yes h) = rw (raise_low n k i h) (sink_low n k i h)
    go (no h) =
        let e : (i + n) - n ≡ i = omega arith in
        rw (raise_high n k i (omega arith)) (sink_high n k (i + n) (omega arith) ∙ ap (λ (j : ℕ). some (bound j)) e)

pub raise_sink : (n k : ℕ) (v w : Variable) → sink n k v ≡ some w → raise n k w ≡ v
raise_sink n k (free x) w e = let p : w ≡ free x = cc in rw p
raise_sink n k (bound i) w e = go (dec_lt i k) (dec_lt i (k + n))
  where
    go : Dec (i < k) → Dec (i < k + n) → raise n k w ≡ bound i
    go (yes h) d = let p : bound i ≡ w = cc (sink_low n k i h) in rw (← p) (raise_low n k i h)
    go (no h) (yes g) = never (cc (sink_between n k i (omega arith) g))
    go (no h) (no g) =
        let p : bound (i - n) ≡ w = cc (sink_high n k i (omega arith)) in
        let q : (i - n) + n ≡ i = omega arith in
        rw (← p) (raise_high n k (i - n) (omega arith) ∙ ap bound q)

-- One label
pub inner_with : {X Y B : Type 0} (f : X → Y) (k : ℕ) (l : Label X B) → inner (with_variable f l) k ≡ inner l k
inner_with f k (own (symbol n)) = refl
inner_with f k (own (variable v)) = refl
inner_with f k (own (application n)) = refl
inner_with f k (own (binder b x)) = refl
inner_with f k (slot z) = refl

lower_shift_label : (n k : ℕ) (l : Nameless) → lower_label n k (shift_label n k l) ≡ some l
lower_shift_label n k (own (symbol m)) = refl
lower_shift_label n k (own (variable v)) = ap (λ (o : Option Variable). and_then o (λ w. some (own (variable w)))) (sink_raise n k v)
lower_shift_label n k (own (application m)) = refl
lower_shift_label n k (own (binder b x)) = refl
lower_shift_label n k (slot z) = refl

pub shift_lower_label : (n k : ℕ) (l m : Nameless) → lower_label n k l ≡ some m → shift_label n k m ≡ l
shift_lower_label n k (own (symbol i)) m e = let p : m ≡ own (symbol i) = cc in rw p
shift_lower_label n k (own (variable v)) m e = go (sink n k v) refl
  where
    go : (o : Option Variable) → sink n k v ≡ o → shift_label n k m ≡ own (variable v)
    go none q = never (cc)
    go (some w) q = let p : m ≡ own (variable w) = cc in rw (p, raise_sink n k v w q)
shift_lower_label n k (own (application i)) m e = let p : m ≡ own (application i) = cc in rw p
shift_lower_label n k (own (binder b x)) m e = let p : m ≡ own (binder b x) = cc in rw p
shift_lower_label n k (slot z) m e = let p : m ≡ slot z = cc in rw p

-- What a lowered forest, or term, is made of
pub record Lowered (n k : ℕ) (l : Nameless) (c s v : Terms) : Type 0 where
  pub label : Nameless
  pub children : Terms
  pub siblings : Terms
  pub is_label : lower_label n k l ≡ some label
  pub are_children : lower n (inner l k) c ≡ some children
  pub are_siblings : lower n k s ≡ some siblings
  pub whole : v ≡ cons label children siblings

pub lowered : (n k : ℕ) (l : Nameless) (c s v : Terms) → lower n k (cons l c s) ≡ some v → Lowered n k l c s v
lowered n k l c s v e = go (lower_label n k l) (lower n (inner l k) c) (lower n k s) refl refl refl
  where
    go : (o : Option Nameless) (p q : Option Terms) → lower_label n k l ≡ o → lower n (inner l k) c ≡ p → lower n k s ≡ q
        → Lowered n k l c s v
    go none p q a b d = never (cc)
    go (some l') none q a b d = never (cc)
    go (some l') (some c') none a b d = never (cc)
    go (some l') (some c') (some s') a b d =
        record { label = l'; children = c'; siblings = s'; is_label = a; are_children = b; are_siblings = d; whole = cc }

lower_node : (n k : ℕ) (l l' : Nameless) (c s c' s' : Terms) → lower_label n k l ≡ some l' → lower n (inner l k) c ≡ some c'
    → lower n k s ≡ some s'
    → lower n k (cons l c s) ≡ some (cons l' c' s')
lower_node n k l l' c s c' s' a b d = rw (a, b, d)

pub lower_shift : (n k : ℕ) (u : Terms) → lower n k (shift n k u) ≡ some u
lower_shift n k nil = refl
lower_shift n k (cons l c s) =
    lower_node n k (shift_label n k l) l (shift n (inner l k) c) (shift n k s) c s (lower_shift_label n k l)
    (rw (inner_with (raise n k) k l) (lower_shift n (inner l k) c))
    (lower_shift n k s)

pub shift_lower : (n k : ℕ) (u v : Terms) → lower n k u ≡ some v → shift n k v ≡ u
shift_lower n k nil v e = let p : v ≡ nil = cc in rw p
shift_lower n k (cons l c s) v e =
    let r : Lowered n k l c s v = lowered n k l c s v e in
    let pl : shift_label n k r.label ≡ l = shift_lower_label n k l r.label r.is_label in
    let pi : inner r.label k ≡ inner l k = sym (inner_with (raise n k) k r.label) ∙ ap (λ (x : Nameless). inner x k) pl in
    let pc : shift n (inner l k) r.children ≡ c = shift_lower n (inner l k) c r.children r.are_children in
    let ps : shift n k r.siblings ≡ s = shift_lower n k s r.siblings r.are_siblings in
    rw (r.whole, pi, pl, pc, ps)

-- One term
pub lowered_term : (n : ℕ) (t a : Term) → lower_term n t ≡ some a
    → (lower_label n 0 t.0 ≡ some a.0) × (lower n (inner t.0 0) t.1 ≡ some a.1)
lowered_term n t a e = go (lower_label n 0 t.0) (lower n (inner t.0 0) t.1) refl refl
  where
    go : (o : Option Nameless) (q : Option Terms) → lower_label n 0 t.0 ≡ o → lower n (inner t.0 0) t.1 ≡ q
        → (lower_label n 0 t.0 ≡ some a.0) × (lower n (inner t.0 0) t.1 ≡ some a.1)
    go none q x y = never (cc)
    go (some l) none x y = never (cc)
    go (some l) (some c) x y =
        let p : ◌≡◌ {A = Term} (l, c) a = cc in
        (x ∙ ap (λ (u : Term). some u.0) p, y ∙ ap (λ (u : Term). some u.1) p)

term_lower : (n : ℕ) (t a : Term) → lower_label n 0 t.0 ≡ some a.0 → lower n (inner t.0 0) t.1 ≡ some a.1
    → lower_term n t ≡ some a
term_lower n t a x y = rw (x, y)

pub lower_shift_term : (n : ℕ) (a : Term) → lower_term n (shift_term n a) ≡ some a
lower_shift_term n a =
    term_lower n (shift_term n a) a (lower_shift_label n 0 a.0)
    (rw (inner_with (raise n 0) 0 a.0) (lower_shift n (inner a.0 0) a.1))

pub pair_eq : {L : Type 0} {t u : Tree L} → t.0 ≡ u.0 → t.1 ≡ u.1 → t ≡ u
pair_eq {L} p q = ap₂ (λ (x : L) (y : Forest L). (x, y)) p q

pub shift_lower_term : (n : ℕ) (t a : Term) → lower_term n t ≡ some a → shift_term n a ≡ t
shift_lower_term n t a e =
    let r = lowered_term n t a e in
    let pl : shift_label n 0 a.0 ≡ t.0 = shift_lower_label n 0 t.0 a.0 r.0 in
    let pi : inner a.0 0 ≡ inner t.0 0 = sym (inner_with (raise n 0) 0 a.0) ∙ ap (λ (x : Nameless). inner x 0) pl in
    pair_eq pl (rw pi (shift_lower n (inner t.0 0) t.1 a.1 r.1))

-- Size and kind are kept
pub relabel_size : {E L M : Type 0} (into : L → E → E) (f : E → L → M) (e : E) (u : Forest L) → size (relabel into f e u) ≡ size u
relabel_size into f e nil = refl
relabel_size into f e (cons l c s) = rw (relabel_size into f (into l e) c, relabel_size into f e s)

pub shift_size : (n k : ℕ) (u : Terms) → size (shift n k u) ≡ size u
shift_size n k u = relabel_size inner (shift_label n) k u

own_with : {X Y B : Type 0} (f : X → Y) (l : Label X B) → OwnLabel (with_variable f l) → OwnLabel l
own_with f (own o) h = tt
own_with f (slot z) h = h

pub shift_expression : (n k : ℕ) (u : Terms) → IsExpression (shift n k u) → IsExpression u
shift_expression n k nil h = tt
shift_expression n k (cons l c s) h =
    (own_with (raise n k) l h.0, shift_expression n (inner l k) c h.1, shift_expression n k s h.2)

pub lower_expression : (n : ℕ) (t a : Term) → lower_term n t ≡ some a → IsExpression (one t) → IsExpression (one a)
lower_expression n t a e h =
    let p : shift_term n a ≡ t = shift_lower_term n t a e in
    let q : IsExpression (one (shift_term n a)) = subst (λ (x : Term). IsExpression (one x)) (sym p) h in
    (own_with (raise n 0) a.0 q.0, shift_expression n (inner a.0 0) a.1 q.1, tt)

-- A closed term is not moved
raise_closed : (n k : ℕ) (v : Variable) → ClosedVariable k v → raise n k v ≡ v
raise_closed n k (free x) h = refl
raise_closed n k (bound i) h = raise_low n k i h

shift_closed_label : (n k : ℕ) (l : Nameless) → ClosedLabel k l → shift_label n k l ≡ l
shift_closed_label n k (own (symbol m)) h = refl
shift_closed_label n k (own (variable v)) h = ap (λ (w : Variable). own (variable w)) (raise_closed n k v h)
shift_closed_label n k (own (application m)) h = refl
shift_closed_label n k (own (binder b x)) h = refl
shift_closed_label n k (slot z) h = refl

pub shift_closed : (n k : ℕ) (u : Terms) → Closed k u → shift n k u ≡ u
shift_closed n k nil h = refl
shift_closed n k (cons l c s) h = rw (shift_closed_label n k l h.0, shift_closed n (inner l k) c h.1, shift_closed n k s h.2)

pub shift_closed_term : (n : ℕ) (t : Term) → ClosedTerm t → shift_term n t ≡ t
shift_closed_term n t h = pair_eq (shift_closed_label n 0 t.0 h.0) (shift_closed n (inner t.0 0) t.1 h.1)

-- The test of closedness
closed_variable_lem : (k : ℕ) (v : Variable) → T (is_closed_variable k v) → ClosedVariable k v
closed_variable_lem k (free x) t = tt
closed_variable_lem k (bound i) t = ltb→lt i k t

variable_closed : (k : ℕ) (v : Variable) → ClosedVariable k v → T (is_closed_variable k v)
variable_closed k (free x) h = tt
variable_closed k (bound i) h = lt→ltb i k h

closed_label_lem : (k : ℕ) (l : Nameless) → T (is_closed_label k l) → ClosedLabel k l
closed_label_lem k (own (symbol n)) t = tt
closed_label_lem k (own (variable v)) t = closed_variable_lem k v t
closed_label_lem k (own (application n)) t = tt
closed_label_lem k (own (binder b x)) t = tt
closed_label_lem k (slot z) t = tt

label_closed : (k : ℕ) (l : Nameless) → ClosedLabel k l → T (is_closed_label k l)
label_closed k (own (symbol n)) h = tt
label_closed k (own (variable v)) h = variable_closed k v h
label_closed k (own (application n)) h = tt
label_closed k (own (binder b x)) h = tt
label_closed k (slot z) h = tt

pub test_closed : (k : ℕ) (u : Terms) → T (is_closed k u) → Closed k u
test_closed k nil t = tt
test_closed k (cons l c s) t =
    let r = and_T (is_closed_label k l) (is_closed (inner l k) c && is_closed k s) t in
    let q = and_T (is_closed (inner l k) c) (is_closed k s) r.1 in
    (closed_label_lem k l r.0, test_closed (inner l k) c q.0, test_closed k s q.1)

pub closed_test : (k : ℕ) (u : Terms) → Closed k u → T (is_closed k u)
closed_test k nil h = tt
closed_test k (cons l c s) h =
    T_and (is_closed_label k l) (is_closed (inner l k) c && is_closed k s) (label_closed k l h.0)
    (T_and (is_closed (inner l k) c) (is_closed k s) (closed_test (inner l k) c h.1) (closed_test k s h.2))

-- The checker's test is yes exactly for the texts that pass.
use mathlib.Core.Path.{◌≡◌, refl, ap, sym, ◌∙◌, subst}
use mathlib.Core.Logic.{◌⊎◌, inl, inr, ⊎_elim, ◌↔◌}
use Prim.Native.Nat.{ℕ}
use mathlib.Core.Bool.{Bool, true, false, ◌&&◌, ◌||◌, not, false≢true}
use mathlib.Core.List.{List}
use lib.Dec.{T, eqb}
use borrow.Author.Tests.{ltb-true, lt-ltb, not-false, not-true}
use native.Mathlib.Omega.{arith}
use Rattle.meaning.specs.Basics.{every, is_in, ◌∈◌}
use Rattle.meaning.specs.Term.{nil, cons, one, own, slot, metavariable, function, hole, Nameless, Terms, Term}
use Rattle.meaning.specs.Term.{IsExpression}
use Rattle.meaning.specs.Shift.{ClosedTerm}
use Rattle.meaning.specs.ClosedTest.{is_closed}
use Rattle.meaning.specs.Same.{same_terms}
use Rattle.meaning.specs.Problem.{Problem, both_ways, patterns, expressions, plain, applied, places_of, is_function, is_plain, Standing}
use Rattle.meaning.specs.Problem.{standings}
use Rattle.meaning.specs.Filling.{Entry, absent, left_open, value, body, Filling, filled, BodyLabel, IsBody}
use Rattle.meaning.specs.Solution.{needs, Idle}
use Rattle.meaning.specs.Text.{Item, numbers, said, Passes}
use Rattle.meaning.specs.Passing.{is_body_label, is_body, is_whole, is_body_entry, is_value_entry, is_open, is_absent, is_needed}
use Rattle.meaning.specs.Passing.{known, kinds, open_unneeded, unneeded_open, passes}
use Rattle.meaning.proofs.Lists.{never, T_true, true_T, or-false, and_T, T_and, or_cases, or_left, or_right, eqb_self, eqb_eq}
use Rattle.meaning.proofs.Lists.{by_test, is_in_mem, mem_is_in, all_mem, mem_all, every_all, all_every}
use Rattle.meaning.proofs.ShiftLaws.{test_closed, closed_test}
use Rattle.meaning.proofs.Alike.{same_terms_eq, same_terms_refl}
use Rattle.meaning.proofs.FieldOrder.{said_nowhere}

-- Tests over lists
every_mem : {A : Type 0} (p : A → Bool) (xs : List A) → T (every p xs) → (x : A) → x ∈ xs → p x ≡ true
every_mem p xs t x m = all_mem (λ y. p y ≡ true) x xs (every_all p xs t) m

mem_every : {A : Type 0} (p : A → Bool) (xs : List A) → ((x : A) → x ∈ xs → p x ≡ true) → T (every p xs)
mem_every p xs f = all_every p xs (mem_all (λ y. p y ≡ true) xs f)

not_both : (a b : Bool) → not (a && b) ≡ true → a ≡ true → b ≡ false
not_both true true e h = absurd (false≢true e)
not_both true false e h = refl
not_both false b e h = absurd (false≢true h)

one_fails : (a b : Bool) → (a ≡ true → b ≡ false) → not (a && b) ≡ true
one_fails true b f = ap not (f refl)
one_fails false b f = refl

-- Bodies and expressions
label_body : (n : ℕ) (l : Nameless) (c : Terms) → T (is_body_label n l c) → BodyLabel n l c
label_body n (own o) c t = tt
label_body n (slot (hole i)) nil t = (ltb-true i n (T_true t), refl)
label_body n (slot (hole i)) (cons l c s) t = absurd (false≢true (T_true t))
label_body n (slot (metavariable m)) c t = absurd (false≢true (T_true t))
label_body n (slot (function f k)) c t = absurd (false≢true (T_true t))

body_label_lem : (n : ℕ) (l : Nameless) (c : Terms) → BodyLabel n l c → T (is_body_label n l c)
body_label_lem n (own o) c b = tt
body_label_lem n (slot (hole i)) nil b = true_T (lt-ltb i n b.0)
body_label_lem n (slot (hole i)) (cons l c s) b = never (cc b.1)
body_label_lem n (slot (metavariable m)) c b = absurd b
body_label_lem n (slot (function f k)) c b = absurd b

test_body : (n : ℕ) (u : Terms) → T (is_body n u) → IsBody n u
test_body n nil t = tt
test_body n (cons l c s) t =
    let r = and_T (is_body_label n l c) (is_body n c && is_body n s) t in
    let q = and_T (is_body n c) (is_body n s) r.1 in
    (label_body n l c r.0, test_body n c q.0, test_body n s q.1)

body_test : (n : ℕ) (u : Terms) → IsBody n u → T (is_body n u)
body_test n nil b = tt
body_test n (cons l c s) b =
    T_and (is_body_label n l c) (is_body n c && is_body n s) (body_label_lem n l c b.0)
    (T_and (is_body n c) (is_body n s) (body_test n c b.1) (body_test n s b.2))

-- A body of no place is an expression
none_expression : (u : Terms) → IsBody 0 u → IsExpression u
none_expression nil b = tt
none_expression (cons (own o) c s) b = (tt, none_expression c b.1, none_expression s b.2)
none_expression (cons (slot (metavariable m)) c s) b = absurd b.0
none_expression (cons (slot (function f k)) c s) b = absurd b.0
none_expression (cons (slot (hole i)) c s) b = absurd (let h = b.0.0 in omega arith)

expression_none : (u : Terms) → IsExpression u → IsBody 0 u
expression_none nil e = tt
expression_none (cons (own o) c s) e = (tt, expression_none c e.1, expression_none s e.2)
expression_none (cons (slot z) c s) e = absurd e.0

test_whole : (n : ℕ) (t : Term) → is_whole n t ≡ true → IsBody n (one t) × ClosedTerm t
test_whole n t e =
    let r = and_T (is_body n (one t)) (is_closed 0 (one t)) (true_T e) in
    (test_body n (one t) r.0, test_closed 0 (one t) r.1)

whole_test : (n : ℕ) (t : Term) → IsBody n (one t) → ClosedTerm t → is_whole n t ≡ true
whole_test n t b c = T_true (T_and (is_body n (one t)) (is_closed 0 (one t)) (body_test n (one t) b) (closed_test 0 (one t) c))

-- None that does not occur
is_absent_lem : (x : Entry Term) → is_absent x ≡ true → x ≡ absent
is_absent_lem absent e = refl
is_absent_lem left_open e = absurd (false≢true e)
is_absent_lem (value t) e = absurd (false≢true e)
is_absent_lem (body t) e = absurd (false≢true e)

module _ (p : Problem) (is : List Item) where
  abbrev occurs : ℕ → Bool
  occurs m = is_function p m || is_plain p m

  abbrev Foreign : ℕ → Type 0
  Foreign m = (m ∈ applied (patterns p) → ⊥) × (m ∈ plain (patterns p) → ⊥)

  foreign_not : (m : ℕ) → Foreign m → occurs m ≡ true → ⊥
  foreign_not m f e =
      ⊎_elim (λ q. f.0 (is_in_mem m (applied (patterns p)) q)) (λ q. f.1 (is_in_mem m (plain (patterns p)) q))
      (or_cases (is_function p m) (is_plain p m) e)

  not_foreign : (m : ℕ) → occurs m ≡ false → Foreign m
  not_foreign m e =
      let r = or-false (is_function p m) (is_plain p m) e in (
        λ k. false≢true (sym r.0 ∙ mem_is_in m (applied (patterns p)) k),
        λ k. false≢true (sym r.1 ∙ mem_is_in m (plain (patterns p)) k),
      )

  known_others : T (known p is) → (m : ℕ) → Foreign m → said is m ≡ absent
  known_others t m f =
      by_test (is_in m (numbers is))
      (λ q.
      ⊎_elim (is_absent_lem (said is m)) (λ o. absurd (foreign_not m f o))
      (or_cases (is_absent (said is m)) (occurs m)
      (every_mem (λ k. is_absent (said is k) || occurs k) (numbers is) t m (is_in_mem m (numbers is) q))))
      (λ n. said_nowhere is m (λ q. false≢true (sym n ∙ mem_is_in m (numbers is) q)))

  others_known : ((m : ℕ) → Foreign m → said is m ≡ absent) → T (known p is)
  others_known h =
      mem_every (λ k. is_absent (said is k) || occurs k) (numbers is) (λ m q.
      by_test (occurs m) (or_right (is_absent (said is m)) (occurs m))
      (λ e. or_left (is_absent (said is m)) (occurs m) (ap is_absent (h m (not_foreign m e)))))

-- Kinds
entry_body : (n : ℕ) (x : Entry Term) → is_body_entry n x ≡ true → (b : Term) × (x ≡ body b) × IsBody n (one b) × ClosedTerm b
entry_body n absent e = absurd (false≢true e)
entry_body n left_open e = absurd (false≢true e)
entry_body n (value t) e = absurd (false≢true e)
entry_body n (body b) e = let r = test_whole n b e in (b, refl, r.0, r.1)

body_entry : (n : ℕ) (x : Entry Term) → (b : Term) × (x ≡ body b) × IsBody n (one b) × ClosedTerm b → is_body_entry n x ≡ true
body_entry n x r = ap (is_body_entry n) r.1 ∙ whole_test n r.0 r.2 r.3

entry_value : (x : Entry Term) → is_value_entry x ≡ true → (x ≡ left_open) ⊎ ((t : Term) × (x ≡ value t) × IsExpression (one t) × ClosedTerm t)
entry_value absent e = absurd (false≢true e)
entry_value left_open e = inl refl
entry_value (value t) e = let r = test_whole 0 t e in inr (t, refl, none_expression (one t) r.0, r.1)
entry_value (body b) e = absurd (false≢true e)

value_entry_lem : (x : Entry Term) → (x ≡ left_open) ⊎ ((t : Term) × (x ≡ value t) × IsExpression (one t) × ClosedTerm t) → is_value_entry x ≡ true
value_entry_lem x (inl e) = ap is_value_entry e
value_entry_lem x (inr r) = ap is_value_entry r.1 ∙ whole_test 0 r.0 (expression_none (one r.0) r.2) r.3

open_is : (x : Entry Term) → is_open x ≡ true → x ≡ left_open
open_is absent e = absurd (false≢true e)
open_is left_open e = refl
open_is (value t) e = absurd (false≢true e)
open_is (body b) e = absurd (false≢true e)

-- Whether a value is needed
module _ (p : Problem) (σ : Filling) where
  abbrev ws : List Standing
  ws = standings (patterns p)

  abbrev unneeded_at : ℕ → Standing → Bool
  unneeded_at m x = not (eqb m x.0 && needs σ x.1)

  unneeded_idle : (m : ℕ) → is_needed σ ws m ≡ false → Idle p σ m
  unneeded_idle m e w q =
      let all : every (unneeded_at m) ws ≡ true = not-false (every (unneeded_at m) ws) e in
      not_both (eqb m m) (needs σ w) (every_mem (unneeded_at m) ws (true_T all) (m, w) q) (eqb_self m)

  idle_unneeded : (m : ℕ) → Idle p σ m → is_needed σ ws m ≡ false
  idle_unneeded m f =
      let all : every (unneeded_at m) ws ≡ true =
      T_true (mem_every (unneeded_at m) ws (λ x q.
      one_fails (eqb m x.0) (needs σ x.1)
      (λ e. f x.1 (subst (λ (k : ℕ). ◌∈◌ {A = Standing} (k, x.1) ws) (sym (eqb_eq m x.0 e)) q)))) in
      ap not all

-- THE TEST IS RIGHT
module _ (p : Problem) (is : List Item) where
  abbrev σ : Filling
  σ = said is

  test_passes : passes p is ≡ true → Passes p is
  unfolding passes
  test_passes e =
      let o = and_T (not (both_ways p)) _ (true_T e) in
      let b = and_T (known p is) _ o.1 in
      let c = and_T (kinds p σ) _ b.1 in
      let d = and_T (open_unneeded p σ) _ c.1 in
      let f = and_T (unneeded_open p σ) _ d.1 in
      let k = and_T (every (λ g. is_body_entry (places_of p g) (σ g)) (applied (patterns p))) _ c.0 in
      record {
        one_way = not-true (both_ways p) (T_true o.0);
        meets = same_terms_eq (filled σ (patterns p)) (expressions p) f.1;
        bodies = λ g q. entry_body (places_of p g) (σ g)
            (every_mem (λ h. is_body_entry (places_of p h) (σ h)) (applied (patterns p)) k.0 g q);
        values = λ m q. entry_value (σ m) (every_mem (λ h. is_value_entry (σ h)) (plain (patterns p)) k.1 m q);
        others = λ m a v. known_others p is b.0 m (a, v);
        open_idle = λ m o w q.
            not_both (is_open (σ m)) (needs σ w)
            (every_mem (λ (x : Standing). not (is_open (σ x.0) && needs σ x.1)) (standings (patterns p)) d.0 (m, w) q)
            (ap is_open o);
        idle_open = λ m q i.
            open_is (σ m)
            (⊎_elim (λ o. o) (λ n. absurd (false≢true (sym (idle_unneeded p σ m i) ∙ n)))
            (or_cases (is_open (σ m)) (is_needed σ (standings (patterns p)) m)
            (every_mem (λ h. is_open (σ h) || is_needed σ (standings (patterns p)) h) (plain (patterns p)) f.0 m q)));
      }

  passes_test : Passes p is → passes p is ≡ true
  unfolding passes
  passes_test s =
      T_true (T_and (not (both_ways p)) _ (true_T (ap not s.one_way))
      (T_and (known p is) _ (others_known p is (λ m f. s.others m f.0 f.1))
      (T_and (kinds p σ) _
      (T_and (every (λ g. is_body_entry (places_of p g) (σ g)) (applied (patterns p))) _
      (mem_every (λ g. is_body_entry (places_of p g) (σ g)) (applied (patterns p)) (λ g q. body_entry (places_of p g) (σ g) (s.bodies g q)))
      (mem_every (λ m. is_value_entry (σ m)) (plain (patterns p)) (λ m q. value_entry_lem (σ m) (s.values m q))))
      (T_and (open_unneeded p σ) _
      (mem_every (λ (x : Standing). not (is_open (σ x.0) && needs σ x.1)) (standings (patterns p))
      (λ x q. one_fails (is_open (σ x.0)) (needs σ x.1) (λ o. s.open_idle x.0 (open_is (σ x.0) o) x.1 q)))
      (T_and (unneeded_open p σ) _
      (mem_every (λ m. is_open (σ m) || is_needed σ (standings (patterns p)) m) (plain (patterns p))
      (λ m q.
      by_test (is_needed σ (standings (patterns p)) m)
      (or_right (is_open (σ m)) (is_needed σ (standings (patterns p)) m))
      (λ n. or_left (is_open (σ m)) (is_needed σ (standings (patterns p)) m)
      (ap is_open (s.idle_open m q (unneeded_idle p σ m n))))))
      (subst (λ (u : Terms). T (same_terms u (expressions p))) (sym s.meets) (same_terms_refl (expressions p))))))))

  pub passes_is_right : (passes p is ≡ true) ↔ Passes p is
  passes_is_right = (test_passes, passes_test)

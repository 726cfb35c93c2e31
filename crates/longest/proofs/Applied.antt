-- The problem (P(X), e), whatever e is.
--   proper            it is one of those that the theorems on solutions speak of, also where no input can hold it
--   rows_count        it has as many rows as e has choices
--   giving            a body for P and an entry for X
--   solution_valued   these are a solution where the body has a hole, X a value, and the body filled with it is e
--   solution_open     and where the body has no hole and is e, and X is open
use mathlib.Core.Path.{◌≡◌, refl, ap, ap₂, sym, ◌∙◌, subst}
use mathlib.Core.Logic.{inl, inr}
use Prim.Native.Nat.{ℕ, zero, suc, ◌<◌, ◌≤◌}
use mathlib.Core.Bool.{Bool, true, false, ◌||◌, true≢false}
use mathlib.Core.Option.{none, some}
use mathlib.Core.List.Memᴰ
use mathlib.Core.List.{List, [], ◌∷◌, map}
use native.Mathlib.Omega.{arith}
use lib.ListN.{drop, length}
use Rattle.meaning.specs.Limits.{metavariable_count}
use Rattle.meaning.specs.Basics.{◌∈◌, count_from, keep, up_to}
use Rattle.meaning.specs.Term.{Forest, IsExpression, Named, NamedTerm, Term, Terms, application, binder, cons, inner, nil, one, own, size}
use Rattle.meaning.specs.Term.{slot, symbol, variable}
use Rattle.meaning.specs.Scope.{nameless, nameless_term}
use Rattle.meaning.specs.Shift.{Closed, ClosedTerm}
use Rattle.meaning.specs.Problem.{Problem, Standing, applied, argument_of, both_ways, functions, is_function, patterns, places_of}
use Rattle.meaning.specs.Problem.{plain, standings}
use Rattle.meaning.specs.Filling.{Entry, Filling, IsBody, absent, argument, body, left_open, value, value_or}
use Rattle.meaning.specs.Solution.{Idle, Solution, has_hole, needs}
use Rattle.meaning.specs.Face.{faces}
use Rattle.meaning.specs.Choice.{Mark, Marks, mark, punch, punch_node, punch_term, rest}
use Rattle.meaning.specs.Choices.{choices}
use Rattle.meaning.specs.Row.{face_of}
use Rattle.meaning.specs.Rows.{product, rows}
use Rattle.meaning.specs.Longest.{applied_to}
use Rattle.meaning.proofs.Lists.{choose_false, choose_true, eqb_other, never}
use Rattle.meaning.proofs.ViewLaws.{nameless_closed}
use Rattle.meaning.proofs.Punching.{plug_all}
use Rattle.meaning.proofs.Proper.{Proper}
use Rattle.meaning.proofs.RowBodies.{punch_one}
use Rattle.meaning.proofs.Solutions.{punch_body}

nameless_expression : (sc : List ℕ) (u : Forest Named) → IsExpression u → IsExpression (nameless sc u)
nameless_expression sc nil h = tt
nameless_expression sc (cons (own (symbol n)) c s) h = (tt, nameless_expression sc c h.1, nameless_expression sc s h.2)
nameless_expression sc (cons (own (variable y)) c s) h = (tt, nameless_expression sc c h.1, nameless_expression sc s h.2)
nameless_expression sc (cons (own (application n)) c s) h = (tt, nameless_expression sc c h.1, nameless_expression sc s h.2)
nameless_expression sc (cons (own (binder b y)) c s) h = (tt, nameless_expression (y ∷ sc) c h.1, nameless_expression sc s h.2)
nameless_expression sc (cons (slot z) c s) h = absurd h.0

-- Lists: what passes a test that 0 alone passes; rows of one function
keep_none : (f : ℕ → Bool) (k n : ℕ) → ((m : ℕ) → k ≤ m → f m ≡ false) → keep f (count_from k n) ≡ []
keep_none f k zero h = refl
keep_none f k (suc n) h =
    choose_false (k ∷ keep f (count_from (suc k) n)) (keep f (count_from (suc k) n)) (h k (omega arith))
    ∙ keep_none f (suc k) n (λ m l. h m (omega arith))

keep_first : (f : ℕ → Bool) (n : ℕ) → 0 < n → f 0 ≡ true → ((m : ℕ) → 1 ≤ m → f m ≡ false) → keep f (up_to n) ≡ 0 ∷ []
keep_first f zero l h g = absurd (omega arith)
keep_first f (suc n) l h g =
    choose_true (0 ∷ keep f (count_from 1 n)) (keep f (count_from 1 n)) h ∙ ap (λ (ms : List ℕ). 0 ∷ ms) (keep_none f 1 n g)

product_one : {A : Type 0} (xs : List A) → length (product (xs ∷ [])) ≡ length xs
product_one [] = refl
product_one (x ∷ xs) = ap suc (product_one xs)

some_metavariable : 0 < metavariable_count
unfolding metavariable_count
some_metavariable = omega arith

-- Holes in a closed expression leave it closed
punch_closed : (k : ℕ) (ms : Marks) (u : Terms) → Closed k u → Closed k (punch ms u)
punch_closed k ms nil h = tt
punch_closed k ms (cons l c s) h = go (mark ms) (punch_closed (inner l k) (rest ms) c h.1) (punch_closed k (drop (size c) (rest ms)) s h.2)
  where
    go : (m : Mark) → Closed (inner l k) (punch (rest ms) c) → Closed k (punch (drop (size c) (rest ms)) s)
        → Closed k (punch_node m l (punch (rest ms) c) (punch (drop (size c) (rest ms)) s))
    go none inside after = (h.0, inside, after)
    go (some i) inside after = (tt, tt, after)

-- A body for P, which is 0, and an entry for X, which is 1
abbrev pub giving : Term → Entry Term → Filling
giving b x zero = body b
giving b x (suc zero) = x
giving b x (suc (suc m)) = absent

module _ (e : NamedTerm) where
  abbrev p : Problem
  p = applied_to e

  abbrev whole : Term
  whole = nameless_term [] e

  -- What its definitions compute
  one_way_lem : both_ways p ≡ false
  unfolding both_ways metavariable_count
  one_way_lem = refl

  pub functions_are : functions p ≡ 0 ∷ []
  unfolding functions
  functions_are =
      keep_first (is_function p) metavariable_count some_metavariable refl
      (λ m h. ap (λ (b : Bool). b || false) (eqb_other m 0 (λ q. omega arith)))

  places_are : places_of p 0 ≡ 1
  unfolding places_of
  places_are = refl

  pub face_is : face_of p 0 ≡ whole
  unfolding faces both_ways metavariable_count
  face_is = refl

  rows_over_lem : rows p ≡ product (map (λ f. choices (places_of p f) (face_of p f)) (functions p))
  unfolding rows faces both_ways metavariable_count
  rows_over_lem = refl

  pub rows_count : length (rows p) ≡ length (choices 1 whole)
  rows_count =
      ap length rows_over_lem
      ∙ ap (λ (fs : List ℕ). length (product (map (λ f. choices (places_of p f) (face_of p f)) fs))) functions_are
      ∙ ap₂ (λ (n : ℕ) (t : Term). length (product (choices n t ∷ []))) places_are face_is
      ∙ product_one (choices 1 whole)

  is_P : (m : ℕ) → m ∈ applied (patterns p) → m ≡ 0
  is_P m q = Memᴰ.eq_of_singleton q

  is_X : (m : ℕ) → m ∈ plain (patterns p) → m ≡ 1
  is_X m q = Memᴰ.eq_of_singleton q

  pub proper : IsExpression (one e) → Proper p
  unfolding metavariable_count
  proper x =
      record {
        expression = nameless_expression [] (one e) x;
        pattern = ((refl, (refl, tt, tt)), ((refl, tt, tt)), tt);
        small_applied = λ m q. let h = is_P m q in omega arith;
        small_plain = λ m q. let h = is_X m q in omega arith;
      }

  -- Its solutions: a set of nodes of e as holes, all of the first place; w is e with its names resolved
  module _ (w : Term) (resolved : whole ≡ w) (x : IsExpression (one e)) (ms : Marks) (placed : (i : ℕ) → some i ∈ ms → i < 1) where
    abbrev b : Term
    b = punch_term ms w

    shape : IsBody 1 (one b)
    shape =
        subst (IsBody 1) (sym (punch_one ms w))
        (punch_body 1 ms (one w) (subst (λ (t : Term). IsExpression (one t)) resolved (nameless_expression [] (one e) x)) placed)

    closed : ClosedTerm b
    closed =
        subst (Closed 0) (sym (punch_one ms w))
        (punch_closed 0 ms (one w) (subst ClosedTerm resolved (nameless_closed [] (one e))))

    bodies : (v : Entry Term) (f : ℕ) → f ∈ applied (patterns p)
        → (a : Term) × (giving b v f ≡ body a) × IsBody (places_of p f) (one a) × ClosedTerm a
    unfolding places_of
    bodies v f q =
        subst (λ (g : ℕ). (a : Term) × (giving b v g ≡ body a) × IsBody (places_of p g) (one a) × ClosedTerm a) (sym (is_P f q))
        (b, refl, shape, closed)

    others : (v : Entry Term) (m : ℕ) → (m ∈ applied (patterns p) → ⊥) → (m ∈ plain (patterns p) → ⊥) → giving b v m ≡ absent
    others v zero f g = absurd (f (Memᴰ.head refl))
    others v (suc zero) f g = absurd (g (Memᴰ.head refl))
    others v (suc (suc m)) f g = refl

    pub solution_valued : (t : Term) → IsExpression (one t) → ClosedTerm t → has_hole 0 (one b) ≡ true
        → plug_all (argument (one t)) 0 (one b) ≡ one w → Solution p (giving b (value t))
    solution_valued t expression value_closed has fills =
        record {
          one_way = one_way_lem;
          meets = fills ∙ ap one (sym resolved);
          bodies = bodies (value t);
          values = λ m q. inr (t, ap (giving b (value t)) (is_X m q), expression, value_closed);
          others = others (value t);
          open_idle = never_open;
          idle_open = λ m q idle. absurd (true≢false (sym has ∙ idle (argument_of 0 0) (stands m (is_X m q))));
        }
      where
        never_open : (m : ℕ) → giving b (value t) m ≡ left_open → Idle p (giving b (value t)) m
        never_open zero q = never (cc)
        never_open (suc zero) q = never (cc)
        never_open (suc (suc m)) q = never (cc)

        stands : (m : ℕ) → m ≡ 1 → (m, argument_of 0 0) ∈ standings (patterns p)
        stands m q = Memᴰ.head (ap (λ (k : ℕ). (k, argument_of 0 0)) q)

    pub solution_open : has_hole 0 (one b) ≡ false → plug_all (argument (one (value_or 1 left_open))) 0 (one b) ≡ one w
        → Solution p (giving b left_open)
    solution_open lacks fills =
        record {
          one_way = one_way_lem;
          meets = fills ∙ ap one (sym resolved);
          bodies = bodies left_open;
          values = λ m q. inl (ap (giving b left_open) (is_X m q));
          others = others left_open;
          open_idle = λ m q y s. ap (λ (z : Standing). needs (giving b left_open) z.1) (Memᴰ.eq_of_singleton s) ∙ lacks;
          idle_open = λ m q idle. ap (giving b left_open) (is_X m q);
        }

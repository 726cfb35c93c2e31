-- The text that is written for a solution row.
--   it names the row's solution: each metavariable that occurs once, with a term that means what the solution gives it
--   it can be read: its terms fit the content rules and the depth
use mathlib.Core.Path.{◌≡◌, refl, ap, sym, ◌∙◌, subst, fun_ext}
use mathlib.Core.Logic.{◌⊎◌, inl, inr}
use Prim.Native.Nat.{ℕ, zero, suc, ◌<◌}
use mathlib.Core.Bool.{Bool, true, false, ◌||◌, true≢false, false≢true}
use mathlib.Core.List.Memᴰ
use mathlib.Core.List.{List, [], ◌∷◌, map}
use mathlib.Core.Option.{Option, none, some}
use native.Mathlib.Omega.{arith}
use lib.ListN.{drop}
use lib.Dec.{eqb, T}
use Rattle.meaning.specs.Limits.{metavariable_count, max_depth}
use Rattle.meaning.specs.Basics.{choose, is_in, up_to, All, ◌∈◌, Distinct, or_none, Ordered}
use Rattle.meaning.specs.Term.{Forest, nil, cons, one, size, trees, node_at, symbol, variable, application, binder, own, slot}
use Rattle.meaning.specs.Term.{metavariable, function, hole, Named, NamedTerm, Term, IsExpression}
use Rattle.meaning.specs.Scope.{enter, nameless, nameless_term}
use Rattle.meaning.specs.Shift.{ClosedTerm}
use Rattle.meaning.specs.Problem.{Constraint, Problem, named_expressions, patterns, expressions, plain, applied, places_of, is_function}
use Rattle.meaning.specs.Problem.{is_plain, functions, metavariables}
use Rattle.meaning.specs.Filling.{Entry, value, body, IsBody}
use Rattle.meaning.specs.Face.{Face, faces, is_application, first_face}
use Rattle.meaning.specs.Choice.{Mark, Marks, mark, rest, punch, punch_node, punch_term}
use Rattle.meaning.specs.Row.{Row, face_term, face_of, choice_in, row_body}
use Rattle.meaning.specs.Rows.{rows}
use Rattle.meaning.specs.Value.{Source, sources, lookup}
use Rattle.meaning.specs.Candidate.{given, candidate, is_closed_entry, solves}
use Rattle.meaning.specs.Read.{Context, in_expression, in_body, context_below}
use Rattle.meaning.specs.Readable.{NodeFits, Readable, ReadableConstraint, Accepted, ReadableEntry, ReadableItem}
use Rattle.meaning.specs.Text.{Item, term_or, term_at, face_node, written_body, written_value, entry_of, text_of, meant, numbers, rises, said}
use Rattle.meaning.proofs.Lists.{never, true_T, eqb_eq, eqb_self, by_test, choose_true, choose_false}
use Rattle.meaning.proofs.Lists.{keep_mem, is_in_mem, mem_is_in, not_is_in, up_to_mem, all_mem, mem_all}
use Rattle.meaning.proofs.ShiftLaws.{test_closed}
use Rattle.meaning.proofs.Ordered.{count_from_ordered, keep_ordered, ordered_distinct}
use Rattle.meaning.proofs.FieldOrder.{ordered_rises, said_nowhere}
use Rattle.meaning.proofs.ChoiceLaws.{rows_are}
use Rattle.meaning.proofs.Proper.{Proper, accepted_proper, hole_tagged, applied_occurs, plain_occurs}
use Rattle.meaning.proofs.Candidate.{lookup_is, candidate_function, candidate_plain, candidate_other}
use Rattle.meaning.proofs.RowBodies.{punch_one, face_expression}
use Rattle.meaning.proofs.Solutions.{passes_walk, passes_faces, passes_closed, passes_fitting}
use Rattle.meaning.proofs.Nodes.{Stands, here, below, beside, node_stands, face_node_lem, source_node, named_node, scope_drop}
use Rattle.meaning.proofs.Nodes.{punch_names}

-- The metavariables of a problem are in order, and so none is there twice
metavariables_ordered : (p : Problem) → Ordered ◌<◌ (metavariables p)
unfolding metavariables
metavariables_ordered p =
    keep_ordered ◌<◌ (λ m. is_function p m || is_plain p m) (up_to metavariable_count) (count_from_ordered 0 metavariable_count)

pub metavariables_once : (p : Problem) → Distinct (metavariables p)
metavariables_once p = ordered_distinct ◌<◌ (λ m l. omega arith) (metavariables p) (metavariables_ordered p)

-- Which metavariables are written: those that occur
small_number : (p : Problem) (m : ℕ) → m ∈ metavariables p → m < metavariable_count
unfolding metavariables
small_number p m h = up_to_mem metavariable_count m (keep_mem (λ k. is_function p k || is_plain p k) m (up_to metavariable_count) h).0

pub by_kind : (p : Problem) {A : Type 0} (m : ℕ) → m ∈ metavariables p → (m ∈ applied (patterns p) → A)
    → ((m ∈ applied (patterns p) → ⊥) → m ∈ plain (patterns p) → A) → A
unfolding metavariables
by_kind p m h as_function as_other =
    by_test (is_function p m) (λ e. as_function (is_in_mem m (applied (patterns p)) e))
    (λ e. as_other (λ a. true≢false (sym (mem_is_in m (applied (patterns p)) a) ∙ e))
    (is_in_mem m (plain (patterns p))
    (sym (ap (λ (b : Bool). b || is_plain p m) e) ∙ (keep_mem (λ k. is_function p k || is_plain p k) m (up_to metavariable_count) h).1)))

-- A function's first face
first_in_lem : (f : ℕ) (xs : List Face) (y : Face) → first_face f xs ≡ some y → y ∈ xs
first_in_lem f [] y e = never (cc)
first_in_lem f (x ∷ xs) y e = go (is_application f x.what) (first_in_lem f xs y) e
  where
    go : (b : Bool) → (first_face f xs ≡ some y → y ∈ xs) → choose b (some x) (first_face f xs) ≡ some y → y ∈ (x ∷ xs)
    go true ih w = let z : y ≡ x = cc in Memᴰ.head z
    go false ih w = Memᴰ.tail (ih w)

function_face : (p : Problem) → Proper p → (xs : List Face) → faces p ≡ some xs → (f : ℕ) → f ∈ applied (patterns p)
    → (y : Face) × (first_face f (or_none (faces p)) ≡ some y) × (y ∈ xs)
function_face p c xs q f a = go (first_face f (or_none (faces p))) refl
  where
    go : (o : Option Face) → first_face f (or_none (faces p)) ≡ o → (y : Face) × (first_face f (or_none (faces p)) ≡ some y) × (y ∈ xs)
    go none e = absurd (subst (λ (o : Option Face). IsExpression (one (face_term o f))) e (face_expression p c xs q f a)).0
    go (some y) e = (y, e, first_in_lem f xs y (sym (ap (λ (o : Option (List Face)). first_face f (or_none o)) q) ∙ e))

-- The term that is copied from a node: it is there, and means, in some scope, the term t of the expressions
pub record Copied (p : Problem) (n : ℕ) (t : Term) : Type 0 where
  pub scope : List ℕ
  pub there : node_at n (named_expressions p) ≡ some (term_at p n)
  pub means : t ≡ nameless_term scope (term_at p n)

pub copied : (p : Problem) (n : ℕ) (t : Term) → node_at n (expressions p) ≡ some t → Copied p n t
copied p n t e =
    let r = named_node n (named_expressions p) t e in
    let same : term_at p n ≡ r.1 = ap term_or r.2 in
    record { scope = r.0; there = r.2 ∙ ap some (sym same); means = r.3 ∙ ap (nameless_term r.0) (sym same) }

-- One entry of the text: what it says means what the row's solution has
module _ (p : Problem) (r : Row) (ok : Accepted p) (e : solves p r ≡ true) where
  proper : Proper p
  proper = accepted_proper p ok

  closed_entry : (m : ℕ) (x : Entry Term) → m ∈ metavariables p → candidate p r m ≡ x → T (is_closed_entry x)
  closed_entry m x h q = subst (λ (y : Entry Term). T (is_closed_entry y)) q (true_T (passes_closed p r e m h))

  -- A function's entry is its first face, with the row's holes
  written_body_lem : (m : ℕ) → m ∈ applied (patterns p)
      → (n : ℕ) × (entry_of p r m ≡ body (punch_term (choice_in (functions p) r m) (term_at p n))) × Copied p n (face_of p m)
  unfolding entry_of
  written_body_lem m a =
      let xs = (passes_walk p r e).found in
      let y = function_face p proper xs (passes_faces p r e) m a in
      let c : Copied p y.0.node y.0.term = copied p y.0.node y.0.term (face_node_lem p xs (passes_faces p r e) y.0 y.2) in
      let faced : face_of p m ≡ y.0.term = ap (λ (o : Option Face). face_term o m) y.1 in (
        y.0.node,
        choose_true (written_body p r m) (written_value p (lookup m (sources p r))) (mem_is_in m (applied (patterns p)) a)
            ∙ ap (λ (o : Option Face). body (punch_term (choice_in (functions p) r m) (term_at p (face_node o)))) y.1,
        subst (Copied p y.0.node) (sym faced) c,
      )

  body_copied : (m n : ℕ) (c : Copied p n (face_of p m))
      → row_body p r m ≡ nameless_term c.scope (punch_term (choice_in (functions p) r m) (term_at p n))
  unfolding row_body
  body_copied m n c =
      ap (punch_term (choice_in (functions p) r m)) c.means ∙ punch_names (choice_in (functions p) r m) c.scope (term_at p n)

  entry_body : (m : ℕ) → m ∈ metavariables p → m ∈ applied (patterns p) → meant (entry_of p r m) ≡ candidate p r m
  entry_body m h a =
      let w = written_body_lem m a in
      let c : Copied p w.0 (face_of p m) = w.2 in
      let v : NamedTerm = punch_term (choice_in (functions p) r m) (term_at p w.0) in
      let same : row_body p r m ≡ nameless_term c.scope v = body_copied m w.0 c in
      let d : ClosedTerm (row_body p r m) =
      test_closed 0 (one (row_body p r m)) (closed_entry m (body (row_body p r m)) h (candidate_function p r m a)) in
      ap meant w.1 ∙ ap body (sym (scope_drop c.scope v (subst ClosedTerm same d)) ∙ sym same) ∙ sym (candidate_function p r m a)

  -- Another metavariable's entry is the term at its source
  pub written_value_lem : (m : ℕ) → (m ∈ applied (patterns p) → ⊥) → entry_of p r m ≡ written_value p (lookup m (sources p r))
  unfolding entry_of
  written_value_lem m a = choose_false (written_body p r m) (written_value p (lookup m (sources p r))) (not_is_in m (applied (patterns p)) a)

  pub value_copied : (m : ℕ) (s : Source) → m ∈ metavariables p → (m ∈ applied (patterns p) → ⊥) → m ∈ plain (patterns p)
      → lookup m (sources p r) ≡ some s
      → ClosedTerm s.term × Copied p s.node s.term
  value_copied m s h a b q =
      let d : ClosedTerm s.term =
      test_closed 0 (one s.term) (closed_entry m (value s.term) h (candidate_plain p r m a b ∙ ap given q)) in
      (d, copied p s.node s.term (source_node p r s (lookup_is m (sources p r) s q).0 d))

  entry_value : (m : ℕ) → m ∈ metavariables p → (m ∈ applied (patterns p) → ⊥) → m ∈ plain (patterns p)
      → meant (entry_of p r m) ≡ candidate p r m
  entry_value m h a b = ap meant (written_value_lem m a) ∙ go (lookup m (sources p r)) refl ∙ sym (candidate_plain p r m a b)
    where
      go : (o : Option Source) → lookup m (sources p r) ≡ o → meant (written_value p o) ≡ given o
      go none q = refl
      go (some s) q =
          let d = value_copied m s h a b q in
          let c : Copied p s.node s.term = d.1 in
          ap value (sym (scope_drop c.scope (term_at p s.node) (subst ClosedTerm c.means d.0)) ∙ sym c.means)

  pub text_entry : (m : ℕ) → m ∈ metavariables p → meant (entry_of p r m) ≡ candidate p r m
  text_entry m h = by_kind p m h (entry_body m h) (entry_value m h)

-- What a text with one item for each number says
abbrev items_of : (ℕ → Entry NamedTerm) → List ℕ → List Item
items_of says ms = map (λ m. (m, says m)) ms

said_in : (says : ℕ → Entry NamedTerm) (ms : List ℕ) (m : ℕ) → m ∈ ms → said (items_of says ms) m ≡ meant (says m)
said_in says [] m h = absurd (Memᴰ.not-nil h)
said_in says (k ∷ ms) m h = go (eqb m k) refl (said_in says ms m) (Memᴰ.cases_cons h)
  where
    go : (b : Bool) → eqb m k ≡ b → (m ∈ ms → said (items_of says ms) m ≡ meant (says m)) → (m ≡ k) ⊎ (m ∈ ms)
        → choose b (meant (says k)) (said (items_of says ms) m) ≡ meant (says m)
    go true q ih w = ap (λ (x : ℕ). meant (says x)) (sym (eqb_eq m k q))
    go false q ih (inl w) = absurd (false≢true (sym q ∙ ap (eqb m) (sym w) ∙ eqb_self m))
    go false q ih (inr w) = ih w

numbers_of : (says : ℕ → Entry NamedTerm) (ms : List ℕ) → numbers (items_of says ms) ≡ ms
numbers_of says [] = refl
numbers_of says (m ∷ ms) = ap (λ (r : List ℕ). m ∷ r) (numbers_of says ms)

-- The expressions can be read, and so can each of their terms
expressions_fit : (levels : ℕ) (cs : Problem) → All (λ (c : Constraint). Readable levels in_expression (one c.expression)) cs
    → Readable levels in_expression (named_expressions cs)
expressions_fit levels [] h = tt
expressions_fit zero (c ∷ cs) h = absurd h.0
expressions_fit (suc levels) (c ∷ cs) h = (h.0.0, h.0.1, expressions_fit (suc levels) cs h.1)

expressions_readable : (p : Problem) → Accepted p → Readable max_depth in_expression (named_expressions p)
expressions_readable p ok =
    expressions_fit max_depth p
    (mem_all (λ (c : Constraint). Readable max_depth in_expression (one c.expression)) p
    (λ c m. (all_mem ReadableConstraint c p ok.within.constraints m).1))

one_level_more : (levels : ℕ) (ctx : Context) (u : Forest Named) → Readable levels ctx u → Readable (suc levels) ctx u
one_level_more levels ctx nil h = tt
one_level_more zero ctx (cons l c s) h = absurd h
one_level_more (suc levels) ctx (cons l c s) h =
    (h.0, one_level_more levels (context_below l ctx) c h.1, one_level_more (suc levels) ctx s h.2)

-- Below a node of an expression there are expressions
same_context : (l : Named) (c : Forest Named) → NodeFits in_expression l c → context_below l in_expression ≡ in_expression
unfolding context_below
same_context (own o) c h = refl
same_context (slot (metavariable m)) c h = absurd h.0
same_context (slot (function f n)) c h = absurd h.0
same_context (slot (hole i)) c h = absurd h.0

readable_node : {n : ℕ} {u : Forest Named} {t : NamedTerm} (levels : ℕ) → Stands n u t → Readable levels in_expression u
    → Readable levels in_expression (one t)
readable_node zero here h = absurd h
readable_node zero (below g) h = absurd h
readable_node zero (beside g d) h = absurd h
readable_node (suc levels) here h = (h.0, h.1, tt)
readable_node {t} (suc levels) (below {l} {c} g) h =
    one_level_more levels in_expression (one t)
    (readable_node levels g (subst (λ (x : Context). Readable levels x c) (same_context l c h.0) h.1))
readable_node (suc levels) (beside g d) h = readable_node (suc levels) g h.2

-- An expression with some of its nodes as holes can be read where a body is due
punch_trees : (ms : Marks) (u : Forest Named) → trees (punch ms u) ≡ trees u
punch_trees ms nil = refl
punch_trees [] (cons l c s) = ap suc (punch_trees (drop (size c) []) s)
punch_trees (none ∷ ms) (cons l c s) = ap suc (punch_trees (drop (size c) ms) s)
punch_trees (some i ∷ ms) (cons l c s) = ap suc (punch_trees (drop (size c) ms) s)

punch_nil : (ms : Marks) (u : Forest Named) → u ≡ nil → punch ms u ≡ nil
punch_nil ms u e = ap (punch ms) e

punched_fits : (l : Named) (ms : Marks) (c : Forest Named) → NodeFits in_expression l c
    → NodeFits in_body l (punch ms c) × (context_below l in_body ≡ in_body)
unfolding context_below
punched_fits (own (symbol n)) ms c h = ((h.0, punch_nil ms c h.1), refl)
punched_fits (own (variable x)) ms c h = ((h.0, punch_nil ms c h.1), refl)
punched_fits (own (application n)) ms c h = ((h.0 ∙ sym (punch_trees ms c), h.1), refl)
punched_fits (own (binder b x)) ms c h = ((h.0, h.1, punch_trees ms c ∙ h.2), refl)
punched_fits (slot (metavariable m)) ms c h = absurd h.0
punched_fits (slot (function f n)) ms c h = absurd h.0
punched_fits (slot (hole i)) ms c h = absurd h.0

punched_readable : (n : ℕ) → ((i : ℕ) → i < n → NodeFits in_body (slot (hole i)) nil)
    → (levels : ℕ) (sc : List ℕ) (ms : Marks) (u : Forest Named) → Readable levels in_expression u → IsBody n (nameless sc (punch ms u))
    → Readable levels in_body (punch ms u)
punched_readable n tagged levels sc ms nil h b = tt
punched_readable n tagged zero sc ms (cons l c s) h b = absurd h
punched_readable n tagged (suc levels) sc ms (cons l c s) h b =
    go (mark ms) b
    (punched_readable n tagged levels (enter l sc) (rest ms) c
    (subst (λ (x : Context). Readable levels x c) (same_context l c h.0) h.1))
    (punched_readable n tagged (suc levels) sc (drop (size c) (rest ms)) s h.2)
  where
    go : (m : Mark) → IsBody n (nameless sc (punch_node m l (punch (rest ms) c) (punch (drop (size c) (rest ms)) s)))
        → (IsBody n (nameless (enter l sc) (punch (rest ms) c)) → Readable levels in_body (punch (rest ms) c))
        → (IsBody n (nameless sc (punch (drop (size c) (rest ms)) s)) → Readable (suc levels) in_body (punch (drop (size c) (rest ms)) s))
        → Readable (suc levels) in_body (punch_node m l (punch (rest ms) c) (punch (drop (size c) (rest ms)) s))
    go none d x y =
        let r = punched_fits l (rest ms) c h.0 in
        (r.0, subst (λ (ctx : Context). Readable levels ctx (punch (rest ms) c)) (sym r.1) (x d.1), y d.2)
    go (some i) d x y = (tagged i d.0.0, tt, y d.2)

-- THE TEXT NAMES THE SOLUTION
pub text_says : (p : Problem) (r : Row) → Accepted p → solves p r ≡ true → said (text_of p r) ≡ candidate p r
unfolding text_of
text_says p r ok e = fun_ext (λ m. by_test (is_in m (metavariables p)) (there m) (elsewhere m))
  where
    there : (m : ℕ) → is_in m (metavariables p) ≡ true → said (items_of (entry_of p r) (metavariables p)) m ≡ candidate p r m
    there m q =
        let h : m ∈ metavariables p = is_in_mem m (metavariables p) q in
        said_in (entry_of p r) (metavariables p) m h ∙ text_entry p r ok e m h

    elsewhere : (m : ℕ) → is_in m (metavariables p) ≡ false → said (items_of (entry_of p r) (metavariables p)) m ≡ candidate p r m
    elsewhere m q =
        let h : (m ∈ metavariables p → ⊥) = λ w. true≢false (sym (mem_is_in m (metavariables p) w) ∙ q) in
        let c : Proper p = accepted_proper p ok in
        said_nowhere (items_of (entry_of p r) (metavariables p)) m
        (λ w. h (subst (λ (ms : List ℕ). m ∈ ms) (numbers_of (entry_of p r) (metavariables p)) w))
        ∙ sym (candidate_other p r m (λ a. h (applied_occurs p c m a)) (λ a. h (plain_occurs p c m a)))

-- ITS NUMBERS RISE: "one field for each metavariable that occurs, ascending"
pub text_ascends : (p : Problem) (r : Row) → rises (numbers (text_of p r)) ≡ true
unfolding text_of
text_ascends p r =
    ap rises (numbers_of (entry_of p r) (metavariables p)) ∙ ordered_rises (metavariables p) (metavariables_ordered p)

-- THE TEXT CAN BE READ
pub text_readable : (p : Problem) (r : Row) → Accepted p → r ∈ rows p → solves p r ≡ true → All ReadableItem (text_of p r)
unfolding text_of
text_readable p r ok in_rows e = go (metavariables p) (λ m h. (small_number p m h, entry m h))
  where
    at : (n : ℕ) (t : Term) → Copied p n t → Readable max_depth in_expression (one (term_at p n))
    at n t c = readable_node max_depth (node_stands n (named_expressions p) (term_at p n) c.there) (expressions_readable p ok)

    body_entry : (m : ℕ) → m ∈ applied (patterns p) → ReadableEntry (entry_of p r m)
    body_entry m a =
        let w = written_body_lem p r ok e m a in
        let c : Copied p w.0 (face_of p m) = w.2 in
        let ms : Marks = choice_in (functions p) r m in
        let v : NamedTerm = term_at p w.0 in
        let shape : IsBody (places_of p m) (one (row_body p r m)) =
        (passes_fitting p r e (accepted_proper p ok) ((rows_are p r).0 in_rows)).shapes m a in
        let same : one (row_body p r m) ≡ nameless c.scope (punch ms (one v)) =
        ap (λ (t : Term). one t) (body_copied p r ok e m w.0 c) ∙ ap (nameless c.scope) (punch_one ms v) in
        let x : Readable max_depth in_body (punch ms (one v)) =
        punched_readable (places_of p m) (λ i. hole_tagged p ok.within m i a) max_depth c.scope ms (one v) (at w.0 (face_of p m) c)
        (subst (IsBody (places_of p m)) same shape) in
        subst ReadableEntry (sym w.1) (subst (Readable max_depth in_body) (sym (punch_one ms v)) x)

    value_entry : (m : ℕ) → m ∈ metavariables p → (m ∈ applied (patterns p) → ⊥) → m ∈ plain (patterns p) → (o : Option Source)
        → lookup m (sources p r) ≡ o
        → ReadableEntry (written_value p o)
    value_entry m h a b none q = tt
    value_entry m h a b (some s) q = at s.node s.term (value_copied p r ok e m s h a b q).1

    entry : (m : ℕ) → m ∈ metavariables p → ReadableEntry (entry_of p r m)
    entry m h =
        by_kind p m h (body_entry m)
        (λ a b. subst ReadableEntry (sym (written_value_lem p r ok e m a)) (value_entry m h a b (lookup m (sources p r)) refl))

    go : (ms : List ℕ) → ((m : ℕ) → m ∈ ms → ReadableItem (m, entry_of p r m)) → All ReadableItem (items_of (entry_of p r) ms)
    go [] f = tt
    go (m ∷ ms) f = (f m (Memᴰ.head refl), go ms (λ k h. f k (Memᴰ.tail h)))

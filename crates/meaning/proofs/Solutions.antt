-- Solutions and their rows: a row has at most one solution, every solution has just one row, and the computed list holds each solution
-- once and nothing else.
use mathlib.Core.Path.{◌≡◌, refl, ap, sym, ◌∙◌, subst, fun_ext}
use mathlib.Core.Logic.{◌⊎◌, inl, inr, ◌↔◌}
use Prim.Native.Nat.{ℕ, ◌<◌}
use mathlib.Core.Bool.{true, false, ◌&&◌, not, true≢false}
use mathlib.Core.List.Memᴰ
use mathlib.Core.List.{[], ◌∷◌, map}
use mathlib.Core.Option.{none, some}
use lib.Dec.{T}
use lib.ListN.{drop}
use borrow.Author.Tests.{not-true}
use Rattle.meaning.specs.Basics.{keep, every, ◌∈◌}
use Rattle.meaning.specs.Term.{nil, cons, one, size, own, slot, Terms, Term, IsExpression}
use Rattle.meaning.specs.Shift.{ClosedTerm}
use Rattle.meaning.specs.Same.{same_terms}
use Rattle.meaning.specs.Problem.{Where, standings, Problem, patterns, expressions, plain, applied, places_of}
use Rattle.meaning.specs.Problem.{both_ways, functions, metavariables}
use Rattle.meaning.specs.Filling.{left_open, value, body, Filling, fill_handler, filled, IsBody}
use Rattle.meaning.specs.Solution.{Idle, Solution}
use Rattle.meaning.specs.Face.{faces}
use Rattle.meaning.specs.Choice.{Marks, punch, Choice}
use Rattle.meaning.specs.Row.{Row, face_of, IsRow, choice_in, row_body, HasBodies, SolutionRow}
use Rattle.meaning.specs.Rows.{rows}
use Rattle.meaning.specs.Value.{Source, sources, lookup}
use Rattle.meaning.specs.Candidate.{given, candidate, is_closed_entry, solves, solution_rows, full_list}
use Rattle.meaning.proofs.Lists.{never, T_true, true_T, and_T, T_and, by_test, mem_map, map_mem, mem_keep, keep_mem}
use Rattle.meaning.proofs.Lists.{all_mem, mem_all, every_all, all_every}
use Rattle.meaning.proofs.OneWay.{one_way_means, walk_faces}
use Rattle.meaning.proofs.ShiftLaws.{test_closed, closed_test}
use Rattle.meaning.proofs.Alike.{same_terms_eq, same_terms_refl}
use Rattle.meaning.proofs.ChoiceLaws.{rows_are}
use Rattle.meaning.proofs.Proper.{Proper, by_role, applied_functions, functions_applied, applied_occurs, plain_occurs}
use Rattle.meaning.proofs.Sources.{Walked, walked}
use Rattle.meaning.proofs.Candidate.{Fitting, candidate_function, candidate_plain, candidate_other, fitting_source, fitting_idle}
use Rattle.meaning.proofs.Candidate.{lookup_cases, row_solution_unique}
use Rattle.meaning.proofs.Lists.{drop_mem, mem_at, is_some_lem}
use Rattle.meaning.proofs.RowBodies.{face_expression, choice_in_lem, row_exists, row_only, body_row}

-- A punched expression is a body
pub punch_body : (n : ℕ) (ms : Marks) (u : Terms) → IsExpression u → ((i : ℕ) → some i ∈ ms → i < n) → IsBody n (punch ms u)
punch_body n ms nil h f = tt
punch_body n ms (cons (slot z) c s) h f = absurd h.0
punch_body n [] (cons (own o) c s) h f =
    (tt, punch_body n [] c h.1 f, punch_body n (drop (size c) []) s h.2 (λ i q. f i (drop_mem (some i) (size c) [] q)))
punch_body n (none ∷ ms) (cons (own o) c s) h f = (
  tt,
  punch_body n ms c h.1 (λ i q. f i (Memᴰ.tail q)),
  punch_body n (drop (size c) ms) s h.2 (λ i q. f i (Memᴰ.tail (drop_mem (some i) (size c) ms q))),
)
punch_body n (some j ∷ ms) (cons (own o) c s) h f = (
  (f j (Memᴰ.head refl), refl),
  tt,
  punch_body n (drop (size c) ms) s h.2 (λ i q. f i (Memᴰ.tail (drop_mem (some i) (size c) ms q))),
)

pub row_body_shape : (p : Problem) (r : Row) → Proper p → IsRow p r → (f : ℕ) → f ∈ applied (patterns p)
    → IsBody (places_of p f) (one (row_body p r f))
row_body_shape p r c i f a =
    let xs = is_some_lem (faces p) i.has_rows in
    let q : f ∈ functions p = applied_functions p c f a in
    let ch : Choice (places_of p f) (face_of p f) (choice_in (functions p) r f) = choice_in_lem p (functions p) r i.choice f q in
    subst (IsBody (places_of p f)) (sym (body_row p r f))
    (punch_body (places_of p f) (choice_in (functions p) r f) (one (face_of p f)) (face_expression p c xs.0 xs.1 f a)
    (λ k z. let y = mem_at (choice_in (functions p) r f) (some k) z in ch.places y.0 k y.1))

-- What the test of a row says
module _ (p : Problem) (r : Row) (passes : solves p r ≡ true) where
  parts : T (not (both_ways p))
      × T (same_terms (filled (candidate p r) (patterns p)) (expressions p) && every (λ m. is_closed_entry (candidate p r m)) (metavariables p))
  unfolding solves
  parts = and_T (not (both_ways p)) _ (true_T passes)

  tested : T (same_terms (filled (candidate p r) (patterns p)) (expressions p))
      × T (every (λ m. is_closed_entry (candidate p r m)) (metavariables p))
  tested = and_T (same_terms (filled (candidate p r) (patterns p)) (expressions p))
      (every (λ m. is_closed_entry (candidate p r m)) (metavariables p)) parts.1

  pub passes_one_way : both_ways p ≡ false
  passes_one_way = not-true (both_ways p) (T_true parts.0)

  pub passes_meets : filled (candidate p r) (patterns p) ≡ expressions p
  passes_meets = same_terms_eq (filled (candidate p r) (patterns p)) (expressions p) tested.0

  -- The walk of such a row
  pub passes_walk : Walked (fill_handler (candidate p r)) 0 0 (patterns p) (expressions p)
  passes_walk = walked (fill_handler (candidate p r)) 0 0 (patterns p) (expressions p) passes_meets

  pub passes_faces : faces p ≡ some passes_walk.found
  passes_faces = walk_faces p passes_one_way ∙ passes_walk.defined

  pub passes_closed : (m : ℕ) → m ∈ metavariables p → is_closed_entry (candidate p r m) ≡ true
  passes_closed m q =
      all_mem (λ k. is_closed_entry (candidate p r k) ≡ true) m (metavariables p)
      (every_all (λ k. is_closed_entry (candidate p r k)) (metavariables p) tested.1) q

  pub passes_fitting : Proper p → IsRow p r → Fitting p (candidate p r) (row_body p r)
  passes_fitting c i = record {
    proper = c;
    one_way = passes_one_way;
    meets = passes_meets;
    agree = candidate_function p r;
    shapes = row_body_shape p r c i;
  }

pub passes_from : (p : Problem) (r : Row) → both_ways p ≡ false → filled (candidate p r) (patterns p) ≡ expressions p
    → ((m : ℕ) → m ∈ metavariables p → is_closed_entry (candidate p r m) ≡ true) → solves p r ≡ true
unfolding solves
passes_from p r one_way meets closed =
    T_true (T_and (not (both_ways p)) _ (true_T (ap not one_way))
    (T_and (same_terms (filled (candidate p r) (patterns p)) (expressions p))
    (every (λ m. is_closed_entry (candidate p r m)) (metavariables p))
    (subst (λ (u : Terms). T (same_terms u (expressions p))) (sym meets) (same_terms_refl (expressions p)))
    (all_every (λ m. is_closed_entry (candidate p r m)) (metavariables p)
    (mem_all (λ m. is_closed_entry (candidate p r m) ≡ true) (metavariables p) closed))))

-- THE CANDIDATE OF A ROW THAT PASSES IS A SOLUTION
pub candidate_solution : (p : Problem) (r : Row) → Proper p → IsRow p r → solves p r ≡ true → Solution p (candidate p r)
candidate_solution p r c i e = record {
  one_way = passes_one_way p r e;
  meets = passes_meets p r e;
  bodies = λ f a. (row_body p r f, candidate_function p r f a, row_body_shape p r c i f a, bodies_closed_lem f a);
  values = λ m q. valued m q (lookup_cases m (sources p r));
  others = candidate_other p r;
  open_idle = λ m q w s. opened m q (lookup_cases m (sources p r)) w s;
  idle_open = λ m q idle. idles m q idle (lookup_cases m (sources p r));
}
  where
    fit : Fitting p (candidate p r) (row_body p r)
    fit = passes_fitting p r e c i

    unapplied : (m : ℕ) → m ∈ plain (patterns p) → m ∈ applied (patterns p) → ⊥
    unapplied m q a = (one_way_means p c.small_applied).0 (passes_one_way p r e) m a q

    bodies_closed_lem : (f : ℕ) → f ∈ applied (patterns p) → ClosedTerm (row_body p r f)
    bodies_closed_lem f a =
        test_closed 0 (one (row_body p r f))
        (true_T (ap is_closed_entry (sym (candidate_function p r f a)) ∙ passes_closed p r e f (applied_occurs p c f a)))

    valued : (m : ℕ) → m ∈ plain (patterns p) → (lookup m (sources p r) ≡ none) ⊎ ((s : Source) × (lookup m (sources p r) ≡ some s))
        → (candidate p r m ≡ left_open) ⊎ ((t : Term) × (candidate p r m ≡ value t) × IsExpression (one t) × ClosedTerm t)
    valued m q (inl n) = inl (candidate_plain p r m (unapplied m q) q ∙ ap given n)
    valued m q (inr s) =
        let v : candidate p r m ≡ value s.0.term = candidate_plain p r m (unapplied m q) q ∙ ap given s.1 in
        inr (
          s.0.term,
          v,
          (fitting_source p r (candidate p r) fit m s.0 s.1).0.expression,
          test_closed 0 (one s.0.term) (true_T (ap is_closed_entry (sym v) ∙ passes_closed p r e m (plain_occurs p c m q))),
        )

    opened : (m : ℕ) → candidate p r m ≡ left_open → (lookup m (sources p r) ≡ none) ⊎ ((s : Source) × (lookup m (sources p r) ≡ some s))
        → Idle p (candidate p r) m
    opened m q (inl n) = fitting_idle p r (candidate p r) fit m n
    opened m q (inr s) =
        let x = fitting_source p r (candidate p r) fit m s.0 s.1 in
        absurd (let v : candidate p r m ≡ value s.0.term = ap (candidate p r) (sym x.1) ∙ x.0.holds in never (cc))

    idles : (m : ℕ) → m ∈ plain (patterns p) → Idle p (candidate p r) m
        → (lookup m (sources p r) ≡ none) ⊎ ((s : Source) × (lookup m (sources p r) ≡ some s)) → candidate p r m ≡ left_open
    idles m q idle (inl n) = candidate_plain p r m (unapplied m q) q ∙ ap given n
    idles m q idle (inr s) =
        let x = fitting_source p r (candidate p r) fit m s.0 s.1 in
        let st = subst (λ (k : ℕ). ◌∈◌ {A = ℕ × Where} (k, x.0.standing) (standings (patterns p))) x.1 x.0.stands in
        absurd (true≢false (sym x.0.needed ∙ idle x.0.standing st))

-- THE MAIN THEOREMS

-- Two solutions with the same bodies are equal
pub solutions_unique : (p : Problem) (σ τ : Filling) → Proper p → Solution p σ → Solution p τ → ((f : ℕ) → f ∈ functions p → σ f ≡ τ f)
    → (m : ℕ) → σ m ≡ τ m
solutions_unique p σ τ c s t h m =
    let r = row_exists p σ c s in
    row_solution_unique p r.0 σ c s r.2 m ∙ sym (row_solution_unique p r.0 τ c t (λ f q. sym (h f q) ∙ r.2 f q) m)

-- COMPLETE: every solution's bodies are those of exactly one row
pub record OnlyRow (p : Problem) (σ : Filling) : Type 0 where
  pub row : Row
  pub is_row : row ∈ rows p
  pub has_bodies : HasBodies p row σ
  pub only : (r : Row) → r ∈ rows p → HasBodies p r σ → r ≡ row

pub solution_complete : (p : Problem) (σ : Filling) → Proper p → Solution p σ → OnlyRow p σ
solution_complete p σ c s =
    let r = row_exists p σ c s in
    record { row = r.0; is_row = r.1; has_bodies = r.2; only = λ q i h. row_only p σ c s q r.0 i r.1 h r.2 }

-- What a solution gives is closed
pub solution_closed : (p : Problem) (σ : Filling) → Solution p σ → (m : ℕ) → is_closed_entry (σ m) ≡ true
solution_closed p σ s m = by_role p m as_function (λ q. as_other_lem (s.values m q)) (λ nf nv. ap is_closed_entry (s.others m nf nv))
  where
    as_function : m ∈ applied (patterns p) → is_closed_entry (σ m) ≡ true
    as_function q = let b = s.bodies m q in ap is_closed_entry b.1 ∙ T_true (closed_test 0 (one b.0) b.3)

    as_other_lem : (σ m ≡ left_open) ⊎ ((t : Term) × (σ m ≡ value t) × IsExpression (one t) × ClosedTerm t) → is_closed_entry (σ m) ≡ true
    as_other_lem (inl q) = ap is_closed_entry q
    as_other_lem (inr t) = ap is_closed_entry t.1 ∙ T_true (closed_test 0 (one t.0) t.3)

-- The test of a row is right: it passes exactly the solution rows
pub solves_is_right : (p : Problem) (r : Row) → Proper p → r ∈ rows p → (solves p r ≡ true) ↔ SolutionRow p r
solves_is_right p r c i = (forth, back)
  where
    forth : solves p r ≡ true → SolutionRow p r
    forth e = (candidate p r, candidate_solution p r c ((rows_are p r).0 i) e, λ f q. candidate_function p r f (functions_applied p f q))

    back : SolutionRow p r → solves p r ≡ true
    back x =
        let s : Solution p (candidate p r) = subst (Solution p) (fun_ext (row_solution_unique p r x.0 c x.1 x.2)) x.1 in
        passes_from p r s.one_way s.meets (λ m q. solution_closed p (candidate p r) s m)

-- ... so that it can be told whether a row is one
pub solution_row_told : (p : Problem) (r : Row) → Proper p → r ∈ rows p → Dec (SolutionRow p r)
solution_row_told p r c i =
    let right = solves_is_right p r c i in
    by_test (solves p r) (λ e. yes (right.0 e)) (λ e. no (λ x. true≢false (sym (right.1 x) ∙ e)))

-- THE FULL LIST holds solutions only, with their rows
pub listed_solution : (p : Problem) (r : Row) (σ : Filling) → Proper p → (r, σ) ∈ full_list p
    → (r ∈ rows p) × Solution p σ × HasBodies p r σ
unfolding full_list solution_rows
listed_solution p r σ c q =
    let x = map_mem (λ (y : Row). (y, candidate p y)) (r, σ) (keep (solves p) (rows p)) q in
    let k = keep_mem (solves p) x.0 (rows p) x.1 in
    let er : r ≡ x.0 = ap (λ (y : Row × Filling). y.0) x.2 in
    let eσ : σ ≡ candidate p x.0 = ap (λ (y : Row × Filling). y.1) x.2 in (
      subst (λ (y : Row). y ∈ rows p) (sym er) k.0,
      subst (Solution p) (sym eσ) (candidate_solution p x.0 c ((rows_are p x.0).0 k.0) k.1),
      λ f m. ap (λ (τ : Filling). τ f) eσ ∙ candidate_function p x.0 f (functions_applied p f m)
          ∙ ap (λ (y : Row). body (row_body p y f)) (sym er),
    )

-- ... every row that has a solution, with it
pub row_listed : (p : Problem) (r : Row) (σ : Filling) → Proper p → r ∈ rows p → Solution p σ → HasBodies p r σ → (r, σ) ∈ full_list p
unfolding full_list solution_rows
row_listed p r σ c i s h =
    let e : σ ≡ candidate p r = fun_ext (row_solution_unique p r σ c s h) in
    let m : r ∈ keep (solves p) (rows p) = mem_keep (solves p) r (rows p) i ((solves_is_right p r c i).1 (σ, s, h)) in
    subst (λ (τ : Filling). ◌∈◌ {A = Row × Filling} (r, τ) (map (λ (y : Row). (y, candidate p y)) (keep (solves p) (rows p)))) (sym e)
    (mem_map {B = Row × Filling} (λ (y : Row). (y, candidate p y)) m)

-- ... and so every solution
pub solution_listed : (p : Problem) (σ : Filling) → Proper p → Solution p σ → (r : Row) × ((r, σ) ∈ full_list p)
solution_listed p σ c s =
    let o : OnlyRow p σ = solution_complete p σ c s in
    (o.row, row_listed p o.row σ c o.is_row s o.has_bodies)

-- ... and none twice: two rows of the list have different solutions
pub listed_once : (p : Problem) (r r' : Row) (σ : Filling) → Proper p → (r, σ) ∈ full_list p → (r', σ) ∈ full_list p → r ≡ r'
listed_once p r r' σ c q q' =
    let x = listed_solution p r σ c q in
    let y = listed_solution p r' σ c q' in
    row_only p σ c x.1 r r' x.0 y.0 x.2 y.2

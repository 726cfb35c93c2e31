-- The test of a row: it is a solution row exactly when each function's choice fits alone and the demands at the lowest holes agree.
use mathlib.Core.Path.{◌≡◌, ap, sym, ◌∙◌, subst}
use mathlib.Core.Logic.{◌⊎◌, inl, inr, ◌↔◌}
use Prim.Native.Nat.{ℕ}
use mathlib.Core.Bool.{false, true}
use mathlib.Core.List.{List}
use mathlib.Core.Option.{Option, none, some}
use Rattle.meaning.specs.Basics.{All, AllO, ◌∈◌, and_then, or_none}
use Rattle.meaning.specs.Term.{one, function, Term}
use Rattle.meaning.specs.Problem.{Problem, both_ways, patterns, expressions, plain, applications, applied, functions}
use Rattle.meaning.specs.Shift.{ClosedTerm}
use Rattle.meaning.specs.Filling.{value, fill_handler, filled, IsBody}
use Rattle.meaning.specs.Face.{Face, faces, is_application, walk_of}
use Rattle.meaning.specs.Row.{Row, IsRow, row_body}
use Rattle.meaning.specs.Value.{Source, sources_in, sources, lookup}
use Rattle.meaning.specs.Rows.{rows}
use Rattle.meaning.specs.Candidate.{given, candidate, is_closed_entry, solves}
use Rattle.meaning.specs.Readable.{Accepted}
use Rattle.meaning.proofs.Lists.{T_true, true_T, mem_map, map_mem, mem_keep, keep_mem, eqb_self, mem_all, all_mem}
use Rattle.meaning.proofs.ShiftLaws.{test_closed, closed_test}
use Rattle.meaning.proofs.ChoiceLaws.{rows_are}
use Rattle.meaning.proofs.Proper.{Proper, accepted_proper, same_places, applied_functions, functions_applied}
use Rattle.meaning.proofs.Slots.{faced_applied}
use Rattle.meaning.proofs.Sources.{Walked}
use Rattle.meaning.proofs.OneWay.{faces_one_way, faces_walk, one_way_means}
use Rattle.meaning.proofs.Candidate.{lookup_cases, candidate_function, candidate_plain}
use Rattle.meaning.proofs.RowBodies.{application_is}
use Rattle.meaning.proofs.Solutions.{row_body_shape, passes_meets, passes_walk, passes_faces, passes_from, candidate_solution, solution_closed}
use Rattle.meaning.proofs.TextLaws.{by_kind}
use Rattle.demands.specs.Demand.{lowest_in, lowest_demands}
use Rattle.demands.specs.Fit.{Suits, applications_of, faced_by, FitsTogether}
use Rattle.demands.proofs.Answers.{then_some, all-some}
use Rattle.demands.proofs.DemandedSources.{demands_are_sources}
use Rattle.demands.proofs.PlainSources.{source_plain}
use Rattle.demands.proofs.Holding.{Holds}
use Rattle.demands.proofs.FilledFaces.{meets_suits, meets_demands, demands_meet}
use Rattle.demands.proofs.Agreement.{holding_agree}

-- What the applications of a function face, by the faces of the problem
module _ (p : Problem) (xs : List Face) (defined : faces p ≡ some xs) (f : ℕ) where
  abbrev faced_term : Face → Term
  faced_term x = x.term

  pub by_faced : (x : Face) (n : ℕ) → x ∈ xs → x.what ≡ function f n → x.term ∈ faced_by p f
  by_faced x n q e =
      mem_map faced_term
      (subst (λ (o : Option (List Face)). x ∈ applications_of f (or_none o)) (sym defined)
      (mem_keep (λ (y : Face). is_application f y.what) x xs q (ap (is_application f) e ∙ eqb_self f)))

  pub faced_by_lem : (e : Term) → e ∈ faced_by p f → (x : Face) × (n : ℕ) × (x ∈ xs) × (x.what ≡ function f n) × (e ≡ x.term)
  faced_by_lem e q =
      let (x, i, t) = map_mem faced_term e (applications_of f (or_none (faces p))) q in
      let (m, is_f) = keep_mem (λ (y : Face). is_application f y.what) x xs
      (subst (λ (o : Option (List Face)). x ∈ applications_of f (or_none o)) defined i) in
      let (n, z) = application_is f x.what is_f in
      (x, n, m, z, t)

-- What a filling gives is closed, by the test of an entry
value_closed : (t : Term) → is_closed_entry (value t) ≡ true → ClosedTerm t
value_closed t e = test_closed 0 (one t) (true_T e)

closed_value : (t : Term) → ClosedTerm t → is_closed_entry (value t) ≡ true
closed_value t c = T_true (closed_test 0 (one t) c)

module _ (p : Problem) (accepted : Accepted p) (r : Row) (is_row : IsRow p r) where
  proper : Proper p
  proper = accepted_proper p accepted

  -- A SOLUTION ROW FITS
  module _ (e : solves p r ≡ true) where
    abbrev w : Walked (fill_handler (candidate p r)) 0 0 (patterns p) (expressions p)
    w = passes_walk p r e

    entry_closed : (m : ℕ) → is_closed_entry (candidate p r m) ≡ true
    entry_closed = solution_closed p (candidate p r) (candidate_solution p r proper is_row e)

    body_closed : (f : ℕ) → f ∈ functions p → ClosedTerm (row_body p r f)
    body_closed f q =
        value_closed (row_body p r f) (ap is_closed_entry (sym (candidate_function p r f (functions_applied p f q))) ∙ entry_closed f)

    body_suits : (f : ℕ) (t : Term) → t ∈ faced_by p f → Suits (row_body p r f) t
    body_suits f t q =
        let (x, n, m, z, d) = faced_by_lem p w.found (passes_faces p r e) f t q in
        subst (Suits (row_body p r f)) (sym d)
        (meets_suits p proper w.found w.defined (candidate p r) (row_body p r) (candidate_function p r) (passes_meets p r e)
        f n x m z)

    holding : (ds : List Source) × (lowest_demands p r ≡ some ds) × All (Holds (candidate p r)) ds
    unfolding lowest_demands
    holding =
        let (ds, d, h) = all-some (Holds (candidate p r)) (lowest_in (row_body p r) w.found)
        (meets_demands p proper w.found w.defined (candidate p r) (row_body p r) (candidate_function p r) (passes_meets p r e)) in
        (ds, ap (λ (o : Option (List Face)). and_then o (lowest_in (row_body p r))) (passes_faces p r e) ∙ d, h)

    solves_fits : FitsTogether p r
    unfolding row_body
    solves_fits = record {
      alone = λ f q. record { suits = body_suits f; closed = body_closed f q };
      list = holding.0;
      demanded = holding.1;
      agreeing = holding_agree (candidate p r) holding.0 holding.2
          (λ d q. value_closed d.term
          (ap is_closed_entry (sym (all_mem (Holds (candidate p r)) d holding.0 holding.2 q)) ∙ entry_closed d.number));
    }

  one_way_lem : both_ways p ≡ false
  one_way_lem = faces_one_way p is_row.has_rows

  -- A ROW THAT FITS IS A SOLUTION ROW
  module _ (x : FitsTogether p r) where
    found : (xs : List Face) × (faces p ≡ some xs) × (lowest_in (row_body p r) xs ≡ some x.list)
    unfolding lowest_demands
    found = then_some (faces p) (lowest_in (row_body p r)) x.list x.demanded

    found_walk : walk_of p ≡ some found.0
    found_walk = faces_walk p found.0 found.1

    sourced : x.list ≡ sources p r
    sourced = demands_are_sources p r x.list x.demanded

    demand_plain : (d : Source) → d ∈ x.list → d.number ∈ plain (patterns p)
    demand_plain d q =
        source_plain p proper (row_body p r) found.0 found_walk d
        (subst (λ (l : List Source). d ∈ l)
        (sourced ∙ ap (λ (o : Option (List Face)). sources_in (row_body p r) (or_none o)) found.1) q)

    plain_value : (m : ℕ) → m ∈ plain (patterns p) → candidate p r m ≡ given (lookup m x.list)
    plain_value m q =
        candidate_plain p r m (λ a. (one_way_means p proper.small_applied).0 one_way_lem m a q) q
        ∙ ap (λ (l : List Source). given (lookup m l)) (sym sourced)

    held : (d : Source) → d ∈ x.list → Holds (candidate p r) d
    held d q =
        let (s, l, t) = x.agreeing.same d q in plain_value d.number (demand_plain d q) ∙ ap given l ∙ ap value t

    body_shape : (f n : ℕ) → (f, n) ∈ applications (patterns p) → IsBody n (one (row_body p r f))
    body_shape f n m =
        subst (λ (k : ℕ). IsBody k (one (row_body p r f))) (sym (same_places p accepted.within f n m))
        (row_body_shape p r proper is_row f (mem_map (λ (a : ℕ × ℕ). a.0) m))

    suiting : (f n : ℕ) (y : Face) → y ∈ found.0 → y.what ≡ function f n → Suits (row_body p r f) y.term
    unfolding row_body
    suiting f n y q z =
        (x.alone f (applied_functions p proper f (faced_applied p proper found.0 found_walk f n y q z))).suits y.term
        (by_faced p found.0 found.1 f y n q z)

    fits_meets : filled (candidate p r) (patterns p) ≡ expressions p
    fits_meets =
        demands_meet p proper found.0 found_walk (candidate p r) (row_body p r) (candidate_function p r) body_shape suiting
        (subst (AllO (Holds (candidate p r))) (sym found.2) (mem_all (Holds (candidate p r)) x.list held))

    function_closed : (f : ℕ) → f ∈ applied (patterns p) → is_closed_entry (candidate p r f) ≡ true
    unfolding row_body
    function_closed f a =
        ap is_closed_entry (candidate_function p r f a) ∙ closed_value (row_body p r f) (x.alone f (applied_functions p proper f a)).closed

    plain_closed : (m : ℕ) → m ∈ plain (patterns p) → (lookup m x.list ≡ none) ⊎ ((s : Source) × (lookup m x.list ≡ some s))
        → is_closed_entry (candidate p r m) ≡ true
    plain_closed m q (inl n) = ap is_closed_entry (plain_value m q ∙ ap given n)
    plain_closed m q (inr (s, l)) = ap is_closed_entry (plain_value m q ∙ ap given l) ∙ closed_value s.term (x.agreeing.closed m s l)

    fits_solves : solves p r ≡ true
    fits_solves =
        passes_from p r one_way_lem fits_meets
        (λ m q. by_kind p m q (function_closed m) (λ a b. plain_closed m b (lookup_cases m x.list)))

-- THE TEST OF A ROW
pub solves_together : (p : Problem) (r : Row) → Accepted p → r ∈ rows p → (solves p r ≡ true) ↔ FitsTogether p r
solves_together p r a i = (solves_fits p a r ((rows_are p r).0 i), fits_solves p a r ((rows_are p r).0 i))

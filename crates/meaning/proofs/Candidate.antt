-- The one filling of a row: a solution that has the row's bodies is the row's candidate, and the candidate is a solution when it passes.
--   Fitting   a filling that meets the constraints, with the body that it gives to each function
use mathlib.Core.Path.{◌≡◌, refl, ap, sym, ◌∙◌, subst}
use mathlib.Core.Logic.{◌⊎◌, inl, inr, ⊎_elim}
use Prim.Native.Nat.{ℕ, ◌+◌, ◌<◌}
use mathlib.Core.Bool.{Bool, true, false, false≢true}
use mathlib.Core.List.Memᴰ
use mathlib.Core.List.{List, [], ◌∷◌}
use mathlib.Core.Option.{Option, none, some}
use native.Mathlib.Omega.{arith}
use lib.Dec.{eqb}
use Rattle.meaning.specs.Basics.{choose, each, ◌∈◌, or_none}
use Rattle.meaning.specs.Term.{one, trees, Slot, metavariable, function, hole, Terms, Term, IsExpression}
use Rattle.meaning.specs.Shift.{ClosedTerm}
use Rattle.meaning.specs.Problem.{Problem, patterns, expressions, plain, applied, places_of, Where, alone, argument_of, Standing}
use Rattle.meaning.specs.Problem.{both_ways, in_arguments, standings, is_function, is_plain}
use Rattle.meaning.specs.Filling.{fill, argument, Entry, absent, value, body, Filling, body_or, fill_handler, filled, IsBody}
use Rattle.meaning.specs.Solution.{has_hole, needs, Idle, Solution}
use Rattle.meaning.specs.Face.{Face, faces}
use Rattle.meaning.specs.Row.{Row, row_body, HasBodies}
use Rattle.meaning.specs.Value.{Source, source_of, from_application, sources_in, sources, lookup}
use Rattle.meaning.specs.Candidate.{given, candidate}
use Rattle.meaning.proofs.Lists.{never, by_test, choose_true, choose_false, eqb_eq, eqb_self, mem_each, each_mem, is_in_mem, mem_is_in}
use Rattle.meaning.proofs.Lists.{not_is_in}
use Rattle.meaning.proofs.OneWay.{walk_faces}
use Rattle.meaning.proofs.Proper.{IsArgument, Proper, applied_functions}
use Rattle.meaning.proofs.Slots.{slots, standing_at, slot_face, slot_standing, standing_slot, in_arguments_lem, arguments_in, faced_slot}
use Rattle.meaning.proofs.Slots.{faced_expression, faced_shape, faced_applied}
use Rattle.meaning.proofs.Sources.{value_is, Walked, walked, HasSource, Told, application_told, application_has, source_at_lem}
use Rattle.meaning.proofs.Sources.{face_source}

pub record Fitting (p : Problem) (σ : Filling) (b : ℕ → Term) : Type 0 where
  pub proper : Proper p
  pub one_way : both_ways p ≡ false
  pub meets : filled σ (patterns p) ≡ expressions p
  pub agree : (f : ℕ) → f ∈ applied (patterns p) → σ f ≡ body (b f)
  pub shapes : (f : ℕ) → f ∈ applied (patterns p) → IsBody (places_of p f) (one (b f))

-- A source is right: its metavariable has it as value, needs one, and it is an expression
pub record Right (p : Problem) (σ : Filling) (s : Source) : Type 0 where
  pub holds : σ s.number ≡ value s.term
  pub expression : IsExpression (one s.term)
  pub standing : Where
  pub stands : (s.number, standing) ∈ standings (patterns p)
  pub needed : needs σ standing ≡ true

module _ (p : Problem) (σ : Filling) (b : ℕ → Term) (fit : Fitting p σ b) where
  pub the_walk : Walked (fill_handler σ) 0 0 (patterns p) (expressions p)
  the_walk = walked (fill_handler σ) 0 0 (patterns p) (expressions p) fit.meets

  pub faces_found : faces p ≡ some the_walk.found
  faces_found = walk_faces p fit.one_way ∙ the_walk.defined

  pub faced : (x : Face) → x ∈ the_walk.found → IsExpression (one x.term)
  faced = faced_expression p fit.proper the_walk.found the_walk.defined

  slot_of : (x : Face) → x ∈ the_walk.found → (z : Slot) → x.what ≡ z → (z, x.children) ∈ slots (patterns p)
  slot_of x q z e = faced_slot p fit.proper the_walk.found the_walk.defined z x q e

  -- A metavariable that stands alone
  plain_right : (x : Face) → x ∈ the_walk.found → (s : Source) → s ∈ source_of x → Right p σ s
  plain_right x q s i =
      let r = source_at_lem x.what x.node x.term s i in
      record {
        holds = value_is s.number (σ s.number) x.term (faced x q)
            (subst (λ (z : Slot). fill_handler σ x.under z (fill (fill_handler σ) x.under x.children) ≡ x.term) r.0
            (the_walk.satisfied x q))
            ∙ ap value (sym r.1);
        expression = subst (λ (t : Term). IsExpression (one t)) (sym r.1) (faced x q);
        standing = alone;
        stands = slot_standing (patterns p) (metavariable s.number) x.children (s.number, alone)
            (slot_of x q (metavariable s.number) r.0) (Memᴰ.head refl);
        needed = refl;
      }

  pub shape_of : (f n : ℕ) (x : Face) → x ∈ the_walk.found → x.what ≡ function f n → (trees x.children ≡ n) × IsArgument x.children
  shape_of = faced_shape p fit.proper the_walk.found the_walk.defined

  applied_at : (f n : ℕ) (x : Face) → x ∈ the_walk.found → x.what ≡ function f n → f ∈ applied (patterns p)
  applied_at = faced_applied p fit.proper the_walk.found the_walk.defined

  needs_hole : (f i : ℕ) → f ∈ applied (patterns p) → has_hole i (one (b f)) ≡ true → needs σ (argument_of f i) ≡ true
  needs_hole f i a e = ap (λ (y : Entry Term). has_hole i (one (body_or f y))) (fit.agree f a) ∙ e

  hole_needed : (f i : ℕ) → f ∈ applied (patterns p) → needs σ (argument_of f i) ≡ true → has_hole i (one (b f)) ≡ true
  hole_needed f i a e = sym (ap (λ (y : Entry Term). has_hole i (one (body_or f y))) (fit.agree f a)) ∙ e

  application_right : (z : Slot) (x : Face) → x ∈ the_walk.found → x.what ≡ z → (s : Source) → s ∈ from_application b x z → Right p σ s
  application_right (metavariable m) x q e s i = absurd (Memᴰ.not-nil i)
  application_right (hole j) x q e s i = absurd (Memᴰ.not-nil i)
  application_right (function f n) x q e s i =
      let shape = shape_of f n x q e in
      let a : f ∈ applied (patterns p) = applied_at f n x q e in
      let t : Told σ (b f) f n x (fit.agree f a) e shape (faced x q) (the_walk.satisfied x q) s =
      application_told σ (b f) f n x (fit.agree f a) e shape (faced x q) (the_walk.satisfied x q) s i in
      let fewer : t.place < trees x.children = subst (λ (k : ℕ). t.place < k) (sym shape.0) t.small in
      let zero-add : 0 + t.place ≡ t.place = omega arith in
      record {
        holds = t.holds;
        expression = t.expression;
        standing = argument_of f t.place;
        stands = slot_standing (patterns p) (function f n) x.children (s.number, argument_of f t.place) (slot_of x q (function f n) e)
            (subst (λ (k : ℕ). ◌∈◌ {A = Standing} (s.number, argument_of f k) (in_arguments f 0 x.children)) zero-add
            (arguments_in f 0 t.place s.number x.children fewer t.stands));
        needed = needs_hole f t.place a t.has_holes;
      }

  -- EVERY SOURCE IS RIGHT
  pub source_right : (s : Source) → s ∈ sources_in b the_walk.found → Right p σ s
  source_right s i = ⊎_elim first second (Memᴰ.append_cases (each source_of the_walk.found) i)
    where
      first : s ∈ each source_of the_walk.found → Right p σ s
      first q = let r = each_mem source_of s the_walk.found q in plain_right r.0 r.1 s r.2

      second : s ∈ each (λ x. from_application b x x.what) the_walk.found → Right p σ s
      second q = let r = each_mem (λ x. from_application b x x.what) s the_walk.found q in
          application_right r.0.what r.0 r.1 refl s r.2

  -- WHAT NEEDS A VALUE HAS A SOURCE
  pub needed_source : (m : ℕ) (w : Where) → (m, w) ∈ standings (patterns p) → needs σ w ≡ true → HasSource m (sources_in b the_walk.found)
  needed_source m w i needy = let r = standing_slot (patterns p) (m, w) i in go r.0.0 r.0.1 r.1 r.2
    where
      go : (z : Slot) (c : Terms) → (z, c) ∈ slots (patterns p) → (m, w) ∈ standing_at (z, c) → HasSource m (sources_in b the_walk.found)
      go (metavariable k) c q j =
          let e : m ≡ k = ap (λ (y : Standing). y.0) (Memᴰ.eq_of_singleton j) in
          let x = slot_face 0 0 (patterns p) (expressions p) the_walk.found (metavariable k) c the_walk.defined q in
          let s = face_source x.0 m the_walk.found x.1 (x.2 ∙ ap metavariable (sym e)) in
          (s.0, Memᴰ.append_left (each (λ y. from_application b y y.what) the_walk.found) s.1, s.2)
      go (function f n) c q j =
          let a = in_arguments_lem f 0 c (m, w) j in
          let x = slot_face 0 0 (patterns p) (expressions p) the_walk.found (function f n) c the_walk.defined q in
          let shape = shape_of f n x.0 x.1 x.2 in
          let ap-f : f ∈ applied (patterns p) = applied_at f n x.0 x.1 x.2 in
          let zero-add : 0 + a.0 ≡ a.0 = omega arith in
          let small : a.0 < n = subst (λ (k : ℕ). a.0 < k) (ap trees (sym x.3) ∙ shape.0) a.1 in
          let hole_there : has_hole a.0 (one (b f)) ≡ true =
          hole_needed f a.0 ap-f (ap (needs σ) (ap (argument_of f) (sym zero-add) ∙ sym a.2) ∙ needy) in
          let s = application_has σ (b f) f n x.0 (fit.agree f ap-f) x.2 shape (faced x.0 x.1)
          (the_walk.satisfied x.0 x.1) (places_of p f) (fit.shapes f ap-f) a.0 m small hole_there
          (subst (λ (d : Terms). m ∈ plain (one (argument d a.0))) (sym x.3) a.3) in
          let in_application : s.0 ∈ from_application b x.0 x.0.what =
          subst (λ (z : Slot). s.0 ∈ from_application b x.0 z) (sym x.2) s.1 in (
            s.0,
            Memᴰ.append_right {a = s.0} (each source_of the_walk.found)
                (mem_each (λ y. from_application b y y.what) x.0 s.0 the_walk.found x.1 in_application),
            s.2,
          )
      go (hole k) c q j = absurd (Memᴰ.not-nil j)

-- Looking a source up
pub lookup_is : (m : ℕ) (ss : List Source) (s : Source) → lookup m ss ≡ some s → (s ∈ ss) × (s.number ≡ m)
lookup_is m [] s e = never (cc)
lookup_is m (x ∷ xs) s e = go (eqb m x.number) refl (lookup_is m xs s) e
  where
    go : (b : Bool) → eqb m x.number ≡ b → (lookup m xs ≡ some s → (s ∈ xs) × (s.number ≡ m)) → choose b (some x) (lookup m xs) ≡ some s
        → (s ∈ (x ∷ xs)) × (s.number ≡ m)
    go true q ih r = let w : x ≡ s = cc in (Memᴰ.head (sym w), ap (λ (y : Source). y.number) (sym w) ∙ sym (eqb_eq m x.number q))
    go false q ih r = let y = ih r in (Memᴰ.tail y.0, y.1)

pub lookup_none : (m : ℕ) (ss : List Source) → lookup m ss ≡ none → HasSource m ss → ⊥
lookup_none m [] e h = Memᴰ.not-nil h.1
lookup_none m (x ∷ xs) e h = go (eqb m x.number) refl (λ q i. lookup_none m xs q (h.0, i, h.2)) e (Memᴰ.cases_cons h.1)
  where
    go : (b : Bool) → eqb m x.number ≡ b → (lookup m xs ≡ none → h.0 ∈ xs → ⊥) → choose b (some x) (lookup m xs) ≡ none
        → (h.0 ≡ x) ⊎ (h.0 ∈ xs) → ⊥
    go true q ih r j = never (cc)
    go false q ih r (inl j) =
        let k : x.number ≡ m = ap (λ (y : Source). y.number) (sym j) ∙ h.2 in
        false≢true (sym q ∙ ap (eqb m) k ∙ eqb_self m)
    go false q ih r (inr j) = ih r j

pub lookup_cases : (m : ℕ) (ss : List Source) → (lookup m ss ≡ none) ⊎ ((s : Source) × (lookup m ss ≡ some s))
lookup_cases m ss = go (lookup m ss) refl
  where
    go : (o : Option Source) → lookup m ss ≡ o → (lookup m ss ≡ none) ⊎ ((s : Source) × (lookup m ss ≡ some s))
    go none e = inl e
    go (some s) e = inr (s, e)

-- The three cases of the candidate
module _ (p : Problem) (r : Row) where
  pub candidate_function : (f : ℕ) → f ∈ applied (patterns p) → candidate p r f ≡ body (row_body p r f)
  unfolding candidate
  candidate_function f a = choose_true (body (row_body p r f)) (choose (is_plain p f) (given (lookup f (sources p r))) absent)
      (mem_is_in f (applied (patterns p)) a)

  pub candidate_plain : (m : ℕ) → (m ∈ applied (patterns p) → ⊥) → m ∈ plain (patterns p) → candidate p r m ≡ given (lookup m (sources p r))
  unfolding candidate
  candidate_plain m a q =
      choose_false (body (row_body p r m)) (choose (is_plain p m) (given (lookup m (sources p r))) absent)
      (not_is_in m (applied (patterns p)) a)
      ∙ choose_true (given (lookup m (sources p r))) absent (mem_is_in m (plain (patterns p)) q)

  pub candidate_other : (m : ℕ) → (m ∈ applied (patterns p) → ⊥) → (m ∈ plain (patterns p) → ⊥) → candidate p r m ≡ absent
  unfolding candidate
  candidate_other m a q =
      choose_false (body (row_body p r m)) (choose (is_plain p m) (given (lookup m (sources p r))) absent)
      (not_is_in m (applied (patterns p)) a)
      ∙ choose_false (given (lookup m (sources p r))) absent (not_is_in m (plain (patterns p)) q)

  sources_found : (σ : Filling) (fit : Fitting p σ (row_body p r))
      → sources p r ≡ sources_in (row_body p r) (the_walk p σ (row_body p r) fit).found
  sources_found σ fit = ap (λ (o : Option (List Face)). sources_in (row_body p r) (or_none o)) (faces_found p σ (row_body p r) fit)

  pub fitting_source : (σ : Filling) → Fitting p σ (row_body p r) → (m : ℕ) (s : Source) → lookup m (sources p r) ≡ some s
      → Right p σ s × (s.number ≡ m)
  fitting_source σ fit m s e =
      let i = lookup_is m (sources p r) s e in
      (source_right p σ (row_body p r) fit s (subst (λ (l : List Source). s ∈ l) (sources_found σ fit) i.0), i.1)

  -- A metavariable without a source is idle
  pub fitting_idle : (σ : Filling) → Fitting p σ (row_body p r) → (m : ℕ) → lookup m (sources p r) ≡ none → Idle p σ m
  fitting_idle σ fit m e w i =
      by_test (needs σ w)
      (λ n. absurd (lookup_none m (sources p r) e
      (subst (HasSource m) (sym (sources_found σ fit)) (needed_source p σ (row_body p r) fit m w i n))))
      (λ n. n)

  -- A SOLUTION WITH THE ROW'S BODIES IS THE CANDIDATE
  pub solution_fitting : (σ : Filling) → Proper p → Solution p σ → HasBodies p r σ → Fitting p σ (row_body p r)
  solution_fitting σ c s h = record {
    proper = c;
    one_way = s.one_way;
    meets = s.meets;
    agree = λ f a. h f (applied_functions p c f a);
    shapes = λ f a. shape f a (s.bodies f a);
  }
    where
      shape : (f : ℕ) → f ∈ applied (patterns p) → (b : Term) × (σ f ≡ body b) × IsBody (places_of p f) (one b) × ClosedTerm b
          → IsBody (places_of p f) (one (row_body p r f))
      shape f a x =
          let q : body x.0 ≡ body (row_body p r f) = sym x.1 ∙ h f (applied_functions p c f a) in
          let e : x.0 ≡ row_body p r f = cc in
          subst (λ (t : Term). IsBody (places_of p f) (one t)) e x.2

  -- UNIQUE: "that solution is then the only one, up to bound names"
  pub row_solution_unique : (σ : Filling) → Proper p → Solution p σ → HasBodies p r σ → (m : ℕ) → σ m ≡ candidate p r m
  row_solution_unique σ c s h m =
      by_test (is_function p m)
      (λ a. let q : m ∈ applied (patterns p) = is_in_mem m (applied (patterns p)) a in h m (applied_functions p c m q)
      ∙ sym (candidate_function m q))
      (λ a. let na : m ∈ applied (patterns p) → ⊥ = λ q. false≢true (sym a ∙ mem_is_in m (applied (patterns p)) q) in
      by_test (is_plain p m)
      (λ b. plain_case na (is_in_mem m (plain (patterns p)) b) (lookup_cases m (sources p r)))
      (λ b. let nb : m ∈ plain (patterns p) → ⊥ = λ q. false≢true (sym b ∙ mem_is_in m (plain (patterns p)) q) in
      s.others m na nb ∙ sym (candidate_other m na nb)))
    where
      fit : Fitting p σ (row_body p r)
      fit = solution_fitting σ c s h

      plain_case : (m ∈ applied (patterns p) → ⊥) → m ∈ plain (patterns p)
          → (lookup m (sources p r) ≡ none) ⊎ ((x : Source) × (lookup m (sources p r) ≡ some x)) → σ m ≡ candidate p r m
      plain_case na q (inl e) = s.idle_open m q (fitting_idle σ fit m e) ∙ sym (candidate_plain m na q ∙ ap given e)
      plain_case na q (inr x) =
          let y = fitting_source σ fit m x.0 x.1 in
          sym (ap σ y.1) ∙ y.0.holds ∙ sym (candidate_plain m na q ∙ ap given x.1)

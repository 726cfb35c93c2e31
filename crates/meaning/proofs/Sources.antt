-- Where values come from: when every face is satisfied, each source says what its metavariable is given, and the metavariables that have
-- a source are just those that need a value.
use mathlib.Core.Path.{◌≡◌, refl, ap, sym, ◌∙◌, subst}
use mathlib.Core.Logic.{◌⊎◌, inl, inr}
use Prim.Native.Nat.{ℕ, zero, suc, ◌<◌}
use mathlib.Core.Bool.{Bool, true, false, false≢true}
use mathlib.Core.List.Memᴰ
use mathlib.Core.List.{List, [], ◌∷◌}
use mathlib.Core.Option.{Option, none, some}
use native.Mathlib.Omega.{arith}
use Rattle.meaning.specs.Basics.{choose, each, up_to, AllO, ◌∈◌, and_then, or_none}
use Rattle.meaning.specs.Term.{nil, cons, one, trees, Slot, metavariable, function, hole, Terms, Term, IsExpression}
use Rattle.meaning.specs.Shift.{shift_term}
use Rattle.meaning.specs.Lower.{lower_term}
use Rattle.meaning.specs.Problem.{plain}
use Rattle.meaning.specs.Filling.{Handler, fill, fill_term, plug_handler, plug, argument, Entry, absent, left_open, value, body, Filling}
use Rattle.meaning.specs.Filling.{value_or, body_or, fill_handler, IsBody}
use Rattle.meaning.specs.Solution.{has_hole}
use Rattle.meaning.specs.Face.{Face, walk}
use Rattle.meaning.specs.Agree.{Satisfied}
use Rattle.meaning.specs.Value.{Source, source_at, source_of, is_hole, lowest_hole, from_hole}
use Rattle.meaning.proofs.Lists.{never, eqb_eq, eqb_self, mem_each, each_mem, mem_up_to, up_to_mem, all_mem}
use Rattle.meaning.proofs.ShiftLaws.{lower_shift_term, lower_expression}
use Rattle.meaning.proofs.Lockstep.{walk_in}
use Rattle.meaning.proofs.Proper.{IsArgument}
use Rattle.meaning.proofs.Slots.{slots, face_slot, slot_face, faces_expression, plain_slot, slot_plain, hole_slot, slot_hole}

-- A metavariable that is filled to an expression has it as its value
pub value_is : (m : ℕ) (e : Entry Term) (t : Term) → IsExpression (one t) → value_or m e ≡ t → e ≡ value t
value_is m absent t x q = absurd (subst (λ (u : Term). IsExpression (one u)) (sym q) x).0
value_is m left_open t x q = absurd (subst (λ (u : Term). IsExpression (one u)) (sym q) x).0
value_is m (value u) t x q = ap value q
value_is m (body u) t x q = absurd (subst (λ (u : Term). IsExpression (one u)) (sym q) x).0

-- Every face of a walk that succeeds
pub record Walked (h : Handler) (k n : ℕ) (p e : Terms) : Type 0 where
  pub found : List Face
  pub defined : walk k n p e ≡ some found
  pub satisfied : (x : Face) → x ∈ found → Satisfied h x

pub walked_from : (h : Handler) (k n : ℕ) (p e : Terms) → AllO (Satisfied h) (walk k n p e) → Walked h k n p e
walked_from h k n p e a = go (walk k n p e) refl a
  where
    go : (o : Option (List Face)) → walk k n p e ≡ o → AllO (Satisfied h) o → Walked h k n p e
    go none q b = absurd b
    go (some xs) q b = record { found = xs; defined = q; satisfied = λ x m. all_mem (Satisfied h) x xs b m }

pub walked : (h : Handler) (k n : ℕ) (p e : Terms) → fill h k p ≡ e → Walked h k n p e
walked h k n p e q = walked_from h k n p e (walk_in h k n p e q)

-- What a source is the source of
pub source_at_lem : (z : Slot) (n : ℕ) (t : Term) (s : Source) → s ∈ source_at z n t → (z ≡ metavariable s.number) × (s.term ≡ t)
source_at_lem (metavariable m) n t s q =
    let e = Memᴰ.eq_of_singleton q in (ap (λ (x : Source). metavariable x.number) (sym e), ap (λ (x : Source). x.term) e)
source_at_lem (function f a) n t s q = absurd (Memᴰ.not-nil q)
source_at_lem (hole i) n t s q = absurd (Memᴰ.not-nil q)

-- A metavariable with a source among some
abbrev pub HasSource : ℕ → List Source → Type 0
HasSource m ss = (s : Source) × (s ∈ ss) × (s.number ≡ m)

pub face_source : (x : Face) (m : ℕ) (xs : List Face) → x ∈ xs → x.what ≡ metavariable m → HasSource m (each source_of xs)
face_source x m xs q e =
    let s : Source = record { number = m; node = x.node; term = x.term } in
    let i : s ∈ source_of x = subst (λ (z : Slot). s ∈ source_at z x.node x.term) (sym e) (Memᴰ.head refl) in
    (s, mem_each source_of x s xs q i, refl)

-- The lowest hole of a place
hole_is : (i : ℕ) (z : Slot) → is_hole i z ≡ true → z ≡ hole i
hole_is i (metavariable m) e = absurd (false≢true e)
hole_is i (function f n) e = absurd (false≢true e)
hole_is i (hole j) e = ap hole (sym (eqb_eq i j e))

pub lowest_is : (i : ℕ) (xs : List Face) (h : Face) → lowest_hole i xs ≡ some h → (h ∈ xs) × (h.what ≡ hole i)
lowest_is i [] h e = never (cc)
lowest_is i (x ∷ xs) h e = go (is_hole i x.what) refl (lowest_is i xs h) e
  where
    go : (b : Bool) → is_hole i x.what ≡ b → (lowest_hole i xs ≡ some h → (h ∈ xs) × (h.what ≡ hole i))
        → choose b (some x) (lowest_hole i xs) ≡ some h
        → (h ∈ (x ∷ xs)) × (h.what ≡ hole i)
    go true q ih r = let w : x ≡ h = cc in (Memᴰ.head (sym w), ap (λ (y : Face). y.what) (sym w) ∙ hole_is i x.what q)
    go false q ih r = let y = ih r in (Memᴰ.tail y.0, y.1)

pub lowest_there : (i : ℕ) (xs : List Face) (x : Face) → x ∈ xs → x.what ≡ hole i → (h : Face) × (lowest_hole i xs ≡ some h)
lowest_there i [] x m e = absurd (Memᴰ.not-nil m)
lowest_there i (y ∷ ys) x m e = go (is_hole i y.what) refl (λ q. lowest_there i ys x q e) (Memᴰ.cases_cons m)
  where
    go : (b : Bool) → is_hole i y.what ≡ b → (x ∈ ys → (h : Face) × (lowest_hole i ys ≡ some h)) → (x ≡ y) ⊎ (x ∈ ys)
        → (h : Face) × (choose b (some y) (lowest_hole i ys) ≡ some h)
    go true q ih r = (y, refl)
    go false q ih (inl r) = absurd (false≢true (sym q ∙ ap (is_hole i) (ap (λ (z : Face). z.what) (sym r) ∙ e) ∙ eqb_self i))
    go false q ih (inr r) = ih r

-- Argument i of the filled arguments is argument i, filled
pub argument_filled : (h : Handler) (k : ℕ) (c : Terms) (i : ℕ) → i < trees c → argument (fill h k c) i ≡ fill_term h k (argument c i)
argument_filled h k nil i q = absurd (omega arith)
argument_filled h k (cons l c s) zero q = refl
argument_filled h k (cons l c s) (suc i) q = argument_filled h k s i (omega arith)

pub argument_of_lem : (c : Terms) (i : ℕ) → IsArgument c → i < trees c → IsArgument (one (argument c i))
argument_of_lem nil i h q = absurd (omega arith)
argument_of_lem (cons l c s) zero h q = (h.0, h.1, tt)
argument_of_lem (cons l c s) (suc i) h q = argument_of_lem s i h.2 (omega arith)

-- One application: its function has the body b, it has as many arguments as its label says, it is satisfied
module _ (σ : Filling) (b : Term) (f n : ℕ) (x : Face) (given : σ f ≡ body b) (is_function : x.what ≡ function f n)
    (shape : (trees x.children ≡ n) × IsArgument x.children)
    (faced : IsExpression (one x.term)) (sat : Satisfied (fill_handler σ) x) where
  abbrev pub arguments : ℕ → Term
  arguments = argument (fill (fill_handler σ) x.under x.children)

  pub plugged : plug arguments b ≡ x.term
  plugged =
      ap (λ (e : Entry Term). plug arguments (body_or f e)) (sym given)
      ∙ subst (λ (z : Slot). fill_handler σ x.under z (fill (fill_handler σ) x.under x.children) ≡ x.term) is_function sat

  body_walk : Walked (plug_handler arguments) 0 x.node (one b) (one x.term)
  body_walk = walked (plug_handler arguments) 0 x.node (one b) (one x.term) (ap (λ (t : Term). one t) plugged)

  -- At a hole of place i, found in the walk of the body
  module _ (i : ℕ) (small : i < n) (h : Face) (is_lowest : lowest_hole i (or_none (walk 0 x.node (one b) (one x.term))) ≡ some h) where
    in_walk : (h ∈ body_walk.found) × (h.what ≡ hole i)
    in_walk = lowest_is i body_walk.found h
        (subst (λ (o : Option (List Face)). lowest_hole i (or_none o) ≡ some h) body_walk.defined is_lowest)

    fewer : i < trees x.children
    fewer = subst (λ (m : ℕ). i < m) (sym shape.0) small

    lowered : lower_term h.under h.term ≡ some (arguments i)
    lowered =
        let e : shift_term h.under (arguments i) ≡ h.term =
        subst (λ (z : Slot). plug_handler arguments h.under z (fill (plug_handler arguments) h.under h.children) ≡ h.term)
        in_walk.1
        (body_walk.satisfied h in_walk.0) in
        subst (λ (t : Term). lower_term h.under t ≡ some (arguments i)) e (lower_shift_term h.under (arguments i))

    expression : IsExpression (one (arguments i))
    expression =
        lower_expression h.under h.term (arguments i) lowered
        (faces_expression 0 x.node (one b) (one x.term) body_walk.found faced body_walk.defined h in_walk.0)

    pub argument_walk : Walked (fill_handler σ) x.under h.node (one (argument x.children i)) (one (arguments i))
    argument_walk =
        walked (fill_handler σ) x.under h.node (one (argument x.children i)) (one (arguments i))
        (ap (λ (t : Term). one t) (sym (argument_filled (fill_handler σ) x.under x.children i fewer)))

    -- The sources that the hole gives are the metavariables of the argument
    pub hole_sources : from_hole x.under (argument x.children i) (some h) ≡ each source_of argument_walk.found
    hole_sources =
        ap (λ (o : Option Term). each source_of
        (or_none (and_then o (λ u. walk x.under h.node (one (argument x.children i)) (one u))))) lowered
        ∙ ap (λ (o : Option (List Face)). each source_of (or_none o)) argument_walk.defined

    pub hole_expression : (y : Face) → y ∈ argument_walk.found → IsExpression (one y.term)
    hole_expression =
        faces_expression x.under h.node (one (argument x.children i)) (one (arguments i)) argument_walk.found expression
        argument_walk.defined

    pub hole_values : (y : Face) → y ∈ argument_walk.found → (m : ℕ) → y.what ≡ metavariable m → σ m ≡ value y.term
    hole_values y q m e =
        value_is m (σ m) y.term (hole_expression y q)
        (subst (λ (z : Slot). fill_handler σ y.under z (fill (fill_handler σ) y.under y.children) ≡ y.term) e
        (argument_walk.satisfied y q))

    pub hole_there : has_hole i (one b) ≡ true
    hole_there =
        slot_hole (one b) i h.children
        (subst (λ (z : Slot). ◌∈◌ {A = Slot × Terms} (z, h.children) (slots (one b))) in_walk.1
        (face_slot 0 x.node (one b) (one x.term) body_walk.found h body_walk.defined in_walk.0))

    -- Each metavariable of the argument has a source there
    pub hole_has : (m : ℕ) → m ∈ plain (one (argument x.children i))
        → HasSource m (from_hole x.under (argument x.children i) (some h))
    hole_has m q =
        let s = plain_slot (one (argument x.children i)) (argument_of_lem x.children i shape.1 fewer) m q in
        let y = slot_face x.under h.node (one (argument x.children i)) (one (arguments i)) argument_walk.found (metavariable m)
        s.0 argument_walk.defined s.1 in
        subst (HasSource m) (sym hole_sources) (face_source y.0 m argument_walk.found y.1 y.2)

  abbrev lowest : ℕ → Option Face
  lowest i = lowest_hole i (or_none (walk 0 x.node (one b) (one x.term)))

  abbrev from_place : ℕ → List Source
  from_place i = from_hole x.under (argument x.children i) (lowest i)

  -- A source of this application: its value, and the standing that needs one
  pub record Told (s : Source) : Type 0 where
    pub place : ℕ
    pub small : place < n
    pub holds : σ s.number ≡ value s.term
    pub expression : IsExpression (one s.term)
    pub has_holes : has_hole place (one b) ≡ true
    pub stands : s.number ∈ plain (one (argument x.children place))

  pub application_told : (s : Source) → s ∈ each from_place (up_to n) → Told s
  application_told s q =
      let r = each_mem from_place s (up_to n) q in
      let small : r.0 < n = up_to_mem n r.0 r.1 in
      go r.0 small (lowest r.0) refl r.2
    where
      go : (i : ℕ) → i < n → (o : Option Face) → lowest i ≡ o → s ∈ from_hole x.under (argument x.children i) o → Told s
      go i small none e w = absurd (Memᴰ.not-nil w)
      go i small (some h) e w =
          let walk-there = argument_walk i small h e in
          let y = each_mem source_of s walk-there.found (subst (λ (l : List Source). s ∈ l) (hole_sources i small h e) w) in
          let z = source_at_lem y.0.what y.0.node y.0.term s y.2 in
          record {
            place = i;
            small = small;
            holds = hole_values i small h e y.0 y.1 s.number z.0 ∙ ap value (sym z.1);
            expression = subst (λ (t : Term). IsExpression (one t)) (sym z.1) (hole_expression i small h e y.0 y.1);
            has_holes = hole_there i small h e;
            stands = slot_plain (one (argument x.children i)) s.number y.0.children
                (subst (λ (k : Slot). ◌∈◌ {A = Slot × Terms} (k, y.0.children) (slots (one (argument x.children i)))) z.0
                (face_slot x.under h.node (one (argument x.children i)) (one (arguments i)) walk-there.found y.0
                walk-there.defined y.1));
          }

  -- A metavariable of an argument whose hole the body has is given a source
  pub application_has : (places : ℕ) → IsBody places (one b) → (i m : ℕ) → i < n → has_hole i (one b) ≡ true
      → m ∈ plain (one (argument x.children i))
      → HasSource m (each from_place (up_to n))
  application_has places is_body i m small there q =
      let hs = hole_slot places (one b) is_body i there in
      let hf = slot_face 0 x.node (one b) (one x.term) body_walk.found (hole i) hs.0 body_walk.defined hs.1 in
      let lo = lowest_there i body_walk.found hf.0 hf.1 hf.2 in
      let e : lowest i ≡ some lo.0 = ap (λ (o : Option (List Face)). lowest_hole i (or_none o)) body_walk.defined ∙ lo.1 in
      let src : HasSource m (from_place i) =
      subst (λ (o : Option Face). HasSource m (from_hole x.under (argument x.children i) o)) (sym e)
      (hole_has i small lo.0 e m q) in
      (src.0, mem_each from_place i src.0 (up_to n) (mem_up_to n i small) src.1, src.2)

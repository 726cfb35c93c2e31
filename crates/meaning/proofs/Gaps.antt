-- What a potential solution that meets the constraints can leave out: no function, and only idle metavariables.
use mathlib.Core.Path.{◌≡◌, refl, ap, sym, ◌∙◌, subst}
use mathlib.Core.Logic.{inl, inr, ⊎_elim}
use mathlib.Core.Bool.{true, false}
use mathlib.Core.List.Memᴰ
use Prim.Native.Nat.{ℕ, zero, suc, ◌+◌}
use Rattle.meaning.specs.Basics.{◌∈◌}
use Rattle.meaning.specs.Term.{IsExpression, Nameless, Slot, Term, Terms, cons, function, hole, metavariable, nil, one, own, slot}
use Rattle.meaning.specs.Problem.{Problem, Standing, Where, alone, applied, argument_of, both_ways, expressions, in_arguments, patterns}
use Rattle.meaning.specs.Problem.{places_of, plain, standings}
use Rattle.meaning.specs.Filling.{Entry, Filling, IsBody, absent, argument, body, body_or, fill, fill_handler, plug, value}
use Rattle.meaning.specs.Solution.{has_hole, needs}
use Rattle.meaning.proofs.Lists.{never}
use Rattle.meaning.proofs.OneWay.{one_way_means}
use Rattle.meaning.proofs.Proper.{Proper}
use Rattle.meaning.proofs.Slots.{applied_slot, faced_expression, in_arguments_lem, slot_applied, slot_face, slots, standing_slot, standing_at}
use Rattle.meaning.proofs.Sources.{Walked, walked}
use Rattle.meaning.proofs.Candidate.{Fitting, needed_source, source_right}
use Rattle.meaning.specs.Textbook.{ElementOf, ExpressionFunction, IfGiven, Language}
use Rattle.meaning.proofs.CompleteLaws.{Whole}

module _ (E : Language) (p : Problem) (s : Filling) (c : Proper p) (w : Whole E p s) where
  abbrev walk : Walked (fill_handler s) 0 0 (patterns p) (expressions p)
  walk = walked (fill_handler s) 0 0 (patterns p) (expressions p) w.meets

  -- A function that is left out would stay as a slot
  function_given : (f : ℕ) → f ∈ applied (patterns p) → s f ≡ absent → ⊥
  function_given f a e =
      let (n, d, i) = applied_slot (patterns p) c.pattern f a in
      let (x, q, is, same) = slot_face 0 0 (patterns p) (expressions p) walk.found (function f n) d walk.defined i in
      let kids : Terms = fill (fill_handler s) x.under x.children in
      let filled-so : plug (argument kids) (body_or f (s f)) ≡ x.term =
      subst (λ (z : Slot). fill_handler s x.under z kids ≡ x.term) is (walk.satisfied x q) in
      let stays : plug (argument kids) (body_or f absent) ≡ x.term =
      subst (λ (y : Entry Term). plug (argument kids) (body_or f y) ≡ x.term) e filled-so in
      (subst (λ (t : Term). IsExpression (one t)) (sym stays) (faced_expression p c walk.found walk.defined x q)).0

  pub body_given : (f : ℕ) → f ∈ applied (patterns p) → ExpressionFunction E (places_of p f) (s f)
  body_given f a = go (w.potential.functions f a)
    where
      go : IfGiven (ExpressionFunction E (places_of p f)) (s f) → ExpressionFunction E (places_of p f) (s f)
      go (inl e) = absurd (function_given f a e)
      go (inr b) = b

  -- No letter is used both ways: it would have both a body and a value
  pub whole_one_way : both_ways p ≡ false
  whole_one_way = (one_way_means p c.small_applied).1 (λ m a q. go m (body_given m a) (w.potential.elements m q))
    where
      go : (m : ℕ) → ExpressionFunction E (places_of p m) (s m) → IfGiven (ElementOf E) (s m) → ⊥
      go m (b, d, shape, closed, in_b) (inl e) = never (cc)
      go m (b, d, shape, closed, in_b) (inr (t, e, is, shut, in-t)) = never (cc)

  fitting : Fitting p s (λ f. body_or f (s f))
  fitting = record {
    proper = c;
    one_way = whole_one_way;
    meets = w.meets;
    agree = λ f a. let (b, e, shape, closed, in_b) = body_given f a in e ∙ ap (λ (y : Entry Term). body (body_or f y)) (sym e);
    shapes = λ f a. let (b, e, shape, closed, in_b) = body_given f a in
        subst (λ (y : Entry Term). IsBody (places_of p f) (one (body_or f y))) (sym e) shape;
  }

  -- A metavariable that needs a value has one
  pub value_given : (m : ℕ) (at : Where) → (m, at) ∈ standings (patterns p) → needs s at ≡ true → (t : Term) × (s m ≡ value t)
  value_given m at i n =
      let (x, q, e) = needed_source p s (λ f. body_or f (s f)) fitting m at i n in
      (x.term, ap s (sym e) ∙ (source_right p s (λ f. body_or f (s f)) fitting x q).holds)

-- The function in whose argument something stands is one
standing_applied : (u : Terms) (m f i : ℕ) → (m, argument_of f i) ∈ standings u → f ∈ applied u
standing_applied u m f i q = let r = standing_slot u (m, argument_of f i) q in go r.0.0 r.0.1 r.1 r.2
  where
    go : (z : Slot) (c : Terms) → (z, c) ∈ slots u → (m, argument_of f i) ∈ standing_at (z, c) → f ∈ applied u
    go (metavariable k) c j s =
        let e : argument_of f i ≡ alone = ap (λ (y : Standing). y.1) (Memᴰ.eq_of_singleton s) in never (cc)
    go (function g n) c j s =
        let r = in_arguments_lem g 0 c (m, argument_of f i) s in
        let e : argument_of f i ≡ argument_of g (0 + r.0) = r.2 in
        let same : g ≡ f = cc in
        subst (λ (y : ℕ). y ∈ applied u) same (slot_applied u g n c j)
    go (hole k) c j s = absurd (Memᴰ.not-nil s)

-- What needs a value is the same for two fillings that give the functions the same
pub needs_same : (u : Terms) (σ τ : Filling) → ((f : ℕ) → f ∈ applied u → τ f ≡ σ f) → (m : ℕ) (w : Where) → (m, w) ∈ standings u
    → needs τ w ≡ needs σ w
needs_same u σ τ same m alone q = refl
needs_same u σ τ same m (argument_of f i) q =
    ap (λ (y : Entry Term). has_hole i (one (body_or f y))) (same f (standing_applied u m f i q))

-- What stands somewhere is a metavariable that is no function
plain_first : (l : Nameless) (c s : Terms) (m : ℕ) → m ∈ plain (one (l, c)) → m ∈ plain (cons l c s)
plain_first (own o) c s m q = ⊎_elim (Memᴰ.append_left (plain s)) (λ n. absurd (Memᴰ.not-nil n)) (Memᴰ.append_cases (plain c) q)
plain_first (slot (metavariable k)) c s m q = ⊎_elim (λ e. Memᴰ.head e) (λ n. absurd (Memᴰ.not-nil n)) (Memᴰ.cases_cons q)
plain_first (slot (function f n)) c s m q =
    ⊎_elim (Memᴰ.append_left (plain s)) (λ n. absurd (Memᴰ.not-nil n)) (Memᴰ.append_cases (plain c) q)
plain_first (slot (hole i)) c s m q = absurd (Memᴰ.not-nil q)

plain_later : (l : Nameless) (c s : Terms) (m : ℕ) → m ∈ plain s → m ∈ plain (cons l c s)
plain_later (own o) c s m q = Memᴰ.append_right (plain c) q
plain_later (slot (metavariable k)) c s m q = Memᴰ.tail q
plain_later (slot (function f n)) c s m q = Memᴰ.append_right (plain c) q
plain_later (slot (hole i)) c s m q = q

plain_argument : (c : Terms) (i m : ℕ) → m ∈ plain (one (argument c i)) → m ∈ plain c
plain_argument nil i m q = absurd (Memᴰ.not-nil q)
plain_argument (cons l c s) zero m q = plain_first l c s m q
plain_argument (cons l c s) (suc i) m q = plain_later l c s m (plain_argument s i m q)

pub standing_plain : (u : Terms) (m : ℕ) (at : Where) → (m, at) ∈ standings u → m ∈ plain u
standing_plain nil m at q = absurd (Memᴰ.not-nil q)
standing_plain (cons (own o) c s) m at q =
    ⊎_elim (λ i. Memᴰ.append_left (plain s) (standing_plain c m at i)) (λ i. Memᴰ.append_right (plain c) (standing_plain s m at i))
    (Memᴰ.append_cases (standings c) q)
standing_plain (cons (slot (metavariable k)) c s) m at q =
    ⊎_elim (λ (e : ◌≡◌ {A = Standing} (m, at) (k, alone)). Memᴰ.head (ap (λ (y : Standing). y.0) e))
    (λ i. Memᴰ.tail (standing_plain s m at i)) (Memᴰ.cases_cons q)
standing_plain (cons (slot (function f n)) c s) m at q =
    ⊎_elim (λ i. let (j, small, is, there) = in_arguments_lem f 0 c (m, at) i in Memᴰ.append_left (plain s) (plain_argument c j m there))
    (λ i. Memᴰ.append_right (plain c) (standing_plain s m at i)) (Memᴰ.append_cases (in_arguments f 0 c) q)
standing_plain (cons (slot (hole i)) c s) m at q = standing_plain s m at q

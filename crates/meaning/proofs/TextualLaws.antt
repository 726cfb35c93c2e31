-- Where no binder's name is free in what is put below it, filling as the text stands is filling by indices.
--   Reads     a scope reads the names of a forest as another scope does, with n more binders between
--   put_fill  replacing slots with names is filling without, if it is so at each slot
use mathlib.Core.Path.{◌≡◌, refl, ap, ap₂, sym, ◌∙◌, fun_ext}
use Prim.Native.Nat.{ℕ, zero, suc, ◌+◌, ◌≤◌}
use mathlib.Core.Bool.{Bool, true, false, ◌||◌, true≢false}
use mathlib.Core.List.{List, [], ◌∷◌, ◌++◌}
use native.Mathlib.Omega.{arith}
use lib.ListN.{length}
use lib.Dec.{eqb}
use Rattle.meaning.specs.Basics.{choose, All}
use Rattle.meaning.specs.Term.{Forest, nil, cons, one, symbol, variable, application, binder, own, slot, Slot, metavariable, function}
use Rattle.meaning.specs.Term.{hole, Named, Variable, bound, NamedTerm, Terms, inner}
use Rattle.meaning.specs.Scope.{resolve, enter, nameless_label, nameless, nameless_term}
use Rattle.meaning.specs.Shift.{raise, shift_label, shift, shift_term}
use Rattle.meaning.specs.Rename.{binds}
use Rattle.meaning.specs.Filling.{Handler, fill, plug_handler, argument, Entry, absent, left_open, value, body, value_or, body_or, plug}
use Rattle.meaning.specs.Filling.{fill_handler, filled}
use Rattle.meaning.specs.Text.{meant}
use Rattle.meaning.specs.Textual.{is_variable, is_free, Avoids, Putting, put, in_holes, NamedFilling, as_written, textual, Condition}
use Rattle.meaning.specs.Textual.{AtSlots, hole_uncaught, slot_uncaught, UncaughtIn, Uncaught, put_term, meant_by}
use Rattle.meaning.proofs.Lists.{or_left, or_right, eqb_self, eqb_other, by_test, choose_true, choose_false}
use Rattle.meaning.proofs.ShiftLaws.{raise_low, raise_high, shift_closed_term, pair_eq}
use Rattle.meaning.proofs.Renaming.{cons_eq, one_injective}
use Rattle.meaning.proofs.ViewLaws.{nameless_closed}
use Rattle.meaning.proofs.Punching.{graft_eq}

-- What is free in a node's siblings is free in the whole, and so is what is free below a node that does not bind it
free_beside : (x : ℕ) (l : Named) (c s : Forest Named) → is_free x s ≡ true → is_free x (cons l c s) ≡ true
free_beside x l c s f =
    let b : Bool = choose (binds x l) false (is_free x c) in or_right (is_variable x l) (b || is_free x s) (or_right b (is_free x s) f)

free_below : (x : ℕ) (l : Named) (c s : Forest Named) → binds x l ≡ false → is_free x c ≡ true → is_free x (cons l c s) ≡ true
free_below x l c s e f =
    let b : Bool = choose (binds x l) false (is_free x c) in
    or_right (is_variable x l) (b || is_free x s) (or_left b (is_free x s) (choose_false false (is_free x c) e ∙ f))

-- One name: n binders that do not bind it, put before a scope, raise its index
resolve_later : (sc : List ℕ) (n j i m x : ℕ) → j ≤ i → m ≡ i + n → resolve sc m x ≡ raise n j (resolve sc i x)
resolve_later [] n j i m x h e = refl
resolve_later (y ∷ ys) n j i m x h e = go (eqb x y) (resolve_later ys n j (suc i) (suc m) x (omega arith) (omega arith))
  where
    go : (b : Bool) → resolve ys (suc m) x ≡ raise n j (resolve ys (suc i) x)
        → choose b (bound m) (resolve ys (suc m) x) ≡ raise n j (choose b (bound i) (resolve ys (suc i) x))
    go true ih = ap bound e ∙ sym (raise_high n j i h)
    go false ih = ih

resolve_past : (u : Forest Named) (ys sc : List ℕ) (x i m : ℕ) → All (λ y. is_free y u ≡ false) ys → is_free x u ≡ true → m ≡ i + length ys
    → resolve (ys ++ sc) i x ≡ resolve sc m x
resolve_past u [] sc x i m a f e = let q : i ≡ m = omega arith in ap (λ (k : ℕ). resolve sc k x) q
resolve_past u (y ∷ ys) sc x i m a f e =
    choose_false _ _ (eqb_other x y (λ p. true≢false (sym f ∙ ap (λ (z : ℕ). is_free z u) p ∙ a.0)))
    ∙ resolve_past u ys sc x (suc i) m a.1 f (omega arith)

-- The free names of u are, in the scope r, what they are in sc with n more binders above the k innermost ones
abbrev Reads : ℕ → ℕ → List ℕ → List ℕ → Forest Named → Type 0
Reads n k r sc u = (x i j : ℕ) → j ≡ k + i → is_free x u ≡ true → resolve r i x ≡ raise n j (resolve sc i x)

-- Below a binder of w, if it is so of all names but w
reads_under : (n k w : ℕ) (r sc : List ℕ) (c : Forest Named)
    → ((x i j : ℕ) → j ≡ k + i → eqb x w ≡ false → is_free x c ≡ true → resolve r i x ≡ raise n j (resolve sc i x))
    → Reads n (suc k) (w ∷ r) (w ∷ sc) c
reads_under n k w r sc c h x i j q f = by_test (eqb x w) hidden other
  where
    hidden : eqb x w ≡ true → resolve (w ∷ r) i x ≡ raise n j (resolve (w ∷ sc) i x)
    hidden e =
        choose_true _ _ e ∙ sym (raise_low n j i (omega arith)) ∙ ap (raise n j) (sym (choose_true (bound i) (resolve sc (suc i) x) e))

    other : eqb x w ≡ false → resolve (w ∷ r) i x ≡ raise n j (resolve (w ∷ sc) i x)
    other e =
        choose_false _ _ e ∙ h x (suc i) j (omega arith) e f ∙ ap (raise n j) (sym (choose_false (bound i) (resolve sc (suc i) x) e))

module _ (n : ℕ) where
  reads_label : (k : ℕ) (r sc : List ℕ) (l : Named) (c s : Forest Named) → Reads n k r sc (cons l c s)
      → nameless_label r l ≡ shift_label n k (nameless_label sc l)
  reads_label k r sc (own (symbol m)) c s h = refl
  reads_label k r sc (own (variable x)) c s h =
      ap (λ (v : Variable). own (variable v)) (h x 0 k (omega arith) (or_left (eqb x x) (is_free x c || is_free x s) (eqb_self x)))
  reads_label k r sc (own (application m)) c s h = refl
  reads_label k r sc (own (binder b w)) c s h = refl
  reads_label k r sc (slot z) c s h = refl

  reads_shift : (k : ℕ) (r sc : List ℕ) (u : Forest Named) → Reads n k r sc u → nameless r u ≡ shift n k (nameless sc u)
  reads_shift k r sc nil h = refl
  reads_shift k r sc (cons l c s) h =
      cons_eq (reads_label k r sc l c s h) (below l h (λ j r' sc'. reads_shift j r' sc' c))
      (reads_shift k r sc s (λ x i j q f. h x i j q (free_beside x l c s f)))
    where
      below : (l : Named) → Reads n k r sc (cons l c s)
          → ((j : ℕ) (r' sc' : List ℕ) → Reads n j r' sc' c → nameless r' c ≡ shift n j (nameless sc' c))
          → nameless (enter l r) c ≡ shift n (inner (nameless_label sc l) k) (nameless (enter l sc) c)
      below (own (symbol m)) h ih = ih k r sc (λ x i j q f. h x i j q (free_below x (own (symbol m)) c s refl f))
      below (own (variable y)) h ih = ih k r sc (λ x i j q f. h x i j q (free_below x (own (variable y)) c s refl f))
      below (own (application m)) h ih = ih k r sc (λ x i j q f. h x i j q (free_below x (own (application m)) c s refl f))
      below (own (binder b w)) h ih =
          ih (suc k) (w ∷ r) (w ∷ sc) (reads_under n k w r sc c (λ x i j q e f. h x i j q (free_below x (own (binder b w)) c s e f)))
      below (slot z) h ih = ih k r sc (λ x i j q f. h x i j q (free_below x (slot z) c s refl f))

-- MOVED: a term under binders none of whose names is free in it reads as it reads outside them, moved under them
pub avoiding_shift : (ys sc : List ℕ) (t : NamedTerm) → Avoids ys t → nameless_term (ys ++ sc) t ≡ shift_term (length ys) (nameless_term sc t)
avoiding_shift ys sc t a =
    one_injective (nameless_term (ys ++ sc) t) (shift_term (length ys) (nameless_term sc t))
    (reads_shift (length ys) 0 (ys ++ sc) sc (one t) (λ x i j q f.
    resolve_past (one t) ys sc x i (i + length ys) a f refl ∙ resolve_later sc (length ys) j i (i + length ys) x (omega arith) refl))

-- and outside all binders it reads the same
avoiding_closed : (ys : List ℕ) (t : NamedTerm) → Avoids ys t → nameless_term (ys ++ []) t ≡ nameless_term [] t
avoiding_closed ys t a = avoiding_shift ys [] t a ∙ shift_closed_term (length ys) (nameless_term [] t) (nameless_closed [] (one t))

-- Slot by slot
module _ (g : Putting) (h : Handler) (C : Condition) (sc : List ℕ) where
  -- Replacing agrees with filling: below the bound names ys
  abbrev Agrees : List ℕ → Forest Named → Type 0
  Agrees ys u = nameless (ys ++ sc) (put g u) ≡ fill h (length ys) (nameless (ys ++ sc) u)

  abbrev AgreesAt : List ℕ → Slot → Forest Named → Type 0
  AgreesAt ys z c = nameless_term (ys ++ sc) (g z (put g c)) ≡ h (length ys) z (fill h (length ys) (nameless (ys ++ sc) c))

  put_fill : ((ys : List ℕ) (z : Slot) (c : Forest Named) → C ys z c → Agrees ys c → AgreesAt ys z c)
      → (ys : List ℕ) (u : Forest Named) → AtSlots C ys u → Agrees ys u
  put_fill at ys nil a = refl
  put_fill at ys (cons (own (symbol n)) c s) a = cons_eq refl (put_fill at ys c a.1) (put_fill at ys s a.2)
  put_fill at ys (cons (own (variable x)) c s) a = cons_eq refl (put_fill at ys c a.1) (put_fill at ys s a.2)
  put_fill at ys (cons (own (application n)) c s) a = cons_eq refl (put_fill at ys c a.1) (put_fill at ys s a.2)
  put_fill at ys (cons (own (binder b x)) c s) a = cons_eq refl (put_fill at (x ∷ ys) c a.1) (put_fill at ys s a.2)
  put_fill at ys (cons (slot z) c s) a = graft_eq (at ys z c a.0 (put_fill at ys c a.1)) (put_fill at ys s a.2)

-- Arguments into a body: under its binders they are moved
put_plug : (sc : List ℕ) (arguments : ℕ → NamedTerm) (b : NamedTerm) → UncaughtIn b arguments
    → nameless_term sc (put_term (in_holes arguments) b) ≡ plug (λ i. nameless_term sc (arguments i)) (nameless_term sc b)
put_plug sc arguments b a = one_injective _ _ (put_fill (in_holes arguments) plugged (hole_uncaught arguments) sc at [] (one b) a)
  where
    plugged : Handler
    plugged = plug_handler (λ i. nameless_term sc (arguments i))

    at : (ys : List ℕ) (z : Slot) (c : Forest Named) → hole_uncaught arguments ys z c
        → Agrees (in_holes arguments) plugged (hole_uncaught arguments) sc ys c
        → AgreesAt (in_holes arguments) plugged (hole_uncaught arguments) sc ys z c
    at ys (metavariable m) c u ih = pair_eq refl ih
    at ys (function f n) c u ih = pair_eq refl ih
    at ys (hole i) c u ih = avoiding_shift ys sc (arguments i) u

-- Values, bodies and arguments with names mean those without
value_meant : (m : ℕ) (x : Entry NamedTerm) → nameless_term [] (value_or m x) ≡ value_or m (meant x)
value_meant m absent = refl
value_meant m left_open = refl
value_meant m (value t) = refl
value_meant m (body t) = refl

body_meant : (f : ℕ) (x : Entry NamedTerm) → nameless_term [] (body_or f x) ≡ body_or f (meant x)
body_meant f absent = refl
body_meant f left_open = refl
body_meant f (value t) = refl
body_meant f (body t) = refl

argument_meant : (sc : List ℕ) (c : Forest Named) (i : ℕ) → nameless_term sc (argument c i) ≡ argument (nameless sc c) i
argument_meant sc nil i = refl
argument_meant sc (cons l c s) zero = refl
argument_meant sc (cons l c s) (suc i) = argument_meant sc s i

-- One slot of a pattern
module _ (τ : NamedFilling) (ys : List ℕ) where
  abbrev as_filled : Handler
  as_filled = fill_handler (meant_by τ)

  written_filled : (z : Slot) (c : Forest Named) → slot_uncaught τ ys z c → Agrees (as_written τ) as_filled (slot_uncaught τ) [] ys c
      → AgreesAt (as_written τ) as_filled (slot_uncaught τ) [] ys z c
  written_filled (metavariable m) c u ih = avoiding_closed ys (value_or m (τ m)) u ∙ value_meant m (τ m)
  written_filled (function f n) c u ih =
      let b : NamedTerm = body_or f (τ f) in
      put_plug (ys ++ []) (argument (textual τ c)) b u.1
      ∙ ap₂ plug (fun_ext filled_argument) (avoiding_closed ys b u.0 ∙ body_meant f (τ f))
    where
      filled_argument : (i : ℕ)
          → nameless_term (ys ++ []) (argument (textual τ c) i) ≡ argument (fill as_filled (length ys) (nameless (ys ++ []) c)) i
      filled_argument i = argument_meant (ys ++ []) (textual τ c) i ∙ ap (λ (v : Terms). argument v i) ih
  written_filled (hole i) c u ih = pair_eq refl ih

-- NO CAPTURE: where no binder's name is free in what is put below it, filling as the text stands is filling by indices
pub textual_filled : (τ : NamedFilling) (u : Forest Named) → Uncaught τ u → nameless [] (textual τ u) ≡ filled (meant_by τ) (nameless [] u)
textual_filled τ u a = put_fill (as_written τ) (fill_handler (meant_by τ)) (slot_uncaught τ) [] (written_filled τ) [] u a

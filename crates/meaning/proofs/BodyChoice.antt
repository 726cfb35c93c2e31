-- Bodies and choices: the holes of a body that fills to a face are a choice of the face, and there are as many as the choice has nodes.
--   Along   a relation between each node's mark and its view, in preorder
use mathlib.Core.Path.{◌≡◌, refl, ap, sym, ◌∙◌, subst}
use Prim.Native.Nat.{ℕ, zero, suc, ◌+◌, ◌<◌, ◌≤◌}
use mathlib.Core.Bool.{false}
use mathlib.Core.List.{List, [], ◌∷◌, ◌++◌}
use mathlib.Core.Option.{none, some}
use native.Mathlib.Omega.{arith}
use lib.ListN.{length, take, drop, get_elem?, length-drop}
use lib.Seq.{take-add, take-length}
use Rattle.meaning.specs.Term.{nil, cons, one, size, own, slot, symbol, variable, application, binder, Nameless, Terms, Term, inner}
use Rattle.meaning.specs.Term.{IsExpression}
use Rattle.meaning.specs.Shift.{shift_term}
use Rattle.meaning.specs.Equal.{View, view}
use Rattle.meaning.specs.Choice.{Mark, Marks, Owner, owner_of, below, views_from, views, uses_face, Choice, punch, set_size, holes_in}
use Rattle.meaning.proofs.ChoiceLaws.{length_views, at_other}
use Rattle.meaning.proofs.Lowered.{view_shift, view_shift_unbound}
use Rattle.meaning.proofs.Punching.{Fits, Clear, blank, size_blank}
use Rattle.meaning.proofs.Apart.{clear_apart, choice_clear}
use Rattle.meaning.proofs.Lists.{never}

-- The marks run at least as far as the views
abbrev Along : (Mark → View Owner → Type 0) → Marks → List (View Owner) → Type 0
Along R ms [] = Unit {0}
Along R [] (v ∷ vs) = ⊥
Along R (m ∷ ms) (v ∷ vs) = R m v × Along R ms vs

module _ (R : Mark → View Owner → Type 0) where
  along_append : (ms : Marks) (us vs : List (View Owner)) → Along R ms us → Along R (drop (length us) ms) vs → Along R ms (us ++ vs)
  along_append ms [] vs a b = b
  along_append [] (u ∷ us) vs a b = absurd a
  along_append (m ∷ ms) (u ∷ us) vs a b = (a.0, along_append ms us vs a.1 b)

  along_at : (ms : Marks) (vs : List (View Owner)) → Along R ms vs → (k : ℕ) (m : Mark) (v : View Owner) → get_elem? ms k ≡ some m
      → get_elem? vs k ≡ some v → R m v
  along_at ms [] a k m v e f = never (cc)
  along_at [] (u ∷ us) a k m v e f = absurd a
  along_at (x ∷ ms) (u ∷ us) a zero m v e f =
      let p : x ≡ m = cc in let q : u ≡ v = cc in subst (λ (y : Mark). R y v) p (subst (R x) q a.0)
  along_at (x ∷ ms) (u ∷ us) a (suc k) m v e f = along_at ms us a.1 k m v e f

-- The nodes of a forest
module _ (R : Mark → View Owner → Type 0) (bs : List ℕ) (n : ℕ) (l : Nameless) (c s : Terms) (ms : Marks) where
  abbrev in_children : List (View Owner)
  in_children = views_from (below n l bs) (suc n) c

  node_along : Along R ms in_children → Along R (drop (size c) ms) (views_from bs (suc n + size c) s)
      → Along R ms (in_children ++ views_from bs (suc n + size c) s)
  node_along a b =
      along_append R ms in_children (views_from bs (suc n + size c) s) a
      (subst (λ (k : ℕ). Along R (drop k ms) (views_from bs (suc n + size c) s)) (sym (length_views (below n l bs) (suc n) c)) b)

binders_below : (n : ℕ) (l : Nameless) (bs : List ℕ) → inner l (length bs) ≡ length (below n l bs)
binders_below n (own (symbol m)) bs = refl
binders_below n (own (variable v)) bs = refl
binders_below n (own (application m)) bs = refl
binders_below n (own (binder b x)) bs = refl
binders_below n (slot z) bs = refl

-- A marked node is seen as its argument is
abbrev SeenAs : (ℕ → Term) → Mark → View Owner → Type 0
SeenAs a m v = (i : ℕ) → m ≡ some i → (v ≡ view (owner_of []) (one (a i))) × (uses_face v ≡ false)

unmarked : {A : Type 0} (i : ℕ) → ◌≡◌ {A = Mark} none (some i) → A
unmarked i e = never (cc)

blank_along : (a : ℕ → Term) (ms : Marks) (vs : List (View Owner)) → take (length vs) ms ≡ blank (length vs) → Along (SeenAs a) ms vs
blank_along a ms [] e = tt
blank_along a [] (v ∷ vs) e = never (cc)
blank_along a (none ∷ ms) (v ∷ vs) e = (λ i q. unmarked i q, blank_along a ms vs (cc))
blank_along a (some j ∷ ms) (v ∷ vs) e = never (cc)

module _ (a : ℕ → Term) where
  fits_along : (bs : List ℕ) (n : ℕ) (ms : Marks) (u : Terms) → size u ≤ length ms → Fits a (length bs) ms u → Clear ms u
      → Along (SeenAs a) ms (views_from bs n u)
  fits_along bs n ms nil h f g = tt
  fits_along bs n [] (cons l c s) h f g = absurd (omega arith)
  fits_along bs n (none ∷ ms) (cons l c s) h f g = (
    λ i q. unmarked i q,
    node_along (SeenAs a) bs n l c s ms
        (fits_along (below n l bs) (suc n) ms c (omega arith) (subst (λ (k : ℕ). Fits a k ms c) (binders_below n l bs) f.0) g.0)
        (fits_along bs (suc n + size c) (drop (size c) ms) s (rw length-drop (omega arith)) f.1 g.1),
  )
  fits_along bs n (some j ∷ ms) (cons l c s) h f g = (
    λ i q. seen i (let w : j ≡ i = cc in w),
    node_along (SeenAs a) bs n l c s ms
        (blank_along a ms (views_from (below n l bs) (suc n) c) (rw (length_views (below n l bs) (suc n) c) g.0))
        (fits_along bs (suc n + size c) (drop (size c) ms) s (rw length-drop (omega arith)) f.1 g.1),
  )
    where
      seen : (i : ℕ) → j ≡ i → (view (owner_of bs) (one (l, c)) ≡ view (owner_of []) (one (a i)))
          × (uses_face (view (owner_of bs) (one (l, c))) ≡ false)
      seen i q =
          let e : ◌≡◌ {A = Term} (shift_term (length bs) (a i)) (l, c) = ap (λ (x : ℕ). shift_term (length bs) (a x)) (sym q) ∙ f.0 in (
            ap (λ (t : Term). view (owner_of bs) (one t)) (sym e) ∙ view_shift bs (a i),
            ap (λ (t : Term). uses_face (view (owner_of bs) (one t))) (sym e) ∙ view_shift_unbound bs (a i),
          )

  -- THE HOLES OF A BODY ARE A CHOICE
  pub fits_choice : (n : ℕ) (face : Term) (ms : Marks) → length ms ≡ size (one face) → ((k i : ℕ) → get_elem? ms k ≡ some (some i) → i < n)
      → Fits a 0 ms (one face) → Clear ms (one face) → Choice n face ms
  fits_choice n face ms l small f g = record {
    long = l;
    places = small;
    equal = λ j k i x y. seen_at j i x ∙ sym (seen_at k i y);
    unbound = λ k i u x y. (along_at (SeenAs a) ms (views face) all k (some i) u x y i refl).1;
    apart = clear_apart face ms g;
  }
    where
      all : Along (SeenAs a) ms (views face)
      all = fits_along [] 0 ms (one face) (omega arith) f g

      seen_at : (k i : ℕ) → get_elem? ms k ≡ some (some i) → get_elem? (views face) k ≡ some (view (owner_of []) (one (a i)))
      seen_at k i x =
          let v = at_other ms (views face) k (some i) (l ∙ sym (length_views [] 0 (one face))) x in
          v.1 ∙ ap some (along_at (SeenAs a) ms (views face) all k (some i) v.0 x v.1 i refl).0

-- The size of a set
size_append : (ms ns : Marks) → set_size (ms ++ ns) ≡ set_size ms + set_size ns
size_append [] ns = omega arith
size_append (none ∷ ms) ns = size_append ms ns
size_append (some i ∷ ms) ns = let h = size_append ms ns in omega arith

size_front : (n m : ℕ) (ms : Marks) → set_size (take (n + m) ms) ≡ set_size (take n ms) + set_size (take m (drop n ms))
size_front n m ms = ap set_size (take-add n m ms) ∙ size_append (take n ms) (take m (drop n ms))

holes_counted : (ms : Marks) (u : Terms) → IsExpression u → size u ≤ length ms → Clear ms u
    → holes_in (punch ms u) ≡ set_size (take (size u) ms)
holes_counted ms nil x h g = refl
holes_counted ms (cons (slot z) c s) x h g = absurd x.0
holes_counted [] (cons (own o) c s) x h g = absurd (omega arith)
holes_counted (none ∷ ms) (cons (own o) c s) x h g =
    let a = holes_counted ms c x.1 (omega arith) g.0 in
    let b = holes_counted (drop (size c) ms) s x.2 (rw length-drop (omega arith)) g.1 in
    let f = size_front (size c) (size s) ms in
    omega arith
holes_counted (some i ∷ ms) (cons (own o) c s) x h g =
    let b = holes_counted (drop (size c) ms) s x.2 (rw length-drop (omega arith)) g.1 in
    let f = size_front (size c) (size s) ms in
    let e : set_size (take (size c) ms) ≡ 0 = ap set_size g.0 ∙ size_blank (size c) in
    omega arith

-- "a body's number of holes is the size of its set"
pub holes_are_set : (n : ℕ) (face : Term) (ms : Marks) → IsExpression (one face) → Choice n face ms
    → holes_in (punch ms (one face)) ≡ set_size ms
holes_are_set n face ms x c =
    let l : length ms ≡ size (one face) = c.long in
    holes_counted ms (one face) x (omega arith) (choice_clear n face ms c) ∙ ap set_size (ap (λ (k : ℕ). take k ms) (sym l) ∙ take-length ms)

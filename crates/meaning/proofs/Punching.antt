-- Bodies and the expressions that they fill to: a body is its filled expression with the argument's places punched out again.
--   Fits      each marked node is the argument of its mark, moved under the binders above it
--   Clear     no mark stands below a marked node
--   holes_of   the marks of a body's holes in the filled body
use mathlib.Core.Path.{◌≡◌, refl, ap, ap₂, sym, ◌∙◌}
use Prim.Native.Nat.{ℕ, zero, suc, ◌+◌, ◌≤◌}
use mathlib.Core.List.{[], ◌∷◌, ◌++◌}
use mathlib.Core.Option.{none, some}
use lib.ListN.{length, take, drop, replicate, length-append, length-replicate, length-drop}
use lib.Seq.{drop-append-le, drop_at, take_at, take-add, take-length, take-append-le}
use native.Mathlib.Omega.{arith}
use Rattle.meaning.specs.Term.{Forest, nil, cons, Tree, graft, size, own, slot, metavariable, function, hole, Terms, Term, inner}
use Rattle.meaning.specs.Term.{IsExpression}
use Rattle.meaning.specs.Shift.{shift, shift_term}
use Rattle.meaning.specs.Filling.{fill, plug_handler, IsBody}
use Rattle.meaning.specs.Choice.{Mark, Marks, mark, rest, punch, set_size}
use Rattle.meaning.proofs.ShiftLaws.{shift_size}
use Rattle.meaning.proofs.Lists.{never}

abbrev pub plug_all : (ℕ → Term) → ℕ → Terms → Terms
plug_all a k u = fill (plug_handler a) k u

pub graft_eq : {L : Type 0} {t u : Tree L} {s r : Forest L} → t ≡ u → s ≡ r → graft t s ≡ graft u r
graft_eq {L} p q = ap₂ (λ (x : Tree L) (y : Forest L). graft x y) p q

abbrev pub FitsNode : Mark → (ℕ → Term) → ℕ → Term → Type 0 → Type 0
FitsNode none a k t below = below
FitsNode (some i) a k t below = shift_term k (a i) ≡ t

abbrev pub Fits : (ℕ → Term) → ℕ → Marks → Terms → Type 0
Fits a k ms nil = Unit {0}
Fits a k ms (cons l c s) = FitsNode (mark ms) a k (l, c) (Fits a (inner l k) (rest ms) c) × Fits a k (drop (size c) (rest ms)) s

abbrev pub blank : ℕ → Marks
blank n = replicate n none

abbrev pub ClearNode : Mark → Type 0 → Type 0 → Type 0
ClearNode none below unmarked = below
ClearNode (some i) below unmarked = unmarked

abbrev pub Clear : {L : Type 0} → Marks → Forest L → Type 0
Clear ms nil = Unit {0}
Clear ms (cons l c s) = ClearNode (mark ms) (Clear (rest ms) c) (take (size c) (rest ms) ≡ blank (size c))
    × Clear (drop (size c) (rest ms)) s

abbrev pub holes_of : (ℕ → Term) → Terms → Marks
holes_of a nil = []
holes_of a (cons (own o) c s) = none ∷ (holes_of a c ++ holes_of a s)
holes_of a (cons (slot (metavariable m)) c s) = none ∷ (holes_of a c ++ holes_of a s)
holes_of a (cons (slot (function m d)) c s) = none ∷ (holes_of a c ++ holes_of a s)
holes_of a (cons (slot (hole i)) c s) = some i ∷ (blank (size (a i).1) ++ holes_of a s)

-- What lies past a forest's own marks is not read
module _ (b : Marks) where
  punch_more : (ms : Marks) (u : Terms) → size u ≤ length ms → punch (ms ++ b) u ≡ punch ms u
  punch_more ms nil h = refl
  punch_more [] (cons l c s) h = absurd (omega arith)
  punch_more (m ∷ ms) (cons l c s) h =
      rw (
        punch_more ms c (omega arith),
        drop-append-le (size c) ms b (omega arith),
        punch_more (drop (size c) ms) s (rw length-drop (omega arith)),
      )

  fits_more : (a : ℕ → Term) (k : ℕ) (ms : Marks) (u : Terms) → size u ≤ length ms → Fits a k ms u → Fits a k (ms ++ b) u
  fits_more a k ms nil h f = tt
  fits_more a k [] (cons l c s) h f = absurd (omega arith)
  fits_more a k (none ∷ ms) (cons l c s) h f = (
    fits_more a (inner l k) ms c (omega arith) f.0,
    rw (drop-append-le (size c) ms b (omega arith)) (fits_more a k (drop (size c) ms) s (rw length-drop (omega arith)) f.1),
  )
  fits_more a k (some i ∷ ms) (cons l c s) h f =
      (f.0, rw (drop-append-le (size c) ms b (omega arith)) (fits_more a k (drop (size c) ms) s (rw length-drop (omega arith)) f.1))

  clear_more : (ms : Marks) (u : Terms) → size u ≤ length ms → Clear ms u → Clear (ms ++ b) u
  clear_more ms nil h f = tt
  clear_more [] (cons l c s) h f = absurd (omega arith)
  clear_more (none ∷ ms) (cons l c s) h f = (
    clear_more ms c (omega arith) f.0,
    rw (drop-append-le (size c) ms b (omega arith)) (clear_more (drop (size c) ms) s (rw length-drop (omega arith)) f.1),
  )
  clear_more (some i ∷ ms) (cons l c s) h f = (
    rw (take-append-le (size c) ms b (omega arith)) f.0,
    rw (drop-append-le (size c) ms b (omega arith)) (clear_more (drop (size c) ms) s (rw length-drop (omega arith)) f.1),
  )

pub blank_length : (n : ℕ) → length (blank n) ≡ n
blank_length n = length-replicate {A = Mark} n none

pub size_blank : (n : ℕ) → set_size (blank n) ≡ 0
size_blank zero = refl
size_blank (suc n) = size_blank n

hole_length : (a : ℕ → Term) (k i : ℕ) → length (blank (size (a i).1)) ≡ size (shift k (inner (a i).0 0) (a i).1)
hole_length a k i = blank_length (size (a i).1) ∙ sym (shift_size k (inner (a i).0 0) (a i).1)

-- The holes of a body in the body filled with a, under k binders
module _ (a : ℕ → Term) where
  pub holes_length : (k : ℕ) (b : Terms) → length (holes_of a b) ≡ size (plug_all a k b)
  holes_length k nil = refl
  holes_length k (cons (own o) c s) =
      rw (length-append (holes_of a c) (holes_of a s), holes_length (inner (own o) k) c, holes_length k s)
  holes_length k (cons (slot (metavariable m)) c s) = rw (length-append (holes_of a c) (holes_of a s), holes_length k c, holes_length k s)
  holes_length k (cons (slot (function m d)) c s) = rw (length-append (holes_of a c) (holes_of a s), holes_length k c, holes_length k s)
  holes_length k (cons (slot (hole i)) c s) =
      rw (
        length-append (blank (size (a i).1)) (holes_of a s),
        blank_length (size (a i).1),
        holes_length k s,
        shift_size k (inner (a i).0 0) (a i).1,
      )

  module _ (n : ℕ) where
    pub punch_holes : (k : ℕ) (b : Terms) → IsBody n b → punch (holes_of a b) (plug_all a k b) ≡ b
    punch_holes k nil h = refl
    punch_holes k (cons (own o) c s) h =
        let e : length (holes_of a c) ≡ size (plug_all a (inner (own o) k) c) = holes_length (inner (own o) k) c in
        rw (
          punch_more (holes_of a s) (holes_of a c) (plug_all a (inner (own o) k) c) (omega arith),
          drop_at (holes_of a c) (holes_of a s) (size (plug_all a (inner (own o) k) c)) e,
          punch_holes (inner (own o) k) c h.1,
          punch_holes k s h.2,
        )
    punch_holes k (cons (slot (metavariable m)) c s) h = absurd h.0
    punch_holes k (cons (slot (function m d)) c s) h = absurd h.0
    punch_holes k (cons (slot (hole i)) c s) h =
        rw (
          drop_at (blank (size (a i).1)) (holes_of a s) (size (shift k (inner (a i).0 0) (a i).1)) (hole_length a k i),
          punch_holes k s h.2,
          h.0.1,
        )

    pub fits_holes : (k : ℕ) (b : Terms) → IsBody n b → Fits a k (holes_of a b) (plug_all a k b)
    fits_holes k nil h = tt
    fits_holes k (cons (own o) c s) h =
        let e : length (holes_of a c) ≡ size (plug_all a (inner (own o) k) c) = holes_length (inner (own o) k) c in (
          fits_more (holes_of a s) a (inner (own o) k) (holes_of a c) (plug_all a (inner (own o) k) c) (omega arith)
              (fits_holes (inner (own o) k) c h.1),
          rw (drop_at (holes_of a c) (holes_of a s) (size (plug_all a (inner (own o) k) c)) e) (fits_holes k s h.2),
        )
    fits_holes k (cons (slot (metavariable m)) c s) h = absurd h.0
    fits_holes k (cons (slot (function m d)) c s) h = absurd h.0
    fits_holes k (cons (slot (hole i)) c s) h = (
      refl,
      rw (drop_at (blank (size (a i).1)) (holes_of a s) (size (shift k (inner (a i).0 0) (a i).1)) (hole_length a k i))
          (fits_holes k s h.2),
    )

    pub clear_holes : (k : ℕ) (b : Terms) → IsBody n b → Clear (holes_of a b) (plug_all a k b)
    clear_holes k nil h = tt
    clear_holes k (cons (own o) c s) h =
        let e : length (holes_of a c) ≡ size (plug_all a (inner (own o) k) c) = holes_length (inner (own o) k) c in (
          clear_more (holes_of a s) (holes_of a c) (plug_all a (inner (own o) k) c) (omega arith) (clear_holes (inner (own o) k) c h.1),
          rw (drop_at (holes_of a c) (holes_of a s) (size (plug_all a (inner (own o) k) c)) e) (clear_holes k s h.2),
        )
    clear_holes k (cons (slot (metavariable m)) c s) h = absurd h.0
    clear_holes k (cons (slot (function m d)) c s) h = absurd h.0
    clear_holes k (cons (slot (hole i)) c s) h =
        let e : length (blank (size (a i).1)) ≡ size (shift k (inner (a i).0 0) (a i).1) = hole_length a k i in (
          take_at (blank (size (a i).1)) (holes_of a s) (size (shift k (inner (a i).0 0) (a i).1)) e
              ∙ rw (shift_size k (inner (a i).0 0) (a i).1),
          rw (drop_at (blank (size (a i).1)) (holes_of a s) (size (shift k (inner (a i).0 0) (a i).1)) e) (clear_holes k s h.2),
        )

-- Two clear lists of marks that punch out the same body are the same
split_eq : (n m : ℕ) (p q : Marks) → take n p ≡ take n q → take m (drop n p) ≡ take m (drop n q) → take (n + m) p ≡ take (n + m) q
split_eq n m p q e f = take-add n m p ∙ ap₂ (λ (x y : Marks). x ++ y) e f ∙ sym (take-add n m q)

same_front : (p q : Marks) (u : Terms) → IsExpression u → size u ≤ length p → size u ≤ length q → Clear p u → Clear q u
    → punch p u ≡ punch q u → take (size u) p ≡ take (size u) q
same_front p q nil h x y f g e = refl
same_front p q (cons (slot z) c s) h x y f g e = absurd h.0
same_front [] q (cons (own o) c s) h x y f g e = absurd (omega arith)
same_front (none ∷ p) [] (cons (own o) c s) h x y f g e = absurd (omega arith)
same_front (some i ∷ p) [] (cons (own o) c s) h x y f g e = absurd (omega arith)
same_front (none ∷ p) (none ∷ q) (cons (own o) c s) h x y f g e =
    ap (λ (z : Marks). none ∷ z) (split_eq (size c) (size s) p q
    (same_front p q c h.1 (omega arith) (omega arith) f.0 g.0 (cc))
    (same_front (drop (size c) p) (drop (size c) q) s h.2 (rw length-drop (omega arith)) (rw length-drop (omega arith)) f.1 g.1
    (cc)))
same_front (none ∷ p) (some j ∷ q) (cons (own o) c s) h x y f g e = never (cc)
same_front (some i ∷ p) (none ∷ q) (cons (own o) c s) h x y f g e = never (cc)
same_front (some i ∷ p) (some j ∷ q) (cons (own o) c s) h x y f g e =
    let ij : i ≡ j = cc in
    rw ij (ap (λ (z : Marks). some j ∷ z) (split_eq (size c) (size s) p q
    (f.0 ∙ sym g.0)
    (same_front (drop (size c) p) (drop (size c) q) s h.2 (rw length-drop (omega arith)) (rw length-drop (omega arith)) f.1 g.1
    (cc))))

-- UNIQUE
pub punch_unique : (p q : Marks) (u : Terms) → IsExpression u → length p ≡ size u → length q ≡ size u → Clear p u → Clear q u
    → punch p u ≡ punch q u → p ≡ q
punch_unique p q u h x y f g e =
    let t : take (size u) p ≡ take (size u) q = same_front p q u h (omega arith) (omega arith) f g e in
    let l : take (size u) p ≡ p = rw (← x) (take-length p) in
    let r : take (size u) q ≡ q = rw (← y) (take-length q) in
    sym l ∙ t ∙ r

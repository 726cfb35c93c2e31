-- The paths through a face are its choices, in order.
--   accepted_choice   the walk accepts just the choices
--   paths_choices     the two lists are equal
--   paths_are         the paths are just the marks that the walk accepts
--   paths_distinct    no path stands twice among the paths
use mathlib.Core.Path.{◌≡◌, refl, ap, sym, ◌∙◌, subst}
use mathlib.Core.Logic.{◌↔◌}
use Prim.Native.Nat.{ℕ, zero, suc, ◌+◌, ◌<◌, ◌≤◌}
use mathlib.Core.Bool.{Bool, true, false, not}
use mathlib.Core.List.{List, [], ◌∷◌, map}
use mathlib.Core.Option.{none, some, some-injective}
use native.Mathlib.Omega.{arith}
use lib.ListN.{length, get_elem?, replicate, length-replicate}
use lib.Dec.{T}
use Rattle.meaning.specs.Basics.{Distinct, Ordered, each, keep, is_some, ◌∈◌}
use Rattle.meaning.specs.Term.{Term, one, size}
use Rattle.meaning.specs.Equal.{View}
use Rattle.meaning.specs.Choice.{Mark, Marks, Owner, Choice, Earlier, uses_face, views}
use Rattle.meaning.specs.Choices.{all_marks, choices, marks_of}
use Rattle.meaning.proofs.Lists.{T_true, true_T, mem_keep, keep_mem, is_some_lem}
use Rattle.meaning.proofs.Ordered.{all_marks_are, all_marks_ordered, earlier_strict, keep_ordered, ordered_distinct}
use Rattle.meaning.proofs.ChoiceLaws.{at_other, length_views}
use Rattle.meaning.proofs.Determined.{choices_determined}
use Rattle.paths.specs.Words.{accepts, all_words}
use Rattle.paths.specs.Paths.{Node, State, Tells, class_at, letters, next, paths, size_at, takes, unset}
use Rattle.paths.proofs.WordLaws.{words_kept}
use Rattle.paths.proofs.Walking.{Walked, takes_low, accepted_walked, accepted_placed}

unset_takes : (n q c : ℕ) → q < n → T (takes (get_elem? (replicate n none) q) c)
unset_takes zero q c h = absurd (omega arith)
unset_takes (suc n) zero c h = tt
unset_takes (suc n) (suc q) c h = unset_takes n q c (omega arith)

not_some : (b : Bool) → true ≡ not b → b ≡ false
not_some true e = e
not_some false e = refl

module _ (n : ℕ) (face : Term) (xs : List Node) (tells : Tells (views face) xs) (ms : Marks) where
  walked_choice : length ms ≡ size (one face) → Walked (unset n) xs ms → Choice n face ms
  walked_choice l w = record { long = l; places = places; equal = equal; unbound = unbound; apart = apart }
    where
      seen : (k i : ℕ) → get_elem? ms k ≡ some (some i) → (u : View Owner) × (get_elem? (views face) k ≡ some u)
      seen k i e = at_other ms (views face) k (some i) (l ∙ sym (length_views [] 0 (one face))) e

      places : (k i : ℕ) → get_elem? ms k ≡ some (some i) → i < n
      places k i e =
          let (c, h, t) = w.classed k i e in
          subst (λ (m : ℕ). i < m) (length-replicate n none) (takes_low (replicate n none) i c t)

      equal : (j k i : ℕ) → get_elem? ms j ≡ some (some i) → get_elem? ms k ≡ some (some i)
          → get_elem? (views face) j ≡ get_elem? (views face) k
      equal j k i d e =
          let (u, p) = seen j i d in
          let (v, q) = seen k i e in
          let (c, h, t) = w.classed j i d in
          p ∙ ap some ((tells.same j k c u v p q h).0 (sym (w.equal j k i d e) ∙ h)) ∙ sym q

      unbound : (k i : ℕ) (u : View Owner) → get_elem? ms k ≡ some (some i) → get_elem? (views face) k ≡ some u → uses_face u ≡ false
      unbound k i u d e =
          let (c, h, t) = w.classed k i d in not_some (uses_face u) (sym (ap is_some h) ∙ tells.usable k u e)

      apart : (j k h i : ℕ) (u : View Owner) → get_elem? ms j ≡ some (some h) → get_elem? ms k ≡ some (some i)
          → get_elem? (views face) j ≡ some u → j < k → j + size u ≤ k
      apart j k h i u d e f b = let g = w.apart j k h i d e b in let z = tells.sizes j u f in omega arith

  choice_walked : Choice n face ms → Walked (unset n) xs ms
  choice_walked c = record { past = λ k q e. omega arith; classed = classed; equal = equal; apart = apart }
    where
      seen : (k i : ℕ) → get_elem? ms k ≡ some (some i) → (u : View Owner) × (get_elem? (views face) k ≡ some u)
      seen k i e = at_other ms (views face) k (some i) (c.long ∙ sym (length_views [] 0 (one face))) e

      classed : (k q : ℕ) → get_elem? ms k ≡ some (some q)
          → (b : ℕ) × (class_at xs k ≡ some b) × T (takes (get_elem? (replicate n none) q) b)
      classed k q e =
          let (u, p) = seen k q e in
          let (b, h) = is_some_lem (class_at xs k) (tells.usable k u p ∙ ap not (c.unbound k q u e p)) in
          (b, h, unset_takes n q b (c.places k q e))

      equal : (j k q : ℕ) → get_elem? ms j ≡ some (some q) → get_elem? ms k ≡ some (some q) → class_at xs j ≡ class_at xs k
      equal j k q d e =
          let (u, p) = seen j q d in
          let (v, r) = seen k q e in
          let (b, h, t) = classed j q d in
          h ∙ sym ((tells.same j k b u v p r h).1 (some-injective u v (sym p ∙ c.equal j k q d e ∙ r)))

      apart : (j k p q : ℕ) → get_elem? ms j ≡ some (some p) → get_elem? ms k ≡ some (some q) → j < k
          → j + size_at xs j ≤ k
      apart j k p q d e b =
          let (u, f) = seen j p d in
          let g = c.apart j k p q u d e f b in
          let z = tells.sizes j u f in
          omega arith

all_words_marks : (n k : ℕ) → all_words (marks_of n) k ≡ all_marks n k
all_words_marks n zero = refl
all_words_marks n (suc k) = ap (λ (wss : List Marks). each (λ (m : Mark). map (λ (ms : Marks). m ∷ ms) wss) (marks_of n)) (all_words_marks n k)

-- The paths are a part of all ways to mark the nodes, so that they are in order, and none stands twice
paths_kept : (s : State) (xs : List Node) → paths s xs ≡ keep (accepts next s xs) (all_marks (length s.classes) (length xs))
paths_kept s xs =
    words_kept next (letters s) s xs ∙ ap (keep (accepts next s xs)) (all_words_marks (length s.classes) (length xs))

paths_ordered : (s : State) (xs : List Node) → Ordered Earlier (paths s xs)
paths_ordered s xs =
    subst (Ordered Earlier) (sym (paths_kept s xs))
    (keep_ordered Earlier (accepts next s xs) (all_marks (length s.classes) (length xs)) (all_marks_ordered (length s.classes) (length xs)))

pub paths_distinct : (s : State) (xs : List Node) → Distinct (paths s xs)
paths_distinct s xs = ordered_distinct Earlier earlier_strict (paths s xs) (paths_ordered s xs)

-- A PATH is what the walk accepts
pub paths_are : (s : State) (xs : List Node) (ms : Marks) → (ms ∈ paths s xs) ↔ T (accepts next s xs ms)
paths_are s xs ms = (
  λ h. true_T (keep_mem (accepts next s xs) ms all (subst (λ (mss : List Marks). ms ∈ mss) (paths_kept s xs) h)).1,
  λ t.
      let l = ((accepted_walked s xs ms).0 t).0 in
      let m = (all_marks_are (length s.classes) (length xs) ms).1 (l, accepted_placed s xs ms t) in
      subst (λ (mss : List Marks). ms ∈ mss) (sym (paths_kept s xs)) (mem_keep (accepts next s xs) ms all m (T_true t)),
)
  where
    all : List Marks
    all = all_marks (length s.classes) (length xs)

module _ (n : ℕ) (face : Term) (xs : List Node) (tells : Tells (views face) xs) where
  nodes_long_lem : length xs ≡ size (one face)
  nodes_long_lem = tells.long ∙ length_views [] 0 (one face)

  -- A CHOICE is what the walk accepts
  pub accepted_choice : (ms : Marks) → T (accepts next (unset n) xs ms) ↔ Choice n face ms
  accepted_choice ms =
      let q = accepted_walked (unset n) xs ms in (
        λ t. let (l, w) = q.0 t in walked_choice n face xs tells ms (l ∙ nodes_long_lem) w,
        λ c. q.1 (c.long ∙ sym nodes_long_lem, choice_walked n face xs tells ms c),
      )

  -- THE PATHS ARE THE CHOICES
  pub paths_choices : paths (unset n) xs ≡ choices n face
  paths_choices =
      choices_determined n face (paths (unset n) xs) (paths_ordered (unset n) xs)
      (λ ms.
      let q = paths_are (unset n) xs ms in
      let c = accepted_choice ms in
      (λ h. c.0 (q.0 h), λ d. q.1 (c.1 d)))

-- The test of a set: its marks, as far as the face goes, are a path, and it has no nodes after these.
--   as_marks   truth values as marks of one place
--   marks_to   the marks of a set at the first n nodes
--   Tested    what the test knows before node i: the path that was walked, and how many nodes it came to
use mathlib.Core.Path.{◌≡◌, refl, sym, ap, ap₂, ◌∙◌, subst}
use mathlib.Core.Logic.{◌↔◌}
use mathlib.Core.Bool.{Bool, true, false, ◌&&◌, true≢false}
use mathlib.Core.List.{List, [], ◌∷◌, ◌++◌, map}
use mathlib.Core.Option.{Option, none, some}
use Rattle.std.specs.Prelude as code
use Prim.Native.Nat.{ℕ, zero, suc, ◌+◌, ◌-◌, ◌≤◌, ◌<◌}
use native.Mathlib.Omega.{arith}
use lib.ListN.{length, get_or, get_elem?, take, drop, length-map, length-drop, take-append-drop}
use lib.Seq.{get_or-take, take-suc, take_at, length-take-le}
use lib.Dec.{T, eqb, leb}
use borrow.Author.Tests.{eq-eqb, eqb-true, leb-true, leb-false}
use Rattle.meaning.specs.Limits.{max_face_nodes}
use Rattle.meaning.specs.Basics.{All, holds, is_some, ◌∈◌}
use Rattle.meaning.specs.Choice.{Mark, Marks}
use Rattle.meaning.specs.PlaceValue.{mask_of}
use Rattle.meaning.proofs.Lists.{T_true, true_T}
use Rattle.tokens.specs.Key.{at}
use Rattle.masks.specs.Mask.{trues, empty}
use Rattle.masks.specs.Sets.{width, mask, nodes}
use Rattle.masks.specs.declared.NodeSet.{NodeSet}
use Rattle.masks.proofs.Marks.{length_marks}
use Rattle.masks.proofs.Words.{trues_append}
use Rattle.paths.specs.Words.{accepts}
use Rattle.paths.specs.Paths.{Node, next, one_place, takes, unset}
use Rattle.paths.proofs.Walking.{accepted_walked, accepted_placed}
use Rattle.meaning.proofs.Ordered.{Placed}
use Rattle.paths.proofs.OnePlace.{walk_end, walk_none, walk_hole, walk_below, walk_refused}
use Rattle.choosing.specs.FaceNodes.{size_from, class_from, nodes_from}
use Rattle.choosing.specs.Rows.{choices_from}
use Rattle.choosing.specs.Walk.{Begun, HoledAt, Marked, class_in, class_of, opens_at, state_of}
use Rattle.choosing.specs.declared.Walk.{Walk}
use Rattle.choosing.proofs.FaceNodes.{nodes_long_lem, nodes_size, nodes_class}
use Rattle.choosing.proofs.RowSteps.{choice_path, path_choice}
use Rattle.choosing.proofs.SetMarks.{same_room, mask_marked, marked_mask}
use Rattle.choosing.proofs.WalkLaws.{opening}

-- ---- truth values and marks

abbrev to_mark : Bool → Mark
to_mark true = some 0
to_mark false = none

abbrev as_marks : List Bool → Marks
as_marks l = map to_mark l

marks_back : (l : List Bool) → map is_some (as_marks l) ≡ l
marks_back [] = refl
marks_back (true ∷ l) = ap {B = List Bool} (λ r. true ∷ r) (marks_back l)
marks_back (false ∷ l) = ap {B = List Bool} (λ r. false ∷ r) (marks_back l)

-- Marks of one place are those of their truth values
marks_one : (ms : Marks) → All (Placed 1) ms → as_marks (map is_some ms) ≡ ms
marks_one [] a = refl
marks_one (none ∷ ms) a = ap {B = Marks} (λ r. none ∷ r) (marks_one ms a.1)
marks_one (some zero ∷ ms) a = ap {B = Marks} (λ r. some 0 ∷ r) (marks_one ms a.1)
marks_one (some (suc q) ∷ ms) a = absurd (omega (arith, a.0))

mark_at : (l : List Bool) (k : ℕ) → k < length l → get_elem? (as_marks l) k ≡ some (to_mark (get_or l k false))
mark_at [] k h = absurd (omega arith)
mark_at (b ∷ l) zero h = refl
mark_at (b ∷ l) (suc k) h = mark_at l k (omega arith)

-- ---- a set's marks

abbrev marks_to : NodeSet → ℕ → Marks
marks_to s n = as_marks (take n (nodes s))

length_nodes : (s : NodeSet) → length (nodes s) ≡ width
length_nodes s = length_marks width (mask s)

module _ (s : NodeSet) (n : ℕ) (fits : n ≤ width) where
  length_front : length (take n (nodes s)) ≡ n
  length_front = length-take-le n (nodes s) (omega (arith, length_nodes s, fits))

  length_to : length (marks_to s n) ≡ n
  length_to = length-map (take n (nodes s)) to_mark ∙ length_front

  mark_to : (k : ℕ) → k < n → get_elem? (marks_to s n) k ≡ some (to_mark (get_or (nodes s) k false))
  mark_to k h =
      mark_at (take n (nodes s)) k (omega (arith, length_front))
      ∙ ap (λ (b : Bool). some (to_mark b)) (get_or-take n (nodes s) k false h)

-- ---- no nodes after the first n

none_left : (l : List Bool) → trues l ≡ 0 → l ≡ empty (length l)
unfolding trues
none_left [] e = refl
none_left (true ∷ l) e = absurd (omega arith)
none_left (false ∷ l) e = ap {B = List Bool} (λ r. false ∷ r) (none_left l e)

empty_trues : (k : ℕ) → trues (empty k) ≡ 0
unfolding trues
empty_trues zero = refl
empty_trues (suc k) = empty_trues k

split_trues : (n : ℕ) (l : List Bool) → trues l ≡ trues (take n l) + trues (drop n l)
split_trues n l = ap trues (sym (take-append-drop n l)) ∙ trues_append (take n l) (drop n l)

-- ---- what the set is

module _ (ns es : List ℕ) (root : ℕ) (fits : size_from es root ≤ max_face_nodes) (s : NodeSet) where
  abbrev xs : List Node
  xs = nodes_from ns es root

  abbrev n : ℕ
  n = size_from es root

  abbrev ms : Marks
  ms = marks_to s n

  narrow : n ≤ width
  narrow = subst (λ (k : ℕ). n ≤ k) same_room fits

  long : length ms ≡ length xs
  long = length_to s n narrow ∙ sym (nodes_long_lem ns es root)

  -- A set that is a choice, by its marks
  record Chosen : Type 0 where
    accepted : T (accepts next (unset 1) xs ms)
    all : trues (take n (nodes s)) ≡ trues (nodes s)

  chosen_choice : Chosen → mask s ∈ choices_from ns es root
  unfolding Marked
  chosen_choice h = subst (λ (m : ℕ). m ∈ choices_from ns es root) (sym is) (path_choice ns es root ms h.accepted)
    where
      rest : drop n (nodes s) ≡ empty (width - length ms)
      rest =
          none_left (drop n (nodes s)) (omega (arith, h.all, split_trues n (nodes s)))
          ∙ ap empty (length-drop n (nodes s) ∙ ap₂ (λ (a b : ℕ). a - b) (length_nodes s) (sym (length_to s n narrow)))

      marked : Marked s ms
      marked =
          sym (take-append-drop n (nodes s))
          ∙ ap₂ (λ (a b : List Bool). a ++ b) (sym (marks_back (take n (nodes s)))) rest

      is : mask s ≡ mask_of max_face_nodes ms
      is = marked_mask s ms (omega (arith, length_to s n narrow, fits)) marked

  choice_chosen : mask s ∈ choices_from ns es root → Chosen
  unfolding Marked
  choice_chosen m = go (choice_path ns es root (mask s) m)
    where
      go : (us : Marks) × T (accepts next (unset 1) xs us) × (mask s ≡ mask_of max_face_nodes us) → Chosen
      go (us, t, e) =
          let l : length us ≡ n = ((accepted_walked (unset 1) xs us).0 t).0 ∙ nodes_long_lem ns es root in
          let marked = mask_marked s us (omega (arith, l, fits)) e in
          let front : take n (nodes s) ≡ map is_some us =
          ap (take n) marked ∙ take_at (map is_some us) (empty (width - length us)) n (length-map us is_some ∙ l) in
          let same : ms ≡ us = ap as_marks front ∙ marks_one us (accepted_placed (unset 1) xs us t) in
          record {
            accepted = subst (λ (vs : Marks). T (accepts next (unset 1) xs vs)) (sym same) t;
            all = omega (
              arith,
              ap trues front,
              ap trues marked,
              trues_append (map is_some us) (empty (width - length us)),
              empty_trues (width - length us),
            );
          }

  -- ---- the walk

  pub record Tested (w : Walk) (met i : ℕ) : Type 0 where
    pub walked : accepts next (unset 1) xs ms ≡ accepts next (state_of w i) (drop i xs) (drop i ms)
    pub count : met ≡ trues (take i (nodes s))

  pub tested_begun : (w : Walk) → Begun w → Tested w 0 0
  unfolding trues
  tested_begun w b =
      let z : w.end - 0 ≡ 0 = omega (arith, b.end) in
      record {
        walked = sym (ap₂ (λ (k : ℕ) (o : code.Option ℕ). accepts next (one_place k (class_in o)) xs ms) z b.class);
        count = refl;
      }

  module _ (w : Walk) (met i : ℕ) (h : i < n) (t : Tested w met i) where
    inside : i < length xs
    inside = omega (arith, nodes_long_lem ns es root)

    more : (b : Bool) → get_or (nodes s) i false ≡ b → trues (take (suc i) (nodes s)) ≡ met + trues (b ∷ [])
    more b e =
        ap trues (take-suc (nodes s) i false (omega (arith, length_nodes s, narrow)) ∙ ap (λ (c : Bool). take i (nodes s) ++ (c ∷ [])) e)
        ∙ trues_append (take i (nodes s)) (b ∷ []) ∙ ap (λ (k : ℕ). k + trues (b ∷ [])) (sym t.count)

    pub tested_none : get_or (nodes s) i false ≡ false → Tested w met (suc i)
    unfolding trues
    tested_none e = record {
      walked = t.walked ∙ walk_none xs ms i w.end (class_of w) inside (mark_to s n narrow i h ∙ ap (λ (b : Bool). some (to_mark b)) e);
      count = omega (arith, more false e);
    }

    module _ (e : get_or (nodes s) i false ≡ true) where
      marked_here : get_elem? ms i ≡ some (some 0)
      marked_here = mark_to s n narrow i h ∙ ap (λ (b : Bool). some (to_mark b)) e

      pub tested_hole : (r : Walk) → opens_at ns es root w i ≡ true → HoledAt ns es root i r → Tested r (suc met) (suc i)
      unfolding trues
      tested_hole r o g =
          let q = opening ns es root i w o in
          record {
            walked = t.walked
                ∙ walk_hole xs ms i w.end (class_of w) inside marked_here q.past (at ns (root + i)) (nodes_class ns es root i h ∙ q.class)
                q.taken
                ∙ ap₂ (λ (k : ℕ) (c : Option ℕ). accepts next (one_place (k - suc i) c) (drop (suc i) xs) (drop (suc i) ms))
                (sym (g.end ∙ ap (λ (k : ℕ). i + k) (sym (nodes_size ns es root i h)))) (sym g.class);
            count = omega (arith, more true e);
          }

      -- A node of the set that may not become a hole: the set is no choice
      pub tested_refused : opens_at ns es root w i ≡ false → mask s ∈ choices_from ns es root → ⊥
      unfolding opens_at
      tested_refused o m = true≢false (sym (T_true (choice_chosen m).accepted) ∙ t.walked ∙ go (leb w.end i) refl o)
        where
          go : (b : Bool) → leb w.end i ≡ b → b && holds (takes (some (class_of w))) (class_from ns es root i) ≡ false
              → accepts next (state_of w i) (drop i xs) (drop i ms) ≡ false
          go true p f =
              walk_refused xs ms i w.end (class_of w) inside marked_here (leb-true w.end i p)
              (ap (holds (takes (some (class_of w)))) (nodes_class ns es root i h) ∙ f)
          go false p f = walk_below xs ms i w.end (class_of w) inside marked_here (leb-false w.end i p)

  -- Past the last node: the set is a choice exactly when the walk came to all of its nodes
  pub tested_done : (w : Walk) (met i holes : ℕ) → i ≡ n → Tested w met i → holes ≡ trues (nodes s)
      → (eqb met holes ≡ true) ↔ (mask s ∈ choices_from ns es root)
  tested_done w met i holes e t c =
      let count : met ≡ trues (take n (nodes s)) = t.count ∙ ap (λ (k : ℕ). trues (take k (nodes s))) e in (
        λ q. chosen_choice
            (record {
              accepted = true_T (t.walked ∙ walk_end xs ms i w.end (class_of w) long (omega (arith, nodes_long_lem ns es root)));
              all = sym count ∙ eqb-true met holes q ∙ c;
            }),
        λ m. eq-eqb met holes (count ∙ (choice_chosen m).all ∙ sym c),
      )

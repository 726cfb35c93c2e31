-- What loops over the functions need: the choices of each, the first, the one after a choice and the last, and the rows made of them.
use mathlib.Core.Path.{◌≡◌, refl, ap, sym, ◌∙◌}
use mathlib.Core.Logic.{⊎_elim}
use mathlib.Core.Bool.{true, false, true≢false, false≢true}
use mathlib.Core.List.Memᴰ
use mathlib.Core.List.{List, [], ◌∷◌, ◌++◌, map, append_assoc, map-append}
use mathlib.Core.Option.{none, some}
use Prim.Native.Nat.{ℕ, zero, suc, ◌+◌, ◌<◌, ◌≤◌}
use native.Mathlib.Omega.{arith}
use lib.Dec.{T}
use lib.ListN.{length, get_or, get_elem?, replicate, set}
use borrow.Author.Tests.{lt-ltb, le-ltb}
use Rattle.meaning.specs.Limits.{max_face_nodes, max_functions}
use Rattle.meaning.specs.Basics.{◌∈◌, Distinct}
use Rattle.meaning.specs.Choice.{Marks}
use Rattle.meaning.specs.Search.{at, place_of}
use Rattle.meaning.specs.PlaceValue.{mask_of}
use Rattle.meaning.proofs.Lists.{choose_false, choose_true, distinct_map, map_mem, mem_map, never}
use Rattle.meaning.proofs.PlaceLaws.{OnePlace, mask_injective}
use Rattle.tokens.specs.Key as table
use Rattle.masks.proofs.Cases.{lt_or_ge}
use Rattle.paths.specs.Words.{accepts}
use Rattle.paths.specs.Paths.{first_path, next, next_path, paths, unset}
use Rattle.paths.proofs.Walking.{accepted_walked, takes_low}
use Rattle.paths.proofs.PathLaws.{paths_are, paths_distinct}
use Rattle.paths.proofs.PathOrder.{paths_first, paths_last, paths_next}
use Rattle.choosing.specs.FaceNodes.{Faces, nodes_from, size_from}
use Rattle.choosing.specs.Rows.{MaskRow, Steps, behind, choices_at, choices_from, first_at, first_from, mask_rows}
use Rattle.choosing.proofs.FaceNodes.{nodes_long_lem}
use Rattle.choosing.proofs.Stepping.{Carried, Fresh, all_are, all_once, all_from, behind_is, carried_end, carried_step, first_of_all}
use Rattle.choosing.proofs.Stepping.{firsts_at, firsts_from, fresh_all, rows_after_lem, rows_after}

mask_clear : (w n : ℕ) → mask_of w (replicate n none) ≡ 0
unfolding mask_of
mask_clear w zero = refl
mask_clear zero (suc n) = refl
mask_clear (suc w) (suc n) = omega (arith, mask_clear w n)

-- A list that begins with an element
begins : {A : Type 0} (xs : List A) (x : A) → get_elem? xs 0 ≡ some x → (ys : List A) × (xs ≡ x ∷ ys)
begins [] x e = never (cc)
begins {A} (y ∷ ys) x e = (ys, let z : y ≡ x = cc in ap {B = List A} (λ (w : A). w ∷ ys) z)

-- ---- the choices of one face

module _ (ns es : List ℕ) (root : ℕ) where
  abbrev marked : Marks → ℕ
  marked ms = mask_of max_face_nodes ms

  -- A CHOICE is the mask of a path
  pub choice_path : (m : ℕ) → m ∈ choices_from ns es root → (ms : Marks) × T (accepts next (unset 1) (nodes_from ns es root) ms) × (m ≡ marked ms)
  unfolding choices_from
  choice_path m h =
      let (ms, i, e) = map_mem marked m (paths (unset 1) (nodes_from ns es root)) h in
      (ms, (paths_are (unset 1) (nodes_from ns es root) ms).0 i, e)

  pub path_choice : (ms : Marks) → T (accepts next (unset 1) (nodes_from ns es root) ms) → marked ms ∈ choices_from ns es root
  unfolding choices_from
  path_choice ms t = mem_map marked ((paths_are (unset 1) (nodes_from ns es root) ms).1 t)

  path_long : (ms : Marks) → T (accepts next (unset 1) (nodes_from ns es root) ms) → length ms ≡ size_from es root
  path_long ms t = ((accepted_walked (unset 1) (nodes_from ns es root) ms).0 t).0 ∙ nodes_long_lem ns es root

  pub path_place : (ms : Marks) → T (accepts next (unset 1) (nodes_from ns es root) ms) → OnePlace ms
  path_place ms t k i e =
      let (c, h, g) = ((accepted_walked (unset 1) (nodes_from ns es root) ms).0 t).1.classed k i e in
      let l = takes_low (none ∷ []) i c g in
      omega arith

  module _ (fits : size_from es root ≤ max_face_nodes) where
    -- two paths have two masks
    pub path_mask : (ms us : Marks) → T (accepts next (unset 1) (nodes_from ns es root) ms) → T (accepts next (unset 1) (nodes_from ns es root) us)
        → marked ms ≡ marked us
        → ms ≡ us
    path_mask ms us s t e =
        mask_injective max_face_nodes ms us (omega (arith, path_long ms s)) (path_long ms s ∙ sym (path_long us t)) (path_place ms s)
        (path_place us t) e

    pub choices_once : Distinct (choices_from ns es root)
    unfolding choices_from
    choices_once =
        distinct_map marked (paths (unset 1) (nodes_from ns es root))
        (λ ms us i j e. path_mask ms us ((paths_are (unset 1) (nodes_from ns es root) ms).0 i) ((paths_are (unset 1) (nodes_from ns es root) us).0 j) e)
        (paths_distinct (unset 1) (nodes_from ns es root))

    -- What the list of choices is where the list of paths is split
    split_choices : (before after : List Marks) (ms : Marks) → paths (unset 1) (nodes_from ns es root) ≡ before ++ (ms ∷ after)
        → behind (choices_from ns es root) (marked ms) ≡ map marked after
    unfolding choices_from
    split_choices before after ms e =
        behind_is (choices_from ns es root) (map marked before) (map marked after) (marked ms) choices_once
        (ap (map marked) e ∙ map-append marked before (ms ∷ after))

    -- THE FIRST CHOICE
    pub choices_first : choices_from ns es root ≡ first_from ns es root ∷ behind (choices_from ns es root) (first_from ns es root)
    unfolding choices_from
    choices_first =
        let first : Marks = first_path (unset 1) (nodes_from ns es root) in
        let (ys, e) = begins (paths (unset 1) (nodes_from ns es root)) first (paths_first (unset 1) (nodes_from ns es root)) in
        ap (map marked) e ∙ ap {B = List ℕ} (λ (zs : List ℕ). marked first ∷ zs) (sym (split_choices [] ys first e))

    -- THE CHOICE AFTER A CHOICE, and the last
    pub choices_next : (ms us : Marks) → T (accepts next (unset 1) (nodes_from ns es root) ms)
        → next_path (unset 1) (nodes_from ns es root) ms ≡ some us
        → behind (choices_from ns es root) (marked ms) ≡ marked us ∷ behind (choices_from ns es root) (marked us)
    choices_next ms us t e =
        let s = paths_next (unset 1) (nodes_from ns es root) ms t in
        let (ys, d) = begins s.after us (s.is_next ∙ e) in
        let whole : paths (unset 1) (nodes_from ns es root) ≡ (s.before ++ (ms ∷ [])) ++ (us ∷ ys) =
        s.whole ∙ ap (λ (zs : List Marks). s.before ++ (ms ∷ zs)) d ∙ sym (append_assoc s.before (ms ∷ []) (us ∷ ys)) in
        split_choices s.before s.after ms s.whole ∙ ap (map marked) d
        ∙ ap {B = List ℕ} (λ (zs : List ℕ). marked us ∷ zs) (sym (split_choices (s.before ++ (ms ∷ [])) ys us whole))

    pub choices_last : behind (choices_from ns es root) 0 ≡ []
    choices_last =
        let (mss, e) = paths_last (unset 1) (nodes_from ns es root) in
        let none_marked = replicate (length (nodes_from ns es root)) none in
        ap (behind (choices_from ns es root)) (sym (mask_clear max_face_nodes (length (nodes_from ns es root))))
        ∙ split_choices mss [] none_marked e

-- ---- the choices of all functions, and the rows

module _ (ns es nodes : List ℕ) (count : ℕ) where
  abbrev cs : ℕ → List ℕ
  cs = choices_at ns es nodes count

  abbrev first : ℕ → ℕ
  first = first_at ns es nodes count

  pub choices_there : (k : ℕ) → k < count → choices_at ns es nodes count k ≡ choices_from ns es (table.at nodes k)
  unfolding choices_at
  choices_there k h = choose_true (choices_from ns es (table.at nodes k)) (0 ∷ []) (lt-ltb k count h)

  pub choices_absent : (k : ℕ) → count ≤ k → choices_at ns es nodes count k ≡ 0 ∷ []
  unfolding choices_at
  choices_absent k h = choose_false (choices_from ns es (table.at nodes k)) (0 ∷ []) (le-ltb k count h)

  pub first_there : (k : ℕ) → k < count → first_at ns es nodes count k ≡ first_from ns es (table.at nodes k)
  unfolding first_at
  first_there k h = choose_true (first_from ns es (table.at nodes k)) 0 (lt-ltb k count h)

  pub first_absent : (k : ℕ) → count ≤ k → first_at ns es nodes count k ≡ 0
  unfolding first_at
  first_absent k h = choose_false (first_from ns es (table.at nodes k)) 0 (le-ltb k count h)

  all_rows_lem : mask_rows ns es nodes count ≡ all_from cs 0 max_functions
  unfolding mask_rows
  all_rows_lem = refl

  -- A ROW is in the list just when each of its masks is a choice of its function.
  pub row_mem : (row : MaskRow) → row ∈ mask_rows ns es nodes count → (k : ℕ) → k < max_functions → get_or row k 0 ∈ choices_at ns es nodes count k
  row_mem row m k h = ((all_are cs 0 max_functions row).0 (rw all_rows_lem at m)).choice k k (omega arith) h

  pub row_length : (row : MaskRow) → row ∈ mask_rows ns es nodes count → length row ≡ max_functions
  row_length row m = ((all_are cs 0 max_functions row).0 (rw all_rows_lem at m)).long

  pub mem_row : (row : MaskRow) → length row ≡ max_functions → ((k : ℕ) → k < max_functions → get_or row k 0 ∈ choices_at ns es nodes count k)
      → row ∈ mask_rows ns es nodes count
  mem_row row l c =
      rw all_rows_lem
      ((all_are cs 0 max_functions row).1 (record { long = l; choice = λ k j e h. let z : j ≡ k = omega arith in rw z (c k h) }))

  module _ (fs : Faces es nodes count) where
    at_once : (k : ℕ) → Distinct (cs k)
    at_once k =
        ⊎_elim (λ h. rw (choices_there k h) (choices_once ns es (table.at nodes k) (fs.whole k h).fits))
        (λ h. rw (choices_absent k h) (λ m. Memᴰ.not-nil m, tt)) (lt_or_ge k count)

    at_first : (k : ℕ) → cs k ≡ first k ∷ behind (cs k) (first k)
    unfolding behind
    at_first k =
        ⊎_elim (λ h. rw (choices_there k h, first_there k h) (choices_first ns es (table.at nodes k) (fs.whole k h).fits))
        (λ h. rw (choices_absent k h, first_absent k h) refl) (lt_or_ge k count)

    -- After the empty choice no other comes, of whatever function.
    pub empty_last : (k : ℕ) → behind (choices_at ns es nodes count k) 0 ≡ []
    unfolding behind
    empty_last k =
        ⊎_elim (λ h. rw (choices_there k h) (choices_last ns es (table.at nodes k) (fs.whole k h).fits))
        (λ h. rw (choices_absent k h) refl) (lt_or_ge k count)

    -- Each row stands in the list once.
    pub mask_rows_once : Distinct (mask_rows ns es nodes count)
    mask_rows_once = rw all_rows_lem (all_once cs at_once 0 max_functions)

    -- THE FIRST ROW is the row of all first choices,
    pub first_row : (row : MaskRow) → Fresh first max_functions row 0 → place_of (mask_rows ns es nodes count) ≡ at row
    first_row row w = ap place_of (all_rows_lem ∙ first_of_all cs first max_functions (λ f h. at_first f) row w)

    -- so that whatever row is the first has the first choice of each function.
    pub first_at_lem : (row : MaskRow) → place_of (mask_rows ns es nodes count) ≡ at row → (k : ℕ) → k < max_functions
        → get_or row k 0 ≡ first_at ns es nodes count k
    first_at_lem row e k h =
        let d = first_row (firsts_from first max_functions 0 max_functions) (fresh_all first max_functions) in
        let q : row ≡ firsts_from first max_functions 0 max_functions = cc in
        let z : 0 + k ≡ k = omega arith in
        ap (λ (x : MaskRow). get_or x k 0) q ∙ firsts_at first max_functions 0 max_functions k h ∙ ap first z

    after : (before later : List MaskRow) (row : MaskRow) → mask_rows ns es nodes count ≡ before ++ (row ∷ later) → later ≡ rows_after cs 0 row
    after before later row e = rows_after_lem cs at_once 0 max_functions before later row (sym all_rows_lem ∙ e)

    -- THE NEXT ROW: the step is made at the last function with a choice left, and the later functions start anew.
    pub steps_on : (old row : MaskRow) (j x : ℕ) → j < max_functions → Carried cs first max_functions old row (suc j)
        → behind (choices_at ns es nodes count j) (get_or row j 0) ≡ x ∷ behind (choices_at ns es nodes count j) x
        → Steps ns es nodes count old true (set row j x)
    unfolding Steps
    steps_on old row j x h w b before later e =
        let d = after before later old e ∙ carried_step cs first max_functions (λ f l. at_first f) old row j x h w b in
        record { goes = λ q. ap place_of d; ends = λ q. absurd (true≢false q) }

    -- Past the last there is no row left.
    pub steps_past : (old row next : MaskRow) → Carried cs first max_functions old row 0 → Steps ns es nodes count old false next
    unfolding Steps
    steps_past old row next w before later e =
        record {
          goes = λ q. absurd (false≢true q);
          ends = λ q. ap place_of (after before later old e ∙ carried_end cs first max_functions old row w);
        }

-- Rows of sets by the laws of rows of masks (crate `choosing`).
--   Freshly    from function k on each set is its function's first choice
--   Moving     what is known where a step is made
--   Passing    the functions from k on have had their last choices, and begin again
use mathlib.Core.Path.{◌≡◌, refl, ap, ap₂, sym, ◌∙◌, subst}
use mathlib.Core.Logic.{◌↔◌, ⊎_elim}
use mathlib.Core.Bool.{true, false}
use mathlib.Core.List.Memᴰ
use mathlib.Core.List.{List, [], ◌∷◌, ◌++◌, append_assoc}
use Prim.Native.Nat.{ℕ, zero, suc, ◌+◌, ◌-◌, ◌≤◌, ◌<◌}
use native.Mathlib.Nat.{eq-or-lt_of_le}
use native.Mathlib.Omega.{arith}
use lib.ListN.{length, get_or, set, take, drop, length-map}
use lib.Seq.{drop-cons, length-take-le, set-append_seam, set-get_or, take-suc}
use borrow.Rule.Slice.PartMut.{mid_of, put_mid}
use Rattle.std.proofs.lemmas.List.{drop-map, map-append, take-append-drop, take-map}
use lib.Dec.{eqb}
use borrow.Author.Tests.{eq-eqb, eqb-false, eqb-true}
use Rattle.meaning.specs.Limits.{max_functions}
use Rattle.meaning.specs.Basics.{◌∈◌}
use Rattle.meaning.specs.Search.{at, place_of}
use Rattle.tokens.specs.Key as table
use Rattle.masks.specs.Sets.{mask, masks_in}
use Rattle.masks.specs.declared.NodeSet.{NodeSet}
use Rattle.masks.proofs.Cases.{lt_or_ge}
use Rattle.masks.proofs.Words.{masks_at, masks_set, no_nodes}
use Rattle.faces.specs.declared.first.Firsts.{Firsts}
use Rattle.choosing.specs.Rows.{MaskRow, Next, Steps, behind, choices_at, choices_from, first_at, first_from}
use Rattle.choosing.proofs.Stepping.{Carried, Fresh, carried_at, carried_more, carried_none, fresh_more, fresh_none}
use Rattle.choosing.proofs.RowSteps.{choices_absent, choices_there, empty_last, first_absent, first_at_lem, first_row, first_there, mem_row, row_mem}
use Rattle.choosing.proofs.RowSteps.{row_length, steps_on, steps_past}
use Rattle.rows.specs.Rows.{Faced, StepsAt, StepsFrom, begun, begun_from, choices_of, rows_of}

pub above_zero : (m : ℕ) → eqb m 0 ≡ false → 0 < m
above_zero m e = let n = eqb-false m 0 e in ⊎_elim (λ (q : 0 ≡ m). absurd (n (sym q))) (λ (q : 0 < m). q) (eq-or-lt_of_le (omega arith))

-- ---- beginning again

-- In one piece
begun_put : (f r : MaskRow) (k d : ℕ) → k + d ≤ length r → k + d ≤ length f → take k r ++ (take d (drop k f) ++ drop d (drop k r)) ≡ begun_from f r k d
unfolding begun_from
begun_put f r k zero h g = take-append-drop k r
begun_put f r k (suc d) h g =
    let v = get_or f k 0 in
    let l : k < length r = omega arith in
    let m : k < length f = omega arith in
    let Y : MaskRow = take d (drop (suc k) f) ++ drop d (drop (suc k) r) in
    let later : take (suc k) r ++ Y ≡ begun_from f r (suc k) d = begun_put f r (suc k) d (omega arith) (omega arith) in
    let here : (take k r ++ (get_or r k 0 ∷ [])) ++ Y ≡ take k r ++ (get_or r k 0 ∷ Y) = append_assoc (take k r) (get_or r k 0 ∷ []) Y in
    ap₂ (λ (x y : MaskRow). take k r ++ (take (suc d) x ++ drop (suc d) y)) (drop-cons f k 0 m) (drop-cons r k 0 l)
    ∙ sym (set-append_seam (take k r) (get_or r k 0) Y v)
    ∙ ap (λ (n : ℕ). set (take k r ++ (get_or r k 0 ∷ Y)) n v) (length-take-le k r (omega arith))
    ∙ ap (λ (x : MaskRow). set x k v) (sym here ∙ ap (λ (x : MaskRow). x ++ Y) (sym (take-suc r k 0 l)) ∙ later)

module _ (count : ℕ) (first : List NodeSet) (row : List NodeSet) where
  abbrev again : ℕ → MaskRow
  again j = begun count (masks_in first) j (masks_in row)

  pub again_none : (j : ℕ) → count ≤ j → masks_in row ≡ again j
  unfolding begun_from
  again_none j h =
      let z : 0 ≡ count - j = omega arith in
      subst (λ (d : ℕ). masks_in row ≡ begun_from (masks_in first) (masks_in row) j d) z refl

  -- As the code writes them: the sets from j on in one piece
  pub again_put : (j : ℕ) → j ≤ count → count ≤ length row → count ≤ length first
      → masks_in (put_mid j (count - j) row (mid_of j (count - j) first)) ≡ again j
  again_put j h r f =
      let e = begun_put (masks_in first) (masks_in row) j (count - j) (simp length-map (omega arith)) (simp length-map (omega arith)) in
      simp map-append (simp (take-map, drop-map) at e)

-- A row is about to step: of the k functions up to the one that steps the last takes its next choice, and in `next` the later ones have
-- begun again
pub record Moving (count : ℕ) (first row next : List NodeSet) (k : ℕ) : Type 0 where
  pub steps : StepsAt count (masks_in row) k
  pub some : 0 < k
  pub again : masks_in next ≡ begun count (masks_in first) k (masks_in row)

-- The function that steps is one of the row's
pub moving_inside : {count : ℕ} {first row next : List NodeSet} (k : ℕ) → count ≤ max_functions → Moving count first row next k
    → k - 1 < max_functions
moving_inside k few m = omega (arith, m.steps.few, m.some)

-- What the code reads where there is no set
abbrev pub nothing : NodeSet
nothing = no_nodes

module _ (es ns : List ℕ) (firsts : Firsts) where
  -- ---- one function

  pub there_choice : (k m : ℕ) → k < firsts.count → (m ∈ choices_from ns es (table.at firsts.nodes k)) ↔ (m ∈ choices_of es ns firsts k)
  there_choice k m h =
      let e = choices_there ns es firsts.nodes firsts.count k h in
      (subst (λ (cs : List ℕ). m ∈ cs) (sym e), subst (λ (cs : List ℕ). m ∈ cs) e)

  pub absent_choice : (k m : ℕ) → firsts.count ≤ k → (eqb m 0 ≡ true) ↔ (m ∈ choices_of es ns firsts k)
  absent_choice k m h =
      let e = choices_absent ns es firsts.nodes firsts.count k h in (
        λ q. subst (λ (cs : List ℕ). m ∈ cs) (sym e) (Memᴰ.head (eqb-true m 0 q)),
        λ i. ⊎_elim (λ (q : m ≡ 0). eq-eqb m 0 q) (λ (q : m ∈ []). absurd (Memᴰ.not-nil q))
            (Memᴰ.cases_cons (subst (λ (cs : List ℕ). m ∈ cs) e i)),
      )

  -- A function that has a choice with a node is there
  pub there : (k m : ℕ) → m ∈ choices_of es ns firsts k → 0 < m → k < firsts.count
  there k m i h =
      ⊎_elim (λ l. l) (λ g. absurd (let e = eqb-true m 0 ((absent_choice k m g).1 i) in omega arith)) (lt_or_ge k firsts.count)

  pub first_here : (k m : ℕ) → k < firsts.count → m ≡ first_from ns es (table.at firsts.nodes k)
      → m ≡ first_at ns es firsts.nodes firsts.count k
  first_here k m h e = e ∙ sym (first_there ns es firsts.nodes firsts.count k h)

  pub first_none : (k m : ℕ) → firsts.count ≤ k → m ≡ 0 → m ≡ first_at ns es firsts.nodes firsts.count k
  first_none k m h e = e ∙ sym (first_absent ns es firsts.nodes firsts.count k h)

  pub next_here : (k m x : ℕ) → k < firsts.count → Next (choices_from ns es (table.at firsts.nodes k)) m x → Next (choices_of es ns firsts k) m x
  next_here k m x h = subst (λ (cs : List ℕ). Next cs m x) (sym (choices_there ns es firsts.nodes firsts.count k h))

  -- ---- a row

  pub row_choice : (row : List NodeSet) → masks_in row ∈ rows_of es ns firsts → (k : ℕ) → k < max_functions
      → get_or (masks_in row) k 0 ∈ choices_of es ns firsts k
  unfolding rows_of
  row_choice row m k h = row_mem ns es firsts.nodes firsts.count (masks_in row) m k h

  row_long : (row : List NodeSet) → masks_in row ∈ rows_of es ns firsts → length (masks_in row) ≡ max_functions
  unfolding rows_of
  row_long row m = row_length ns es firsts.nodes firsts.count (masks_in row) m

  pub choice_row : (row : List NodeSet) → length row ≡ max_functions
      → ((k : ℕ) → k < max_functions → get_or (masks_in row) k 0 ∈ choices_of es ns firsts k)
      → masks_in row ∈ rows_of es ns firsts
  unfolding rows_of
  choice_row row l c = mem_row ns es firsts.nodes firsts.count (masks_in row) (length-map row mask ∙ l) c

  -- ---- the first row, and the next

  abbrev pub first : ℕ → ℕ
  first = first_at ns es firsts.nodes firsts.count

  abbrev pub Freshly : List NodeSet → ℕ → Type 0
  Freshly row k = Fresh first max_functions (masks_in row) k

  abbrev Carrying : MaskRow → MaskRow → ℕ → Type 0
  Carrying = Carried (choices_at ns es firsts.nodes firsts.count) first max_functions

  abbrev pub Passing : List NodeSet → ℕ → Type 0
  Passing row k =
      (f : MaskRow) → place_of (rows_of es ns firsts) ≡ at f → Carrying (masks_in row) (begun firsts.count f k (masks_in row)) k

  pub freshly_none : (row : List NodeSet) → length row ≡ max_functions → Freshly row max_functions
  freshly_none row l = fresh_none first max_functions (masks_in row) (length-map row mask ∙ l)

  pub freshly_more : (row : List NodeSet) (j : ℕ) (s : NodeSet) → j < max_functions → Freshly row (suc j) → mask s ≡ first j → Freshly (set row j s) j
  freshly_more row j s h w e =
      subst (λ (r : List ℕ). Fresh first max_functions r j) (sym (masks_set row j s ∙ ap (set (masks_in row) j) e))
      (fresh_more first max_functions (masks_in row) j h w)

  module _ (f : Faced es ns firsts) where
    pub first_of_rows : (row : List NodeSet) → Freshly row 0 → place_of (rows_of es ns firsts) ≡ at (masks_in row)
    unfolding rows_of
    first_of_rows row w = first_row ns es firsts.nodes firsts.count f.faces (masks_in row) w

    first_set : (row : MaskRow) → place_of (rows_of es ns firsts) ≡ at row → (k : ℕ) → k < max_functions → get_or row k 0 ≡ first k
    unfolding rows_of
    first_set row e k h = first_at_lem ns es firsts.nodes firsts.count f.faces row e k h

    -- The empty choice is a function's last
    last_choice : (j x : ℕ) → x ≡ 0 → behind (choices_of es ns firsts j) x ≡ []
    last_choice j x z =
        subst (λ (y : ℕ). behind (choices_of es ns firsts j) y ≡ []) (sym z) (empty_last ns es firsts.nodes firsts.count f.faces j)

    module _ (row : List NodeSet) (m : masks_in row ∈ rows_of es ns firsts) where
      abbrev old : MaskRow
      old = masks_in row

      -- The functions that are not there have had their last choice, and would begin again with it
      carrying_there : Carrying old old firsts.count
      carrying_there = go (max_functions - firsts.count) firsts.count (omega (arith, f.faces.few)) (omega arith)
        where
          only : (j : ℕ) → firsts.count ≤ j → j < max_functions → get_or old j 0 ≡ 0
          only j h g = eqb-true (get_or old j 0) 0 ((absent_choice j (get_or old j 0) h).1 (row_choice row m j g))

          go : (d j : ℕ) → j + d ≡ max_functions → firsts.count ≤ j → Carrying old old j
          go zero j e h =
              let z : max_functions ≡ j = omega arith in
              subst (Carrying old old) z
              (carried_none (choices_at ns es firsts.nodes firsts.count) first max_functions old (row_long row m))
          go (suc d) j e h =
              let g : j < max_functions = omega arith in
              let z = only j h g in
              let same : set old j (first j) ≡ old =
              ap (set old j) (first_absent ns es firsts.nodes firsts.count j h ∙ sym z) ∙ set-get_or old j 0 in
              subst (λ (r : MaskRow). Carrying old r j) same
              (carried_more (choices_at ns es firsts.nodes firsts.count) first max_functions old old j g
              (go d (suc j) (omega arith) (omega arith)) (last_choice j (get_or old j 0) z))

      passing_there : Passing row firsts.count
      unfolding begun_from
      passing_there g e =
          let z : 0 ≡ firsts.count - firsts.count = omega arith in
          subst (λ (d : ℕ). Carrying old (begun_from g old firsts.count d) firsts.count) z carrying_there

    module _ (row : List NodeSet) (j : ℕ) (h : j < firsts.count) (w : Passing row (suc j)) where
      few : j < max_functions
      few = omega (arith, f.faces.few)

      -- The set of the function that the step has come to is still the given one
      still : (g : MaskRow) (e : place_of (rows_of es ns firsts) ≡ at g)
          → get_or (masks_in row) j 0 ≡ get_or (begun firsts.count g (suc j) (masks_in row)) j 0
      still g e =
          carried_at (choices_at ns es firsts.nodes firsts.count) first max_functions (masks_in row)
          (begun firsts.count g (suc j) (masks_in row)) j few (w g e)

      -- Its last choice: it begins again
      passing_more : get_or (masks_in row) j 0 ≡ 0 → Passing row j
      unfolding begun_from
      passing_more z g e =
          let d : suc (firsts.count - suc j) ≡ firsts.count - j = omega arith in
          let next = begun firsts.count g (suc j) (masks_in row) in
          subst (λ (n : ℕ). Carrying (masks_in row) (begun_from g (masks_in row) j n) j) d
          (subst (λ (x : ℕ). Carrying (masks_in row) (set next j x) j) (sym (first_set g e j few))
          (carried_more (choices_at ns es firsts.nodes firsts.count) first max_functions (masks_in row) next j few (w g e)
          (last_choice j (get_or next j 0) (sym (still g e) ∙ z))))

      -- Another choice: that is the next row, as it is written into an array in which the later functions have begun again
      steps_set : (first again : List NodeSet) (s : NodeSet) → place_of (rows_of es ns firsts) ≡ at (masks_in first)
          → masks_in again ≡ begun firsts.count (masks_in first) (suc j) (masks_in row)
          → Next (choices_of es ns firsts j) (get_or (masks_in row) j 0) (mask s) → StepsFrom es ns firsts (masks_in row) true (masks_in (set again j s))
      unfolding StepsFrom
      steps_set first again s e a n =
          let next = begun firsts.count (masks_in first) (suc j) (masks_in row) in
          subst (Steps ns es firsts.nodes firsts.count (masks_in row) true)
          (sym (masks_set again j s ∙ ap (λ (r : MaskRow). set r j (mask s)) a))
          (steps_on ns es firsts.nodes firsts.count f.faces (masks_in row) next j (mask s) few (w (masks_in first) e)
          (subst (λ (x : ℕ). Next (choices_of es ns firsts j) x (mask s)) (still (masks_in first) e) n))

    -- The functions after the one that steps have had their last choices
    passing_here : (row : List NodeSet) → masks_in row ∈ rows_of es ns firsts → (k : ℕ) → StepsAt firsts.count (masks_in row) k → Passing row k
    passing_here row m k h = go (firsts.count - k) k (omega (arith, h.few)) (omega arith)
      where
        go : (d j : ℕ) → j + d ≡ firsts.count → k ≤ j → Passing row j
        go zero j e l = let z : firsts.count ≡ j = omega arith in subst (Passing row) z (passing_there row m)
        go (suc d) j e l = passing_more row j (omega arith) (go d (suc j) (omega arith) (omega arith)) (h.passed j l (omega arith))

    module _ (first row : List NodeSet) (e : place_of (rows_of es ns firsts) ≡ at (masks_in first)) (m : masks_in row ∈ rows_of es ns firsts) where
      -- From the last row there is none
      pub steps_none : (k : ℕ) (next : MaskRow) → StepsAt firsts.count (masks_in row) k → k ≡ 0 → StepsFrom es ns firsts (masks_in row) false next
      unfolding StepsFrom
      steps_none k next h z =
          steps_past ns es firsts.nodes firsts.count f.faces (masks_in row) (begun firsts.count (masks_in first) 0 (masks_in row)) next
          (subst (Passing row) z (passing_here row m k h) (masks_in first) e)

      -- The last function has a node, and so it is there and steps
      pub last_moves : 0 < mask (get_or row (firsts.count - 1) nothing) → Moving firsts.count first row row firsts.count
      unfolding max_functions
      last_moves h =
          let j : ℕ = firsts.count - 1 in
          let here : 0 < get_or (masks_in row) j 0 = subst (λ (x : ℕ). 0 < x) (masks_at row j) h in
          let some = there j (get_or (masks_in row) j 0) (row_choice row m j (omega (arith, f.faces.few))) here in
          record {
            steps = record { few = omega arith; moves = λ q. here; passed = λ i l q. absurd (omega arith) };
            some = omega arith;
            again = again_none firsts.count first row firsts.count (omega arith);
          }

      module _ (next : List NodeSet) (k : ℕ) (w : Moving firsts.count first row next k) where
        module _ (j : ℕ) (z : k ≡ suc j) where
          few_here : j < firsts.count
          few_here = omega (arith, w.steps.few)

          passing_after : Passing row (suc j)
          passing_after = subst (Passing row) z (passing_here row m k w.steps)

          again_after : masks_in next ≡ begun firsts.count (masks_in first) (suc j) (masks_in row)
          again_after = subst (λ (i : ℕ). masks_in next ≡ begun firsts.count (masks_in first) i (masks_in row)) z w.again

          -- The set of the function that steps is still the given one
          same_set : mask (get_or next j nothing) ≡ get_or (masks_in row) j 0
          same_set =
              masks_at next j ∙ ap (λ (r : MaskRow). get_or r j 0) again_after ∙ sym (still row j few_here passing_after (masks_in first) e)

        pred : k ≡ suc (k - 1)
        pred = omega (arith, w.some)

        -- What `next_of` requires
        pub moving_choice : (mask (get_or next (k - 1) nothing) ∈ choices_of es ns firsts (k - 1)) × (0 < mask (get_or next (k - 1) nothing))
        moving_choice =
            let same = sym (same_set (k - 1) pred) in (
              subst (λ (x : ℕ). x ∈ choices_of es ns firsts (k - 1)) same
                  (row_choice row m (k - 1) (omega (arith, w.steps.few, w.some, f.faces.few))),
              subst (λ (x : ℕ). 0 < x) same (w.steps.moves w.some),
            )

        -- THE NEXT ROW
        pub moved : (s : NodeSet) → Next (choices_of es ns firsts (k - 1)) (mask (get_or next (k - 1) nothing)) (mask s)
            → StepsFrom es ns firsts (masks_in row) true (masks_in (set next (k - 1) s))
        moved s n =
            steps_set row (k - 1) (few_here (k - 1) pred) (passing_after (k - 1) pred) first next s e (again_after (k - 1) pred)
            (subst (λ (x : ℕ). Next (choices_of es ns firsts (k - 1)) x (mask s)) (same_set (k - 1) pred) n)

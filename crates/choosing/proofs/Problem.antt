-- The mask rows of a problem's functions are the masks of the problem's rows, in their order.
use mathlib.Core.Path.{◌≡◌, refl, ap, ap₂, sym, ◌∙◌, subst}
use mathlib.Core.Logic.{◌↔◌}
use mathlib.Core.Bool.{Bool, true, false, true≢false, false≢true}
use mathlib.Core.List.{List, [], ◌∷◌, ◌++◌, map, map-map, map-append}
use mathlib.Core.Option.{Option, none, some}
use Prim.Native.Nat.{ℕ, zero, suc, ◌+◌, ◌-◌, ◌<◌, ◌≤◌}
use native.Mathlib.Omega.{arith}
use lib.ListN.{length, take, replicate, get_elem?, length-map}
use Rattle.meaning.specs.Limits.{max_functions, max_face_nodes}
use Rattle.meaning.specs.Basics.{choose, count_from, up_to, ◌∈◌, is_some}
use Rattle.meaning.specs.Problem.{Problem, places_of, functions}
use Rattle.meaning.specs.Face.{Face, faces}
use Rattle.meaning.specs.Choice.{Marks}
use Rattle.meaning.specs.Choices.{choices}
use Rattle.meaning.specs.Row.{Row, face_of}
use Rattle.meaning.specs.Rows.{product, rows_over, rows}
use Rattle.meaning.specs.Search.{at, past, place_of, start}
use Rattle.meaning.specs.PlaceValue.{mask_of, PlaceValue, masks_of, place_value}
use Rattle.meaning.specs.Readable.{Accepted}
use Rattle.meaning.proofs.Lists.{never, mem_map, map_mem, map_same, at_mem}
use Rattle.meaning.proofs.Proper.{one_place, functions_applied}
use Rattle.meaning.proofs.Ordered.{OneOfEach, product_are}
use Rattle.tokens.specs.Token.{expression_tokens}
use Rattle.tokens.specs.Key as table
use Rattle.numbers.specs.Tests.{Tells, told}
use Rattle.faces.specs.Verdict.{FirstsAt}
use Rattle.choosing.specs.Rows.{MaskRow, choices_from, choices_at, mask_rows, Leads, Steps}
use Rattle.choosing.proofs.Lists.{at_low, product_map, product_padded}
use Rattle.choosing.proofs.FaceNodes.{face_paths}
use Rattle.choosing.proofs.RowSteps.{choices_there, choices_absent}
use Rattle.choosing.proofs.ProblemFaces.{functions_counted, face_at_lem}

-- ---- the lists of choices, function by function

-- The values of L at k, k + 1, ..: those of X at the functions, and then none but y.
counted : {A : Type 0} (L X : ℕ → A) (y : A) (k n : ℕ) (fs : List ℕ) → length fs ≤ n
    → ((i f j : ℕ) → j ≡ k + i → get_elem? fs i ≡ some f → L j ≡ X f)
    → ((i j : ℕ) → j ≡ k + i → length fs ≤ i → L j ≡ y)
    → map L (count_from k n) ≡ map X fs ++ replicate (n - length fs) y
counted L X y k zero [] h there absent = refl
counted {A} L X y k (suc n) [] h there absent =
    let e : suc n - 0 ≡ suc (n - 0) = omega arith in
    rw e
    (ap₂ {C = List A} (λ x xs. x ∷ xs) (absent 0 k (omega arith) (omega arith))
    (counted L X y (suc k) n [] (omega arith) (λ i f j e q. there (suc i) f j (omega arith) q)
    (λ i j e q. absent (suc i) j (omega arith) (omega arith))))
counted L X y k zero (f ∷ fs) h there absent = absurd (omega arith)
counted {A} L X y k (suc n) (f ∷ fs) h there absent =
    let e : suc n - suc (length fs) ≡ n - length fs = omega arith in
    rw e
    (ap₂ {C = List A} (λ x xs. x ∷ xs) (there 0 f k (omega arith) refl)
    (counted L X y (suc k) n fs (omega arith) (λ i f j e q. there (suc i) f j (omega arith) q)
    (λ i j e q. absent (suc i) j (omega arith) (omega arith))))

-- ---- rows

length_each : {A : Type 0} (xss : List (List A)) (ys : List A) → OneOfEach xss ys → length ys ≡ length xss
length_each [] [] h = refl
length_each [] (y ∷ ys) h = absurd h
length_each (xs ∷ xss) [] h = absurd h
length_each (xs ∷ xss) (y ∷ ys) h = ap suc (length_each xss ys h.1)

rows_product : (p : Problem) → is_some (faces p) ≡ true → rows p ≡ product (map (λ f. choices (places_of p f) (face_of p f)) (functions p))
unfolding rows
rows_product p e = go (faces p) e
  where
    go : (w : Option (List Face)) → is_some w ≡ true → rows_over p w ≡ product (map (λ f. choices (places_of p f) (face_of p f)) (functions p))
    go none e = absurd (false≢true e)
    go (some xs) e = refl

-- The place of a list of mask rows, as a host holds it
value_place : (rs : List Row) (more : Bool) (next : MaskRow) → Leads (place_of (map masks_of rs)) more next
    → choose more (record { masks = next; is_past = false }) (place_value past) ≡ place_value (place_of rs)
unfolding place_value
value_place [] true next h = let e = h.goes refl in never (cc)
value_place [] false next h = refl
value_place (r ∷ rs) true next h =
    ap {B = PlaceValue} (λ (m : MaskRow). record { masks = m; is_past = false }) (let e = h.goes refl in let q : next ≡ masks_of r = cc in q)
value_place (r ∷ rs) false next h = let e = h.ends refl in never (cc)

module _ (p : Problem) (a : Accepted p) (xs : List Face) (agree : faces p ≡ some xs) (nodes : List ℕ) (count : ℕ)
    (few : count ≤ max_functions) (room : length nodes ≡ max_functions) (firsts : FirstsAt p xs (functions p) (take count nodes))
    (ns : List ℕ) (tells : Tells (expression_tokens p) (told ns)) where
  -- The masks of the choices of a function
  abbrev meant : ℕ → List ℕ
  meant f = map (mask_of max_face_nodes) (choices (places_of p f) (face_of p f))

  long : length (functions p) ≡ count
  long = functions_counted p a xs agree nodes count few room firsts

  function_choices : (k f : ℕ) → get_elem? (functions p) k ≡ some f → choices_at ns (expression_tokens p) nodes count k ≡ meant f
  unfolding choices_from
  function_choices k f e =
      let single : 1 ≡ places_of p f = sym (one_place p a.within f (functions_applied p f (at_mem (functions p) k f e))) in
      let h : k < count = subst (λ (n : ℕ). k < n) long (at_low (functions p) k f e) in
      choices_there ns (expression_tokens p) nodes count k h
      ∙ ap (map (mask_of max_face_nodes))
      (face_paths (expression_tokens p) (table.at nodes k) (face_of p f) (face_at_lem p a xs agree nodes count few room firsts k f e) ns tells
      ∙ ap (λ (n : ℕ). choices n (face_of p f)) single)

  all_choices : map (choices_at ns (expression_tokens p) nodes count) (up_to max_functions)
      ≡ map meant (functions p) ++ replicate (max_functions - length (functions p)) (0 ∷ [])
  all_choices =
      counted (choices_at ns (expression_tokens p) nodes count) meant (0 ∷ []) 0 max_functions (functions p) (omega (arith, long))
      (λ i f k e q. let z : i ≡ k = omega arith in function_choices k f (rw z at q))
      (λ i k e q. choices_absent ns (expression_tokens p) nodes count k (omega (arith, long)))

  -- THE MASK ROWS are the masks of the problem's rows, in their order
  pub rows_listed : mask_rows ns (expression_tokens p) nodes count ≡ map masks_of (rows p)
  unfolding mask_rows masks_of
  rows_listed =
      ap product all_choices
      ∙ product_padded 0 rest (map meant (functions p))
      ∙ ap (λ (xss : List (List ℕ)). map padded (product xss))
      (sym (map-map (map mask) (λ f. choices (places_of p f) (face_of p f)) (functions p)))
      ∙ ap (map padded) (product_map mask all)
      ∙ map-map padded (map mask) (product all)
      ∙ map_same (λ r. padded (map mask r)) masks_of (product all)
      (λ r m. ap (λ (n : ℕ). map mask r ++ replicate (max_functions - n) 0) (sym (row_long r m)))
      ∙ ap (map masks_of) (sym (rows_product p (ap is_some agree)))
    where
      mask : Marks → ℕ
      mask = mask_of max_face_nodes

      rest : ℕ
      rest = max_functions - length (functions p)

      padded : MaskRow → MaskRow
      padded ms = ms ++ replicate rest 0

      all : List (List Marks)
      all = map (λ f. choices (places_of p f) (face_of p f)) (functions p)

      row_long : (r : Row) → r ∈ product all → length r ≡ length (functions p)
      row_long r m = length_each all r ((product_are all r).0 m) ∙ length-map (functions p) (λ f. choices (places_of p f) (face_of p f))

module _ (p : Problem) (ns es nodes : List ℕ) (count : ℕ) (listed : mask_rows ns es nodes count ≡ map masks_of (rows p)) where
  -- What a test of masks tells: whether they are those of a row.
  pub row_masks : (row : MaskRow) → (row ∈ mask_rows ns es nodes count) ↔ ((r : Row) × (r ∈ rows p) × (row ≡ masks_of r))
  row_masks row = (λ m. map_mem masks_of row (rows p) (rw listed at m), λ q. rw (listed, q.2) (mem_map masks_of q.1))

  -- What the first mask row is: the masks of the first row.
  pub first_row_of : (row : MaskRow) → place_of (mask_rows ns es nodes count) ≡ at row → record { masks = row; is_past = false } ≡ place_value (start p)
  first_row_of row e =
      value_place (rows p) true row
      (record { goes = λ q. ap place_of (sym listed) ∙ e; ends = λ q. absurd (true≢false q) })

  -- What a step gives after the masks of a row: those of the row after it, or past the last.
  pub next_row_of : (before later : List Row) (r : Row) (more : Bool) (next : MaskRow) → rows p ≡ before ++ (r ∷ later)
      → Steps ns es nodes count (masks_of r) more next
      → choose more (record { masks = next; is_past = false }) (place_value past) ≡ place_value (place_of later)
  unfolding Steps
  next_row_of before later r more next e h =
      value_place later more next
      (h (map masks_of before) (map masks_of later) (listed ∙ ap (map masks_of) e ∙ map-append masks_of before (r ∷ later)))

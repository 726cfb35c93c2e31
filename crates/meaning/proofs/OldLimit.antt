-- T-10: "On problems within the old limit the rows, their order and the solutions equal the old ones."
--   old_limit       the nodes that a face might have before T-10
--   added_nodes     how many it may have more
--   old_accept      `accept` as it was
--   OldAccepted    `Accepted` as it was: a problem within the old limit
--   old_masks       `masks_of` as it was
--   SameAsBefore   what stays of such a problem, and its new masks by the old ones
-- What rows, their order and solutions are (`AreRows`, `EarlierRow`, `Solution`) does not mention the limit, so of every problem they are
-- the old ones. The limit stands in two definitions only: which problems are accepted (here every answer but 14 stays, `answers_stay`),
-- and which numbers name a row to a host (each mask gets a zero at its end for each node added, `same_as_before`).
use mathlib.Core.Path.{◌≡◌, refl, ap, ap₂, sym, ◌∙◌, subst}
use mathlib.Core.Logic.{◌↔◌, ◌⊎◌, inl, inr}
use mathlib.Core.Bool.{Bool, true, ◌&&◌, not}
use mathlib.Core.List.Memᴰ
use mathlib.Core.List.{List, [], ◌∷◌, ◌++◌, map, map-append}
use Prim.Native.Nat.{ℕ, zero, suc, ◌+◌, ◌-◌, ◌*◌, ◌/◌, ◌%◌, ◌^◌, ◌<◌, ◌≤◌}
use native.Mathlib.Nat.{add-mul, le_trans, lt_of_mul-lt-mul_right, mul_assoc, mul-lt-mul_of_pos_right, mul-mod_left, suc-add, zero-mul}
use native.Mathlib.Omega.{arith}
use lib.ListN.{length, replicate, get_or, get_or-map}
use lib.Pow.{pow-add, pow_pos, shl-shr}
use lib.Dec.{ltb}
use borrow.Author.Tests.{le-ltb}
use Rattle.meaning.specs.Limits.{max_functions, max_face_nodes}
use Rattle.meaning.specs.Basics.{Bytes, every, is_some, ◌∈◌}
use Rattle.meaning.specs.Term.{one, size}
use Rattle.meaning.specs.Problem.{Problem, functions}
use Rattle.meaning.specs.Face.{faces}
use Rattle.meaning.specs.Choice.{Marks}
use Rattle.meaning.specs.Row.{AreRows, ChoiceEach, Row, face_of}
use Rattle.meaning.specs.Rows.{rows}
use Rattle.meaning.specs.FullList.{IsFullList}
use Rattle.meaning.specs.Candidate.{full_list}
use Rattle.meaning.specs.Read.{Answer, after, got, read_problem, refused}
use Rattle.meaning.specs.Accept.{accept, check_problem, overlarge}
use Rattle.meaning.specs.Readable.{Accepted, WithinLimits}
use Rattle.meaning.specs.PlaceValue.{bit, mask_of, masks_of}
use Rattle.meaning.proofs.Proper.{accepted_proper}
use Rattle.meaning.proofs.Lists.{T_true, all_every, by_test, choose_false, choose_true, mem_all}
use Rattle.meaning.proofs.ChoiceLaws.{rows_are}
use Rattle.meaning.proofs.FullListLaws.{all_rows_lem, full_list_is}
use Rattle.meaning.proofs.PlaceLaws.{checked_few, checked_small}

-- "A face has at most 64 nodes"
unfoldable pub old_limit : ℕ
old_limit = 64

unfoldable pub added_nodes : ℕ
added_nodes = max_face_nodes - old_limit

abbrev pub old_accept : Bytes → Answer Problem
old_accept s = after (read_problem s) (check_problem old_limit)

pub record OldAccepted (p : Problem) : Type 0 where
  pub within : WithinLimits p
  pub checked : check_problem old_limit p ≡ got p

-- A mask of 64 bits for each function
abbrev pub old_masks : Row → List ℕ
old_masks r = map (mask_of old_limit) r ++ replicate (max_functions - length r) 0

pub record SameAsBefore (p : Problem) : Type 0 where
  pub accepted : Accepted p
  -- the same rows in the same order, and the same full list: neither definition mentions the limit
  pub the_rows : AreRows p (rows p)
  pub the_list : IsFullList p (full_list p)
  -- a row's masks are the old ones with a zero after them for each node added (`first_word`, `other_words`)
  pub masks : (r : Row) → r ∈ rows p → masks_of r ≡ map (λ (m : ℕ). m * 2 ^ added_nodes) (old_masks r)
  -- and the masks of two rows compare as they did
  pub order : (r s : Row) → r ∈ rows p → s ∈ rows p → (k : ℕ)
      → (get_or (masks_of r) k 0 < get_or (masks_of s) k 0) ↔ (get_or (old_masks r) k 0 < get_or (old_masks s) k 0)

-- The checks by what they ask, whatever the limit: the converse of `checked_few` and `checked_small`
small_checked : (limit : ℕ) (p : Problem) → length (functions p) ≤ max_functions
    → (is_some (faces p) ≡ true → (f : ℕ) → f ∈ functions p → size (one (face_of p f)) ≤ limit) → check_problem limit p ≡ got p
unfolding check_problem overlarge
small_checked limit p few small =
    choose_false _ _ (le-ltb max_functions (length (functions p)) few)
    ∙ choose_false _ _ (by_test (is_some (faces p))
    (λ agree. ap₂ ◌&&◌ agree (ap not (fit agree)))
    (λ apart. ap (λ (b : Bool). b && not (every fits (functions p))) apart))
  where
    fits : ℕ → Bool
    fits f = not (ltb limit (size (one (face_of p f))))

    fit : is_some (faces p) ≡ true → every fits (functions p) ≡ true
    fit y = T_true (all_every fits (functions p) (mem_all (λ f. fits f ≡ true) (functions p)
        (λ f m. ap not (le-ltb limit (size (one (face_of p f))) (small y f m)))))

-- A HIGHER LIMIT LETS THROUGH WHAT A LOWER ONE DOES
pub limit_raised : (a b : ℕ) (p : Problem) → a ≤ b → check_problem a p ≡ got p → check_problem b p ≡ got p
limit_raised a b p h e = small_checked b p (checked_few a p e) (λ y f m. le_trans (checked_small a p e y f m) h)

-- .. and changes no answer but 14
answers_of : (a b : ℕ) (p : Problem) → a ≤ b → (check_problem a p ≡ check_problem b p) ⊎ (check_problem a p ≡ refused 14)
unfolding check_problem
answers_of a b p h =
    by_test (ltb max_functions (length (functions p)))
    (λ many. inl (choose_true _ _ many ∙ sym (choose_true _ _ many)))
    (λ few. by_test (overlarge a p)
    (λ large. inr (choose_false _ _ few ∙ choose_true _ _ large))
    (λ small. let e : check_problem a p ≡ got p = choose_false _ _ few ∙ choose_false _ _ small in
    inl (e ∙ sym (limit_raised a b p h e))))

raised_by : max_face_nodes ≡ old_limit + added_nodes
unfolding old_limit added_nodes max_face_nodes
raised_by = refl

raised : old_limit ≤ max_face_nodes
raised = omega (arith, raised_by)

pub answers_stay : (s : Bytes) → (old_accept s ≡ accept s) ⊎ (old_accept s ≡ refused 14)
unfolding accept
answers_stay s = go (read_problem s)
  where
    go : (a : Answer Problem)
        → (after a (check_problem old_limit) ≡ after a (check_problem max_face_nodes)) ⊎ (after a (check_problem old_limit) ≡ refused 14)
    go (refused n) = inl refl
    go (got p) = answers_of old_limit max_face_nodes p raised

-- A WIDER MASK IS THE OLD ONE WITH ZEROS AFTER IT
pub mask_wider : (w k : ℕ) (ms : Marks) → length ms ≤ w → mask_of (w + k) ms ≡ mask_of w ms * 2 ^ k
unfolding mask_of
mask_wider w k [] h = sym (zero-mul (2 ^ k))
mask_wider zero k (m ∷ ms) h = absurd (omega arith)
mask_wider (suc w) k (m ∷ ms) h =
    ap (λ (n : ℕ). mask_of n (m ∷ ms)) (suc-add w k)
    ∙ ap₂ ◌+◌ (ap (λ (n : ℕ). bit m * n) (pow-add 2 w k) ∙ sym (mul_assoc (bit m) (2 ^ w) (2 ^ k))) (mask_wider w k ms (omega arith))
    ∙ sym (add-mul (bit m * 2 ^ w) (mask_of w ms) (2 ^ k))

-- Of the words the first is the old mask, and the others are 0
module _ (ms : Marks) (h : length ms ≤ old_limit) where
  new_mask : mask_of max_face_nodes ms ≡ mask_of old_limit ms * 2 ^ added_nodes
  new_mask = ap (λ (w : ℕ). mask_of w ms) raised_by ∙ mask_wider old_limit added_nodes ms h

  pub first_word : mask_of max_face_nodes ms / 2 ^ added_nodes ≡ mask_of old_limit ms
  first_word = ap (λ (m : ℕ). m / 2 ^ added_nodes) new_mask ∙ shl-shr (mask_of old_limit ms) added_nodes

  pub other_words : mask_of max_face_nodes ms % 2 ^ added_nodes ≡ 0
  other_words = ap (λ (m : ℕ). m % 2 ^ added_nodes) new_mask ∙ mul-mod_left (mask_of old_limit ms) (2 ^ added_nodes)

-- The masks of a row, and how two compare
module _ (k : ℕ) where
  wider : ℕ → ℕ
  wider m = m * 2 ^ k

  zeros_wider : (n : ℕ) → replicate n 0 ≡ map wider (replicate n 0)
  unfolding wider
  zeros_wider zero = refl
  zeros_wider (suc n) = ap₂ (λ (m : ℕ) (ms : List ℕ). m ∷ ms) (sym (zero-mul (2 ^ k))) (zeros_wider n)

  row_wider : (w : ℕ) (p : Problem) (fs : List ℕ) (r : Row) → ChoiceEach p fs r → ((f : ℕ) → f ∈ fs → size (one (face_of p f)) ≤ w)
      → map (mask_of (w + k)) r ≡ map wider (map (mask_of w) r)
  unfolding wider
  row_wider w p [] [] c h = refl
  row_wider w p [] (ms ∷ r) c h = absurd c
  row_wider w p (f ∷ fs) [] c h = absurd c
  row_wider w p (f ∷ fs) (ms ∷ r) c h =
      ap₂ (λ (m : ℕ) (l : List ℕ). m ∷ l)
      (mask_wider w k ms (omega (arith, c.0.long, h f (Memᴰ.head refl))))
      (row_wider w p fs r c.1 (λ g m. h g (Memᴰ.tail m)))

  wider_at : (ms : List ℕ) (i : ℕ) → get_or (map wider ms) i 0 ≡ get_or ms i 0 * 2 ^ k
  unfolding wider
  wider_at ms i = ap (λ (d : ℕ). get_or (map wider ms) i d) (sym (zero-mul (2 ^ k))) ∙ get_or-map wider ms i 0

  wider_order : (ms us : List ℕ) (i : ℕ) → (get_or (map wider ms) i 0 < get_or (map wider us) i 0) ↔ (get_or ms i 0 < get_or us i 0)
  wider_order ms us i = (
    λ h. lt_of_mul-lt-mul_right (2 ^ k) (subst (λ (n : ℕ). get_or ms i 0 * 2 ^ k < n) (wider_at us i)
        (subst (λ (n : ℕ). n < get_or (map wider us) i 0) (wider_at ms i) h)),
    λ h. subst (λ (n : ℕ). get_or (map wider ms) i 0 < n) (sym (wider_at us i))
        (subst (λ (n : ℕ). n < get_or us i 0 * 2 ^ k) (sym (wider_at ms i)) (mul-lt-mul_of_pos_right h (pow_pos k))),
  )

module _ (p : Problem) (a : OldAccepted p) where
  masks_are : (r : Row) → r ∈ rows p → masks_of r ≡ map (λ (m : ℕ). m * 2 ^ added_nodes) (old_masks r)
  unfolding masks_of wider
  masks_are r m =
      let row = (rows_are p r).0 m in
      ap₂ ◌++◌
      (ap (λ (w : ℕ). map (mask_of w) r) raised_by
      ∙ row_wider added_nodes old_limit p (functions p) r row.choice (checked_small old_limit p a.checked row.has_rows))
      (zeros_wider added_nodes (max_functions - length r))
      ∙ sym (map-append (wider added_nodes) (map (mask_of old_limit) r) (replicate (max_functions - length r) 0))

  order_stays : (r s : Row) → r ∈ rows p → s ∈ rows p → (k : ℕ)
      → (get_or (masks_of r) k 0 < get_or (masks_of s) k 0) ↔ (get_or (old_masks r) k 0 < get_or (old_masks s) k 0)
  unfolding wider
  order_stays r s m n k =
      subst (λ (l : List ℕ). (get_or l k 0 < get_or (masks_of s) k 0) ↔ (get_or (old_masks r) k 0 < get_or (old_masks s) k 0)) (sym (masks_are r m))
      (subst (λ (l : List ℕ). (get_or (map (wider added_nodes) (old_masks r)) k 0 < get_or l k 0) ↔ (get_or (old_masks r) k 0 < get_or (old_masks s) k 0))
      (sym (masks_are s n)) (wider_order added_nodes (old_masks r) (old_masks s) k))

  -- THE THEOREM
  pub same_as_before : SameAsBefore p
  same_as_before =
      let now : Accepted p = record { within = a.within; checked = limit_raised old_limit max_face_nodes p raised a.checked } in
      record { accepted = now; the_rows = all_rows_lem p; the_list = full_list_is p (accepted_proper p now); masks = masks_are; order = order_stays }

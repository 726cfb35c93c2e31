-- The laws of rows and places in words.
--   nowhere_named   the value that stands for words which are no place names no place of any problem
--   placed_back     the place that was put at the front of words is read back
use mathlib.Core.Path.{◌≡◌, refl, ap, ap₂, sym, ◌∙◌, subst}
use mathlib.Core.Bool.{Bool, true, false, false≢true}
use mathlib.Core.List.{List, [], ◌∷◌, ◌++◌, append_assoc, append-nil, map}
use Prim.Native.Nat.{ℕ, zero, suc, ◌+◌, ◌-◌, ◌*◌, ◌^◌, ◌<◌, ◌≤◌}
use native.Mathlib.Numerals.{add-one}
use native.Mathlib.Omega.{arith}
use borrow.Author.Tests.{le-leb, leb-false, leb-true, lt-leb}
use lib.ListN.{length, take, drop, get_or, set, length-append, length-map, length-drop, replicate, take-append-drop}
use lib.Pow.{pow_pos}
use mir.Val.{bool_byte}
use lib.Seq.{take-suc, take-suc-set, take_all, take_at, drop_at, drop-append-add, drop-drop, get_or_at, length-take-le}
use lib.Seq.{set_split, sets}
use Rattle.meaning.specs.Limits.{max_face_nodes, max_functions}
use Rattle.meaning.specs.Basics.{All, each}
use Rattle.meaning.specs.Problem.{Problem}
use Rattle.meaning.specs.Row.{Row}
use Rattle.meaning.specs.Search.{Place, at, past}
use Rattle.meaning.specs.PlaceValue.{PlaceValue, mask_of, masks_of, place_value, Names}
use Rattle.meaning.proofs.Lists.{all_append, by_test, choose_true, choose_false, each_append}
use Rattle.meaning.proofs.PlaceLaws.{mask_small}
use Rattle.masks.specs.Mask.{marks, value}
use Rattle.masks.specs.Sets.{marks_in, mask, masks_in, width, word_count, word_nodes, words, words_in, words_of}
use Rattle.masks.specs.declared.NodeSet.{NodeSet}
use Rattle.masks.proofs.Marks.{length_marks, marks_value, value_marks}
use Rattle.masks.proofs.Words.{length_words, masks_set, mask_words, words_array}
use Rattle.words.specs.Storing.{PutRow, PutWords}
use Rattle.words.specs.Words.{has_place, last_word, mask_in, masks_from, nowhere, place_of_words, place_words, placed, row_words, value_with}

-- ---- the words of one set

-- As the code reads a set
pub set_read : (s : NodeSet) (ws : List ℕ) → length s.words ≡ word_count → s.words ≡ ws → mask s ≡ mask_in ws
unfolding mask
set_read s ws four e = ap mask_in (words_array s four ∙ e)

-- ... and as it stores one
pub set_put : (l : List ℕ) (i : ℕ) (s : NodeSet) → length s.words ≡ word_count
    → get_or s.words 0 0 < 2 ^ word_nodes → get_or s.words 1 0 < 2 ^ word_nodes
    → get_or s.words 2 0 < 2 ^ word_nodes → get_or s.words 3 0 < 2 ^ word_nodes
    → take i l ++ (s.words ++ drop word_count (drop i l)) ≡ take i l ++ words_of (mask s) ++ drop (i + word_count) l
set_put l i s four a b c d =
    ap₂ (λ (x y : List ℕ). take i l ++ (x ++ y)) (sym (mask_words s a b c d ∙ words_array s four)) (drop-drop word_count i l)
    ∙ sym (append_assoc (take i l) (words_of (mask s)) (drop (i + word_count) l))

-- The mask of a mask's words is the mask
marks_back : (n : ℕ) (l : List Bool) → length l ≡ n * word_nodes → marks_in (words_in n l) ≡ l
unfolding marks_in words_in
marks_back zero [] h = refl
marks_back zero (b ∷ l) h = absurd (omega arith)
marks_back (suc n) l h =
    let e : length (take word_nodes l) ≡ word_nodes = length-take-le word_nodes l (omega arith) in
    ap₂ (λ (x y : List Bool). x ++ y)
    (ap (λ (k : ℕ). marks k (value (take word_nodes l))) (sym e) ∙ marks_value (take word_nodes l))
    (marks_back n (drop word_nodes l) (length-drop word_nodes l ∙ omega (arith, h)))
    ∙ take-append-drop word_nodes l

whole : width ≡ word_count * word_nodes
unfolding width
whole = refl

mask_back : (m : ℕ) → m < 2 ^ width → mask_in (words_of m) ≡ m
unfolding words_of
mask_back m h = ap value (marks_back word_count (marks width m) (length_marks width m ∙ whole)) ∙ value_marks width m h

-- ---- the words of several sets

masks_more : (k : ℕ) (l : List ℕ) → masks_from (suc k) l ≡ masks_from k l ++ (mask_in (take word_count (drop (k * word_count) l)) ∷ [])
unfolding masks_from
masks_more zero l = let e : 0 ≡ 0 * word_count = omega arith in ap (λ (n : ℕ). mask_in (take word_count (drop n l)) ∷ []) e
masks_more (suc k) l =
    let e : word_count + k * word_count ≡ suc k * word_count = omega arith in
    let d : drop (k * word_count) (drop word_count l) ≡ drop (suc k * word_count) l =
    drop-drop (k * word_count) word_count l ∙ ap (λ (n : ℕ). drop n l) e in
    ap {B = List ℕ} (λ r. mask_in (take word_count l) ∷ r)
    (masks_more k (drop word_count l) ∙ ap (λ (r : List ℕ). masks_from k (drop word_count l) ++ (mask_in (take word_count r) ∷ [])) d)

-- As the code reads one after the other
pub read_more : (sets : List NodeSet) (l : List ℕ) (k : ℕ) (s : NodeSet) → k < length sets → take k (masks_in sets) ≡ masks_from k l
    → mask s ≡ mask_in (take word_count (drop (k * word_count) l)) → take (k + 1) (masks_in (set sets k s)) ≡ masks_from (k + 1) l
read_more sets l k s h e q =
    rw (add-one k)
    (ap (take (suc k)) (masks_set sets k s)
    ∙ take-suc-set (masks_in sets) k (mask s) (omega (arith, h, length-map sets mask))
    ∙ ap₂ {C = List ℕ} (λ r m. r ++ (m ∷ [])) e q ∙ sym (masks_more k l))

pub read_all : (sets : List NodeSet) (l : List ℕ) (k : ℕ) → length sets ≡ max_functions → k ≡ max_functions
    → take k (masks_in sets) ≡ masks_from k l → masks_in sets ≡ masks_from max_functions l
read_all sets l k long e h =
    sym (take_all k (masks_in sets) (omega (arith, long, e, length-map sets mask))) ∙ h ∙ ap (λ (n : ℕ). masks_from n l) e

-- ... and stores them
pub nothing_put : (n : ℕ) (l : List ℕ) → l ≡ take n l ++ [] ++ drop n l
nothing_put n l = sym (ap (λ (r : List ℕ). r ++ drop n l) (append-nil (take n l)) ∙ take-append-drop n l)

-- More after a front of so many words
pub more_put : (F M before mid now : List ℕ) (a m b : ℕ) → length F ≡ a → b ≡ a + m → mid ≡ F ++ drop a before
    → now ≡ take a mid ++ M ++ drop b mid → now ≡ (F ++ M) ++ drop b before
more_put F M before mid now a m b e f h g =
    let far : b ≡ length F + m = omega (arith, e, f) in
    let front : take a mid ≡ F = ap (take a) h ∙ take_at F (drop a before) a e in
    let rest : drop b mid ≡ drop b before =
    ap (drop b) h ∙ ap (λ (n : ℕ). drop n (F ++ drop a before)) far ∙ drop-append-add F (drop a before) m ∙ drop-drop m a before
    ∙ ap (λ (n : ℕ). drop n before) (sym f) in
    g ∙ ap (λ (l : List ℕ). l ++ M ++ drop b mid) front ∙ ap (λ (l : List ℕ). (F ++ M) ++ l) rest

length_each : (ms : List ℕ) → length (each words_of ms) ≡ length ms * word_count
length_each [] = refl
length_each (m ∷ ms) = length-append (words_of m) (each words_of ms) ∙ omega (arith, length_words m, length_each ms)

-- The words of the first k sets are stored
abbrev pub Stored : ℕ → List ℕ → List ℕ → ℕ → List ℕ → Type 0
Stored start ms before k now = PutWords start (k * word_count) (each words_of (take k ms)) before now

module _ (start : ℕ) (ms before : List ℕ) (long : length ms ≡ max_functions) where
  pub stored_none : Stored start ms before 0 before
  stored_none = let far : start + 0 * word_count ≡ start = omega arith in rw far (nothing_put start before)

  pub stored_more : (k : ℕ) (mid now : List ℕ) → k < max_functions → start + row_words ≤ length before → Stored start ms before k mid
      → PutWords (start + k * word_count) word_count (words_of (get_or ms k 0)) mid now → Stored start ms before (k + 1) now
  unfolding max_functions
  stored_more k mid now l room h p =
      let past : start + k * word_count + word_count ≡ start + (k + 1) * word_count = omega arith in
      let F : List ℕ = take start before ++ each words_of (take k ms) in
      let front : length F ≡ start + k * word_count =
      length-append (take start before) (each words_of (take k ms))
      ∙ omega (arith, length-take-le start before (omega arith), length_each (take k ms), length-take-le k ms (omega arith)) in
      let words : each words_of (take (k + 1) ms) ≡ each words_of (take k ms) ++ words_of (get_or ms k 0) =
      rw (add-one k)
      (ap (each words_of) (take-suc ms k 0 (omega arith)) ∙ each_append words_of (take k ms) (get_or ms k 0 ∷ [])
      ∙ ap (λ (w : List ℕ). each words_of (take k ms) ++ w) (append-nil (words_of (get_or ms k 0)))) in
      more_put F (words_of (get_or ms k 0)) before mid now (start + k * word_count) word_count (start + (k + 1) * word_count) front (omega arith) h
      (p ∙ ap (λ (n : ℕ). take (start + k * word_count) mid ++ words_of (get_or ms k 0) ++ drop n mid) past)
      ∙ ap (λ (w : List ℕ). w ++ drop (start + (k + 1) * word_count) before)
      (append_assoc (take start before) (each words_of (take k ms)) (words_of (get_or ms k 0))
      ∙ ap (λ (w : List ℕ). take start before ++ w) (sym words))

  pub stored_all : (k : ℕ) (now : List ℕ) → k ≡ max_functions → Stored start ms before k now → PutRow start ms before now
  stored_all k now e h = record {
    long = length_each ms ∙ ap (λ (n : ℕ). n * word_count) long;
    put =
        h
        ∙ ap₂ (λ (x y : List ℕ). take start before ++ x ++ y) (ap (each words_of) (take_all k ms (omega (arith, long, e))))
        (ap (λ (n : ℕ). drop (start + n * word_count) before) e);
  }

-- The last word as the code makes it of a truth value
pub last_byte : (b : Bool) → bool_byte b ≡ last_word b
last_byte false = refl
last_byte true = refl

-- The last word, after those of the sets
pub put_last : (l l₀ ms : List ℕ) (last : ℕ) (is_past : Bool) → place_words ≤ length l₀ → length l ≡ length l₀
    → PutRow 0 ms l₀ l → last ≡ last_word is_past
    → set l row_words last ≡ placed l₀ (record { masks = ms; is_past = is_past })
put_last l l₀ ms last is_past long same row e =
    let z : 0 + row_words ≡ row_words = omega arith in
    let h : l ≡ each words_of ms ++ drop row_words l₀ = row.put ∙ ap (λ (n : ℕ). each words_of ms ++ drop n l₀) z in
    let n = row.long in
    let front : take row_words l ≡ each words_of ms = ap (take row_words) h ∙ take_at (each words_of ms) (drop row_words l₀) row_words n in
    let rest : drop place_words l ≡ drop place_words l₀ =
    sym (drop-drop 1 row_words l) ∙ ap (drop 1) (ap (drop row_words) h ∙ drop_at (each words_of ms) (drop row_words l₀) row_words n)
    ∙ drop-drop 1 row_words l₀ in
    set_split l row_words last (omega (arith, long, same))
    ∙ ap (λ (i : ℕ). take row_words l ++ (last ∷ drop i l)) (sym (add-one row_words))
    ∙ ap₂ (λ (x y : List ℕ). x ++ (last ∷ y)) front rest
    ∙ ap (λ (x : ℕ). each words_of ms ++ (x ∷ drop place_words l₀)) e

-- ---- reading words

pub too_few : (words : List ℕ) → length words < place_words → place_of_words words ≡ nowhere
unfolding place_of_words
too_few words h = choose_false _ _ (lt-leb place_words (length words) h)

module _ (words : List ℕ) (long : place_words ≤ length words) where
  with_last : (last : ℕ) → get_or words row_words 0 ≡ last → place_of_words words ≡ value_with (masks_from max_functions words) last
  unfolding place_of_words
  with_last last e = choose_true _ _ (le-leb place_words (length words) long) ∙ ap (value_with (masks_from max_functions words)) e

  pub row_read : (masks : List ℕ) → masks ≡ masks_from max_functions words → get_or words row_words 0 ≡ 0
      → record { masks = masks; is_past = false } ≡ place_of_words words
  unfolding value_with
  row_read masks m e = ap (λ (l : List ℕ). value_with l 0) m ∙ sym (with_last 0 e)

  pub past_read : (masks : List ℕ) → masks ≡ masks_from max_functions words → get_or words row_words 0 ≡ 1
      → record { masks = masks; is_past = true } ≡ place_of_words words
  unfolding value_with
  past_read masks m e = ap (λ (l : List ℕ). value_with l 1) m ∙ sym (with_last 1 e)

  pub other_read : 1 < get_or words row_words 0 → place_of_words words ≡ nowhere
  unfolding value_with
  other_read h = go (get_or words row_words 0) refl h
    where
      go : (last : ℕ) → get_or words row_words 0 ≡ last → 1 < last → place_of_words words ≡ nowhere
      go zero e h = absurd (omega arith)
      go (suc zero) e h = absurd (omega arith)
      go (suc (suc n)) e h = with_last (suc (suc n)) e

-- Too few words, or another last word, are "no such place"
pub nowhere_named : (p : Problem) (place : Place Row) → Names p nowhere place → ⊥
unfolding nowhere place_value max_functions
nowhere_named p (at r) h = false≢true (sym (ap (λ (v : PlaceValue). v.is_past) h.is_value))
nowhere_named p past h = let z = ap (λ (v : PlaceValue). get_or v.masks 0 0) h.is_value in omega (arith, z)

pub named_long : (p : Problem) (words : List ℕ) (place : Place Row) → Names p (place_of_words words) place → place_words ≤ length words
named_long p words place h =
    by_test (has_place (length words)) (λ e. leb-true place_words (length words) e)
    (λ e. absurd (nowhere_named p place
    (subst (λ (v : PlaceValue). Names p v place) (too_few words (leb-false place_words (length words) e)) h)))

-- ---- what a call writes, the next reads

back : (masks : List ℕ) (is_past : Bool) → value_with masks (last_word is_past) ≡ record { masks = masks; is_past = is_past }
unfolding value_with
back masks false = refl
back masks true = refl

-- A mask has no more digits than its words
abbrev pub Small : List ℕ → Type 0
Small ms = All (λ m. m < 2 ^ width) ms

masks_back : (ms later : List ℕ) → Small ms → masks_from (length ms) (each words_of ms ++ later) ≡ ms
unfolding masks_from
masks_back [] later h = refl
masks_back (m ∷ ms) later h =
    let e : (words_of m ++ each words_of ms) ++ later ≡ words_of m ++ (each words_of ms ++ later) =
    append_assoc (words_of m) (each words_of ms) later in
    ap (λ (l : List ℕ). mask_in (take word_count l) ∷ masks_from (length ms) (drop word_count l)) e
    ∙ ap₂ {C = List ℕ} (λ (x y : List ℕ). mask_in x ∷ masks_from (length ms) y)
    (take_at (words_of m) _ word_count (length_words m)) (drop_at (words_of m) _ word_count (length_words m))
    ∙ ap₂ {C = List ℕ} (λ x xs. x ∷ xs) (mask_back m h.0) (masks_back ms later h.1)

-- Every small mask is that of a set
abbrev pub set_of : ℕ → NodeSet
set_of m = record { words = words_of m }

set_back : (m : ℕ) → m < 2 ^ width → mask (set_of m) ≡ m
unfolding mask words_of words_in
set_back m h = mask_back m h

pub sets_back : (ms : List ℕ) → Small ms → masks_in (map set_of ms) ≡ ms
sets_back [] h = refl
sets_back (m ∷ ms) h = ap₂ {C = List ℕ} (λ x xs. x ∷ xs) (set_back m h.0) (sets_back ms h.1)

pub placed_back : (words : List ℕ) (v : PlaceValue) → length v.masks ≡ max_functions → Small v.masks → place_of_words (placed words v) ≡ v
placed_back words v h small =
    let last : List ℕ = last_word v.is_past ∷ drop place_words words in
    let sets : List ℕ = each words_of v.masks in
    let n : length sets ≡ row_words = length_each v.masks ∙ ap (λ (i : ℕ). i * word_count) h in
    let long : place_words ≤ length (sets ++ last) = omega (arith, length-append sets last, n) in
    with_last (sets ++ last) long (last_word v.is_past) (get_or_at sets (last_word v.is_past) (drop place_words words) 0 row_words n)
    ∙ ap (λ (l : List ℕ). value_with l (last_word v.is_past))
    (ap (λ (i : ℕ). masks_from i (sets ++ last)) (sym h) ∙ masks_back v.masks last small)
    ∙ back v.masks v.is_past

-- The masks of a place are small
face_width : max_face_nodes ≡ width
unfolding max_face_nodes width
face_width = refl

row_small : (r : Row) → Small (map (mask_of max_face_nodes) r)
row_small [] = tt
row_small (ms ∷ r) = (subst (λ (w : ℕ). mask_of max_face_nodes ms < 2 ^ w) face_width (mask_small max_face_nodes ms), row_small r)

zeros_small : (n : ℕ) → Small (replicate n 0)
zeros_small zero = tt
zeros_small (suc n) = (pow_pos width, zeros_small n)

pub place_small : (place : Place Row) → Small (place_value place).masks
unfolding place_value masks_of
place_small (at r) =
    all_append (λ (m : ℕ). m < 2 ^ width) (map (mask_of max_face_nodes) r) (replicate (max_functions - length r) 0)
    (row_small r) (zeros_small (max_functions - length r))
place_small past = zeros_small max_functions

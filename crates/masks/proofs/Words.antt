-- Node sets by their words: a set's marks are the marks of its words, one word after the other, so that a node is asked for, added and left out
-- in its own word, and counts go over all words. Said of any number of words.
use mathlib.Core.Path.{◌≡◌, refl, sym, ap, ap₂, ◌∙◌, subst}
use mathlib.Core.Bool.{Bool, true, false}
use mathlib.Core.Logic.{◌↔◌}
use mathlib.Core.List.{List, [], ◌∷◌, ◌++◌}
use Prim.Native.Nat.{ℕ, zero, suc, ◌+◌, ◌*◌, ◌/◌, ◌%◌, ◌^◌, ◌≤◌, ◌<◌}
use native.Mathlib.Omega.{arith}
use lib.Dec.{eqb}
use lib.ListN.{length, get_or, set, take, drop, length-append, length-set, get_or-append, get_or-map}
use lib.Pow.{pow_pos}
use lib.Seq.{get_or-append-add, set-append_left, take_at, drop_at, drop-cons}
use borrow.Author.Tests.{eq-eqb, eqb-true}
use Rattle.masks.specs.Mask.{marks, value, trues, first}
use Rattle.masks.specs.Sets.{word_nodes, word_count, width, words, marks_in, mask, nodes, masks_in, words_in, words_of}
use Rattle.masks.specs.declared.NodeSet.{NodeSet}
use Rattle.masks.proofs.Cases.{same_truth}
use Rattle.masks.proofs.Marks.{length_marks, marks_value, value_lt, value_marks}

-- ---- a set's words

-- The words of a set are its array's, which has so many
pub words_array : (s : NodeSet) → length s.words ≡ word_count → words s ≡ s.words
words_array s e = four s.words e
  where
    four : (ws : List ℕ) → length ws ≡ 4 → get_or ws 0 0 ∷ get_or ws 1 0 ∷ get_or ws 2 0 ∷ get_or ws 3 0 ∷ [] ≡ ws
    four [] e = absurd (omega arith)
    four (a ∷ []) e = absurd (omega arith)
    four (a ∷ b ∷ []) e = absurd (omega arith)
    four (a ∷ b ∷ c ∷ []) e = absurd (omega arith)
    four (a ∷ b ∷ c ∷ d ∷ []) e = refl
    four (a ∷ b ∷ c ∷ d ∷ f ∷ r) e = absurd (omega arith)

-- ---- a set's marks

length_in_lem : (ws : List ℕ) → length (marks_in ws) ≡ length ws * word_nodes
unfolding marks_in
length_in_lem [] = refl
length_in_lem (w ∷ ws) =
    length-append (marks word_nodes w) (marks_in ws) ∙ omega (arith, length_marks word_nodes w, length_in_lem ws)

-- The marks of a set are those of its words
pub nodes_words : (s : NodeSet) → nodes s ≡ marks_in (words s)
unfolding mask width
nodes_words s =
    ap (λ (n : ℕ). marks n (value (marks_in (words s)))) (sym (length_in_lem (words s))) ∙ marks_value (marks_in (words s))

-- ... and its mask is theirs
pub mask_nodes : (s : NodeSet) → mask s ≡ value (nodes s)
unfolding mask
mask_nodes s = ap value (sym (nodes_words s))

pub mask_small : (s : NodeSet) → mask s < 2 ^ width
mask_small s =
    subst (λ (m : ℕ). m < 2 ^ width) (sym (mask_nodes s))
    (subst (λ (n : ℕ). value (nodes s) < 2 ^ n) (length_marks width (mask s)) (value_lt (nodes s)))

-- ---- one node

-- Node j of word i
word_has : (ws : List ℕ) (i j : ℕ) → i < length ws → j < word_nodes
    → get_or (marks_in ws) (i * word_nodes + j) false ≡ get_or (marks word_nodes (get_or ws i 0)) j false
unfolding marks_in
word_has [] i j h l = absurd (omega arith)
word_has (w ∷ ws) zero j h l =
    let e : 0 * word_nodes + j ≡ j = omega arith in
    ap (λ (k : ℕ). get_or (marks word_nodes w ++ marks_in ws) k false) e
    ∙ get_or-append (marks word_nodes w) (marks_in ws) false j (omega (arith, length_marks word_nodes w))
word_has (w ∷ ws) (suc i) j h l =
    let e : suc i * word_nodes + j ≡ length (marks word_nodes w) + (i * word_nodes + j) = omega (arith, length_marks word_nodes w) in
    ap (λ (k : ℕ). get_or (marks word_nodes w ++ marks_in ws) k false) e
    ∙ get_or-append-add (marks word_nodes w) (marks_in ws) (i * word_nodes + j) false ∙ word_has ws i j (omega arith) l

set_append_add : {A : Type 0} (xs ys : List A) (n : ℕ) (a : A) → set (xs ++ ys) (length xs + n) a ≡ xs ++ set ys n a
set_append_add [] ys n a = let e : 0 + n ≡ n = omega arith in ap (λ (k : ℕ). set ys k a) e
set_append_add {A} (x ∷ xs) ys n a =
    let e : suc (length xs) + n ≡ suc (length xs + n) = omega arith in
    ap (λ (k : ℕ). set (x ∷ (xs ++ ys)) k a) e ∙ ap {B = List A} (λ r. x ∷ r) (set_append_add xs ys n a)

word_set : (ws : List ℕ) (i j w : ℕ) (b : Bool) → i < length ws → j < word_nodes → marks word_nodes w ≡ set (marks word_nodes (get_or ws i 0)) j b
    → marks_in (set ws i w) ≡ set (marks_in ws) (i * word_nodes + j) b
unfolding marks_in
word_set [] i j w b h l e = absurd (omega arith)
word_set (v ∷ ws) zero j w b h l e =
    let d : j ≡ 0 * word_nodes + j = omega arith in
    ap (λ (r : List Bool). r ++ marks_in ws) e
    ∙ sym (set-append_left (marks word_nodes v) (marks_in ws) j b (omega (arith, length_marks word_nodes v)))
    ∙ ap (λ (k : ℕ). set (marks word_nodes v ++ marks_in ws) k b) d
word_set (v ∷ ws) (suc i) j w b h l e =
    let d : suc i * word_nodes + j ≡ length (marks word_nodes v) + (i * word_nodes + j) = omega (arith, length_marks word_nodes v) in
    ap (λ (r : List Bool). marks word_nodes v ++ r) (word_set ws i j w b (omega arith) l e)
    ∙ sym (set_append_add (marks word_nodes v) (marks_in ws) (i * word_nodes + j) b)
    ∙ ap (λ (k : ℕ). set (marks word_nodes v ++ marks_in ws) k b) (sym d)

split_node : (k : ℕ) → k / 64 * 64 + k % 64 ≡ k
split_node k = omega arith

-- As the code asks for a node, and as it changes one
pub has_node : (s : NodeSet) (k : ℕ) → k < width
    → get_or (marks word_nodes (get_or (words s) (k / 64) 0)) (k % 64) false ≡ get_or (nodes s) k false
unfolding width
has_node s k h =
    sym (word_has (words s) (k / 64) (k % 64) (omega arith) (omega arith))
    ∙ ap₂ (λ (l : List Bool) (n : ℕ). get_or l n false) (sym (nodes_words s)) (split_node k)

-- A node of the first word
pub has_first : (s : NodeSet) (k : ℕ) → k < word_nodes → get_or (marks word_nodes (get_or s.words 0 0)) k false ≡ get_or (nodes s) k false
unfolding marks_in
has_first s k h =
    sym
    (ap (λ (l : List Bool). get_or l k false) (nodes_words s)
    ∙ get_or-append (marks word_nodes (get_or s.words 0 0)) _ false k (omega (arith, length_marks word_nodes (get_or s.words 0 0))))

pub set_node : (s r : NodeSet) (k w : ℕ) (b : Bool) → k < width → words r ≡ set (words s) (k / 64) w
    → marks word_nodes w ≡ set (marks word_nodes (get_or (words s) (k / 64) 0)) (k % 64) b → nodes r ≡ set (nodes s) k b
unfolding width
set_node s r k w b h e d =
    nodes_words r ∙ ap marks_in e ∙ word_set (words s) (k / 64) (k % 64) w b (omega arith) (omega arith) d
    ∙ ap₂ (λ (l : List Bool) (n : ℕ). set l n b) (sym (nodes_words s)) (split_node k)

-- A node of the first word changed
pub set_first : (s r : NodeSet) (k w : ℕ) (b : Bool) → k < word_nodes → words r ≡ set (words s) 0 w
    → marks word_nodes w ≡ set (marks word_nodes (get_or s.words 0 0)) k b → nodes r ≡ set (nodes s) k b
unfolding width
set_first s r k w b h e d =
    let i : 0 ≡ k / 64 = omega arith in
    let j : k ≡ k % 64 = omega arith in
    set_node s r k w b (omega arith) (e ∙ ap (λ (n : ℕ). set (words s) n w) i)
    (d ∙ ap₂ (λ (n m : ℕ). set (marks word_nodes (get_or (words s) n 0)) m b) i j)

-- ---- the counts

-- The marks of the words of an array
pub nodes_array : (s : NodeSet) → length s.words ≡ word_count → nodes s ≡ marks_in s.words
nodes_array s four = nodes_words s ∙ ap marks_in (words_array s four)

pub trues_append : (l r : List Bool) → trues (l ++ r) ≡ trues l + trues r
unfolding trues
trues_append [] r = omega arith
trues_append (true ∷ l) r = omega (arith, trues_append l r)
trues_append (false ∷ l) r = trues_append l r

-- Ones are counted over all words, one after the other
pub ones_more : (ws : List ℕ) (i : ℕ) → i < length ws
    → trues (marks_in (take (suc i) ws)) ≡ trues (marks_in (take i ws)) + trues (marks word_nodes (get_or ws i 0))
unfolding marks_in trues
ones_more [] i h = absurd (omega arith)
ones_more (w ∷ ws) zero h = omega (arith, trues_append (marks word_nodes w) [])
ones_more (w ∷ ws) (suc i) h =
    omega (
      arith,
      ones_more ws i (omega arith),
      trues_append (marks word_nodes w) (marks_in (take (suc i) ws)),
      trues_append (marks word_nodes w) (marks_in (take i ws)),
    )

-- The lowest node of the words: that of the first, or, where it has none, that of those after it
first_skip : (l r : List Bool) → value l ≡ 0 → first (l ++ r) ≡ length l + first r
unfolding value first
first_skip [] r e = omega arith
first_skip (true ∷ l) r e = absurd (omega (arith, pow_pos (length l)))
first_skip (false ∷ l) r e = omega (arith, first_skip l r e)

first_here : (l r : List Bool) → (value l ≡ 0 → ⊥) → first (l ++ r) ≡ first l
unfolding value first
first_here [] r n = absurd (n refl)
first_here (true ∷ l) r n = refl
first_here (false ∷ l) r n = ap suc (first_here l r n)

first_later : (w : ℕ) (ws : List ℕ) → w ≡ 0 → first (marks_in (w ∷ ws)) ≡ word_nodes + first (marks_in ws)
unfolding marks_in
first_later w ws e =
    first_skip (marks word_nodes w) (marks_in ws) (ap (λ (n : ℕ). value (marks word_nodes n)) e ∙ value_marks word_nodes 0 (omega arith))
    ∙ ap (λ (n : ℕ). n + first (marks_in ws)) (length_marks word_nodes w)

first_word : (w : ℕ) (ws : List ℕ) → w < 2 ^ word_nodes → (w ≡ 0 → ⊥) → first (marks_in (w ∷ ws)) ≡ first (marks word_nodes w)
unfolding marks_in
first_word w ws h n = first_here (marks word_nodes w) (marks_in ws) (λ e. n (sym (value_marks word_nodes w h) ∙ e))

-- As the code looks for it: word i has it, or it is after the word
module _ (ws : List ℕ) (i : ℕ) (h : i < length ws) where
  pub lowest_here : get_or ws i 0 < 2 ^ word_nodes → (get_or ws i 0 ≡ 0 → ⊥)
      → first (marks_in (drop i ws)) ≡ first (marks word_nodes (get_or ws i 0))
  lowest_here s n = ap (λ (l : List ℕ). first (marks_in l)) (drop-cons ws i 0 h) ∙ first_word (get_or ws i 0) (drop (suc i) ws) s n

  pub lowest_later : get_or ws i 0 ≡ 0 → first (marks_in (drop i ws)) ≡ word_nodes + first (marks_in (drop (suc i) ws))
  lowest_later e = ap (λ (l : List ℕ). first (marks_in l)) (drop-cons ws i 0 h) ∙ first_later (get_or ws i 0) (drop (suc i) ws) e

pub none_left : (ws : List ℕ) (i : ℕ) → length ws ≤ i → first (marks_in (drop i ws)) ≡ 0
unfolding marks_in first
none_left [] zero h = refl
none_left [] (suc i) h = refl
none_left (w ∷ ws) zero h = absurd (omega arith)
none_left (w ∷ ws) (suc i) h = none_left ws i (omega arith)

-- A set without a node: there is no lowest one
none_first : (l : List Bool) → (first l ≡ length l) ↔ (value l ≡ 0)
unfolding first value
none_first [] = (λ e. refl, λ e. refl)
none_first (true ∷ l) = (λ e. absurd (omega arith), λ e. absurd (omega (arith, pow_pos (length l))))
none_first (false ∷ l) = let q = none_first l in (λ e. q.0 (omega arith), λ e. ap suc (q.1 e))

pub empty_test : (s : NodeSet) (n : ℕ) → n ≡ first (nodes s) → eqb n 256 ≡ eqb (mask s) 0
unfolding width
empty_test s n e =
    let q = none_first (nodes s) in
    let l = length_marks width (mask s) in
    same_truth (eqb n 256) (eqb (mask s) 0) (λ h. eq-eqb (mask s) 0 (mask_nodes s ∙ q.0 (sym e ∙ eqb-true n 256 h ∙ sym l)))
    (λ h. eq-eqb n 256 (e ∙ q.1 (sym (mask_nodes s) ∙ eqb-true (mask s) 0 h) ∙ l))

-- A count of a word, or of several, is at most the number of their nodes
trues_le : (l : List Bool) → trues l ≤ length l
unfolding trues
trues_le [] = omega arith
trues_le (true ∷ l) = omega (arith, trues_le l)
trues_le (false ∷ l) = omega (arith, trues_le l)

pub few_ones : (w : ℕ) → trues (marks word_nodes w) ≤ word_nodes
few_ones w = omega (arith, trues_le (marks word_nodes w), length_marks word_nodes w)

pub most_ones : (ws : List ℕ) (i : ℕ) → trues (marks_in (take i ws)) ≤ i * word_nodes
unfolding marks_in trues
most_ones ws zero = omega arith
most_ones [] (suc i) = omega arith
most_ones (w ∷ ws) (suc i) = omega (arith, most_ones ws i, few_ones w, trues_append (marks word_nodes w) (marks_in (take i ws)))

pub first_le : (l : List Bool) → first l ≤ length l
unfolding first
first_le [] = omega arith
first_le (true ∷ l) = omega arith
first_le (false ∷ l) = omega (arith, first_le l)

pub few_zeros : (w : ℕ) → first (marks word_nodes w) ≤ word_nodes
few_zeros w = omega (arith, first_le (marks word_nodes w), length_marks word_nodes w)

-- ---- as the code goes by the number of a word

pub word_at : (s : NodeSet) (i n : ℕ) → i ≡ n → get_or (words s) n 0 ≡ get_or (words s) i 0
word_at s i n e = ap (λ (k : ℕ). get_or (words s) k 0) (sym e)

pub put_at : (s : NodeSet) (i n w : ℕ) → length s.words ≡ word_count → i ≡ n → words (record { words = set s.words n w }) ≡ set (words s) i w
put_at s i n w four e =
    words_array (record { words = set s.words n w }) (length-set s.words n w ∙ four)
    ∙ ap₂ (λ (ws : List ℕ) (k : ℕ). set ws k w) (sym (words_array s four)) (sym e)

-- ---- the masks of a row

-- What the code reads past the end of an array of sets
abbrev pub no_nodes : NodeSet
no_nodes = record { words = [] }

pub masks_at : (row : List NodeSet) (k : ℕ) → mask (get_or row k no_nodes) ≡ get_or (masks_in row) k 0
unfolding mask value marks_in marks
masks_at row k = sym (get_or-map mask row k no_nodes)

pub masks_set : (row : List NodeSet) (k : ℕ) (s : NodeSet) → masks_in (set row k s) ≡ set (masks_in row) k (mask s)
masks_set [] k s = refl
masks_set (r ∷ row) zero s = refl
masks_set (r ∷ row) (suc k) s = ap {B = List ℕ} (λ l. mask r ∷ l) (masks_set row k s)

-- ---- the words of a mask

words_back : (w : ℕ) (ws : List ℕ) (n : ℕ) → w < 2 ^ word_nodes → words_in n (marks_in ws) ≡ ws → words_in (suc n) (marks_in (w ∷ ws)) ≡ w ∷ ws
unfolding words_in marks_in
words_back w ws n h e =
    let l = length_marks word_nodes w in
    ap₂ {C = List ℕ} (λ x xs. x ∷ xs) (ap value (take_at (marks word_nodes w) (marks_in ws) word_nodes l) ∙ value_marks word_nodes w h)
    (ap (words_in n) (drop_at (marks word_nodes w) (marks_in ws) word_nodes l) ∙ e)

-- A HOST THAT HOLDS THE WORDS OF A SET HOLDS ITS MASK
pub mask_words : (s : NodeSet) → get_or s.words 0 0 < 2 ^ word_nodes → get_or s.words 1 0 < 2 ^ word_nodes
    → get_or s.words 2 0 < 2 ^ word_nodes → get_or s.words 3 0 < 2 ^ word_nodes → words_of (mask s) ≡ words s
unfolding words_of words_in
mask_words s a b c d =
    ap (words_in word_count) (nodes_words s)
    ∙ words_back (get_or s.words 0 0) (get_or s.words 1 0 ∷ get_or s.words 2 0 ∷ get_or s.words 3 0 ∷ []) 3 a
    (words_back (get_or s.words 1 0) (get_or s.words 2 0 ∷ get_or s.words 3 0 ∷ []) 2 b
    (words_back (get_or s.words 2 0) (get_or s.words 3 0 ∷ []) 1 c (words_back (get_or s.words 3 0) [] 0 d refl)))

pub length_words : (m : ℕ) → length (words_of m) ≡ word_count
unfolding words_of words_in
length_words m = refl

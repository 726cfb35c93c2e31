-- Places as a C program holds them, in 64-bit words: the words of each function's node set (`words_of`, four since "a face may have 256", T-10),
-- then 0 for a row or 1 for past the last; a row is a place that names a row.
-- Document 01 leaves the form of a place free; what words name is its own. A buffer may have more words than a place: the place stands at
-- its front.
--   row_words       how many words the node sets of a row have
--   place_words     how many words a place has
--   has_place       whether so many words have room for one
--   placed         a buffer with a place at its front, and its later words as they were
--   mask_in         the mask of a node set by its words: the other way round than `words_of`
--   masks_from      the masks at the front of words, so many of them
--   nowhere        a value that names no place of any problem (`nowhere_named`, WordLaws)
--   place_of_words   the value at the front of a buffer: with too few words, or another last word, it is "no such place" (16)
use Rattle.std.specs.Prelude.{ℕ, zero, suc, ◌+◌, ◌*◌, Bool, true, false, List, [], ◌∷◌, ◌++◌, length, take, drop, get_or, replicate, leb}
use Rattle.meaning.specs.Limits.{max_functions}
use Rattle.meaning.specs.Basics.{choose, each}
use Rattle.meaning.specs.PlaceValue.{PlaceValue}
use Rattle.masks.specs.Mask.{value}
use Rattle.masks.specs.Sets.{marks_in, word_count, words_of}

-- A node set for each function that a problem may have, and the last word
abbrev pub row_words : ℕ
row_words = max_functions * word_count

abbrev pub place_words : ℕ
place_words = row_words + 1

abbrev pub has_place : ℕ → Bool
has_place n = leb place_words n

abbrev pub last_word : Bool → ℕ
last_word false = 0
last_word true = 1

abbrev pub placed : List ℕ → PlaceValue → List ℕ
placed words v = each words_of v.masks ++ (last_word v.is_past ∷ drop place_words words)

abbrev pub mask_in : List ℕ → ℕ
mask_in words = value (marks_in words)

unfoldable pub masks_from : ℕ → List ℕ → List ℕ
masks_from zero words = []
masks_from (suc n) words = mask_in (take word_count words) ∷ masks_from n (drop word_count words)

-- Past the last no mask has a node
unfoldable pub nowhere : PlaceValue
nowhere = record { masks = replicate max_functions 1; is_past = true }

unfoldable pub value_with : List ℕ → ℕ → PlaceValue
value_with masks zero = record { masks = masks; is_past = false }
value_with masks (suc zero) = record { masks = masks; is_past = true }
value_with masks (suc (suc n)) = nowhere

unfoldable pub place_of_words : List ℕ → PlaceValue
place_of_words words = choose (has_place (length words)) (value_with (masks_from max_functions words) (get_or words row_words 0)) nowhere

-- Node sets as the code holds them: "node set as a 64-bit mask", of which T-10 makes four: node 0 at the highest bit of the first.
--
--   word_nodes   how many nodes a word has; this, the number of words and what they come to are the only numbers
--   word_count   how many words a set has
--   width       how many nodes a set has room for
--   words       the words of a set, the first first
--   mask        the set as one number of as many binary digits as there is room for nodes
--   nodes       its marks
--   masks_in     the masks of several sets: a row has one set for each function
--   words_of     the words of a mask, as a host holds them: the inverse of `mask`
use Rattle.std.specs.Prelude.{Bool, List, [], ◌∷◌, ◌++◌, map, ℕ, zero, suc, ◌*◌, get_or, take, drop}
use Rattle.masks.specs.Mask.{marks, value}
use Rattle.masks.specs.declared.NodeSet.{NodeSet}

abbrev pub word_nodes : ℕ
word_nodes = 64

abbrev pub word_count : ℕ
word_count = 4

-- No abbreviation: a number of that many digits is too long to compute with
unfoldable pub width : ℕ
width = word_count * word_nodes

abbrev pub words : NodeSet → List ℕ
words s = get_or s.words 0 0 ∷ get_or s.words 1 0 ∷ get_or s.words 2 0 ∷ get_or s.words 3 0 ∷ []

-- The marks of words, one after the other
unfoldable pub marks_in : List ℕ → List Bool
marks_in [] = []
marks_in (w ∷ ws) = marks word_nodes w ++ marks_in ws

unfoldable pub mask : NodeSet → ℕ
mask s = value (marks_in (words s))

abbrev pub nodes : NodeSet → List Bool
nodes s = marks width (mask s)

abbrev pub masks_in : List NodeSet → List ℕ
masks_in row = map mask row

-- The words of marks, so many of them: each is the number of its own marks
unfoldable pub words_in : ℕ → List Bool → List ℕ
words_in zero l = []
words_in (suc n) l = value (take word_nodes l) ∷ words_in n (drop word_nodes l)

unfoldable pub words_of : ℕ → List ℕ
words_of m = words_in word_count (marks width m)

-- Sets of the nodes of a face, as lists of marks and as numbers.
--
--   node      a place in a face; nodes are numbered from 0 in preorder
--   marks     a set of nodes as a list of truth values, one for each node, node 0 first
--   mask      the same set as a number of w binary digits: node 0 is the highest digit, so node k stands at bit w - 1 - k
--   submask   a mask all of whose nodes another mask has too
use Rattle.std.specs.Prelude.{◌≡◌, Bool, true, false, List, [], ◌∷◌, ℕ, zero, suc, ◌+◌, ◌-◌, ◌/◌, ◌%◌, ◌^◌, eqb, length, get_or, set, replicate}
use Rattle.std.specs.Int.Bits.{bit_and}

-- ---- from a mask to its marks, and back

abbrev pub odd : ℕ → Bool
odd n = eqb (n % 2) 1

-- The marks of m as a mask of w nodes.
unfoldable pub marks : ℕ → ℕ → List Bool
marks zero m = []
marks (suc w) m = odd (m / 2 ^ w) ∷ marks w m

-- The mask with these marks.
unfoldable pub value : List Bool → ℕ
value [] = 0
value (true ∷ l) = 2 ^ length l + value l
value (false ∷ l) = value l

-- The mask of node k alone, where k is below w.
abbrev pub bit : ℕ → ℕ → ℕ
bit w k = 2 ^ (w - suc k)

-- s is a submask of c.
unfoldable pub Sub : ℕ → ℕ → Type 0
Sub s c = bit_and s c ≡ s

-- ---- what is asked of marks

-- Node k is in the set. No number past the last node is.
abbrev pub In : List Bool → ℕ → Type 0
In l k = get_or l k false ≡ true

-- How many nodes are in the set.
unfoldable pub trues : List Bool → ℕ
trues [] = 0
trues (true ∷ l) = suc (trues l)
trues (false ∷ l) = trues l

-- The lowest node of the set, or the number of all nodes where the set is empty.
unfoldable pub first : List Bool → ℕ
first [] = 0
first (true ∷ l) = 0
first (false ∷ l) = suc (first l)

-- ---- sets that are made

-- The empty set, of w nodes.
abbrev pub empty : ℕ → List Bool
empty w = replicate w false

-- The set with node k as well, and without it. A number past the last node changes nothing.
unfoldable pub join : List Bool → ℕ → List Bool
join l k = set l k true

unfoldable pub leave : List Bool → ℕ → List Bool
leave l k = set l k false

-- The set of node k alone: empty where k is past the last node.
abbrev pub only : ℕ → ℕ → List Bool
only w k = set (empty w) k true

-- When two nodes of a table are alike, as the pass finds out: by the keys of their subterms, and by the innermost binder outside that these
-- use. A key has a binder outside by its level, and levels count the binders above one node; that the innermost is one and the same binder
-- makes the others so.
--   level_of_keys   the innermost level of a binder outside that keys tell of, 0 where they tell of none
--   last_at        the last node before a at depth d, or 0: nodes are counted from 1 here. Where node a is deeper than d, it lies below that
--                 one, which is a binder
--   binder_at      the innermost binder outside the subterm at a node that it uses, counted so, or 0
--   sum_of_keys     the sum of the keys' weights. A bound variable weighs the same wherever it is seen from, so that a subterm's sum is the
--                 difference of two sums from the table's beginning on (`sum_to`); it weighs so much that a lesser sum has none
--   hash_at        a number made of that sum and of that binder: equal nodes have the same, and others seldom, but for
--                 those that have the same nodes in another order
--   label_at       binder and hash in one word
--   alike         two nodes with one label and the same keys; a hash alone says nothing
use Rattle.std.specs.Prelude.{ℕ, zero, suc, ◌+◌, ◌*◌, ◌-◌, ◌/◌, ◌%◌, max, Bool, ◌&&◌, List, [], ◌∷◌, take, eqb}
use Rattle.meaning.specs.Basics.{choose}
use Rattle.tokens.specs.Token.{depth_in}
use Rattle.tokens.specs.Key.{at, keys, part, same_at}

-- The keys of the subterm at a node, seen from the node
abbrev pub keys_at : List ℕ → ℕ → List ℕ
keys_at t a = keys (depth_in (at t a)) (part t a)

-- The key of a variable that is bound outside is 2 + 256 * (4 * level + 2)
unfoldable pub level_of_key : ℕ → ℕ
level_of_key k = choose (eqb (k % 1024) 514) (k / 1024) 0

unfoldable pub level_of_keys : List ℕ → ℕ
level_of_keys [] = 0
level_of_keys (k ∷ ks) = max (level_of_key k) (level_of_keys ks)

unfoldable pub level_at : List ℕ → ℕ → ℕ
level_at t a = level_of_keys (keys_at t a)

unfoldable pub last_at : List ℕ → ℕ → ℕ → ℕ
last_at t d zero = 0
last_at t d (suc a) = choose (eqb (depth_in (at t a)) d) (suc a) (last_at t d a)

unfoldable pub binder_at : List ℕ → ℕ → ℕ
binder_at t a = choose (eqb (level_at t a) 0) 0 (last_at t (level_at t a - 1) a)

-- Two numbers in one below 2^32; the factor is odd, so that what is below 2^32 before is told apart after it
unfoldable pub mixed : ℕ → ℕ → ℕ
mixed m n = (m % 4294967296 + m / 4294967296 + n % 4294967296 + n / 4294967296) * 506952121 % 4294967296

-- The weight of a bound variable
abbrev pub heavy : ℕ
heavy = 281474976710656

-- A product is added, so that keys with the same sum, as 1 and 4, 2 and 3, do not have weights with the same sum
unfoldable pub spread : ℕ → ℕ
spread m = m + m / 65536 * (m % 65536)

-- The key of a variable that is bound inside is 2 + 256 * (4 * index + 1)
unfoldable pub weight_of_key : ℕ → ℕ
weight_of_key k = choose (eqb (k % 1024) 258) heavy (choose (eqb (k % 1024) 514) heavy (spread (mixed k 0)))

unfoldable pub sum_of_keys : List ℕ → ℕ
sum_of_keys [] = 0
sum_of_keys (k ∷ ks) = weight_of_key k + sum_of_keys ks

-- Of the first n nodes of a table
unfoldable pub sum_to : List ℕ → ℕ → ℕ
sum_to t n = sum_of_keys (keys 0 (take n t))

unfoldable pub hash_at : List ℕ → ℕ → ℕ
hash_at t a = mixed (sum_of_keys (keys_at t a)) (binder_at t a)

unfoldable pub label_at : List ℕ → ℕ → ℕ
label_at t a = binder_at t a + 65536 * hash_at t a

unfoldable pub alike : List ℕ → ℕ → ℕ → Bool
alike t a b = eqb (label_at t a) (label_at t b) && same_at t a b

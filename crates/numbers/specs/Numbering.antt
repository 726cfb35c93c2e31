-- What the pass over the nodes promises, and what it keeps.
--   First      the lowest node that is alike
--   NumberOf   the number of a node; Numbered, those of all nodes of a table
--   bucket     nodes are looked for among those of their bucket, which is the upper part of their hash
--   Points     where the search for a node of bucket b among the first n begins: past it none of these is in the bucket. Nodes are counted
--              from 1, and 0 is the end
--   link       of a node: where the search goes on among the nodes before it; stored beside its label
--   Chained    the buckets of the first k nodes; Lasts, the last node at each depth among these; Summed, the sums of k nodes and of
--              more: a node's place holds the sum of those before it until it is numbered
--   Sought     what the search ends with: an earlier node that is alike, or None where no earlier node is
use Rattle.std.specs.Prelude.{◌≡◌, ℕ, suc, ◌+◌, ◌*◌, ◌/◌, ◌%◌, ◌<◌, ◌≤◌, true, false, List, length, Option, Some, None}
use Rattle.tokens.specs.Key.{at, Inside}
use Rattle.numbers.specs.Alike.{level_at, last_at, binder_at, sum_to, hash_at, label_at, alike}
use Rattle.numbers.specs.declared.make.Node.{Node}

pub record First (t : List ℕ) (a r : ℕ) : Type 0 where
  pub up_to : r ≤ a
  pub equal : alike t r a ≡ true
  pub before : (i : ℕ) → i < r → alike t i a ≡ false

pub record NumberOf (t : List ℕ) (a n : ℕ) : Type 0 where
  pub first : ℕ
  pub is_first : First t a first
  pub is : n ≡ first + 65536 * level_at t a

-- Of the first k nodes
abbrev pub NumbersTo : List ℕ → ℕ → List ℕ → Type 0
NumbersTo t k ns = (a : ℕ) → a < k → NumberOf t a (at ns a)

abbrev pub Numbered : List ℕ → List ℕ → Type 0
Numbered t ns = NumbersTo t (length t) ns

-- Tables whose nodes can be numbered: each subterm lies in the table, and 16 bits are enough for a node counted from 1
pub record Numerable (t : List ℕ) : Type 0 where
  pub inside : (a : ℕ) → a < length t → Inside t a
  pub small : length t < 65536

-- Tables that have room for a sum more than there are nodes, and for the links
pub record Rooms (t ns links : List ℕ) : Type 0 where
  pub for_numbers : length t < length ns
  pub for_links : length t ≤ length links

abbrev pub bucket_at : List ℕ → ℕ → ℕ
bucket_at t a = hash_at t a / 16777216

pub record Points (t : List ℕ) (b n from : ℕ) : Type 0 where
  pub up_to : from ≤ n
  pub past : (i : ℕ) → i < n → bucket_at t i ≡ b → i < from
  pub own : (i : ℕ) → from ≡ suc i → bucket_at t i ≡ b

abbrev pub link_in : ℕ → ℕ
link_in x = x % 65536

abbrev pub label_in : ℕ → ℕ
label_in x = x / 65536

pub record Linked (t : List ℕ) (k : ℕ) (links : List ℕ) : Type 0 where
  pub points : (i : ℕ) → i < k → Points t (bucket_at t i) i (link_in (at links i))
  pub labels : (i : ℕ) → i < k → label_in (at links i) ≡ label_at t i

pub record Chained (t : List ℕ) (k : ℕ) (heads links : List ℕ) : Type 0 where
  pub begins : (b : ℕ) → b < 256 → Points t b k (at heads b)
  pub linked : Linked t k links

pub record Lasts (t : List ℕ) (k : ℕ) (last : List ℕ) : Type 0 where
  pub long : length last ≡ 256
  pub are : (d : ℕ) → d < 256 → at last d ≡ last_at t d k

pub record Summed (t : List ℕ) (k : ℕ) (sums : List ℕ) : Type 0 where
  pub long : length t < length sums
  pub are : (n : ℕ) → k ≤ n → n ≤ length t → at sums n ≡ sum_to t n

-- What is found of a node
pub record Known (t : List ℕ) (a : ℕ) (r : Node) : Type 0 where
  pub level : r.level ≡ level_at t a
  pub binder : r.binder ≡ binder_at t a
  pub hash : r.hash ≡ hash_at t a

abbrev pub Sought : List ℕ → ℕ → Option ℕ → Type 0
Sought t k (Some r) = (r < k) × (alike t r k ≡ true)
Sought t k None = (i : ℕ) → i < k → alike t i k ≡ false

-- What the pass has made of the first k nodes, in tables that have room for all
pub record Passed (t : List ℕ) (k : ℕ) (heads links ns : List ℕ) : Type 0 where
  pub chained : Chained t k heads links
  pub numbers : NumbersTo t k ns
  pub summed : Summed t k ns
  pub heads_long : length heads ≡ 256
  pub links_long : length t ≤ length links

-- Subterms of the table compared up to bound names, and the outer binders that a subterm uses.
--   root      the node from which a subterm's tokens are seen; its binder depth is d, so that a level above d is a binder inside the
--             subterm, and a level from 1 to d one outside it
--   key       what a token says apart from bound names, as one number: its tag, and then a symbol's or binder's number, a child
--             count, or of a variable its name where it is free, its de Bruijn index where it is bound inside, its binder's level
--             where it is bound outside
--   part      the tokens of the subterm at a node
--   shared    how many binders lie above both of two roots: the outermost ones, with the levels 1 to s
--   reaches   a token is a variable whose level is above d and at most r: bound outside a root at depth r, inside one at depth d
--   Held      a term whose tokens have room for what they say
--   Stands    a term's tokens stand in the table at a node
-- Caveat: levels number the binders above one node. For two nodes an outer level is the same binder only where that binder lies
-- above both; whoever compares two nodes by their keys owes that for each variable bound outside, or says how many are shared.
use Rattle.std.specs.Prelude.{◌≡◌, ℕ, suc, ◌+◌, ◌*◌, ◌-◌, ◌/◌, ◌%◌, ◌<◌, ◌≤◌, Bool, false, ◌&&◌, ◌||◌, not, List, [], ◌∷◌, ◌++◌, map, length, get_or, take, drop, eqb, ltb, leb}
use Rattle.meaning.specs.Basics.{choose}
use Rattle.meaning.specs.Term.{one, size, NamedTerm}
use Rattle.meaning.specs.Read.{Context}
use Rattle.meaning.specs.Readable.{Readable}
use Rattle.meaning.specs.Same.{all_alike}
use Rattle.meaning.specs.Compare.{pairs}
use Rattle.tokens.specs.declared.same.Compared.{Compared}
use Rattle.tokens.specs.Token.{tag_in, depth_in, size_in, payload_in, tokens}

-- The halves of a payload: a variable's name and level, a binder's number and bound name
abbrev pub lower_half : ℕ → ℕ
lower_half p = p % 65536

abbrev pub upper_half : ℕ → ℕ
upper_half p = p / 65536

unfoldable pub key_of_variable : ℕ → ℕ → ℕ → ℕ → ℕ
key_of_variable d depth name level = choose (eqb level 0) (4 * name) (choose (ltb d level) (4 * (depth - level) + 1) (4 * level + 2))

unfoldable pub key_of_payload : ℕ → ℕ → ℕ → ℕ → ℕ
key_of_payload d tag depth p =
    choose (eqb tag 2) (key_of_variable d depth (lower_half p) (upper_half p)) (choose (eqb tag 4) (lower_half p) p)

unfoldable pub key_of : ℕ → ℕ → ℕ
key_of d x = tag_in x + 256 * key_of_payload d (tag_in x) (depth_in x) (payload_in x)

abbrev pub keys : ℕ → List ℕ → List ℕ
keys d xs = map (key_of d) xs

-- The binder at distance j outside a node with this scope around it, 0 the innermost, by its level
abbrev pub level_from : List ℕ → ℕ → ℕ
level_from sc j = suc (length sc - suc j)

-- The token of a node
abbrev pub at : List ℕ → ℕ → ℕ
at t a = get_or t a 0

-- n nodes in a row, and those of the subterm at a node
abbrev pub nodes : List ℕ → ℕ → ℕ → List ℕ
nodes t a n = take n (drop a t)

abbrev pub part : List ℕ → ℕ → List ℕ
part t a = nodes t a (size_in (at t a))

-- Two nodes that agree by their keys, seen from roots at depths d and e
abbrev pub same_keys : ℕ → ℕ → ℕ → ℕ → Bool
same_keys d e x y = eqb (key_of d x) (key_of e y)

-- Subterms of two tables, and of one
unfoldable pub same_across : List ℕ → ℕ → List ℕ → ℕ → Bool
same_across t a u b = all_alike (same_keys (depth_in (at t a)) (depth_in (at u b))) (part t a) (part u b)

abbrev pub same_at : List ℕ → ℕ → ℕ → Bool
same_at t a b = same_across t a t b

-- A node's subterm lies in the table
pub record Inside (t : List ℕ) (a : ℕ) : Type 0 where
  pub starts : a < length t
  pub ends : a + size_in (at t a) ≤ length t

unfoldable pub reaches : ℕ → ℕ → ℕ → Bool
reaches d r x = eqb (tag_in x) 2 && (ltb d (upper_half (payload_in x)) && leb (upper_half (payload_in x)) r)

-- Two nodes that agree where the roots share s binders: by their keys, and a variable bound outside by a shared one
unfoldable pub agree_under : ℕ → ℕ → ℕ → ℕ → ℕ → Bool
agree_under s d e x y = same_keys d e x y && not (reaches s d x)

-- What comparing two lists of nodes answers, by a test of nodes: T-02's yes or no, and its number of pairs
abbrev pub compared_by : (ℕ → ℕ → Bool) → List ℕ → List ℕ → Compared
compared_by agrees xs ys = record { equal = all_alike agrees xs ys; pairs = pairs agrees xs ys }

-- Subterms of two tables, and of one, whose roots share s binders
unfoldable pub compared_across : List ℕ → ℕ → List ℕ → ℕ → ℕ → Compared
compared_across t a u b s = compared_by (agree_under s (depth_in (at t a)) (depth_in (at u b))) (part t a) (part u b)

unfoldable pub any_reaches : ℕ → ℕ → List ℕ → Bool
any_reaches d r [] = false
any_reaches d r (x ∷ xs) = reaches d r x || any_reaches d r xs

-- Some variable of the subterm at node a is bound outside it, and inside a root at depth d
unfoldable pub uses_at : List ℕ → ℕ → ℕ → Bool
uses_at t a d = any_reaches d (depth_in (at t a)) (part t a)

-- No variable of the subterm at node a is bound outside it
unfoldable pub closed_at : List ℕ → ℕ → Bool
closed_at t a = not (uses_at t a 0)

-- A token has 8 bits for the depth and 16 for the size
pub record Held (levels : ℕ) (ctx : Context) (sc : List ℕ) (t : NamedTerm) : Type 0 where
  pub readable : Readable levels ctx (one t)
  pub depths : length sc + levels ≤ 256
  pub sizes : size (one t) < 65536

-- The term t, with the scope sc around it, at node a
pub record Stands (table : List ℕ) (a : ℕ) (sc : List ℕ) (t : NamedTerm) : Type 0 where
  pub after : List ℕ
  pub split : drop a table ≡ tokens sc (one t) ++ after

-- The token tables of a problem that can be read: one token for each node, few enough, and each says what its node is.
--   Room   a forest that the table has room for: a token has 8 bits for the depth and 16 for the size, and the limits of document 01
--          keep both far below
use mathlib.Core.Path.{◌≡◌}
use mathlib.Core.List.{List, [], ◌∷◌, ◌++◌}
use Prim.Native.Nat.{ℕ, zero, suc, ◌+◌, ◌*◌, ◌<◌, ◌≤◌}
use native.Mathlib.Omega.{arith}
use lib.ListN.{length, length-append}
use Rattle.meaning.specs.Limits.{largest_problem, max_depth}
use Rattle.meaning.specs.Basics.{All}
use Rattle.meaning.specs.Term.{Forest, nil, cons, one, size, Named}
use Rattle.meaning.specs.Scope.{enter}
use Rattle.meaning.specs.Problem.{Problem, named_patterns, named_expressions}
use Rattle.meaning.specs.Field.{word, field, tag_of, fixed_part, encode, encode_constraint, encode_problem}
use Rattle.meaning.specs.Read.{Context, in_pattern, in_expression, context_below}
use Rattle.meaning.specs.Readable.{Readable, WithinLimits}
use Rattle.meaning.proofs.Lists.{all_append}
use Rattle.tokens.specs.Token.{Table, token_of, tag_in, size_in, payload_in, payload_of, tokens, pattern_tokens, expression_tokens}
use Rattle.tokens.specs.Key.{at}
use Rattle.tokens.proofs.TokenParts.{tag_token, size_token, payload_token, tag_room, enter_room}
use Rattle.tokens.proofs.TokenParts.{tokens_length}
use Rattle.meaning.proofs.Proper.{patterns_readable, expressions_readable}

-- Each node has 3 bytes or more
node_bytes : (u : Forest Named) → 3 * size u ≤ length (encode u)
unfolding encode field word
node_bytes nil = omega arith
node_bytes (cons l c s) =
    let a = node_bytes c in
    let b = node_bytes s in
    let whole = length-append (field (tag_of l) (fixed_part l ++ encode c)) (encode s) in
    let inside = length-append (fixed_part l) (encode c) in
    omega arith

problem_bytes : (p : Problem) → 3 * (size (named_patterns p) + size (named_expressions p)) ≤ length (encode_problem p)
unfolding encode_problem encode_constraint field word
problem_bytes [] = omega arith
problem_bytes (c ∷ p) =
    let a = node_bytes (one c.pattern) in
    let b = node_bytes (one c.expression) in
    let ih = problem_bytes p in
    let whole = length-append (encode_constraint c) (encode_problem p) in
    let inside = length-append (encode (one c.pattern)) (encode (one c.expression)) in
    omega arith

pub nodes_few : (p : Problem) → WithinLimits p → size (named_patterns p) + size (named_expressions p) < 1366
unfolding largest_problem
nodes_few p w = omega (arith, problem_bytes p, w.input)

-- One token
abbrev pub token_at : List ℕ → Named → Forest Named → ℕ
token_at sc l c = token_of (tag_of l) (length sc) (suc (size c)) (payload_of sc l)

module _ (sc : List ℕ) (l : Named) (c : Forest Named) (room : length sc < 256) (small : suc (size c) < 65536) where
  pub tag_at : tag_in (token_at sc l c) ≡ tag_of l
  tag_at = tag_token (tag_of l) (length sc) (suc (size c)) (payload_of sc l) (tag_room l) room small

  pub size_at_lem : size_in (token_at sc l c) ≡ suc (size c)
  size_at_lem = size_token (tag_of l) (length sc) (suc (size c)) (payload_of sc l) (tag_room l) room small

  pub payload_at : payload_in (token_at sc l c) ≡ payload_of sc l
  payload_at = payload_token (tag_of l) (length sc) (suc (size c)) (payload_of sc l) (tag_room l) room small

-- A forest that the table has room for
pub record Room (levels : ℕ) (sc : List ℕ) (u : Forest Named) : Type 0 where
  pub depths : length sc + levels ≤ 256
  pub sizes : size u < 65536

module _ (levels : ℕ) (sc : List ℕ) (l : Named) (c s : Forest Named) (h : Room (suc levels) sc (cons l c s)) where
  pub room_depth : length sc < 256
  room_depth = omega (arith, h.depths)

  pub room_size : suc (size c) < 65536
  room_size = omega (arith, h.sizes)

  pub room_below : Room levels (enter l sc) c
  room_below = record { depths = omega (arith, h.depths, enter_room sc l); sizes = omega (arith, h.sizes) }

  pub room_later : Room (suc levels) sc s
  room_later = record { depths = h.depths; sizes = omega (arith, h.sizes) }

-- Each token counts itself
tokens_counted : (levels : ℕ) (ctx : Context) (sc : List ℕ) (u : Forest Named) → Readable levels ctx u → Room levels sc u
    → All (λ x. 1 ≤ size_in x) (tokens sc u)
unfolding tokens
tokens_counted levels ctx sc nil r h = tt
tokens_counted zero ctx sc (cons l c s) r h = absurd r
tokens_counted (suc levels) ctx sc (cons l c s) r h = (
  omega (arith, size_at_lem sc l c (room_depth levels sc l c s h) (room_size levels sc l c s h)),
  all_append (λ x. 1 ≤ size_in x) (tokens (enter l sc) c) (tokens sc s)
      (tokens_counted levels (context_below l ctx) (enter l sc) c r.1 (room_below levels sc l c s h))
      (tokens_counted (suc levels) ctx sc s r.2 (room_later levels sc l c s h)),
)

pub all_at : (P : ℕ → Type 0) (xs : List ℕ) → All P xs → (k : ℕ) → k < length xs → P (at xs k)
all_at P [] a k h = absurd (omega arith)
all_at P (x ∷ xs) a zero h = a.0
all_at P (x ∷ xs) a (suc k) h = all_at P xs a.1 k (omega arith)

pub tokens_table : (levels : ℕ) (ctx : Context) (u : Forest Named) → Readable levels ctx u → Room levels [] u → Table (tokens [] u)
tokens_table levels ctx u r h =
    record {
      counted = all_at (λ x. 1 ≤ size_in x) (tokens [] u) (tokens_counted levels ctx [] u r h);
      small = omega (arith, tokens_length [] u, h.sizes);
    }

module _ (p : Problem) (w : WithinLimits p) where
  pub patterns_room : Room max_depth [] (named_patterns p)
  unfolding max_depth
  patterns_room = record { depths = omega arith; sizes = omega (arith, nodes_few p w) }

  pub expressions_room : Room max_depth [] (named_expressions p)
  unfolding max_depth
  expressions_room = record { depths = omega arith; sizes = omega (arith, nodes_few p w) }

  -- The tables of a problem are what the walk wants
  pub pattern_table_lem : Table (pattern_tokens p)
  unfolding pattern_tokens
  pattern_table_lem = tokens_table max_depth in_pattern (named_patterns p) (patterns_readable p w) patterns_room

  pub expression_table_lem : Table (expression_tokens p)
  unfolding expression_tokens
  expression_table_lem = tokens_table max_depth in_expression (named_expressions p) (expressions_readable p w) expressions_room

-- How tokens are laid out: a token's parts, the number of a forest's tokens, and room for what they say.
use mathlib.Core.Path.{◌≡◌, refl, ap, ◌∙◌}
use mathlib.Core.List.{List, ◌++◌, append-nil}
use Prim.Native.Nat.{ℕ, suc, ◌+◌, ◌*◌, ◌<◌, ◌≤◌}
use native.Mathlib.Omega.{arith}
use lib.ListN.{length, length-append}
use Rattle.meaning.specs.Term.{Forest, nil, cons, graft, one, size, symbol, variable, application, binder, own, slot, metavariable}
use Rattle.meaning.specs.Term.{function, hole, Named, NamedTerm}
use Rattle.meaning.specs.Scope.{enter}
use Rattle.meaning.specs.Field.{tag_of}
use Rattle.tokens.specs.Token.{token_of, tag_in, depth_in, size_in, payload_in, tokens}
use Rattle.tokens.specs.Key.{key_of_payload, key_of}

-- A token is what it was made of
pub depth_token : (g e n p : ℕ) → g < 256 → e < 256 → depth_in (token_of g e n p) ≡ e
depth_token g e n p hg he = omega arith

module _ (g e n p : ℕ) (hg : g < 256) (he : e < 256) (hn : n < 65536) where
  pub tag_token : tag_in (token_of g e n p) ≡ g
  tag_token = omega arith

  pub size_token : size_in (token_of g e n p) ≡ n
  size_token = omega arith

  pub payload_token : payload_in (token_of g e n p) ≡ p
  payload_token = omega arith

  pub key_token : (d : ℕ) → key_of d (token_of g e n p) ≡ g + 256 * key_of_payload d g e p
  unfolding key_of
  key_token d = cc (tag_token, depth_token g e n p hg he, payload_token)

-- The tokens of a forest
pub tokens_length : (sc : List ℕ) (u : Forest Named) → length (tokens sc u) ≡ size u
unfolding tokens
tokens_length sc nil = refl
tokens_length sc (cons l c s) =
    ap suc (length-append (tokens (enter l sc) c) (tokens sc s) ∙ rw (tokens_length (enter l sc) c, tokens_length sc s))

pub tokens_graft : (sc : List ℕ) (t : NamedTerm) (f : Forest Named) → tokens sc (graft t f) ≡ tokens sc (one t) ++ tokens sc f
unfolding tokens
tokens_graft sc t f = rw (append-nil (tokens (enter t.0 sc) t.1))

-- Room for a tag, and for the depth below a node
pub tag_room : (l : Named) → tag_of l < 256
tag_room (own (symbol n)) = omega arith
tag_room (own (variable x)) = omega arith
tag_room (own (application n)) = omega arith
tag_room (own (binder b x)) = omega arith
tag_room (slot (metavariable m)) = omega arith
tag_room (slot (function f n)) = omega arith
tag_room (slot (hole i)) = omega arith

pub enter_room : (sc : List ℕ) (l : Named) → length (enter l sc) ≤ suc (length sc)
enter_room sc (own (symbol n)) = omega arith
enter_room sc (own (variable x)) = omega arith
enter_room sc (own (application n)) = omega arith
enter_room sc (own (binder b x)) = omega arith
enter_room sc (slot z) = omega arith

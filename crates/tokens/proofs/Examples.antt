-- The tables of a small problem, computed: it shows the layout of tokens.
use Prim.Native.Nat.{◌+◌, ◌*◌}
use mathlib.Core.Path.{◌≡◌, refl}
use mathlib.Core.List.{[], ◌∷◌}
use Rattle.meaning.specs.Term.{nil, cons, symbol, variable, application, binder, own, slot, metavariable, function}
use Rattle.meaning.specs.Problem.{Problem}
use Rattle.tokens.specs.Token.{level_of, payload_of, tokens, pattern_tokens, expression_tokens, token_of}

-- Document 01's (P(X), s)
unfoldable pub example : Problem
example = record { pattern = (slot (function 0 1), cons (slot (metavariable 1)) nil nil); expression = (own (symbol 5), nil) } ∷ []

example_patterns : pattern_tokens example ≡ token_of 6 0 2 0 ∷ token_of 5 0 1 1 ∷ []
unfolding example pattern_tokens tokens payload_of level_of
example_patterns = refl

example_expressions : expression_tokens example ≡ token_of 1 0 1 5 ∷ []
unfolding example expression_tokens tokens payload_of level_of
example_expressions = refl

-- Under two binders of the name 2, the application of the variables 2 and 3: the first belongs to the inner binder, at level 2, the
-- second is free
shadowed :
    tokens []
    (cons (own (binder 9 2))
    (cons (own (binder 9 2)) (cons (own (application 2)) (cons (own (variable 2)) nil (cons (own (variable 3)) nil nil)) nil) nil) nil)
    ≡ token_of 4 0 5 (9 + 65536 * 2) ∷ token_of 4 1 4 (9 + 65536 * 2) ∷ token_of 3 2 3 2 ∷ token_of 2 2 1 (2 + 65536 * 2) ∷ token_of 2 2 1 3 ∷ []
unfolding tokens payload_of level_of
shadowed = refl

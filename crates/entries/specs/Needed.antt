-- The metavariables that need a value: those that stand anywhere but in "arguments of functions whose body has no hole".
--   holeless     a token is the application of a function that is not in the set of those whose body has a hole
--   needed_from   of the tokens of patterns, the numbers of the metavariables that are no functions, without those below a holeless
--                application: it is passed with all nodes below it (`skip` counts those that are left)
--   needed_at     whether m is among them
use Rattle.std.specs.Prelude.{ℕ, zero, suc, ◌-◌, Bool, ◌&&◌, not, List, [], ◌∷◌, eqb}
use Rattle.meaning.specs.Basics.{choose, is_in}
use Rattle.tokens.specs.Token.{tag_in, size_in, payload_in}
use Rattle.metavariables.specs.Survey.{has}

abbrev pub holeless : ℕ → ℕ → Bool
holeless holed x = eqb (tag_in x) 6 && not (has holed (payload_in x))

unfoldable pub needed_from : ℕ → ℕ → List ℕ → List ℕ
needed_from holed skip [] = []
needed_from holed (suc k) (x ∷ xs) = needed_from holed k xs
needed_from holed zero (x ∷ xs) =
    choose (holeless holed x) (needed_from holed (size_in x - 1) xs)
    (choose (eqb (tag_in x) 5) (payload_in x ∷ needed_from holed 0 xs) (needed_from holed 0 xs))

unfoldable pub needed_at : List ℕ → ℕ → ℕ → Bool
needed_at ps holed m = is_in m (needed_from holed 0 ps)

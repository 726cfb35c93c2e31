-- The bytes of T-13's problem, as they are written: what is inside a field, and its head before it.
--   symbol_more      one symbol more, five bytes
--   application_is   an application of symbols: its head, and the symbols
--   problem_is       the problem: its head, P(X), and the expression
use mathlib.Core.Path.{◌≡◌, refl, ap, ◌∙◌}
use Prim.Native.Nat.{ℕ, zero, suc, ◌+◌, ◌-◌, ◌*◌, ◌≤◌}
use mathlib.Core.List.{[], ◌∷◌, ◌++◌, append-nil}
use native.Mathlib.Omega.{arith}
use lib.ListN.{length, length-append}
use Rattle.meaning.specs.Limits.{first_wide}
use Rattle.meaning.specs.Basics.{Bytes}
use Rattle.meaning.specs.Term.{NamedTerm, one}
use Rattle.meaning.specs.Field.{encode, encode_constraint, encode_problem, field, symbol_bytes, word}
use Rattle.meaning.specs.Longest.{longest_bytes, symbols}
use Rattle.meaning.proofs.ByteLaws.{field_length}
use Rattle.longest.specs.Writing.{expression_bytes, pattern_bytes, terms_bytes}
use Rattle.longest.proofs.EqualSymbols.{heaviest_is}

-- Symbol 0
abbrev pub symbol_field : Bytes
symbol_field = 1 ∷ 0 ∷ 2 ∷ 0 ∷ 0 ∷ []

pub symbol_more : (m : ℕ) → encode (symbols (suc m)) ≡ symbol_field ++ encode (symbols m)
unfolding encode field word symbol_bytes first_wide
symbol_more m = refl

pub symbols_length : (m : ℕ) → length (encode (symbols m)) ≡ 5 * m
unfolding encode
symbols_length zero = refl
symbols_length (suc m) =
    omega (arith, ap length (symbol_more m), length-append symbol_field (encode (symbols m)), symbols_length m)

-- The expression
pub application_is : (n : ℕ) → 2 ≤ n → expression_bytes n ≡ field 3 (encode (symbols (n - 1)))
unfolding encode
application_is zero h = absurd (omega arith)
application_is (suc zero) h = absurd (omega arith)
application_is (suc (suc m)) h =
    ap (λ (t : NamedTerm). encode (one t)) (heaviest_is (suc m))
    ∙ append-nil (field 3 (encode (symbols (suc m))))
    ∙ ap (λ (k : ℕ). field 3 (encode (symbols k))) (let e : suc m ≡ suc (suc m) - 1 = omega arith in e)

pub expression_length : (n : ℕ) → 2 ≤ n → length (expression_bytes n) ≡ 3 + 5 * (n - 1)
expression_length n h =
    omega (arith, ap length (application_is n h), field_length 3 (encode (symbols (n - 1))), symbols_length (n - 1))

pub expression_most : (n : ℕ) → 1 ≤ n → length (expression_bytes n) ≤ 3 + 5 * n
expression_most zero h = absurd (omega arith)
expression_most (suc zero) h = omega (arith, symbols_length 1)
expression_most (suc (suc m)) h = omega (arith, expression_length (suc (suc m)) (omega arith))

-- The problem
pub problem_is : (n : ℕ) → longest_bytes n ≡ field 7 (terms_bytes n)
unfolding encode_problem encode_constraint encode field word
problem_is n = append-nil _

pub problem_length : (n : ℕ) → length (longest_bytes n) ≡ 11 + length (expression_bytes n)
problem_length n =
    omega (arith, ap length (problem_is n), field_length 7 (terms_bytes n), length-append pattern_bytes (expression_bytes n))

-- Whether a term is closed, as a test. It is yes exactly for `Closed` (`test_closed`, `closed_test`), so that nobody has to believe it.
use Rattle.std.specs.Prelude.{ℕ, Bool, true, ◌&&◌, ltb}
use Rattle.meaning.specs.Term.{Nameless, Terms, Variable, application, binder, bound, cons, free, inner, nil, own, slot, symbol}
use Rattle.meaning.specs.Term.{variable}

-- The same as a test
abbrev pub is_closed_variable : ℕ → Variable → Bool
is_closed_variable k (free x) = true
is_closed_variable k (bound i) = ltb i k

abbrev pub is_closed_label : ℕ → Nameless → Bool
is_closed_label k (own (symbol n)) = true
is_closed_label k (own (variable v)) = is_closed_variable k v
is_closed_label k (own (application n)) = true
is_closed_label k (own (binder b x)) = true
is_closed_label k (slot z) = true

abbrev pub is_closed : ℕ → Terms → Bool
is_closed k nil = true
is_closed k (cons l c s) = is_closed_label k l && (is_closed (inner l k) c && is_closed k s)

-- Moving a nameless term out from under binders. Lowering is the inverse of `shift`, where there is one (`lower_shift`, `shift_lower`), so
-- that nobody has to believe it.
--   lower n k   an index from k up to k + n belongs to one of the n binders that go: then there is none
use Rattle.std.specs.Prelude.{ℕ, ◌+◌, ◌-◌, ltb}
use Rattle.std.proofs.Math.Option.{Option, none, some}
use Rattle.meaning.specs.Basics.{and_then, choose}
use Rattle.meaning.specs.Term.{Nameless, Term, Terms, Variable, application, binder, bound, cons, free, inner, nil, own, slot, symbol}
use Rattle.meaning.specs.Term.{variable}

abbrev pub sink : ℕ → ℕ → Variable → Option Variable
sink n k (free x) = some (free x)
sink n k (bound i) = choose (ltb i k) (some (bound i)) (choose (ltb i (k + n)) none (some (bound (i - n))))

abbrev pub lower_label : ℕ → ℕ → Nameless → Option Nameless
lower_label n k (own (symbol m)) = some (own (symbol m))
lower_label n k (own (variable v)) = and_then (sink n k v) (λ w. some (own (variable w)))
lower_label n k (own (application m)) = some (own (application m))
lower_label n k (own (binder b x)) = some (own (binder b x))
lower_label n k (slot z) = some (slot z)

abbrev pub lower : ℕ → ℕ → Terms → Option Terms
lower n k nil = some nil
lower n k (cons l c s) =
    and_then (lower_label n k l) (λ l'. and_then (lower n (inner l k) c) (λ c'. and_then (lower n k s) (λ s'. some (cons l' c' s'))))

abbrev pub lower_term : ℕ → Term → Option Term
lower_term n t = and_then (lower_label n 0 t.0) (λ l. and_then (lower n (inner t.0 0) t.1) (λ c. some (l, c)))

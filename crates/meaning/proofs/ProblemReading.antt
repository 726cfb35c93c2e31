-- Reading and encoding problems are inverse.
--   within the limits   a problem that can be read
--   left                how many constraints may still come
use mathlib.Core.Path.{◌≡◌, refl, ap, ap₂, sym, ◌∙◌, subst}
use Prim.Native.Nat.{ℕ, zero, suc, ◌<◌, ◌≤◌}
use mathlib.Core.Bool.{true}
use mathlib.Core.List.{[], ◌∷◌, ◌++◌}
use native.Mathlib.Omega.{arith}
use lib.ListN.{length, length-append}
use lib.Dec.{eqb, ltb}
use borrow.Author.Tests.{ltb-false, le-ltb, eqb-true, ne_eqb}
use Rattle.meaning.specs.Limits.{largest_problem, max_constraints, max_depth, max_functions}
use Rattle.meaning.specs.Basics.{All, Bytes, Byte}
use Rattle.meaning.specs.Term.{one}
use Rattle.meaning.specs.Problem.{Constraint, Problem, functions}
use Rattle.meaning.specs.Field.{field, encode, encode_constraint, encode_problem}
use Rattle.meaning.specs.Read.{got, in_pattern, in_expression, Parts, parts_of, read_term, read_pair, constraint_head, read_constraints}
use Rattle.meaning.specs.Read.{read_problem}
use Rattle.meaning.specs.Accept.{overlarge, check_problem, accept}
use Rattle.meaning.specs.Readable.{ReadableConstraint, WithinLimits, Accepted}
use Rattle.meaning.proofs.Lists.{append_all, all_append}
use Rattle.meaning.proofs.ByteLaws.{got_is, refused_not, by_got, unless_got, when_got, by_choice, none_left, parts_field}
use Rattle.meaning.proofs.ByteLaws.{field_parts, field_some, field_length, field_bytes, field_content, field_later}
use Rattle.meaning.proofs.TermReading.{term_read_encodes, term_read_readable, term_encode_read, term_bytes, term_read_whole}
use Rattle.meaning.proofs.TermReading.{term_encode_whole}

-- A pair of terms
pair_faithful : (s : Bytes) (c : Constraint) → All Byte s → read_pair s ≡ got c
    → (encode (one c.pattern) ++ encode (one c.expression) ≡ s) × ReadableConstraint c
unfolding read_pair
pair_faithful s c b e =
    by_got (read_term max_depth in_pattern s) _ e (λ p first e.
    by_got (read_term max_depth in_expression p.1) _ e (λ x second e.
    let w = when_got (eqb (length x.1) 0) 7 _ e in
    let front : encode (one p.0) ++ p.1 ≡ s = term_read_encodes max_depth in_pattern s p.0 p.1 b first in
    let bytes : All Byte p.1 = (append_all Byte (encode (one p.0)) p.1 (subst (All Byte) (sym front) b)).1 in
    let back = term_read_whole max_depth in_expression p.1 x.0 x.1 bytes second w.0 in
    subst (λ (c : Constraint). (encode (one c.pattern) ++ encode (one c.expression) ≡ s) × ReadableConstraint c) (got_is w.1) (
      ap (λ (l : Bytes). encode (one p.0) ++ l) back ∙ front,
      (
        term_read_readable max_depth in_pattern s p.0 p.1 b first,
        term_read_readable max_depth in_expression p.1 x.0 x.1 bytes second,
      ),
    )))

pair_complete : (c : Constraint) → ReadableConstraint c → read_pair (encode (one c.pattern) ++ encode (one c.expression)) ≡ got c
unfolding read_pair
pair_complete c r =
    rw (
      term_encode_read max_depth in_pattern c.pattern (encode (one c.expression)) r.0,
      term_encode_whole max_depth in_expression c.expression r.1,
    )

-- A constraint's head
head_faithful : (left : ℕ) (s : Bytes) (q : Parts) → All Byte s → constraint_head left s ≡ got q → field 7 q.content ++ q.later ≡ s
unfolding constraint_head
head_faithful left s q b e =
    by_got (parts_of s) _ e (λ p parts e.
    let w = when_got (eqb p.tag 7) 4 _ e in
    let u = unless_got (eqb left 0) 11 _ w.1 in
    let whole : field 7 p.content ++ p.later ≡ s = rw (← eqb-true p.tag 7 w.0) (parts_field s p b parts) in
    subst (λ (q : Parts). field 7 q.content ++ q.later ≡ s) (got_is u.1) whole)

head_complete : (left : ℕ) (c later : Bytes)
    → constraint_head (suc left) (field 7 c ++ later) ≡ got (record { tag = 7; content = c; later = later })
unfolding constraint_head
head_complete left c later = rw (field_parts 7 c later, ne_eqb (suc left) 0 (λ e. omega arith))

-- Constraints
encode_problem_lem : (c : Constraint) (p : Problem)
    → encode_problem (c ∷ p) ≡ field 7 (encode (one c.pattern) ++ encode (one c.expression)) ++ encode_problem p
unfolding encode_problem encode_constraint
encode_problem_lem c p = refl

none_encoded : encode_problem [] ≡ []
unfolding encode_problem
none_encoded = refl

abbrev Constrained : ℕ → Bytes → Problem → Type 0
Constrained left s p = (encode_problem p ≡ s) × All ReadableConstraint p × (length p ≤ left)

none_constrained : (left : ℕ) (s : Bytes) → eqb (length s) 0 ≡ true → Constrained left s []
none_constrained left s t =
    let z : length s ≡ 0 = eqb-true (length s) 0 t in
    (none_encoded ∙ sym (none_left s (omega arith)), tt, omega arith)

more_constrained : (left : ℕ) (s : Bytes) (q : Parts) (c : Constraint) (p : Problem) → All Byte s → field 7 q.content ++ q.later ≡ s
    → read_pair q.content ≡ got c → Constrained left q.later p → Constrained (suc left) s (c ∷ p)
more_constrained left s q c p b whole pair rest =
    let f = pair_faithful q.content c (field_content 7 q.content q.later s whole b) pair in
    (encode_problem_lem c p ∙ ap₂ (λ (x y : Bytes). field 7 x ++ y) f.0 rest.0 ∙ whole, (f.1, rest.1), omega arith)

constraints_faithful : (left : ℕ) (s : Bytes) (p : Problem) → All Byte s → read_constraints left s ≡ got p → Constrained left s p
unfolding read_constraints
constraints_faithful zero s p b e =
    by_choice (eqb (length s) 0) _ _ e (λ t e. subst (Constrained zero s) (got_is e) (none_constrained zero s t)) (λ _ e.
    by_got (constraint_head 0 s) _ e (λ q _ e. absurd (refused_not e)))
constraints_faithful (suc left) s p b e =
    by_choice (eqb (length s) 0) _ _ e (λ t e. subst (Constrained (suc left) s) (got_is e) (none_constrained (suc left) s t)) (λ _ e.
    by_got (constraint_head (suc left) s) _ e (λ q head e.
    by_got (read_pair q.content) _ e (λ c pair e.
    by_got (read_constraints left q.later) _ e (λ cs rest e.
    let whole = head_faithful (suc left) s q b head in
    let ih = constraints_faithful left q.later cs (field_later 7 q.content q.later s whole b) rest in
    subst (Constrained (suc left) s) (got_is e) (more_constrained left s q c cs b whole pair ih)))))

constraints_complete : (left : ℕ) (p : Problem) → All ReadableConstraint p → length p ≤ left
    → read_constraints left (encode_problem p) ≡ got p
unfolding read_constraints
constraints_complete zero [] r h = rw none_encoded
constraints_complete (suc left) [] r h = rw none_encoded
constraints_complete zero (c ∷ p) r h = absurd (omega arith)
constraints_complete (suc left) (c ∷ p) r h =
    let content : Bytes = encode (one c.pattern) ++ encode (one c.expression) in
    rw (
      encode_problem_lem c p,
      field_some 7 content (encode_problem p),
      head_complete left content (encode_problem p),
      pair_complete c r.0,
      constraints_complete left p r.1 (omega arith),
    )

-- The whole input
problem_faithful : (s : Bytes) (p : Problem) → All Byte s → read_problem s ≡ got p → (length s ≤ largest_problem) × Constrained max_constraints s p
unfolding read_problem
problem_faithful s p b e =
    let w = unless_got (ltb largest_problem (length s)) 1 _ e in
    (ltb-false largest_problem (length s) w.0, constraints_faithful max_constraints s p b w.1)

-- The encoding consists of bytes
constraint_bytes : (c : Constraint) → ReadableConstraint c → length (encode_constraint c) < 65536 → All Byte (encode_constraint c)
unfolding encode_constraint
constraint_bytes c r h =
    let p : Bytes = encode (one c.pattern) in
    let x : Bytes = encode (one c.expression) in
    let whole = field_length 7 (p ++ x) in
    let both = length-append p x in
    field_bytes 7 (p ++ x) (omega arith) h
    (all_append Byte p x (term_bytes max_depth in_pattern c.pattern r.0 (omega arith))
    (term_bytes max_depth in_expression c.expression r.1 (omega arith)))

constraints_bytes : (p : Problem) → All ReadableConstraint p → length (encode_problem p) < 65536 → All Byte (encode_problem p)
unfolding encode_problem
constraints_bytes [] r h = tt
constraints_bytes (c ∷ p) r h =
    let both = length-append (encode_constraint c) (encode_problem p) in
    all_append Byte (encode_constraint c) (encode_problem p) (constraint_bytes c r.0 (omega arith))
    (constraints_bytes p r.1 (omega arith))

-- The checks give back the problem that they are made on
checked_same : (limit : ℕ) (q p : Problem) → check_problem limit q ≡ got p → q ≡ p
unfolding check_problem
checked_same limit q p e =
    let few = (unless_got (ltb max_functions (length (functions q))) 13 _ e).1 in
    got_is (unless_got (overlarge limit q) 14 _ few).1

-- The main theorems. A problem that is read encodes to exactly the bytes read, and is within the limits
pub encode_read : (s : Bytes) (p : Problem) → All (λ b. b < 256) s → read_problem s ≡ got p → encode_problem p ≡ s
encode_read s p b e = (problem_faithful s p b e).1.0

-- So no two inputs are read as one problem: a symbol's number, too, has one spelling
pub one_spelling : (s t : Bytes) (p : Problem) → All (λ b. b < 256) s → All (λ b. b < 256) t → read_problem s ≡ got p → read_problem t ≡ got p
    → s ≡ t
one_spelling s t p b c e f = sym (encode_read s p b e) ∙ encode_read t p c f

pub read_within : (s : Bytes) (p : Problem) → All (λ b. b < 256) s → read_problem s ≡ got p → WithinLimits p
read_within s p b e =
    let r = problem_faithful s p b e in
    record { constraints = r.1.1; count = r.1.2; input = rw r.1.0 r.0 }

-- Every problem within the limits is read back from its encoding, which consists of bytes
pub read_encode : (p : Problem) → WithinLimits p → read_problem (encode_problem p) ≡ got p
unfolding read_problem
read_encode p w = rw (le-ltb largest_problem (length (encode_problem p)) w.input)
    (constraints_complete max_constraints p w.constraints w.count)

pub problem_bytes : (p : Problem) → WithinLimits p → All (λ b. b < 256) (encode_problem p)
unfolding largest_problem
problem_bytes p w = constraints_bytes p w.constraints (omega (arith, w.input))

-- What is accepted is accepted as it was read, and every accepted problem from its encoding
pub accept_accepted : (s : Bytes) (p : Problem) → All (λ b. b < 256) s → accept s ≡ got p → Accepted p × (encode_problem p ≡ s)
unfolding accept
accept_accepted s p b e =
    by_got (read_problem s) _ e (λ q read e.
    let same = checked_same _ q p e in
    let was : read_problem s ≡ got p = read ∙ ap got same in
    (record { within = read_within s p b was; checked = rw same at e }, encode_read s p b was))

pub accepted_accept : (p : Problem) → Accepted p → accept (encode_problem p) ≡ got p
unfolding accept
accepted_accept p a = rw (read_encode p a.within) a.checked

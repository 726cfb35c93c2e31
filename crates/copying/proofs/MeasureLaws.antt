-- How long the bytes of a term are: over its tokens, and that this is the length of its encoding.
--   left        the bytes of the nodes of a list from node i on
--   Measuring   the invariant of the loop of `term_length`
use mathlib.Core.Path.{◌≡◌, ap, sym, ◌∙◌}
use Prim.Native.Nat.{ℕ, ◌+◌, ◌-◌, ◌*◌, ◌<◌, ◌≤◌}
use native.Mathlib.Omega.{arith}
use native.Mathlib.Numerals.{add-one}
use mathlib.Core.List.{List, [], ◌∷◌, ◌++◌, append_assoc, append-nil}
use lib.ListN.{length, drop, drop_of_length-le, length-append, length-take, take}
use lib.Seq.{drop-cons}
use Rattle.meaning.specs.Term.{Forest, Named, NamedTerm, cons, nil, one, size}
use Rattle.meaning.specs.Scope.{enter}
use Rattle.meaning.specs.Field.{encode, field, fixed_part, tag_of}
use Rattle.meaning.specs.Read.{in_expression}
use Rattle.meaning.specs.Readable.{Readable}
use Rattle.meaning.proofs.ByteLaws.{field_length}
use Rattle.tokens.specs.Token.{size_in, tokens}
use Rattle.tokens.specs.Key.{Inside, at, part}
use Rattle.tokens.proofs.ProblemTokens.{token_at}
use Rattle.tokens.proofs.KeyLaws.{stands_part}
use Rattle.copying.specs.Fixed.{fixed_in}
use Rattle.copying.specs.Copied.{TermIn}
use Rattle.copying.specs.Measure.{Measurable, TermMeasured, length_at, length_in}
use Rattle.copying.proofs.FixedLaws.{fixed_said, fixed_short}
use Rattle.copying.proofs.SpanLaws.{opened, term_inside}

-- What is left of a list
abbrev left : List ℕ → ℕ → ℕ
left ps i = length_in (drop i ps)

left_end : (ps : List ℕ) (i : ℕ) → length ps ≤ i → left ps i ≡ 0
unfolding length_in
left_end ps i h = ap length_in (drop_of_length-le ps h)

left_next : (ps : List ℕ) (i : ℕ) → i < length ps → left ps i ≡ 3 + length (fixed_in (at ps i)) + left ps (i + 1)
unfolding length_in
left_next ps i h =
    ap length_in (drop-cons ps i 0 h) ∙ ap (λ (j : ℕ). 3 + length (fixed_in (at ps i)) + left ps j) (sym (add-one i))

-- The tokens of a forest
length_trees : (levels : ℕ) (sc : List ℕ) (u : Forest Named) (xs : List ℕ) → Readable levels in_expression u → length sc + levels ≤ 256
    → size u < 65536 → length_in (tokens sc u ++ xs) ≡ length (encode u) + length_in xs
unfolding tokens length_in encode
length_trees levels sc nil xs r d z = omega arith
length_trees levels sc (cons l c s) xs r d z =
    let q = opened sc l c s levels r d z in
    let below = length_trees q.levels_below (enter l sc) c (tokens sc s ++ xs) q.below q.depths (omega arith) in
    let later = length_trees levels sc s xs q.later d (omega arith) in
    ap (λ (ys : List ℕ). length_in (token_at sc l c ∷ ys)) (append_assoc (tokens (enter l sc) c) (tokens sc s) xs)
    ∙ omega (
      arith,
      below,
      later,
      ap length (fixed_said sc l c q.node),
      length-append (field (tag_of l) (fixed_part l ++ encode c)) (encode s),
      field_length (tag_of l) (fixed_part l ++ encode c),
      length-append (fixed_part l) (encode c),
    )

-- A term that stands in a table
measured : {es : List ℕ} {node : ℕ} (t : NamedTerm) → TermIn es node t → length_at es node ≡ length (encode (one t))
unfolding length_at length_in
measured {es} {node} t h =
    let n : length (encode (one t)) + 0 ≡ length (encode (one t)) = omega arith in
    ap length_in
    (stands_part h.levels in_expression es node h.scope t h.held h.stands ∙ sym (append-nil (tokens h.scope (one t))))
    ∙ length_trees h.levels h.scope (one t) [] h.held.readable h.held.depths h.held.sizes ∙ n

-- The loop's invariant: what is counted and what is left make the whole
pub record Measuring (es : List ℕ) (node total i : ℕ) : Type 0 where
  pub inside : Inside es node
  pub whole : total + left (part es node) i ≡ length_at es node
  pub small : total ≤ 7 * i

pub measure_begins : {es : List ℕ} {node : ℕ} → Measurable es node → Measuring es node 0 0
unfolding length_at
measure_begins h = record { inside = term_inside h.there; whole = omega arith; small = omega arith }

-- The part that the loop goes over
pub part_lent : (es : List ℕ) (node n : ℕ) → n ≡ size_in (at es node) → take (node + n - node) (drop node es) ≡ part es node
part_lent es node n e = let w : node + n - node ≡ size_in (at es node) = omega arith in ap (λ (k : ℕ). take k (drop node es)) w

pub part_short : (es : List ℕ) (node i : ℕ) → i < length (part es node) → i < 65536
part_short es node i h = omega (arith, length-take (size_in (at es node)) (drop node es))

module _ {es : List ℕ} {node total i : ℕ} (w : Measuring es node total i) where
  pub measure_ends : length (part es node) ≤ i → TermMeasured es node total
  measure_ends h = record { long = λ t there. omega (arith, w.whole, left_end (part es node) i h, measured t there) }

  pub measure_goes_on : {f : ℕ} → i < length (part es node) → f ≡ length (fixed_in (at (part es node) i))
      → Measuring es node (total + (3 + f)) (i + 1)
  measure_goes_on {f} h is_f =
      record {
        inside = w.inside;
        whole = omega (arith, is_f, left_next (part es node) i h, w.whole);
        small = omega (arith, is_f, fixed_short (at (part es node) i), w.small);
      }

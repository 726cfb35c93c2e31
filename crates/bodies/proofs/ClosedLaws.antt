-- What the loop of `body_closed` owes, over the numbers and lists that the code holds.
--   left      the test of what is left of the face's nodes from node i on
--   Testing   the loop's invariant
use mathlib.Core.Path.{◌≡◌, refl, ap, sym, ◌∙◌}
use mathlib.Core.Bool.{Bool, true, false, ◌&&◌, not}
use mathlib.Core.List.{List, [], ◌∷◌}
use Prim.Native.Nat.{ℕ, zero, suc, ◌+◌, ◌-◌, ◌<◌, ◌≤◌}
use native.Mathlib.Omega.{arith}
use native.Mathlib.Numerals.{add-one}
use lib.ListN.{length, drop, length-drop, drop_of_length-le}
use lib.Seq.{drop-cons, drop-drop, get_or-take, get_or-drop, length-take-le}
use Rattle.meaning.proofs.Lists.{choose_true, choose_false}
use Rattle.tokens.specs.Token.{depth_in, size_in, Table}
use Rattle.tokens.specs.Key.{at, part, Inside, reaches}
use Rattle.bodies.specs.Marked.{marked}
use Rattle.bodies.specs.BodyClosed.{closed_from, body_closed_at}

-- The nodes of a subterm that lies in the table
module _ (es : List ℕ) (a : ℕ) (h : Inside es a) where
  pub part_length : length (part es a) ≡ size_in (at es a)
  part_length = length-take-le (size_in (at es a)) (drop a es) (omega (arith, length-drop a es, h.ends, h.starts))

  pub part_at : (i : ℕ) → i < size_in (at es a) → at (part es a) i ≡ at es (a + i)
  part_at i l = get_or-take (size_in (at es a)) (drop a es) i 0 l ∙ get_or-drop a es i 0

module _ (hole : ℕ → Bool) (d : ℕ) where
  -- One token
  module _ (i x : ℕ) (xs : List ℕ) where
    pub closed_hole : hole i ≡ true → closed_from hole d 0 i (x ∷ xs) ≡ closed_from hole d (size_in x - 1) (suc i) xs
    unfolding closed_from
    closed_hole e = choose_true _ _ e

    pub closed_own : hole i ≡ false → closed_from hole d 0 i (x ∷ xs) ≡ not (reaches 0 d x) && closed_from hole d 0 (suc i) xs
    unfolding closed_from
    closed_own e = choose_false _ _ e

  pub closed_skip : (k i : ℕ) (xs : List ℕ) → closed_from hole d k i xs ≡ closed_from hole d 0 (i + k) (drop k xs)
  unfolding closed_from
  closed_skip zero i [] = refl
  closed_skip (suc k) i [] = refl
  closed_skip zero i (x ∷ xs) = let e : i ≡ i + 0 = omega arith in ap (λ (j : ℕ). closed_from hole d 0 j (x ∷ xs)) e
  closed_skip (suc k) i (x ∷ xs) =
      let e : suc i + k ≡ i + suc k = omega arith in
      closed_skip k (suc i) xs ∙ ap (λ (j : ℕ). closed_from hole d 0 j (drop k xs)) e

  -- What is left of a list
  abbrev pub left : List ℕ → ℕ → Bool
  left ps i = closed_from hole d 0 i (drop i ps)

  left_end : (ps : List ℕ) (i : ℕ) → length ps ≤ i → left ps i ≡ true
  unfolding closed_from
  left_end ps i h = ap (closed_from hole d 0 i) (drop_of_length-le ps h)

  module _ (ps : List ℕ) (i : ℕ) (h : i < length ps) where
    left_hole : hole i ≡ true → 1 ≤ size_in (at ps i) → left ps i ≡ left ps (i + size_in (at ps i))
    left_hole e s =
        let m : ℕ = size_in (at ps i) in
        let n : suc i + (m - 1) ≡ i + m = omega arith in
        ap (closed_from hole d 0 i) (drop-cons ps i 0 h)
        ∙ closed_hole i (at ps i) (drop (suc i) ps) e
        ∙ closed_skip (m - 1) (suc i) (drop (suc i) ps)
        ∙ ap (closed_from hole d 0 (suc i + (m - 1))) (drop-drop (m - 1) (suc i) ps)
        ∙ ap (left ps) n

    left_own : hole i ≡ false → left ps i ≡ not (reaches 0 d (at ps i)) && left ps (i + 1)
    left_own e =
        ap (closed_from hole d 0 i) (drop-cons ps i 0 h) ∙ closed_own i (at ps i) (drop (suc i) ps) e
        ∙ ap (λ (j : ℕ). not (reaches 0 d (at ps i)) && left ps j) (sym (add-one i))

-- The loop's invariant: what is left of the face says what the whole face does
pub record Testing (es : List ℕ) (face mask n d i : ℕ) : Type 0 where
  pub table : Table es
  pub inside : Inside es face
  pub is_size : n ≡ size_in (at es face)
  pub whole : left (marked mask) d (part es face) i ≡ body_closed_at es face mask

module _ {es : List ℕ} {face n d : ℕ} (mask : ℕ) where
  pub closed_begins : Table es → Inside es face → n ≡ size_in (at es face) → d ≡ depth_in (at es face) → Testing es face mask n d 0
  unfolding body_closed_at
  closed_begins t h is-n is-d =
      record { table = t; inside = h; is_size = is-n; whole = ap (λ (r : ℕ). closed_from (marked mask) r 0 0 (part es face)) is-d }

module _ {es : List ℕ} {face mask n d i : ℕ} (w : Testing es face mask n d i) where
  long : length (part es face) ≡ n
  long = part_length es face w.inside ∙ sym w.is_size

  pub closed_ends : n ≤ i → true ≡ body_closed_at es face mask
  closed_ends h = sym (left_end (marked mask) d (part es face) i (omega (arith, long))) ∙ w.whole

  module _ (h : i < n) where
    here : at (part es face) i ≡ at es (face + i)
    here = part_at es face w.inside i (omega (arith, w.is_size))

    pub size_counted : 1 ≤ size_in (at es (face + i))
    size_counted = w.table.counted (face + i) (omega (arith, w.inside.ends, w.is_size))

    pub closed_passes : marked mask i ≡ true → (m : ℕ) → m ≡ size_in (at es (face + i)) → Testing es face mask n d (i + m)
    closed_passes e m is_m =
        let size : size_in (at (part es face) i) ≡ m = ap size_in here ∙ sym is_m in
        record {
          table = w.table;
          inside = w.inside;
          is_size = w.is_size;
          whole = sym (left_hole (marked mask) d (part es face) i (omega (arith, long)) e (omega (arith, size_counted))
              ∙ ap (λ (k : ℕ). left (marked mask) d (part es face) (i + k)) size) ∙ w.whole;
        }

    module _ (e : marked mask i ≡ false) where
      next : left (marked mask) d (part es face) i ≡ not (reaches 0 d (at es (face + i))) && left (marked mask) d (part es face) (i + 1)
      next =
          left_own (marked mask) d (part es face) i (omega (arith, long)) e
          ∙ ap (λ (y : ℕ). not (reaches 0 d y) && left (marked mask) d (part es face) (i + 1)) here

      pub closed_goes_on : reaches 0 d (at es (face + i)) ≡ false → Testing es face mask n d (i + 1)
      closed_goes_on f = record {
        table = w.table;
        inside = w.inside;
        is_size = w.is_size;
        whole = sym (next ∙ ap (λ (b : Bool). not b && left (marked mask) d (part es face) (i + 1)) f) ∙ w.whole;
      }

      pub closed_stops : reaches 0 d (at es (face + i)) ≡ true → false ≡ body_closed_at es face mask
      closed_stops f = sym (next ∙ ap (λ (b : Bool). not b && left (marked mask) d (part es face) (i + 1)) f) ∙ w.whole

-- What `body_closed` cites
pub ruleset closing = (size_counted, closed_begins, closed_passes, closed_goes_on, closed_stops)

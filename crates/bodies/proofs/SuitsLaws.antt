-- What the loop of `suits` owes, over the numbers and lists that the code holds.
--   walk_from  the walk of what is left of two lists from nodes i and j on, and left its test
--   Walking   the loop's invariant: what is left says what the whole does; up to the lowest hole the two are passed node by node
use mathlib.Core.Path.{◌≡◌, refl, ap, ap₂, sym, ◌∙◌}
use mathlib.Core.Bool.{Bool, true, false, ◌&&◌, and-false}
use mathlib.Core.List.{List, [], ◌∷◌}
use mathlib.Core.Option.{Option, none, some}
use Prim.Native.Nat.{ℕ, suc, ◌+◌, ◌*◌, ◌-◌, ◌/◌, ◌<◌, ◌≤◌}
use native.Mathlib.Omega.{arith}
use native.Mathlib.Numerals.{add-one}
use native.Mathlib.Decide.{dec_lt}
use lib.ListN.{length, drop, drop_of_length-le}
use lib.Seq.{drop-cons, drop-drop}
use lib.Dec.{eqb}
use Rattle.meaning.specs.Basics.{join}
use Rattle.tokens.specs.Token.{depth_in, size_in, Table}
use Rattle.tokens.specs.Key.{key_of, at, part, Inside}
use Rattle.numbers.specs.Tests.{Tests}
use Rattle.masks.specs.Mask.{marks}
use Rattle.masks.specs.Sets.{width}
use Rattle.masks.proofs.Marks.{length_marks}
use Rattle.masks.proofs.Nodes.{first_min}
use Rattle.masks.proofs.Words.{first_le}
use Rattle.lockstep.specs.Walk.{Stop, face_code, lockstep}
use Rattle.lockstep.proofs.WalkLaws.{lockstep_end, lockstep_out, lockstep_differs, lockstep_same, lockstep_face, lockstep_skip}
use Rattle.bodies.specs.Marked.{marked, lowest_marked}
use Rattle.bodies.specs.Suits.{hole_fits, at_marks, all_faced, suits_at}
use Rattle.bodies.proofs.ClosedLaws.{part_length, part_at}

-- The lowest node of a mask
pub lowest_room : (mask : ℕ) → lowest_marked mask ≤ 256
unfolding width
lowest_room mask = omega (arith, first_le (marks width mask), length_marks width mask)

lowest_min : (mask i : ℕ) → marked mask i ≡ true → lowest_marked mask ≤ i
lowest_min mask i h = first_min (marks width mask) i h

faced_join : (test : ℕ → Bool) (i j : ℕ) (o : Option (List ℕ)) → i < 65536
    → all_faced test (join (some (face_code i j ∷ [])) o) ≡ test j && all_faced test o
faced_join test i j none h = sym (and-false (test j))
faced_join test i j (some xs) h = let e : (i + 65536 * j) / 65536 ≡ j = omega arith in ap (λ (k : ℕ). test k && all_faced test (some xs)) e

-- What is left of two lists
module _ (stop : Stop) (d e : ℕ) (ps es : List ℕ) where
  abbrev walk_from : ℕ → ℕ → Option (List ℕ)
  walk_from i j = lockstep stop d e 0 i j (drop i ps) (drop j es)

  module _ (i j : ℕ) where
    from_end : length ps ≤ i → walk_from i j ≡ some []
    from_end h = ap (λ (l : List ℕ). lockstep stop d e 0 i j l (drop j es)) (drop_of_length-le ps h) ∙ lockstep_end stop d e i j (drop j es)

    module _ (hi : i < length ps) where
      from_out : length es ≤ j → walk_from i j ≡ none
      from_out h =
          ap₂ (lockstep stop d e 0 i j) (drop-cons ps i 0 hi) (drop_of_length-le es h)
          ∙ lockstep_out stop d e i j (at ps i) (drop (suc i) ps)

      module _ (hj : j < length es) where
        opened : walk_from i j ≡ lockstep stop d e 0 i j (at ps i ∷ drop (suc i) ps) (at es j ∷ drop (suc j) es)
        opened = ap₂ (lockstep stop d e 0 i j) (drop-cons ps i 0 hi) (drop-cons es j 0 hj)

        from_differs : stop i (at ps i) ≡ false → eqb (key_of d (at ps i)) (key_of e (at es j)) ≡ false → walk_from i j ≡ none
        from_differs f n = opened ∙ lockstep_differs stop d e i j (at ps i) (at es j) (drop (suc i) ps) (drop (suc j) es) f n

        from_same : stop i (at ps i) ≡ false → eqb (key_of d (at ps i)) (key_of e (at es j)) ≡ true → walk_from i j ≡ walk_from (i + 1) (j + 1)
        from_same f n =
            opened ∙ lockstep_same stop d e i j (at ps i) (at es j) (drop (suc i) ps) (drop (suc j) es) f n ∙ rw (add-one i, add-one j)

        from_face : stop i (at ps i) ≡ true → 1 ≤ size_in (at ps i)
            → walk_from i j ≡ join (some (face_code i j ∷ [])) (walk_from (i + size_in (at ps i)) (j + size_in (at es j)))
        from_face f s =
            let m : ℕ = size_in (at ps i) in
            let k : ℕ = size_in (at es j) in
            let n : suc i + (m - 1) ≡ i + m = omega arith in
            opened
            ∙ lockstep_face stop d e i j (at ps i) (at es j) (drop (suc i) ps) (drop (suc j) es) f
            ∙ ap (join (some (face_code i j ∷ [])))
            (lockstep_skip stop d e (m - 1) (suc i) (j + k) (drop (suc i) ps) (drop k (at es j ∷ drop (suc j) es))
            ∙ ap₂ (λ (u v : List ℕ). lockstep stop d e 0 (suc i + (m - 1)) (j + k) u v)
            (drop-drop (m - 1) (suc i) ps)
            (ap (drop k) (sym (drop-cons es j 0 hj)) ∙ drop-drop k j es)
            ∙ ap (λ (a : ℕ). lockstep stop d e 0 a (j + k) (drop a ps) (drop (j + k) es)) n)

-- The test of what is left, where what stands across the lowest hole stands at node low
abbrev left : Tests → List ℕ → ℕ → ℕ → ℕ → ℕ → ℕ → ℕ → ℕ → Bool
left q es face mask d e low i j = all_faced (hole_fits q e low) (walk_from (at_marks mask) d e (part es face) es i j)

pub record Walking (q : Tests) (es : List ℕ) (face faced mask n d e low i j : ℕ) : Type 0 where
  pub table : Table es
  pub inside : Inside es face
  pub is_size : n ≡ size_in (at es face)
  pub is_low : low ≡ faced + lowest_marked mask
  pub whole : left q es face mask d e low i j ≡ suits_at q es face faced mask
  pub beside : i ≤ lowest_marked mask → j ≡ faced + i
  pub passed : lowest_marked mask < i → low < length es

module _ {q : Tests} {es : List ℕ} {face n d e lowest : ℕ} (faced mask : ℕ) where
  pub suits_begins : Table es → Inside es face → n ≡ size_in (at es face) → d ≡ depth_in (at es face) → e ≡ depth_in (at es faced)
      → lowest ≡ lowest_marked mask → Walking q es face faced mask n d e (faced + lowest) 0 faced
  unfolding suits_at
  suits_begins t h is-n is-d is-e is-low = record {
    table = t;
    inside = h;
    is_size = is-n;
    is_low = ap (λ (x : ℕ). faced + x) is-low;
    whole = ap (λ (x : ℕ). left q es face mask d e (faced + x) 0 faced) is-low
        ∙ ap₂ (λ (x y : ℕ). left q es face mask x y (faced + lowest_marked mask) 0 faced) is-d is-e;
    beside = λ l. omega arith;
    passed = λ l. absurd (omega arith);
  }

module _ {q : Tests} {es : List ℕ} {face faced mask n d e low i j : ℕ} (w : Walking q es face faced mask n d e low i j) where
  abbrev ps : List ℕ
  ps = part es face

  abbrev walk_left : ℕ → ℕ → Option (List ℕ)
  walk_left x y = walk_from (at_marks mask) d e ps es x y

  abbrev Next : ℕ → ℕ → Type 0
  Next x y = Walking q es face faced mask n d e low x y

  long : length ps ≡ n
  long = part_length es face w.inside ∙ sym w.is_size

  answered : (o : Option (List ℕ)) → walk_left i j ≡ o → all_faced (hole_fits q e low) o ≡ suits_at q es face faced mask
  answered o h = sym (ap (all_faced (hole_fits q e low)) h) ∙ w.whole

  pub suits_ends : n ≤ i → true ≡ suits_at q es face faced mask
  suits_ends h = answered (some []) (from_end (at_marks mask) d e ps es i j (omega (arith, long)))

  module _ (hi : i < n) where
    pub suits_out : length es ≤ j → false ≡ suits_at q es face faced mask
    suits_out h = answered none (from_out (at_marks mask) d e ps es i j (omega (arith, long)) h)

    here : at ps i ≡ at es (face + i)
    here = part_at es face w.inside i (omega (arith, w.is_size))

    pub node_counted : 1 ≤ size_in (at es (face + i))
    node_counted = w.table.counted (face + i) (omega (arith, w.inside.ends, w.is_size))

    module _ (hj : j < length es) where
      -- At a hole: the lowest one lies in the table
      module _ (m : marked mask i ≡ true) where
        pub lowest_inside : low < length es
        lowest_inside = go (dec_lt (lowest_marked mask) i)
          where
            go : Dec (lowest_marked mask < i) → low < length es
            go (yes l) = w.passed l
            go (no l) = let a = lowest_min mask i m in let b = w.beside (omega arith) in omega (arith, w.is_low)

        -- x and y are the sizes of what is passed
        module _ (x y : ℕ) (is_x : x ≡ size_in (at es (face + i))) (is_y : y ≡ size_in (at es j)) where
          passes : walk_left i j ≡ join (some (face_code i j ∷ [])) (walk_left (i + x) (j + y))
          passes =
              from_face (at_marks mask) d e ps es i j (omega (arith, long)) hj m (rw here node_counted)
              ∙ ap₂ (λ (a b : ℕ). join (some (face_code i j ∷ [])) (walk_left (i + a) (j + b))) (ap size_in here ∙ sym is_x) (sym is_y)

          pub hole_goes_on : hole_fits q e low j ≡ true → Next (i + x) (j + y)
          hole_goes_on h = record {
            table = w.table;
            inside = w.inside;
            is_size = w.is_size;
            is_low = w.is_low;
            whole =
                sym (faced_join (hole_fits q e low) i j (walk_left (i + x) (j + y)) small
                ∙ ap (λ (b : Bool). b && left q es face mask d e low (i + x) (j + y)) h)
                ∙ answered (join (some (face_code i j ∷ [])) (walk_left (i + x) (j + y))) passes;
            beside = λ l. absurd (let a = lowest_min mask i m in omega (arith, node_counted));
            passed = λ l. lowest_inside;
          }
            where
              small : i < 65536
              small = omega (arith, w.is_size)

        pub hole_stops : hole_fits q e low j ≡ false → false ≡ suits_at q es face faced mask
        hole_stops h =
            let x : ℕ = size_in (at es (face + i)) in
            let y : ℕ = size_in (at es j) in
            sym (faced_join (hole_fits q e low) i j (walk_left (i + x) (j + y)) (omega (arith, w.is_size))
            ∙ ap (λ (b : Bool). b && left q es face mask d e low (i + x) (j + y)) h)
            ∙ answered (join (some (face_code i j ∷ [])) (walk_left (i + x) (j + y))) (passes x y refl refl)

      module _ (m : marked mask i ≡ false) where
        keys : eqb (key_of d (at ps i)) (key_of e (at es j)) ≡ eqb (key_of d (at es (face + i))) (key_of e (at es j))
        keys = ap (λ (x : ℕ). eqb (key_of d x) (key_of e (at es j))) here

        pub node_stops : eqb (key_of d (at es (face + i))) (key_of e (at es j)) ≡ false → false ≡ suits_at q es face faced mask
        node_stops h = answered none (from_differs (at_marks mask) d e ps es i j (omega (arith, long)) hj m (keys ∙ h))

        pub node_goes_on : eqb (key_of d (at es (face + i))) (key_of e (at es j)) ≡ true → Next (i + 1) (j + 1)
        node_goes_on h = record {
          table = w.table;
          inside = w.inside;
          is_size = w.is_size;
          is_low = w.is_low;
          whole = answered (walk_left (i + 1) (j + 1)) (from_same (at_marks mask) d e ps es i j (omega (arith, long)) hj m (keys ∙ h));
          beside = λ l. let b = w.beside (omega arith) in omega arith;
          passed = λ l. go l (dec_lt (lowest_marked mask) i);
        }
          where
            go : lowest_marked mask < i + 1 → Dec (lowest_marked mask < i) → low < length es
            go l (yes x) = w.passed x
            go l (no x) = let b = w.beside (omega arith) in omega (arith, w.is_low)

-- What `suits` cites
pub ruleset suiting = (lowest_room, node_counted, lowest_inside, suits_begins, suits_out, hole_stops, node_stops, node_goes_on)

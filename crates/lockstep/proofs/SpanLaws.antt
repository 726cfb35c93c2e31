-- What the walk's code owes: the law of each turn of its loop and of each return, over the numbers and lists that the code holds.
--   left    the walk of what is left of the span from pattern node i and expression node j on
use mathlib.Core.Path.{◌≡◌, refl, ap, ap₂, sym, ◌∙◌}
use mathlib.Core.Bool.{true, false}
use mathlib.Core.List.{List, [], ◌∷◌, ◌++◌, append-nil}
use mathlib.Core.Option.{Option, none, some}
use Prim.Native.Nat.{ℕ, suc, ◌+◌, ◌-◌, ◌<◌, ◌≤◌}
use native.Mathlib.Omega.{arith}
use native.Mathlib.Numerals.{add-one}
use lib.ListN.{length, take, drop, set, length-set, take-append-drop, drop_of_length-le}
use lib.Seq.{drop-cons, drop-drop, drop-set-lt, get_or-take, take-suc-set, length-take-le}
use lib.Dec.{eqb, ltb}
use Rattle.meaning.specs.Basics.{join}
use Rattle.meaning.proofs.Lists.{never}
use Rattle.slices.proofs.Slices.{drop_take}
use Rattle.tokens.specs.Token.{tag_in, size_in}
use Rattle.tokens.specs.Key.{key_of, at}
use Rattle.std.specs.Prelude.{Some, None}
use Rattle.lockstep.specs.declared.Span.{Span}
use Rattle.lockstep.specs.Walk.{is_slot, at_slots, face_code, lockstep}
use Rattle.lockstep.specs.Span.{span_walk, Lent, answer_of, Walked}
use Rattle.lockstep.proofs.WalkLaws.{join_assoc, join_nothing, lockstep_end, lockstep_out, lockstep_differs, lockstep_same}
use Rattle.lockstep.proofs.WalkLaws.{lockstep_face, lockstep_skip}

-- What the code computes of one token
pub slot_tag_lem : (x g : ℕ) → g ≡ tag_in x → ltb 4 g ≡ is_slot x
unfolding is_slot
slot_tag_lem x g is = ap (ltb 4) is

-- The walk of what is left
unfoldable pub left : List ℕ → List ℕ → Span → ℕ → ℕ → Option (List ℕ)
left ps es s i j = lockstep at_slots s.d s.e 0 i j (drop i (take s.to ps)) (drop j es)

module _ (ps es : List ℕ) (s : Span) (inside : s.to ≤ length ps) where
  module _ (i j : ℕ) where
    long : length (take s.to ps) ≡ s.to
    long = length-take-le s.to ps inside

    left_end : s.to ≤ i → left ps es s i j ≡ some []
    unfolding left
    left_end h =
        let g : length (take s.to ps) ≤ i = omega (arith, long) in
        ap (λ (l : List ℕ). lockstep at_slots s.d s.e 0 i j l (drop j es)) (drop_of_length-le (take s.to ps) g)
        ∙ lockstep_end at_slots s.d s.e i j (drop j es)

    module _ (hi : i < s.to) where
      front : drop i (take s.to ps) ≡ at ps i ∷ drop (suc i) (take s.to ps)
      front =
          drop-cons (take s.to ps) i 0 (omega (arith, long))
          ∙ ap (λ (x : ℕ). x ∷ drop (suc i) (take s.to ps)) (get_or-take s.to ps i 0 hi)

      pub left_out : length es ≤ j → left ps es s i j ≡ none
      unfolding left
      left_out h =
          ap₂ (lockstep at_slots s.d s.e 0 i j) front (drop_of_length-le es h)
          ∙ lockstep_out at_slots s.d s.e i j (at ps i) (drop (suc i) (take s.to ps))

      module _ (hj : j < length es) where
        opened : left ps es s i j ≡ lockstep at_slots s.d s.e 0 i j (at ps i ∷ drop (suc i) (take s.to ps))
            (at es j ∷ drop (suc j) es)
        unfolding left
        opened = ap₂ (lockstep at_slots s.d s.e 0 i j) front (drop-cons es j 0 hj)

        pub left_differs : is_slot (at ps i) ≡ false → eqb (key_of s.d (at ps i)) (key_of s.e (at es j)) ≡ false
            → left ps es s i j ≡ none
        left_differs f n =
            opened ∙ lockstep_differs at_slots s.d s.e i j (at ps i) (at es j) (drop (suc i) (take s.to ps)) (drop (suc j) es) f n

        left_same : is_slot (at ps i) ≡ false → eqb (key_of s.d (at ps i)) (key_of s.e (at es j)) ≡ true
            → left ps es s i j ≡ left ps es s (i + 1) (j + 1)
        unfolding left
        left_same f n =
            opened ∙ lockstep_same at_slots s.d s.e i j (at ps i) (at es j) (drop (suc i) (take s.to ps)) (drop (suc j) es) f n
            ∙ rw (add-one i, add-one j)

        left_face : is_slot (at ps i) ≡ true → 1 ≤ size_in (at ps i)
            → left ps es s i j ≡ join (some (face_code i j ∷ [])) (left ps es s (i + size_in (at ps i)) (j + size_in (at es j)))
        unfolding left
        left_face f h =
            let m : ℕ = size_in (at ps i) in
            let k : ℕ = size_in (at es j) in
            let n : suc i + (m - 1) ≡ i + m = omega arith in
            let qs : List ℕ = take s.to ps in
            opened
            ∙ lockstep_face at_slots s.d s.e i j (at ps i) (at es j) (drop (suc i) qs) (drop (suc j) es) f
            ∙ ap (join (some (face_code i j ∷ [])))
            (lockstep_skip at_slots s.d s.e (m - 1) (suc i) (j + k) (drop (suc i) qs) (drop k (at es j ∷ drop (suc j) es))
            ∙ ap₂ (λ (u v : List ℕ). lockstep at_slots s.d s.e 0 (suc i + (m - 1)) (j + k) u v)
            (drop-drop (m - 1) (suc i) qs)
            (ap (drop k) (sym (drop-cons es j 0 hj)) ∙ drop-drop k j es)
            ∙ ap (λ (a : ℕ). lockstep at_slots s.d s.e 0 a (j + k) (drop a qs) (drop (j + k) es)) n)

-- The loop's invariant: what was found and what is left make up the whole walk
pub record Walking (ps es old out : List ℕ) (s : Span) (i j n : ℕ) : Type 0 where
  pub whole : span_walk ps es s ≡ join (some (take n out)) (left ps es s i j)
  pub kept : drop n out ≡ drop n old
  pub long : length out ≡ length old
  pub behind : s.from + n ≤ i
  pub fits : n ≤ length old

module _ (ps es old : List ℕ) (s : Span) (l : Lent ps es old s) where
  pub walking_start : Walking ps es old old s s.from s.at 0
  unfolding left
  walking_start =
      record {
        whole = ap (λ (qs : List ℕ). lockstep at_slots s.d s.e 0 s.from s.at qs (drop s.at es))
            (sym (drop_take s.from s.to ps))
            ∙ sym (join_nothing (left ps es s s.from s.at));
        kept = refl;
        long = refl;
        behind = omega arith;
        fits = omega arith;
      }

  module _ (out : List ℕ) (i j n : ℕ) (w : Walking ps es old out s i j n) where
    pub walked_disagree : left ps es s i j ≡ none → Walked (span_walk ps es s) old out None
    walked_disagree e =
        let z : span_walk ps es s ≡ none = w.whole ∙ ap (join (some (take n out))) e in
        record { answer = sym (ap answer_of z); recorded = λ xs h. never (cc) }

    pub walked_end : s.to ≤ i → Walked (span_walk ps es s) old out (Some n)
    walked_end h =
        let z : span_walk ps es s ≡ some (take n out) =
        w.whole ∙ ap (join (some (take n out))) (left_end ps es s l.inside i j h) ∙ ap some (append-nil (take n out)) in
        let m : length (take n out) ≡ n = length-take-le n out (omega (arith, w.long, w.fits)) in
        record {
          answer = ap Some (sym m) ∙ sym (ap answer_of z);
          recorded = λ xs q. let e : xs ≡ take n out = cc in made xs e m;
        }
      where
        made : (xs : List ℕ) → xs ≡ take n out → length (take n out) ≡ n → out ≡ xs ++ drop (length xs) old
        made xs e m =
            sym (take-append-drop n out)
            ∙ ap₂ (λ (u v : List ℕ). u ++ v) (sym e) (w.kept ∙ ap (λ (k : ℕ). drop k old) (sym m ∙ ap length (sym e)))

    module _ (hi : i < s.to) (hj : j < length es) where
      pub walking_same : is_slot (at ps i) ≡ false → eqb (key_of s.d (at ps i)) (key_of s.e (at es j)) ≡ true
          → Walking ps es old out s (i + 1) (j + 1) n
      walking_same f e =
          record {
            whole = w.whole ∙ ap (join (some (take n out))) (left_same ps es s l.inside i j hi hj f e);
            kept = w.kept;
            long = w.long;
            behind = omega (arith, w.behind);
            fits = w.fits;
          }

      room_left : n < length out
      room_left = omega (arith, l.room, w.long, w.behind)

      pub walking_face : is_slot (at ps i) ≡ true
          → Walking ps es old (set out n (face_code i j)) s (i + size_in (at ps i)) (j + size_in (at es j)) (n + 1)
      walking_face f =
          let v : ℕ = face_code i j in
          let some-nodes : 1 ≤ size_in (at ps i) = l.patterns.counted i (omega (arith, l.inside)) in
          let next = left ps es s (i + size_in (at ps i)) (j + size_in (at es j)) in
          let front : take n out ++ (v ∷ []) ≡ take (n + 1) (set out n v) =
          sym (ap (λ (m : ℕ). take m (set out n v)) (add-one n) ∙ take-suc-set out n v room_left) in
          let after : drop (n + 1) out ≡ drop (n + 1) old =
          sym (drop-drop 1 n out) ∙ ap (drop 1) w.kept ∙ drop-drop 1 n old in
          record {
            whole = w.whole ∙ ap (join (some (take n out))) (left_face ps es s l.inside i j hi hj f some-nodes)
                ∙ sym (join_assoc (some (take n out)) (some (v ∷ [])) next)
                ∙ ap (λ (m : List ℕ). join (some m) next) front;
            kept = drop-set-lt (n + 1) out n v (omega arith) ∙ after;
            long = length-set out n v ∙ w.long;
            behind = omega (arith, w.behind);
            fits = omega (arith, w.long, room_left);
          }

-- What the functions that write ask of their callees and leave in the buffer, over plain variables; one part for each of them.
--   Symbols       what the loop of `write_symbols` keeps: i symbols are written
--   field_wrote   a field's content, written into the part after its head, and then the head
use mathlib.Core.Path.{◌≡◌, refl, ap, ap₂, sym, ◌∙◌, subst}
use Prim.Native.Nat.{ℕ, suc, ◌+◌, ◌-◌, ◌*◌, ◌<◌, ◌≤◌}
use mathlib.Core.Bool.{Bool, true, false, not, ◌&&◌, ◌||◌}
use mathlib.Core.List.{[], ◌∷◌, ◌++◌}
use native.Mathlib.Omega.{arith}
use borrow.Rule.Slice.PartMut.{put_mid, same_len_mid}
use lib.ListN.{length, drop, take}
use lib.Dec.{ltb}
use Rattle.std.specs.Ordering.{is_le, nat_cmp}
use Rattle.std.proofs.lemmas.Bool.Decides.{nat_tests}
use Rattle.meaning.specs.Limits.{max_face_nodes}
use Rattle.meaning.specs.Basics.{Bytes}
use Rattle.meaning.specs.Read.{got, refused}
use Rattle.meaning.specs.Field.{encode, field, word}
use Rattle.meaning.specs.Longest.{LongestCall, buffer_after, is_outside, length_of, longest_bytes, longest_into, over, symbols}
use Rattle.meaning.proofs.ByteLaws.{field_length}
use Rattle.slices.proofs.Slices.{part_length}
use Rattle.copying.specs.Fixed.{HeadRoom}
use Rattle.copying.proofs.WriteLaws.{Part, headed, part_ends, part_goes}
use Rattle.longest.specs.Writing.{Nodes, ProblemRoom, Room, expression_bytes, terms_bytes}
use Rattle.longest.proofs.IntoLaws.{inside, into_outside, into_room, into_short}
use Rattle.longest.proofs.LongestBytes.{application_is, expression_length, expression_most, problem_is, problem_length, symbol_more}
use Rattle.longest.proofs.LongestBytes.{symbols_length, symbol_field}

-- The return of `is_outside`
up_to_tells : (a b : ℕ) → not (is_le (nat_cmp a b)) ≡ ltb b a
up_to_tells a b = grind (arith, nat_tests)

not_both : (x y : Bool) → not (x && y) ≡ not x || not y
not_both true y = refl
not_both false y = refl

pub outside_told : (n : ℕ) → not (is_le (nat_cmp 1 n) && is_le (nat_cmp n max_face_nodes)) ≡ is_outside n
outside_told n = not_both (is_le (nat_cmp 1 n)) (is_le (nat_cmp n max_face_nodes)) ∙ ap₂ ◌||◌ (up_to_tells 1 n) (up_to_tells n max_face_nodes)

-- `write_symbols`: of all symbols, i are written
pub record Symbols (m i : ℕ) (before out : Bytes) : Type 0 where
  pub few : i ≤ m
  pub same : length out ≡ length before
  pub part : Part (encode (symbols m)) (encode (symbols (m - i))) (5 * i) before out

module _ {m i : ℕ} {before out : Bytes} (w : Symbols m i before out) where
  pub symbols_end : m ≤ i → out ≡ over (encode (symbols m)) before
  unfolding encode
  symbols_end h =
      let none : encode (symbols (m - i)) ≡ [] = ap (λ (k : ℕ). encode (symbols k)) (let e : m - i ≡ 0 = omega (arith, w.few) in e) in
      let (long, is) = part_ends w.part none in
      is ∙ ap (λ (k : ℕ). encode (symbols m) ++ drop k before) long

  module _ (more : i < m) where
    abbrev later : Bytes
    later = encode (symbols (m - (i + 1)))

    next_symbol : encode (symbols (m - i)) ≡ symbol_field ++ later
    next_symbol =
        ap (λ (k : ℕ). encode (symbols k)) (let e : m - i ≡ suc (m - (i + 1)) = omega arith in e) ∙ symbol_more (m - (i + 1))

    pub symbol_room : length (encode (symbols m)) ≤ length before → 5 * i + 5 ≤ length out
    symbol_room room = omega (arith, w.same, symbols_length m)

    pub symbol_fits : length (encode (symbols m)) ≤ length before → 5 ≤ length (take (length out - 5 * i) (drop (5 * i) out))
    symbol_fits room =
        let start = symbol_room room in
        omega (arith, part_length (5 * i) (length out) out (omega arith) (omega arith))

    pub symbols_go : {x : Bytes} → x ≡ over symbol_field (take (length out - 5 * i) (drop (5 * i) out))
        → length x ≡ length (take (length out - 5 * i) (drop (5 * i) out))
        → Symbols m (i + 1) before (put_mid (5 * i) (length out - 5 * i) out x)
    symbols_go {x} is kept =
        record {
          few = omega arith;
          same = same_len_mid (5 * i) (length out - 5 * i) out x kept ∙ w.same;
          part =
              subst (λ (k : ℕ). Part (encode (symbols m)) later k before (put_mid (5 * i) (length out - 5 * i) out x))
              (let e : 5 * i + 5 ≡ 5 * (i + 1) = omega arith in e) (part_goes w.part symbol_field later next_symbol (refl, is));
        }

-- A field: its head before the content, which stands in the part after it
field_wrote : (tag k : ℕ) (inner o y o' : Bytes) → k ≡ length inner → 3 ≤ length o → y ≡ over inner (take (length o - 3) (drop 3 o))
    → o' ≡ tag ∷ (word k ++ drop 3 (put_mid 3 (length o - 3) o y)) → o' ≡ over (field tag inner) o
unfolding field word
field_wrote tag k inner o y o' is-k room is_y e =
    (headed (tag ∷ word (length inner)) inner o y o' 3 (length inner) (3 + length inner) refl room (refl, is_y) refl (rw (← is-k) e)).1
    ∙ ap (λ (k : ℕ). field tag inner ++ drop k o) (sym (field_length tag inner))

head_room : (k : ℕ) (o y : Bytes) → 3 ≤ length o → k < 65536 → length y ≡ length (take (length o - 3) (drop 3 o))
    → HeadRoom k (put_mid 3 (length o - 3) o y)
head_room k o y room counted kept = record { room = omega (arith, same_len_mid 3 (length o - 3) o y kept); counted = counted }

-- The returns of `write_expression`, and what it asks of its callees
module _ {n : ℕ} {o : Bytes} (h : Room n (length (expression_bytes n)) o) (other : n ≡ 1 → ⊥) where
  several : 2 ≤ n
  several = let some = h.nodes.some in omega (arith, other)

  application_room : 3 + 5 * (n - 1) ≤ length o
  application_room = omega (arith, expression_length n several, h.room)

  pub application_long : 3 ≤ length o
  application_long = omega (arith, application_room)

  pub application_counted : 5 * (n - 1) < 65536
  unfolding max_face_nodes
  application_counted = omega (arith, h.nodes.few)

  pub application_head : (y : Bytes) → length y ≡ length (take (length o - 3) (drop 3 o))
      → HeadRoom (5 * (n - 1)) (put_mid 3 (length o - 3) o y)
  application_head y kept = head_room (5 * (n - 1)) o y application_long application_counted kept

  pub symbols_fit : length (encode (symbols (n - 1))) ≤ length (take (length o - 3) (drop 3 o))
  symbols_fit =
      let fits = application_room in
      omega (arith, symbols_length (n - 1), part_length 3 (length o) o (omega arith) (omega arith))

  pub application_wrote : {y o' : Bytes} → y ≡ over (encode (symbols (n - 1))) (take (length o - 3) (drop 3 o))
      → o' ≡ 3 ∷ (word (5 * (n - 1)) ++ drop 3 (put_mid 3 (length o - 3) o y)) → o' ≡ over (expression_bytes n) o
  application_wrote {y} {o'} is_y e =
      let fits = application_room in
      field_wrote 3 (5 * (n - 1)) (encode (symbols (n - 1))) o y o' (sym (symbols_length (n - 1))) (omega arith) is_y e
      ∙ ap (λ (b : Bytes). over b o) (sym (application_is n several))

-- `problem_length`, of as many nodes as are written for
pub length_one : {n : ℕ} → n ≡ 1 → 16 ≡ length (longest_bytes n)
length_one e = rw e (omega (arith, problem_length 1, symbols_length 1))

pub length_several : {n : ℕ} → (n ≡ 1 → ⊥) → Nodes n → 14 + 5 * n - 5 ≡ length (longest_bytes n)
length_several {n} other h =
    let some = h.some in
    omega (arith, problem_length n, expression_length n (omega (arith, other)))

-- `write_problem`: what it asks of its callees, and its return
module _ {n bytes : ℕ} {o : Bytes} (h : ProblemRoom n bytes o) where
  terms_long : bytes ≡ 3 + length (terms_bytes n)
  terms_long = omega (arith, h.counted, ap length (problem_is n), field_length 7 (terms_bytes n))

  pub constraint_long : 3 ≤ bytes
  constraint_long = omega (arith, terms_long)

  pub problem_long : 3 ≤ length o
  problem_long = omega (arith, constraint_long, h.fits.room)

  problem_counted : bytes - 3 < 65536
  unfolding max_face_nodes
  problem_counted = omega (arith, h.counted, problem_length n, expression_most n h.fits.nodes.some, h.fits.nodes.few)

  pub terms_room : Room n (length (terms_bytes n)) (take (length o - 3) (drop 3 o))
  terms_room =
      let long = problem_long in
      record {
        nodes = h.fits.nodes;
        room = omega (arith, terms_long, h.fits.room, part_length 3 (length o) o (omega arith) (omega arith));
      }

  pub constraint_head_lem : (y : Bytes) → length y ≡ length (take (length o - 3) (drop 3 o))
      → HeadRoom (bytes - 3) (put_mid 3 (length o - 3) o y)
  constraint_head_lem y kept = head_room (bytes - 3) o y problem_long problem_counted kept

  pub problem_wrote : {y o' : Bytes} → y ≡ over (terms_bytes n) (take (length o - 3) (drop 3 o))
      → o' ≡ 7 ∷ (word (bytes - 3) ++ drop 3 (put_mid 3 (length o - 3) o y)) → o' ≡ over (longest_bytes n) o
  problem_wrote {y} {o'} is_y e =
      field_wrote 7 (bytes - 3) (terms_bytes n) o y o' (omega (arith, terms_long)) problem_long is_y e
      ∙ ap (λ (b : Bytes). over b o) (sym (problem_is n))

-- The returns of `write_longest`
module _ (n : ℕ) (o : Bytes) where
  refuses : {r : ℕ} → longest_into n o ≡ refused r → LongestCall n o (refused r) o
  refuses a = record { answers = sym (ap length_of a); leaves = sym (ap (buffer_after o) a) }

  pub outside_refused : {outside : Bool} → outside ≡ is_outside n → outside ≡ true → LongestCall n o (refused 28) o
  outside_refused is e = refuses (into_outside n o (sym is ∙ e))

  module _ (bytes : ℕ) {outside : Bool} (is : outside ≡ is_outside n) (e : outside ≡ false) (counted : Nodes n → bytes ≡ length (longest_bytes n)) where
    long : bytes ≡ length (longest_bytes n)
    long = counted (inside n (sym is ∙ e))

    pub short_refused : length o < bytes → LongestCall n o (refused 29) o
    short_refused h = refuses (into_short n o (sym is ∙ e) (omega (arith, long)))

    pub longest_written : {o' : Bytes} → bytes ≤ length o → o' ≡ over (longest_bytes n) o → LongestCall n o (got bytes) o'
    longest_written room w =
        let a = into_room n o (sym is ∙ e) (omega (arith, long)) in
        record { answers = ap got long ∙ sym (ap length_of a); leaves = w ∙ sym (ap (buffer_after o) a) }

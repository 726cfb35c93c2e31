-- Laws of answers, words and fields: what a step of reading that is not refused says of the bytes, and how a field is read back.
--   Byte    a number that fits one byte; the bytes of an input are such numbers
--   Parts   a field's tag and content, and the bytes after it
use mathlib.Core.Path.{◌≡◌, refl, ap, sym, ◌∙◌, subst}
use Prim.Native.Nat.{ℕ, ◌+◌, ◌-◌, ◌*◌, ◌/◌, ◌%◌, ◌<◌, ◌≤◌}
use mathlib.Core.Bool.{Bool, true, false}
use mathlib.Core.List.{List, [], ◌∷◌, ◌++◌, append-nil}
use native.Mathlib.Omega.{arith}
use native.Mathlib.Decide.{dec_lt}
use lib.ListN.{length, take, drop, get_or, length-append, length-drop, take-append-drop}
use lib.Seq.{length-take-le, take_at, drop_at, drop-drop}
use lib.Dec.{eqb, ltb}
use borrow.Author.Tests.{ltb-false, lt-ltb, le-ltb, ne_eqb}
use Rattle.meaning.specs.Basics.{Byte, choose, All, Bytes}
use Rattle.meaning.specs.Limits.{first_wide}
use Rattle.meaning.specs.Field.{word, field, symbol_bytes}
use Rattle.meaning.specs.Read.{Answer, refused, got, after, word_at, long_at, Parts, parts_of}
use Rattle.meaning.proofs.Lists.{never, append_all, all_append}

-- Answers: what was got is one thing, and a step that gives something was not refused
pub got_is : {A : Type 0} {x y : A} → got x ≡ got y → x ≡ y
got_is e = cc

pub refused_not : {A : Type 0} {r : ℕ} {y : A} → refused r ≡ got y → ⊥
refused_not e = never (cc)

pub by_got : {A B C : Type 0} (a : Answer A) (f : A → Answer B) {y : B} → after a f ≡ got y → ((x : A) → a ≡ got x → f x ≡ got y → C) → C
by_got (refused r) f e k = absurd (refused_not e)
by_got (got x) f e k = k x refl e

pub unless_got : {A : Type 0} (b : Bool) (r : ℕ) (a : Answer A) {y : A} → choose b (refused r) a ≡ got y → (b ≡ false) × (a ≡ got y)
unless_got true r a e = absurd (refused_not e)
unless_got false r a e = (refl, e)

pub when_got : {A : Type 0} (b : Bool) (r : ℕ) (a : Answer A) {y : A} → choose b a (refused r) ≡ got y → (b ≡ true) × (a ≡ got y)
when_got true r a e = (refl, e)
when_got false r a e = absurd (refused_not e)

pub by_choice : {A C : Type 0} (b : Bool) (x y : A) {z : A} → choose b x y ≡ z → (b ≡ true → x ≡ z → C) → (b ≡ false → y ≡ z → C) → C
by_choice true x y e f g = f refl e
by_choice false x y e f g = g refl e

-- Lists by their length
pub none_left : {A : Type 0} (s : List A) → length s ≤ 0 → s ≡ []
none_left [] h = refl
none_left (x ∷ s) h = absurd (omega arith)

-- Words
word_of : (a b : ℕ) → Byte b → word (a * 256 + b) ≡ a ∷ b ∷ []
unfolding word
word_of a b h = let e : (a * 256 + b) / 256 ≡ a = omega arith in let f : (a * 256 + b) % 256 ≡ b = omega arith in rw (e, f)

pub word_value : (n : ℕ) → n / 256 * 256 + n % 256 ≡ n
word_value n = omega arith

-- Bytes by their number: a byte, a word, two words in front
pub one_byte : (c : Bytes) → length c ≡ 1 → get_or c 0 0 ∷ [] ≡ c
one_byte [] h = absurd (omega arith)
one_byte (a ∷ []) h = refl
one_byte (a ∷ b ∷ c) h = absurd (omega arith)

pub first_byte : (c : Bytes) → 0 < length c → get_or c 0 0 ∷ drop 1 c ≡ c
first_byte [] h = absurd (omega arith)
first_byte (a ∷ c) h = refl

pub exact_word : (c : Bytes) → All Byte c → length c ≡ 2 → (word (word_at c 0) ≡ c) × (word_at c 0 < 65536)
exact_word [] b h = absurd (omega arith)
exact_word (u ∷ []) b h = absurd (omega arith)
exact_word (u ∷ v ∷ []) b h = (word_of u v b.1.0, omega arith)
exact_word (u ∷ v ∷ w ∷ c) b h = absurd (omega arith)

pub two_words : (c : Bytes) → All Byte c → 4 ≤ length c
    → (word (word_at c 0) ++ word (word_at c 2) ++ drop 4 c ≡ c) × (word_at c 0 < 65536) × (word_at c 2 < 65536)
two_words [] b h = absurd (omega arith)
two_words (u ∷ []) b h = absurd (omega arith)
two_words (u ∷ v ∷ []) b h = absurd (omega arith)
two_words (u ∷ v ∷ w ∷ []) b h = absurd (omega arith)
two_words (u ∷ v ∷ w ∷ x ∷ c) b h = (rw (word_of u v b.1.0, word_of w x b.1.1.1.0), omega arith, omega arith)

pub word_bytes : (n : ℕ) → n < 65536 → All Byte (word n)
unfolding word
word_bytes n h = (omega arith, (omega arith, tt))

-- A symbol's number: two bytes, or four
pub by_width : {C : Type 0} (n : ℕ) → (n < first_wide → C) → (first_wide ≤ n → C) → C
by_width n f g = elim (dec_lt n first_wide) [ yes h ↦ f h | no h ↦ g (omega arith) ]

pub narrow_bytes : (n : ℕ) → n < first_wide → symbol_bytes n ≡ word n
unfolding symbol_bytes
narrow_bytes n h = rw (lt-ltb n first_wide h)

pub wide_bytes : (n : ℕ) → first_wide ≤ n → symbol_bytes n ≡ word (n / 65536) ++ word (n % 65536)
unfolding symbol_bytes
wide_bytes n h = rw (le-ltb n first_wide h)

-- How many they are
pub narrow_two : (n : ℕ) → n < first_wide → length (symbol_bytes n) ≡ 2
unfolding word
narrow_two n h = rw (narrow_bytes n h)

pub wide_four : (n : ℕ) → first_wide ≤ n → length (symbol_bytes n) ≡ 4
unfolding word
wide_four n h = rw (wide_bytes n h)

pub long_value : (n : ℕ) → n / 65536 * 65536 + n % 65536 ≡ n
long_value n = omega arith

pub exact_long : (c : Bytes) → All Byte c → length c ≡ 4
    → (word (long_at c 0 / 65536) ++ word (long_at c 0 % 65536) ≡ c) × (long_at c 0 < 4294967296)
exact_long c b h =
    let w = two_words c b (omega arith) in
    let high : long_at c 0 / 65536 ≡ word_at c 0 = omega arith in
    let low : long_at c 0 % 65536 ≡ word_at c 2 = omega arith in
    let rest : drop 4 c ≡ [] = none_left (drop 4 c) (simp length-drop (omega arith)) in
    (rw (high, low) (rw (rest, append-nil) at w.0), omega arith)

pub symbol_bytes_lem : (n : ℕ) → n < 4294967296 → All Byte (symbol_bytes n)
unfolding first_wide
symbol_bytes_lem n h =
    let high = word_bytes (n / 65536) (omega arith) in
    let low = word_bytes (n % 65536) (omega arith) in
    by_width n (λ g. rw (narrow_bytes n g) (word_bytes n g))
    (λ g. rw (wide_bytes n g) (all_append Byte (word (n / 65536)) (word (n % 65536)) high low))

-- Fields and the bytes after them
pub field_some : (tag : ℕ) (c later : Bytes) → eqb (length (field tag c ++ later)) 0 ≡ false
unfolding field
field_some tag c later = ne_eqb (length (field tag c ++ later)) 0 (λ e. omega arith)

pub field_length : (tag : ℕ) (c : Bytes) → length (field tag c) ≡ 3 + length c
unfolding field word
field_length tag c = omega arith

pub field_bytes : (tag : ℕ) (c : Bytes) → Byte tag → length (field tag c) < 65536 → All Byte c → All Byte (field tag c)
unfolding field
field_bytes tag c t h b =
    let fits : length c < 65536 = omega (arith, field_length tag c) in
    (t, all_append Byte (word (length c)) c (word_bytes (length c) fits) b)

pub field_content : (tag : ℕ) (c later s : Bytes) → field tag c ++ later ≡ s → All Byte s → All Byte c
unfolding field word
field_content tag c later s e b = (append_all Byte c later (subst (All Byte) (sym e) b).1.1.1).0

pub field_later : (tag : ℕ) (c later s : Bytes) → field tag c ++ later ≡ s → All Byte s → All Byte later
unfolding field word
field_later tag c later s e b = (append_all Byte c later (subst (All Byte) (sym e) b).1.1.1).1

pub later_fewer : (tag : ℕ) (c later s : Bytes) → field tag c ++ later ≡ s → length later < length s
later_fewer tag c later s e = omega (arith, simp length-append at (ap length e), field_length tag c)

-- Bytes cut where the length says
cut : Bytes → Parts
cut s = record { tag = get_or s 0 0; content = take (word_at s 1) (drop 3 s); later = drop (3 + word_at s 1) s }

cut_field : (s : Bytes) → All Byte s → 3 ≤ length s → word_at s 1 ≤ length s - 3 → field (cut s).tag (cut s).content ++ (cut s).later ≡ s
unfolding cut field
cut_field [] b h g = absurd (omega arith)
cut_field (t ∷ []) b h g = absurd (omega arith)
cut_field (t ∷ u ∷ []) b h g = absurd (omega arith)
cut_field (t ∷ u ∷ v ∷ r) b h g =
    let fits : u * 256 + v ≤ length r = omega arith in
    let content : length (take (u * 256 + v) r) ≡ u * 256 + v = length-take-le (u * 256 + v) r fits in
    let rest : drop (3 + (u * 256 + v)) (t ∷ u ∷ v ∷ r) ≡ drop (u * 256 + v) r = sym (drop-drop (u * 256 + v) 3 (t ∷ u ∷ v ∷ r)) in
    rw (content, word_of u v b.1.1.0, rest, take-append-drop (u * 256 + v) r)

-- The main theorems. A field that is read was a field, with the bytes left after it
pub parts_field : (s : Bytes) (p : Parts) → All Byte s → parts_of s ≡ got p → field p.tag p.content ++ p.later ≡ s
unfolding parts_of cut
parts_field s p b e =
    let long = unless_got (ltb (length s) 3) 2 _ e in
    let fits = unless_got (ltb (length s - 3) (word_at s 1)) 3 _ long.1 in
    let same : cut s ≡ p = got_is fits.1 in
    rw (← same) (cut_field s b (ltb-false (length s) 3 long.0) (ltb-false (length s - 3) (word_at s 1) fits.0))

-- A field is read back from its bytes, whatever follows them
pub field_parts : (tag : ℕ) (c later : Bytes) → parts_of (field tag c ++ later) ≡ got (record { tag = tag; content = c; later = later })
unfolding parts_of field word
field_parts tag c later =
    let n : ℕ = length c in
    let s : Bytes = tag ∷ n / 256 ∷ n % 256 ∷ (c ++ later) in
    let long : ltb (length s) 3 ≡ false = le-ltb (length s) 3 (omega arith) in
    let rest : drop (3 + n) s ≡ later = sym (drop-drop n 3 s) ∙ drop_at c later n refl in
    let fits : ltb (length s - 3) n ≡ false = le-ltb (length s - 3) n (omega (arith, length-append c later)) in
    rw (word_value n, long, fits, rest, take_at c later n refl)

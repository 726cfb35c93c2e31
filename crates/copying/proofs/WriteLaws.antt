-- What the writers leave in the buffer, where a part of it is lent on and where not.
--   headed   bytes before others, which were written first, into the part after them
--   joined   bytes before others, which were written last, into the part after them
--   Part     bytes of which some are written, one piece after the other
use mathlib.Core.Path.{◌≡◌, refl, ap, sym, ◌∙◌}
use Prim.Native.Nat.{ℕ, ◌+◌, ◌-◌, ◌/◌, ◌%◌, ◌<◌, ◌≤◌}
use native.Mathlib.Omega.{arith}
use mathlib.Core.List.{[], ◌∷◌, ◌++◌, append_assoc, append-nil}
use borrow.Rule.Slice.PartMut.{Post-is, put_mid}
use lib.ListN.{drop, length, length-append, set, take}
use lib.Seq.{drop_at, drop-drop, drop-length, length-take-le}
use Rattle.meaning.specs.Limits.{first_wide}
use Rattle.meaning.specs.Basics.{Bytes}
use Rattle.meaning.specs.Field.{field, symbol_bytes, word}
use Rattle.meaning.proofs.ByteLaws.{narrow_bytes, wide_bytes}
use Rattle.tokens.specs.Token.{payload_in, tag_in}
use Rattle.slices.proofs.Slices.{rest_all, rows_joined}
use Rattle.copying.specs.Fixed.{Wrote, a_hole, fixed_in, head_in, number_in, numbers_in}
use Rattle.copying.proofs.FixedLaws.{head_length}

-- A number's bytes, high byte first
pub two_bytes : (n : ℕ) → n < 65536 → (n / 256) % 256 ∷ n % 256 ∷ [] ≡ word n
unfolding word
two_bytes n h = let e : n / 256 % 256 ≡ n / 256 = omega arith in ap (λ (k : ℕ). k ∷ n % 256 ∷ []) e

pub four_bytes : (n : ℕ) → n < 4294967296
    → (n / 16777216) % 256 ∷ (n / 65536) % 256 ∷ (n / 256) % 256 ∷ n % 256 ∷ [] ≡ word (n / 65536) ++ word (n % 65536)
unfolding word
four_bytes n h =
    let a : n / 16777216 % 256 ≡ n / 65536 / 256 = omega arith in
    let d : n / 256 % 256 ≡ n % 65536 / 256 = omega arith in
    let e : n % 256 ≡ n % 65536 % 256 = omega arith in
    cc

-- A tag before a number
begun : (o : Bytes) (g : ℕ) → 1 ≤ length o → set o 0 g ≡ (g ∷ []) ++ drop 1 o
begun [] g h = absurd (omega arith)
begun (x ∷ o) g h = refl

pub head_wrote : (g n : ℕ) (o y : Bytes) → 1 ≤ length o
    → y ≡ word n ++ drop 2 (take (length (set o 0 g) - 1) (drop 1 (set o 0 g)))
    → put_mid 1 (length (set o 0 g) - 1) (set o 0 g) y ≡ g ∷ (word n ++ drop 3 o)
unfolding word
head_wrote g n o y h e = rows_joined (g ∷ []) (word n) o (set o 0 g) y (begun o g h) e

pub hole_wrote : (o o' : Bytes) → o' ≡ 10 ∷ (word 0 ++ drop 3 o) → Wrote a_hole o o' 3
unfolding a_hole field word
hole_wrote o o' e = (refl, e)

pub words_wrote : (m n : ℕ) (o q y : Bytes) → q ≡ word m ++ drop 2 o → y ≡ word n ++ drop 2 (take (length q - 2) (drop 2 q))
    → put_mid 2 (length q - 2) q y ≡ (word m ++ word n) ++ drop 4 o
unfolding word
words_wrote m n o q y hq hy = rows_joined (word m) (word n) o q y hq hy

-- The returns of `write_symbol`
module _ (n : ℕ) (o o' : Bytes) where
  pub narrow_wrote : n < first_wide → o' ≡ word n ++ drop 2 o → o' ≡ symbol_bytes n ++ drop (length (symbol_bytes n)) o
  unfolding word
  narrow_wrote h e = rw (narrow_bytes n h) e

  pub wide_wrote : first_wide ≤ n → o' ≡ (word (n / 65536) ++ word (n % 65536)) ++ drop 4 o
      → o' ≡ symbol_bytes n ++ drop (length (symbol_bytes n)) o
  unfolding word
  wide_wrote h e = rw (wide_bytes n h) e

-- The returns of `write_fixed`
module _ (x : ℕ) (o o' : Bytes) where
  fixed_wrote : (bytes : Bytes) → fixed_in x ≡ bytes → o' ≡ bytes ++ drop (length bytes) o → o' ≡ fixed_in x ++ drop (length (fixed_in x)) o
  fixed_wrote bytes e h = rw e h

  pub symbol_wrote : (n : ℕ) → fixed_in x ≡ symbol_bytes (payload_in x) → n ≡ payload_in x
      → o' ≡ symbol_bytes n ++ drop (length (symbol_bytes n)) o → o' ≡ fixed_in x ++ drop (length (fixed_in x)) o
  symbol_wrote n e p h = fixed_wrote (symbol_bytes n) (e ∙ ap symbol_bytes (sym p)) h

  pub number_wrote : (p : ℕ) → fixed_in x ≡ number_in x → p ≡ payload_in x → o' ≡ word (p % 65536) ++ drop 2 o
      → o' ≡ fixed_in x ++ drop (length (fixed_in x)) o
  unfolding word
  number_wrote p e q h = fixed_wrote (number_in x) e (rw (← q) h)

  pub numbers_wrote : (p : ℕ) → fixed_in x ≡ numbers_in x → p ≡ payload_in x
      → o' ≡ (word (p % 65536) ++ word (p / 65536)) ++ drop 4 o → o' ≡ fixed_in x ++ drop (length (fixed_in x)) o
  unfolding word
  numbers_wrote p e q h = fixed_wrote (numbers_in x) e (rw (← q) h)

  pub none_wrote : fixed_in x ≡ [] → o' ≡ o → o' ≡ fixed_in x ++ drop (length (fixed_in x)) o
  none_wrote e h = fixed_wrote [] e h

-- The return of `write_node`
pub node_wrote : (x n f g : ℕ) (o p y : Bytes) → f ≡ length (fixed_in x) → g ≡ tag_in x → p ≡ g ∷ (word (f + n) ++ drop 3 o)
    → y ≡ fixed_in x ++ drop (length (fixed_in x)) (take (length p - 3) (drop 3 p))
    → put_mid 3 (length p - 3) p y ≡ head_in x n ++ drop (3 + length (fixed_in x)) o
unfolding head_in word
node_wrote x n f g o p y is_f is-g hp hy =
    let h : p ≡ tag_in x ∷ (word (length (fixed_in x) + n) ++ drop 3 o) = rw (← is_f, ← is-g) hp in
    rows_joined (tag_in x ∷ word (length (fixed_in x) + n)) (fixed_in x) o p y h hy
    ∙ ap (λ (k : ℕ). head_in x n ++ drop k o) (head_length x n)

-- A part that comes back stands after what is before it
back_after : (a : ℕ) (o y : Bytes) → a ≤ length o → drop a (put_mid a (length o - a) o y) ≡ y
back_after a o y h =
    drop_at (take a o) (y ++ drop (length o - a) (drop a o)) a (length-take-le a o h)
    ∙ ap (λ (l : Bytes). y ++ l) (Post-is a (length o) o h ∙ drop-length o) ∙ append-nil y

pub headed : (front inner o y o' : Bytes) (a n r : ℕ) → length front ≡ a → a ≤ length o → Wrote inner (take (length o - a) (drop a o)) y n
    → r ≡ a + n → o' ≡ front ++ drop a (put_mid a (length o - a) o y) → Wrote (front ++ inner) o o' r
headed front inner o y o' a n r is-a h w is-r e = (
  is-r ∙ rw (length-append front inner, is-a, ← w.0),
  e ∙ rw (back_after a o y h, w.1, rest_all a o, drop-drop n a o, is-r, append_assoc front inner (drop (a + n) o)),
)

joined : (a b o p y : Bytes) (n k : ℕ) → Wrote a o p n → Wrote b (take (length p - n) (drop n p)) y k
    → Wrote (a ++ b) o (put_mid n (length p - n) p y) (n + k)
joined a b o p y n k v w = (
  rw (length-append a b, ← v.0, ← w.0),
  rw (v.0, w.0) (rows_joined a b o p y (rw v.0 at v.1) (rw (v.0, w.0) at w.1) ∙ rw (length-append a b)),
)

-- Of these bytes all before the rest are written, n of them: what a writer's loop keeps
pub record Part (bytes rest : Bytes) (n : ℕ) (before out : Bytes) : Type 0 where
  pub done : Bytes
  pub whole : bytes ≡ done ++ rest
  pub wrote : Wrote done before out n

module _ {bytes rest : Bytes} {n : ℕ} {before out : Bytes} (p : Part bytes rest n before out) where
  pub part_long : n + length rest ≡ length bytes
  part_long = omega (arith, p.wrote.0, ap length p.whole, length-append p.done rest)

  pub part_ends : rest ≡ [] → Wrote bytes before out n
  part_ends e = rw (p.whole, e, append-nil p.done) p.wrote

  pub part_goes : {x : Bytes} {k : ℕ} (next later : Bytes) → rest ≡ next ++ later
      → Wrote next (take (length out - n) (drop n out)) x k → Part bytes later (n + k) before (put_mid n (length out - n) out x)
  part_goes {x} {k} next later e w =
      record {
        done = p.done ++ next;
        whole = p.whole ∙ rw e (sym (append_assoc p.done next later));
        wrote = joined p.done next before out x n k p.wrote w;
      }

-- Bytes put into a buffer: none, one more, and some after others.
use mathlib.Core.Path.{◌≡◌, refl, sym, ap, ◌∙◌, subst}
use mathlib.Core.List.{[], ◌∷◌, ◌++◌, append_assoc, append-nil}
use Prim.Native.Nat.{ℕ, ◌+◌, ◌*◌, ◌/◌, ◌%◌, ◌<◌, ◌≤◌}
use native.Mathlib.Omega.{arith}
use native.Mathlib.Numerals.{add-one}
use lib.ListN.{length, get_or, take, set, length-append, length-set}
use lib.Seq.{take-suc, take-suc-set}
use Rattle.meaning.specs.Basics.{Bytes}
use Rattle.meaning.specs.Program.{hex_digit, hexadecimal}
use Rattle.meaning.proofs.Lists.{each_append}
use Rattle.ascii.specs.Put.{Put}

pub put_none : (at : ℕ) (out : Bytes) → Put at [] out out at
put_none at out = record { end = omega arith; front = sym (append-nil (take at out)) }

module _ {at : ℕ} {bytes before after : Bytes} {r : ℕ} (put : Put at bytes before after r) where
  pub put_one : (b : ℕ) → r < length after → Put at (bytes ++ (b ∷ [])) before (set after r b) (r + 1)
  put_one b h =
      record {
        end = omega (arith, put.end, length-append bytes (b ∷ []));
        front = ap (λ (n : ℕ). take n (set after r b)) (add-one r) ∙ take-suc-set after r b h ∙ ap (λ (l : Bytes). l ++ (b ∷ [])) put.front
            ∙ append_assoc (take at before) bytes (b ∷ []);
      }

  pub put_both : {more last : Bytes} {e : ℕ} → Put r more after last e → Put at (bytes ++ more) before last e
  put_both {more} next =
      record {
        end = omega (arith, put.end, next.end, length-append bytes more);
        front = next.front ∙ ap (λ (l : Bytes). l ++ more) put.front ∙ append_assoc (take at before) bytes more;
      }

  pub put_till : {bytes' : Bytes} {r' : ℕ} → bytes ≡ bytes' → r ≡ r' → Put at bytes' before after r'
  put_till {bytes'} {r'} e f = subst (λ (l : Bytes). Put at l before after r') e (subst (Put at bytes before after) f put)

-- One byte more, and its digits
module _ (word : Bytes) (i : ℕ) (h : i < length word) where
  abbrev byte : ℕ
  byte = get_or word i 0

  next_byte : take i word ++ (byte ∷ []) ≡ take (i + 1) word
  next_byte = sym (ap (λ (n : ℕ). take n word) (add-one i) ∙ take-suc word i 0 h)

  next_digits : hexadecimal (take i word) ++ hexadecimal (byte ∷ []) ≡ hexadecimal (take (i + 1) word)
  unfolding hexadecimal
  next_digits = sym (each_append (λ b. hex_digit (b / 16) ∷ hex_digit (b % 16) ∷ []) (take i word) (byte ∷ [])) ∙ ap hexadecimal next_byte

  module _ {at : ℕ} {before out after : Bytes} {end next : ℕ} where
    pub bytes_more : Put at (hexadecimal (take i word)) before out end → Put end (hexadecimal (byte ∷ [])) out after next
        → Put at (hexadecimal (take (i + 1) word)) before after next
    bytes_more put more = put_till (put_both put more) next_digits refl

-- The digits of no byte, of one, and of some
pub hexadecimal_length : (bytes : Bytes) → length (hexadecimal bytes) ≡ 2 * length bytes
unfolding hexadecimal
hexadecimal_length [] = refl
hexadecimal_length (b ∷ bytes) = let w = hexadecimal_length bytes in omega (arith, w)

pub hexadecimal_none : [] ≡ hexadecimal []
unfolding hexadecimal
hexadecimal_none = refl

pub two_digits : (b : ℕ) {high low : ℕ} → high ≡ hex_digit (b / 16) → low ≡ hex_digit (b % 16)
    → {at : ℕ} {out : Bytes} → at + 2 ≤ length out → Put at (hexadecimal (b ∷ [])) out (set (set out at high) (at + 1) low) (at + 2)
unfolding hexadecimal
two_digits b {high} {low} e f {at} {out} l =
    put_till (put_one (put_one (put_none at out) high (omega arith)) low (omega (arith, length-set out at high))) (digits e f) (omega arith)
  where
    digits : high ≡ hex_digit (b / 16) → low ≡ hex_digit (b % 16) → high ∷ low ∷ [] ≡ hexadecimal (b ∷ [])
    digits e f = rw (e, f)

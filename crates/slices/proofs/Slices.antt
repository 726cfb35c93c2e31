-- Parts of slices: what a lent part is, and what stands in the whole when it comes back.
use Prim.Native.Nat.{ℕ, zero, suc, ◌-◌, ◌≤◌}
use mathlib.Core.Path.{◌≡◌, refl, sym, ap, ◌∙◌}
use mathlib.Core.List.{List, [], ◌∷◌, ◌++◌, append_assoc, append-nil}
use native.Mathlib.Omega.{arith}
use borrow.Rule.Slice.PartMut.{put_mid, Post-is}
use lib.ListN.{length, take, drop, set, length-take, length-drop, length-append}
use lib.Seq.{take-nil, drop-length, take_all, drop-drop, take-append_seam, drop-append_seam}

pub positive : (n : ℕ) → (n ≡ 0 → ⊥) → 1 ≤ n
positive n z = omega arith

pub drop_take : (a n : ℕ) (l : List ℕ) → drop a (take n l) ≡ take (n - a) (drop a l)
drop_take zero n l = let w : n - 0 ≡ n = omega arith in rw w
drop_take (suc a) zero l = let w : 0 - suc a ≡ 0 = omega arith in rw w
drop_take (suc a) (suc n) [] = sym (take-nil (suc n - suc a))
drop_take (suc a) (suc n) (x ∷ l) = let w : suc n - suc a ≡ n - a = omega arith in rw w (drop_take a n l)

-- A part, and what is left
pub rest_all : (k : ℕ) (s : List ℕ) → take (length s - k) (drop k s) ≡ drop k s
rest_all k s = take_all (length s - k) (drop k s) (simp length-drop (omega arith))

pub part_length : (a e : ℕ) (s : List ℕ) → a ≤ e → e ≤ length s → length (take (e - a) (drop a s)) ≡ e - a
part_length a e s h l = simp (length-take, length-drop) (omega arith)

put_tail : (a : ℕ) (o x : List ℕ) → a ≤ length o → put_mid a (length o - a) o x ≡ take a o ++ x
put_tail a o x h =
    ap (λ (l : List ℕ). take a o ++ (x ++ l)) (Post-is a (length o) o h ∙ drop-length o) ∙ ap (λ (l : List ℕ). take a o ++ l) (append-nil x)

-- Two rows of tokens, the second in the part after the first
pub rows_joined : (T U o p x : List ℕ) → p ≡ T ++ drop (length T) o
    → x ≡ U ++ drop (length U) (take (length p - length T) (drop (length T) p))
    → put_mid (length T) (length p - length T) p x ≡ (T ++ U) ++ drop (length (T ++ U)) o
rows_joined T U o p x hp hx =
    put_tail (length T) p x (omega (arith, ap length hp, length-append T (drop (length T) o)))
    ∙ rw (
      hx,
      rest_all (length T) p,
      hp,
      take-append_seam T (drop (length T) o),
      drop-append_seam T (drop (length T) o),
      drop-drop (length U) (length T) o,
      length-append T U,
      append_assoc,
    )

-- A head before what stands in the part after it
pub head_put : (o x : List ℕ) (t : ℕ) → 1 ≤ length o → set (put_mid 1 (length o - 1) o x) 0 t ≡ t ∷ x
head_put o x t h = ap (λ (l : List ℕ). set l 0 t) (put_tail 1 o x h) ∙ go o h
  where
    go : (o : List ℕ) → 1 ≤ length o → set (take 1 o ++ x) 0 t ≡ t ∷ x
    go [] h = absurd (omega arith)
    go (y ∷ o) h = refl

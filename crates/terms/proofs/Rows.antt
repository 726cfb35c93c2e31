-- Rows of tokens in a table that is lent part by part.
--   Row      the first n tokens of a table are a row, read from so many bytes, three or more a token; the table is otherwise as it was
--   row-..   what is known of the part after it, and the row with another in that part
use mathlib.Core.Path.{◌≡◌, refl, ap, sym, ◌∙◌}
use mathlib.Core.List.{List, [], ◌∷◌, ◌++◌, append_assoc}
use Prim.Native.Nat.{ℕ, ◌+◌, ◌-◌, ◌*◌, ◌^◌, ◌≤◌, ◌<◌}
use native.Mathlib.Omega.{arith}
use borrow.Rule.Slice.PartMut.{put_mid, same_len_mid}
use lib.ListN.{length, take, drop, length-append}
use Rattle.meaning.specs.Term.{NamedTerm, one}
use Rattle.meaning.specs.Problem.{forest_of}
use Rattle.tokens.specs.Token.{tokens}
use Rattle.tokens.proofs.TokenParts.{tokens_graft}
use Rattle.slices.proofs.Slices.{part_length, rows_joined}
use Rattle.terms.specs.Reading.{Space}

-- The tokens of terms, and of one more
pub tokens_more : (sc : List ℕ) (ts : List NamedTerm) (t : NamedTerm)
    → tokens sc (forest_of (ts ++ (t ∷ []))) ≡ tokens sc (forest_of ts) ++ tokens sc (one t)
unfolding tokens
tokens_more sc [] t = refl
tokens_more sc (u ∷ ts) t =
    tokens_graft sc u (forest_of (ts ++ (t ∷ []))) ∙ ap (λ (l : List ℕ). tokens sc (one u) ++ l) (tokens_more sc ts t)
    ∙ sym (append_assoc (tokens sc (one u)) (tokens sc (forest_of ts)) (tokens sc (one t)))
    ∙ ap (λ (l : List ℕ). l ++ tokens sc (one t)) (sym (tokens_graft sc u (forest_of ts)))

pub record Row (row : List ℕ) (n bytes : ℕ) (before table : List ℕ) : Type 0 where
  pub count : n ≡ length row
  pub front : table ≡ row ++ drop (length row) before
  pub same : length table ≡ length before
  pub few : 3 * n ≤ bytes

pub row_none : (o : List ℕ) → Row [] 0 0 o o
row_none o = record { count = refl; front = refl; same = refl; few = omega arith }

module _ {T o p : List ℕ} {n bytes : ℕ} (r : Row T n bytes o p) where
  pub row_same : (x : List ℕ) → length x ≡ length (take (length p - n) (drop n p)) → length (put_mid n (length p - n) p x) ≡ length o
  row_same x kept = same_len_mid n (length p - n) p x kept ∙ r.same

  pub row_more : {k more : ℕ} (U x : List ℕ) → k ≡ length U → 3 * k ≤ more
      → x ≡ U ++ drop (length U) (take (length p - n) (drop n p)) → length x ≡ length (take (length p - n) (drop n p))
      → Row (T ++ U) (n + k) (bytes + more) o (put_mid n (length p - n) p x)
  row_more U x is-k few is_x kept =
      record {
        count = rw (length-append T U, r.count, is-k);
        front = rw r.count (rows_joined T U o p x r.front (rw r.count at is_x));
        same = row_same x kept;
        few = omega (arith, r.few);
      }

  -- There is room for more
  module _ {all : ℕ} (within : bytes ≤ all) (space : Space all (length o)) where
    pub row_inside : n ≤ length p
    row_inside = omega (arith, r.same, r.few, space.table)

    -- An entry has eight bytes
    pub row_scaled : length o * 8 < 2 ^ 63 → n * 8 < 2 ^ 64
    row_scaled h = omega (arith, row_inside, r.same)

    pub row_space : {left : ℕ} → bytes + left ≤ all → Space left (length (take (length p - n) (drop n p)))
    row_space h =
        let l = part_length n (length p) p row_inside (omega arith) in
        record { table = omega (arith, r.same, r.few, space.table) }

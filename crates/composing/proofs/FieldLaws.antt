-- The bytes of a text as the fields of all metavariables in order, those that do not occur having none.
--   entry_or   what `text_of` has for a metavariable, absent where it does not occur
use mathlib.Core.Path.{◌≡◌, refl, ap, ◌∙◌}
use mathlib.Core.Bool.{Bool, true, false, ◌||◌}
use mathlib.Core.List.{List, [], ◌∷◌, ◌++◌, map}
use Prim.Native.Nat.{ℕ, suc, ◌+◌, ◌-◌, ◌<◌}
use native.Mathlib.Omega.{arith}
use lib.ListN.{length, length-append}
use Rattle.meaning.specs.Limits.{metavariable_count}
use Rattle.meaning.specs.Basics.{Bytes, choose, count_from, each, keep, up_to}
use Rattle.meaning.specs.Filling.{absent}
use Rattle.meaning.specs.Problem.{Problem, is_function, is_plain, metavariables}
use Rattle.meaning.specs.Row.{Row}
use Rattle.meaning.specs.Text.{Item, entry_of, text_of}
use Rattle.meaning.specs.Encoded.{encode_entry, encode_text}
use Rattle.meaning.specs.Entry.{row_text}
use Rattle.composing.specs.Entries.{Entries, fields_of}

abbrev pub entry_or : Problem → Row → Entries
entry_or p r m = choose (is_function p m || is_plain p m) (entry_of p r m) absent

kept_fields : (test : ℕ → Bool) (says : Entries) (ms : List ℕ)
    → each (λ (i : Item). encode_entry i.0 i.1) (map (λ m. (m, says m)) (keep test ms))
    ≡ each (λ m. encode_entry m (choose (test m) (says m) absent)) ms
kept_fields test says [] = refl
kept_fields test says (m ∷ ms) = go (test m) (kept_fields test says ms)
  where
    go : (b : Bool)
        → each (λ (i : Item). encode_entry i.0 i.1) (map (λ m. (m, says m)) (keep test ms))
        ≡ each (λ m. encode_entry m (choose (test m) (says m) absent)) ms
        → each (λ (i : Item). encode_entry i.0 i.1) (map (λ m. (m, says m)) (choose b (m ∷ keep test ms) (keep test ms)))
        ≡ encode_entry m (choose b (says m) absent) ++ each (λ m. encode_entry m (choose (test m) (says m) absent)) ms
    go true e = ap (λ (l : Bytes). encode_entry m (says m) ++ l) e
    go false e = e

-- THE TEXT OF A ROW
pub row_fields : (p : Problem) (r : Row) → row_text p r ≡ fields_of (entry_or p r) 0
unfolding encode_text text_of metavariables fields_of metavariable_count
row_fields p r = kept_fields (λ m. is_function p m || is_plain p m) (entry_of p r) (up_to metavariable_count)

-- The fields one after the other
pub fields_end : (says : Entries) → fields_of says metavariable_count ≡ []
unfolding fields_of metavariable_count
fields_end says = refl

pub fields_next : (says : Entries) (m : ℕ) → m < metavariable_count → fields_of says m ≡ encode_entry m (says m) ++ fields_of says (m + 1)
unfolding fields_of
fields_next says m h =
    let e : metavariable_count - m ≡ suc (metavariable_count - (m + 1)) = omega arith in
    ap (λ (n : ℕ). each (λ k. encode_entry k (says k)) (count_from m n)) e
    ∙ ap (λ (n : ℕ). encode_entry m (says m) ++ each (λ k. encode_entry k (says k)) (count_from n (metavariable_count - (m + 1))))
    (let q : suc m ≡ m + 1 = omega arith in q)

pub fields_length : (says : Entries) (m : ℕ) → m < metavariable_count
    → length (fields_of says m) ≡ length (encode_entry m (says m)) + length (fields_of says (m + 1))
fields_length says m h = ap length (fields_next says m h) ∙ length-append (encode_entry m (says m)) (fields_of says (m + 1))

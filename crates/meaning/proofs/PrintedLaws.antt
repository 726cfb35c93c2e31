-- WHAT `readings` PRINTS, by the full list: the texts of its first solutions, numbered from 1, and then a line that says why it stops.
--   numbered   the lines of solutions, after k of them
--   Stops      the last line, after so many solutions of a full list of so many
--   Printed    the whole output of an accepted problem
use mathlib.Core.Path.{◌≡◌, refl, ap, ap₂, sym, ◌∙◌, subst}
use Prim.Native.Nat.{ℕ, suc, ◌+◌, ◌<◌, ◌≤◌}
use mathlib.Core.List.Memᴰ
use mathlib.Core.List.{List, [], ◌∷◌, ◌++◌, map}
use native.Mathlib.Omega.{arith}
use lib.ListN.{length, take}
use Rattle.meaning.specs.Basics.{All, Byte, Bytes, ◌∈◌}
use Rattle.meaning.specs.Problem.{Problem}
use Rattle.meaning.specs.Row.{IsRow, Row}
use Rattle.meaning.specs.FullList.{IsFullList, Listed}
use Rattle.meaning.specs.Read.{got}
use Rattle.meaning.specs.Readable.{Accepted}
use Rattle.meaning.specs.Accept.{accept}
use Rattle.meaning.specs.Search.{at, end}
use Rattle.meaning.specs.PlaceValue.{Names, PlaceValue}
use Rattle.meaning.specs.Entry.{HostReply, row_text}
use Rattle.meaning.specs.Calls.{HasEnd, HostCall, ThirdDemandOf, found_in, founds, given_row}
use Rattle.meaning.specs.Program.{Lines, Output, count_line, ended, lists, more, most_printed, pauses, refuses, solution, solution_line}
use Rattle.meaning.proofs.Lists.{map_mem, mem_all, never}
use Rattle.meaning.proofs.ByteLaws.{got_is, refused_not}
use Rattle.meaning.proofs.ProblemReading.{accept_accepted}
use Rattle.meaning.proofs.PlaceLaws.{value_names_row}
use Rattle.meaning.proofs.CallLaws.{third_demand}

abbrev pub numbered : Problem → ℕ → List Listed → List Bytes
numbered p k [] = []
numbered p k (x ∷ xs) = solution_line (suc k) (row_text p x.0) ∷ numbered p (suc k) xs

pub data Stops (count full : ℕ) : Bytes → Type 0 where
  -- all were printed
  at_end : count ≡ full → Stops count full (count_line "end " count)
  -- there is a 1,001st
  at_most : count ≡ most_printed → count < full → Stops count full (count_line "more " count)
  at_pause : Stops count full (count_line "paused " count)

pub record Printed (p : Problem) (lines : List Bytes) : Type 0 where
  pub full : List Listed
  pub is_full : IsFullList p full
  pub count : ℕ
  pub few : count ≤ most_printed
  pub last : Bytes
  pub whole : lines ≡ numbered p 0 (take count full) ++ (last ∷ [])
  pub stops : Stops count (length full) last

-- The rows found in replies, and whether one of them is an End
abbrev founds_in : List HostReply → List PlaceValue
founds_in [] = []
founds_in (x ∷ xs) = found_in x ++ founds_in xs

founds_in_lem : (cs : List HostCall) → founds_in (map (λ c. c.reply) cs) ≡ founds cs
founds_in_lem [] = refl
founds_in_lem (c ∷ cs) = ap (λ (l : List PlaceValue). found_in c.reply ++ l) (founds_in_lem cs)

abbrev EndIn : List HostReply → Type 0
EndIn xs = (next : PlaceValue) × (end next ∈ xs)

module _ (p : Problem) (accepted : Accepted p) where
  -- The lines after k solutions, where xs is what is left of the full list
  record From (k : ℕ) (xs : List Listed) (lines : List Bytes) : Type 0 where
    count : ℕ
    few : k + count ≤ most_printed
    last : Bytes
    whole : lines ≡ numbered p k (take count xs) ++ (last ∷ [])
    stops : Stops (k + count) (k + length xs) last

  same_row : (row : PlaceValue) (r : Row) (x : Listed) → Names p row (at r) → row ≡ given_row x → IsRow p x.0 → r ≡ x.0
  same_row row r x m e i = value_names_row p row r x.0 accepted m (record { is_place = i; is_value = e })

  -- the first is printed, and the others after it
  one_more : (k : ℕ) (r : Row) (x : Listed) (xs : List Listed) (lines : List Bytes) → r ≡ x.0 → From (suc k) xs lines
      → From k (x ∷ xs) (solution_line (suc k) (row_text p r) ∷ lines)
  one_more k r x xs lines e f =
      let counts : suc k + f.count ≡ k + suc f.count = omega arith in
      let longs : suc k + length xs ≡ k + suc (length xs) = omega arith in
      record {
        count = suc f.count;
        few = omega (arith, f.few);
        last = f.last;
        whole = ap₂ {C = List Bytes} (λ (y : Row) (ls : List Bytes). solution_line (suc k) (row_text p y) ∷ ls) e f.whole;
        stops = subst (λ (n : ℕ). Stops n (k + suc (length xs)) f.last) counts
            (subst (λ (n : ℕ). Stops (suc k + f.count) n f.last) longs f.stops);
      }

  -- nothing more is printed
  none_more : (k : ℕ) (xs : List Listed) (last : Bytes) → k ≤ most_printed → Stops k (k + length xs) last → From k xs (last ∷ [])
  none_more k xs last few s =
      record {
        count = 0;
        few = omega arith;
        last = last;
        whole = refl;
        stops = subst (λ (n : ℕ). Stops n (k + length xs) last) (let z : k ≡ k + 0 = omega arith in z) s;
      }

  from_lines : {k : ℕ} {rs : List HostReply} {lines : List Bytes} → Lines p k rs lines → k ≤ most_printed → (xs : List Listed)
      → All (λ x. IsRow p x.0) xs → founds_in rs ≡ map given_row (take (length (founds_in rs)) xs)
      → (EndIn rs → founds_in rs ≡ map given_row xs) → From k xs lines
  from_lines (solution {row = row} r {replies = rs} l m d) few [] are first all = never (cc)
  from_lines {k} (solution {row = row} r {replies = rs} {lines} l m d) few (x ∷ xs) are first all =
      let here : row ≡ given_row x = cc in
      let later : founds_in rs ≡ map given_row (take (length (founds_in rs)) xs) = cc in
      one_more k r x xs lines (same_row row r x m here are.0)
      (from_lines d (omega arith) xs are.1 later
      (λ h. let z : row ∷ founds_in rs ≡ given_row x ∷ map given_row xs = all (h.0, Memᴰ.tail h.1) in cc))
  from_lines more few [] are first all = never (cc)
  from_lines {k} more few (x ∷ xs) are first all = none_more k (x ∷ xs) _ few (at_most refl (omega arith))
  from_lines {k} ended few [] are first all = none_more k [] _ few (at_end (let z : k ≡ k + 0 = omega arith in z))
  from_lines ended few (x ∷ xs) are first all = never (let z = all (_, Memᴰ.head refl) in cc)
  from_lines {k} pauses few xs are first all = none_more k xs _ few at_pause

-- THE OUTPUT of an accepted problem
pub output_printed : (s : Bytes) (p : Problem) (lines : List Bytes) → All Byte s → accept s ≡ got p → Output s lines → Printed p lines
output_printed s p lines b e (refuses r f) = absurd (refused_not (sym f ∙ e))
output_printed s p lines b e (lists q cs c a l) = subst (λ (y : Problem). Printed y lines) (got_is (sym c.accepted ∙ e)) printed
  where
    demand : ThirdDemandOf q cs
    demand = third_demand s q cs b c

    ended_in : EndIn (map (λ x. x.reply) cs) → HasEnd cs
    ended_in (next, m) =
        let (d, i, z) = map_mem (λ (x : HostCall). x.reply) (end next) cs m in
        record { call = d; is_in = i; place = next; is_end = sym z }

    all_from : From q (accept_accepted s q b c.accepted).0 0 demand.full lines
    all_from =
        from_lines q (accept_accepted s q b c.accepted).0 l (omega arith) demand.full
        (mem_all (λ x. IsRow q x.0) demand.full (λ x m. ((demand.is_full.members x.0 x.1).0 m).0))
        (founds_in_lem cs ∙ demand.prefix ∙ ap (λ (n : ℕ). map given_row (take n demand.full)) (ap length (sym (founds_in_lem cs))))
        (λ h. founds_in_lem cs ∙ demand.whole (ended_in h))

    printed : Printed q lines
    printed =
        let nothing : (n : ℕ) → 0 + n ≡ n = λ n. omega arith in
        record {
          full = demand.full;
          is_full = demand.is_full;
          count = all_from.count;
          few = omega (arith, all_from.few);
          last = all_from.last;
          whole = all_from.whole;
          stops =
              subst (λ (n : ℕ). Stops n (length demand.full) all_from.last) (nothing _)
              (subst (λ (n : ℕ). Stops (0 + all_from.count) n all_from.last) (nothing _) all_from.stops);
        }

-- T-09: a problem in which a letter "stands both as a function and alone is recorded as fitting nothing".
--   FitsNothing   what that comes to at each entry point
-- The theorems about lists, texts and calls speak of these problems too; here is what they, and the definitions, say of one.
use mathlib.Core.Path.{◌≡◌, refl, ap, sym, ◌∙◌, subst}
use Prim.Native.Nat.{ℕ, ◌<◌, ◌≤◌}
use mathlib.Core.Bool.{true, false, true≢false}
use mathlib.Core.List.Memᴰ
use mathlib.Core.List.{List, [], ◌∷◌, map}
use native.Mathlib.Omega.{arith}
use lib.ListN.{length, length-append}
use borrow.Author.Tests.{le-ltb}
use Rattle.meaning.specs.Limits.{max_functions}
use Rattle.meaning.specs.Basics.{All, Bytes, ◌∈◌, keep, Byte}
use Rattle.meaning.specs.Problem.{Problem, both_ways, functions}
use Rattle.meaning.specs.Filling.{Filling}
use Rattle.meaning.specs.Solution.{Solution}
use Rattle.meaning.specs.Row.{IsRow, Row}
use Rattle.meaning.specs.Rows.{rows}
use Rattle.meaning.specs.Candidate.{candidate, full_list, solution_rows, solves}
use Rattle.meaning.specs.Read.{Answer, got, refused}
use Rattle.meaning.specs.Readable.{Accepted, WithinLimits}
use Rattle.meaning.specs.Accept.{accept, check_problem}
use Rattle.meaning.specs.Text.{Item, read_text, said}
use Rattle.meaning.specs.Passing.{passes}
use Rattle.meaning.specs.Search.{Keeps, Place, Reply, end, ends, finds, past, pauses, place_of}
use Rattle.meaning.specs.PlaceValue.{PlaceValue, place_value}
use Rattle.meaning.specs.Entry.{HostReply, SearchCall, WriteCall, check_call, reply_value, start_call}
use Rattle.meaning.proofs.Lists.{by_test, choose_false}
use Rattle.meaning.proofs.ProblemReading.{accept_accepted}
use Rattle.meaning.proofs.ChoiceLaws.{rows_are}
use Rattle.meaning.proofs.OneWay.{no_faces_lem}
use Rattle.meaning.proofs.AgreeLaws.{both_ways_no_rows}
use Rattle.meaning.proofs.PlaceLaws.{not_large}
use Rattle.meaning.proofs.OneCall.{search_on, when_placed}
use Rattle.meaning.proofs.WriteLaws.{when_nowhere, write_on}
use Rattle.meaning.proofs.PassLaws.{passes_is_right}
use Rattle.meaning.proofs.EntryLaws.{check_read}

-- "14 isn't looked for in it": what can be read and has at most 8 functions is accepted, whatever the sizes of its faces
pub both_ways_accepted : (p : Problem) → WithinLimits p → length (functions p) ≤ max_functions → both_ways p ≡ true → Accepted p
unfolding check_problem
both_ways_accepted p w few e =
    record {
      within = w;
      checked = choose_false _ _ (le-ltb max_functions (length (functions p)) few) ∙ choose_false _ _ (not_large _ p (no_faces_lem p e));
    }

pub record FitsNothing (s : Bytes) (p : Problem) : Type 0 where
  -- "by definition no solutions .. and so no rows"
  pub no_solution : (σ : Filling) → Solution p σ → ⊥
  pub no_row : (r : Row) → IsRow p r → ⊥
  -- "The list is complete for these problems as well, being empty"
  pub none_listed : full_list p ≡ []
  -- "The start is the first row, or past the last if there is none"
  pub starts : start_call s ≡ got (place_value past)
  -- "End: none there; the place is past the last"
  pub searched : (n : ℕ) (reply : HostReply) → 0 < n → SearchCall s (place_value past) n reply → reply ≡ end (place_value past)
  -- "16 no such row"
  pub written : (v : PlaceValue) (buffer after : Bytes) (a : Answer ℕ) → WriteCall s v buffer a after → (a ≡ refused 16) × (after ≡ buffer)
  -- "the checker says no to every well-formed text"
  pub checked : (text : Bytes) (is : List Item) → read_text text ≡ got is → check_call s text ≡ got false

-- Of no rows a call finds none, and has none to pause at
keeps_none : {R : Type 0} {IsSolution : R → Type 0} {n : ℕ} {from : List R} {reply : Reply R (Place R)}
    → from ≡ [] → Keeps IsSolution n from reply → reply ≡ end past
keeps_none e (finds skipped r later a h l) = absurd (omega (arith, ap length e, length-append skipped (r ∷ later)))
keeps_none e (ends from a l) = refl
keeps_none e (pauses passed r later a l) = absurd (omega (arith, ap length e, length-append passed (r ∷ later)))

none_listed_lem : (p : Problem) → rows p ≡ [] → full_list p ≡ []
unfolding full_list solution_rows
none_listed_lem p e = ap (λ (rs : List Row). map (λ r. (r, candidate p r)) (keep (solves p) rs)) e

starts_past : (s : Bytes) (p : Problem) → accept s ≡ got p → rows p ≡ [] → start_call s ≡ got (place_value past)
unfolding start_call
starts_past s p a e = rw a (ap (λ (rs : List Row). got (place_value (place_of rs))) e)

none_passes : (p : Problem) (is : List Item) → ((σ : Filling) → Solution p σ → ⊥) → passes p is ≡ false
none_passes p is none =
    by_test (passes p is) (λ y. absurd (none (said is) ((passes_is_right p is).0 y))) (λ n. n)

-- A LETTER BOTH WAYS FITS NOTHING
pub fits_nothing : (s : Bytes) (p : Problem) → All Byte s → accept s ≡ got p → both_ways p ≡ true → FitsNothing s p
fits_nothing s p b a e = record {
  no_solution = no_solution_lem;
  no_row = no_row_lem;
  none_listed = none_listed_lem p none;
  starts = starts_past s p a none;
  searched = λ n reply l call.
      let (given, keeps, same) = when_placed p (place_value past) n past [] (accept_accepted s p b a).0 l
      (record { is_place = tt; is_value = refl }) (record { before = []; whole = none; begins = refl }) (search_on p a call) in
      same ∙ ap reply_value (keeps_none refl keeps);
  written = λ v buffer after answer w. when_nowhere p v buffer (λ r n. no_row_lem r n.is_place) (write_on p a w);
  checked = λ text is r. check_read s text p is a r ∙ ap got (none_passes p is no_solution_lem);
}
  where
    no_solution_lem : (σ : Filling) → Solution p σ → ⊥
    no_solution_lem σ x = true≢false (sym e ∙ x.one_way)

    none : rows p ≡ []
    none = both_ways_no_rows p e

    no_row_lem : (r : Row) → IsRow p r → ⊥
    no_row_lem r i = Memᴰ.not-nil (subst (λ (rs : List Row). r ∈ rs) none ((rows_are p r).1 i))

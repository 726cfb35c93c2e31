-- A list of calls of `matcher_search`, by the numbers and words that a program in C sees, is a list of document 01's calls: the calls that
-- are refused for their row buffer leave all as it was, and the others are its calls, one for one.
--   AsCalls   a list of calls in C with document 01's calls that it makes
use mathlib.Core.Path.{◌≡◌, refl, ap, sym, ◌∙◌, subst}
use mathlib.Core.Logic.{◌↔◌, ⊎_elim}
use mathlib.Core.Bool.{Bool, true, false}
use mathlib.Core.List.Memᴰ
use mathlib.Core.List.{List, [], ◌∷◌, ◌++◌, map}
use Prim.Native.Nat.{ℕ, ◌+◌, ◌<◌}
use native.Mathlib.Nat.{zero-add}
use native.Mathlib.Omega.{arith}
use lib.Dec.{eqb}
use lib.ListN.{length}
use Rattle.meaning.specs.Limits.{max_functions}
use Rattle.meaning.specs.Basics.{All, Byte, Bytes, choose}
use Rattle.meaning.specs.Problem.{Problem}
use Rattle.meaning.specs.Read.{Answer, after, got, refused}
use Rattle.meaning.specs.Readable.{Accepted}
use Rattle.meaning.specs.Row.{Row}
use Rattle.meaning.specs.Rows.{rows}
use Rattle.meaning.specs.Accept.{accept}
use Rattle.meaning.specs.Search.{Place, at, end, found, paused, refused_call, start}
use Rattle.meaning.specs.PlaceValue.{IsPlace, Names, PlaceValue, place_value}
use Rattle.meaning.specs.Entry.{HostReply, SearchCall, not_accepted, on_accepted, start_call}
use Rattle.meaning.specs.Calls.{HasEnd, HostCall, Run, allowed, found_in, founds, left, positive}
use Rattle.meaning.proofs.Lists.{choose_false, choose_true, eqb_other, never}
use Rattle.meaning.proofs.ProblemReading.{accept_accepted}
use Rattle.meaning.proofs.CallLaws.{end_here, end_later, no_end, which_end}
use Rattle.meaning.proofs.OneCall.{NamedReply, reply_named}
use Rattle.meaning.proofs.PlaceLaws.{from_place, place_long}
use Rattle.words.specs.Words.{has_place, place_of_words, placed}
use Rattle.words.proofs.WordLaws.{Small, place_small, placed_back}
use Rattle.tivagyesz.specs.Exported.{SearchExport, StartExport, Told, place_after, place_into, reply_code, row_after, start_after, start_code, with_row}
use Rattle.promises.specs.Lists.{CCall, CEnd, CRun, c_allowed, c_found}
use Rattle.promises.specs.Numbers.{Refuses, RefusesReply, refusal}
use Rattle.promises.proofs.RefusalNumbers.{search_numbers, small, start_numbers}

-- Values that a call answers have a mask for each function, small enough for its words, so that the words are read back
abbrev Long : PlaceValue → Type 0
Long v = (length v.masks ≡ max_functions) × Small v.masks

long_back : (words : List ℕ) (v : PlaceValue) → Long v → place_of_words (placed words v) ≡ v
long_back words v (long, small) = placed_back words v long small

place_whole : (p : Problem) (place : Place Row) → Accepted p → IsPlace p place → Long (place_value place)
place_whole p place a i = (place_long p place a i, place_small place)

abbrev LongReply : HostReply → Type 0
LongReply (found row next) = Long row × Long next
LongReply (end next) = Long next
LongReply (paused next) = Long next
LongReply (refused_call r) = Unit {0}

named_long : (p : Problem) {v : PlaceValue} (place : Place Row) → Accepted p → Names p v place → Long v
named_long p place a m = subst Long (sym m.is_value) (place_whole p place a m.is_place)

reply_long : (p : Problem) (reply : HostReply) → Accepted p → NamedReply p reply → LongReply reply
reply_long p (found row next) a ((r, m, h), (place, k)) = (named_long p (at r) a m, named_long p place a k)
reply_long p (end next) a (place, k) = named_long p place a k
reply_long p (paused next) a (place, k) = named_long p place a k
reply_long p (refused_call r) a h = tt

call_long : (s : Bytes) (v : PlaceValue) (n : ℕ) (reply : HostReply) → All Byte s → SearchCall s v n reply → LongReply reply
call_long s v n reply b (not_accepted r e) = tt
call_long s v n reply b (on_accepted p e c) = reply_long p reply (accept_accepted s p b e).0 (reply_named p c)

-- One call more at the front
pub record AsCalls (s : Bytes) (place : List ℕ) (cs : List CCall) : Type 0 where
  pub calls : List HostCall
  pub run : Run (SearchCall s) (place_of_words place) calls
  pub founds_are : map place_of_words (c_found cs) ≡ founds calls
  pub ends_are : CEnd cs ↔ HasEnd calls
  pub allowances_are : c_allowed cs ≡ positive calls

no_calls : (s : Bytes) (place : List ℕ) → AsCalls s place []
no_calls s place =
    record {
      calls = [];
      run = tt;
      founds_are = refl;
      ends_are = (λ x. absurd (Memᴰ.not-nil x.1), λ h. absurd (no_end h));
      allowances_are = refl;
    }

module _ (s : Bytes) (place : List ℕ) (c : CCall) (cs : List CCall) where
  -- An answer that is not 256 finds nothing, and one that is not 258 is no End
  nothing_found : (c.answer ≡ 256 → ⊥) → c_found (c ∷ cs) ≡ c_found cs
  nothing_found other = choose_false _ _ (eqb_other c.answer 256 other)

  no_end_here : (c.answer ≡ 258 → ⊥) → CEnd (c ∷ cs) → CEnd cs
  no_end_here other (d, m, e) =
      ⊎_elim (λ q. absurd (other (ap (λ (x : CCall). x.answer) (sym q) ∙ e))) (λ k. (d, k, e)) (Memᴰ.cases_cons m)

  later_end : CEnd cs → CEnd (c ∷ cs)
  later_end (d, m, e) = (d, Memᴰ.tail m, e)

  -- A call that is refused for its row buffer is passed over
  passed_over : has_place (length c.row) ≡ false → c.answer < 256 → c.place' ≡ place → AsCalls s c.place' cs → AsCalls s place (c ∷ cs)
  passed_over short below stays rest =
      record {
        calls = rest.calls;
        run = subst (λ (words : List ℕ). Run (SearchCall s) (place_of_words words) rest.calls) stays rest.run;
        founds_are = ap (map place_of_words) (nothing_found (λ z. omega arith)) ∙ rest.founds_are;
        ends_are = (λ h. rest.ends_are.0 (no_end_here (λ z. omega arith) h), λ h. later_end (rest.ends_are.1 h));
        allowances_are =
            ap (λ (b : Bool). choose b (allowed c.allowance) 0 + c_allowed cs) short ∙ zero-add (c_allowed cs) ∙ rest.allowances_are;
      }

  -- Any other is one of document 01's
  record Seen (reply : HostReply) : Type 0 where
    found_here : map place_of_words (c_found (c ∷ cs)) ≡ found_in reply ++ map place_of_words (c_found cs)
    end_here_is : (c.answer ≡ 258) ↔ ((w : PlaceValue) × (reply ≡ end w))
    next : place_of_words c.place' ≡ left (place_of_words place) reply

  one_call : (reply : HostReply) → has_place (length c.row) ≡ true → SearchCall s (place_of_words place) c.allowance reply → Seen reply
      → AsCalls s c.place' cs → AsCalls s place (c ∷ cs)
  one_call reply long call seen rest =
      let d : HostCall = record { allowance = c.allowance; reply = reply } in
      record {
        calls = d ∷ rest.calls;
        run = (call, subst (λ (v : PlaceValue). Run (SearchCall s) v rest.calls) seen.next rest.run);
        founds_are = seen.found_here ∙ ap (λ (l : List PlaceValue). found_in reply ++ l) rest.founds_are;
        ends_are = (
          λ (x : CEnd (c ∷ cs)).
              ⊎_elim
              (λ q. let (w, e) = seen.end_here_is.0 (ap (λ (y : CCall). y.answer) (sym q) ∙ x.2) in end_here w e)
              (λ m. end_later (rest.ends_are.0 (x.0, m, x.2)))
              (Memᴰ.cases_cons x.1),
          λ h.
              ⊎_elim (λ w. (c, Memᴰ.head refl, seen.end_here_is.1 w)) (λ m. later_end (rest.ends_are.1 m)) (which_end h),
        );
        allowances_are =
            ap (λ (b : Bool). choose b (allowed c.allowance) 0 + c_allowed cs) long
            ∙ ap (λ (n : ℕ). allowed c.allowance + n) rest.allowances_are;
      }

  seen_as : (reply : HostReply) → RefusesReply reply → LongReply reply → c.answer ≡ reply_code reply → c.place' ≡ place_after place reply
      → c.row' ≡ row_after c.row reply → Seen reply
  seen_as (found row next) h (row_long, next_long) a moved gives =
      record {
        found_here =
            ap (map place_of_words) (choose_true _ _ (ap (λ (n : ℕ). eqb n 256) a))
            ∙ ap (λ (v : PlaceValue). v ∷ map place_of_words (c_found cs)) (ap place_of_words gives ∙ long_back c.row row row_long);
        end_here_is = (λ z. absurd (omega (arith, a)), λ w. never (let q = w.1 in cc));
        next = ap place_of_words moved ∙ long_back place next next_long;
      }
  seen_as (end next) h next_long a moved gives =
      record {
        found_here = ap (map place_of_words) (nothing_found (λ z. omega (arith, a)));
        end_here_is = (λ z. (next, refl), λ w. a);
        next = ap place_of_words moved ∙ long_back place next next_long;
      }
  seen_as (paused next) h next_long a moved gives =
      record {
        found_here = ap (map place_of_words) (nothing_found (λ z. omega (arith, a)));
        end_here_is = (λ z. absurd (omega (arith, a)), λ w. never (let q = w.1 in cc));
        next = ap place_of_words moved ∙ long_back place next next_long;
      }
  seen_as (refused_call r) h long a moved gives =
      let below = small r h in
      record {
        found_here = ap (map place_of_words) (nothing_found (λ z. omega (arith, a)));
        end_here_is = (λ z. absurd (omega (arith, a)), λ w. never (let q = w.1 in cc));
        next = ap place_of_words moved;
      }

  -- With too few words every answer is a refusal, and nothing changes
  short_refused : (reply : HostReply) → RefusesReply (with_row false reply) → reply_code (with_row false reply) < 256
  short_refused (found row next) h = omega arith
  short_refused (end next) h = omega arith
  short_refused (paused next) h = omega arith
  short_refused (refused_call r) h = (small r h).1

  short_stays : (reply : HostReply) → place_after place (with_row false reply) ≡ place
  short_stays (found row next) = refl
  short_stays (end next) = refl
  short_stays (paused next) = refl
  short_stays (refused_call r) = refl

  add_call : All Byte s → SearchExport s c.allowance place c.row c.place' c.row' c.answer → AsCalls s c.place' cs
      → AsCalls s place (c ∷ cs)
  add_call b x rest = go (has_place (length c.row)) refl x.code x.leaves x.gives
    where
      go : (long : Bool) → has_place (length c.row) ≡ long → c.answer ≡ reply_code (with_row long x.reply)
          → c.place' ≡ place_after place (with_row long x.reply) → c.row' ≡ row_after c.row (with_row long x.reply)
          → AsCalls s place (c ∷ cs)
      go true long a moved gives =
          one_call x.reply long x.call
          (seen_as x.reply (search_numbers s (place_of_words place) c.allowance x.reply true x.call)
          (call_long s (place_of_words place) c.allowance x.reply b x.call) a moved gives)
          rest
      go false short a moved gives =
          let below = short_refused x.reply (search_numbers s (place_of_words place) c.allowance x.reply false x.call) in
          passed_over short (omega (arith, a)) (moved ∙ short_stays x.reply) rest

-- A LIST OF CALLS IN C, from the words of any place on
pub as_calls : (s : Bytes) (place : List ℕ) (cs : List CCall) → All Byte s → CRun s place cs → AsCalls s place cs
as_calls s place [] b r = no_calls s place
as_calls s place (c ∷ cs) b r = add_call s place c cs b r.0.1 (as_calls s c.place' cs b r.1)

-- ... and from what `matcher_start` wrote, where it answered 0
abbrev starting : List ℕ → Answer Problem → Answer PlaceValue
starting words a = after (after a (λ q. got (place_value (start q)))) (place_into words)

pub c_started : (s : Bytes) (words place : List ℕ) → All Byte s → StartExport s words place 0
    → (p : Problem) × (accept s ≡ got p) × (place_of_words place ≡ place_value (start p))
unfolding start_call
c_started s words place b h = go (accept s) refl h (start_numbers words s)
  where
    room : (p : Problem) → accept s ≡ got p → (long : Bool)
        → 0 ≡ start_code (choose long (got (place_value (start p))) (refused 18))
        → place ≡ start_after words (choose long (got (place_value (start p))) (refused 18))
        → place_of_words place ≡ place_value (start p)
    room p e true a moved =
        let is_place : IsPlace p (start p) = from_place p (start p) (rows p) (record { before = []; whole = refl; begins = refl }) in
        ap place_of_words moved ∙ long_back words (place_value (start p)) (place_whole p (start p) (accept_accepted s p b e).0 is_place)
    room p e false a moved = absurd (omega arith)

    go : (a : Answer Problem) → accept s ≡ a → Told (starting words a) words place 0 → Refuses (starting words a)
        → (p : Problem) × (accept s ≡ got p) × (place_of_words place ≡ place_value (start p))
    go (refused r) e told (refusal q is_one) = absurd (omega (arith, small q is_one, told.code))
    go (got p) e told numbers = (p, e, room p e (has_place (length words)) told.code told.place)

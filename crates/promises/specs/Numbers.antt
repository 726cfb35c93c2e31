-- How a program in C reads the numbers that it is answered, as `include/matcher.h` says: 0 or a number from 256 on is an answer, any other
-- number is a refusal.
--   is_refusal      the numbers that refusals have where a problem is taken: 1 to 20 but for 12, 25 or 27; T-09: "Refusal 12 is withdrawn and
--                  its number stays unused"
--   write_answer    what `matcher_write` and `matcher_longest` say: 0 with the length that was written, or a refusal
--   check_answer    what `matcher_check` says: 259 is yes and 260 no, or a refusal
--   Refuses        a refusal has such a number
--   RefusesReply   the same of a search call's reply
use Rattle.std.specs.Prelude.{◌≡◌, ℕ, zero, suc, Bool, true, false, ◌&&◌, ◌||◌, not, eqb, ltb}
use Rattle.meaning.specs.Basics.{choose}
use Rattle.meaning.specs.Read.{Answer, got, refused}
use Rattle.meaning.specs.Search.{found, end, paused, refused_call}
use Rattle.meaning.specs.Entry.{HostReply}

abbrev pub is_refusal : ℕ → Bool
is_refusal r = (ltb 0 r && (ltb r 21 && not (eqb r 12))) || (eqb r 25 || eqb r 27)

abbrev pub write_answer : ℕ → ℕ → Answer ℕ
write_answer zero written = got written
write_answer (suc r) written = refused (suc r)

abbrev pub check_answer : ℕ → Answer Bool
check_answer r = choose (eqb r 259) (got true) (choose (eqb r 260) (got false) (refused r))

pub data Refuses {A : Type 0} : Answer A → Type 0 where
  answer : (a : A) → Refuses (got a)
  refusal : (r : ℕ) → is_refusal r ≡ true → Refuses (refused r)

abbrev pub RefusesReply : HostReply → Type 0
RefusesReply (refused_call r) = is_refusal r ≡ true
RefusesReply (found row next) = Unit {0}
RefusesReply (end next) = Unit {0}
RefusesReply (paused next) = Unit {0}

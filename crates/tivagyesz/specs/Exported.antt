-- What each exported function owes, for any bytes, any words and any buffers: a call of document 01 (`start_call`, `SearchCall`,
-- `WriteCall`, `check_call`) or of T-13 (`LongestCall`), its answer as a number, and what each slice holds after it. A slice has as many
-- elements after as before.
-- "A refusal returns its number only. The output buffer and open search stay": a refusal is document 01's number, and nothing is changed.
--   ..Code      the number of an answer
--   ..After     what a slice holds after an answer
--   with_row     "18 buffer too short", of a row buffer that has fewer words than a place
--   ..Export    one for each exported function
--   Given       an answer of a search as a C program has it
--   RowTold     the part of it that does not hang on the place
use Rattle.std.specs.Prelude.{◌≡◌, ℕ, Bool, true, false, List, length}
use Rattle.meaning.specs.Basics.{Bytes, choose}
use Rattle.meaning.specs.Read.{Answer, after, got, refused}
use Rattle.meaning.specs.Search.{found, end, paused, refused_call}
use Rattle.meaning.specs.PlaceValue.{PlaceValue}
use Rattle.meaning.specs.Entry.{HostReply, start_call, SearchCall, WriteCall, check_call}
use Rattle.meaning.specs.Longest.{LongestCall}
use Rattle.search.specs.Calling.{reply_with}
use Rattle.seeking.specs.declared.Answer as code
use Rattle.words.specs.Words.{has_place, place_of_words, placed}

-- The start, into words that may be too few for a place: 18, after 1 to 14 and 25
abbrev pub place_into : List ℕ → PlaceValue → Answer PlaceValue
place_into words v = choose (has_place (length words)) (got v) (refused 18)

abbrev pub start_into : List ℕ → Bytes → Answer PlaceValue
start_into words s = after (start_call s) (place_into words)

abbrev pub start_code : Answer PlaceValue → ℕ
start_code (got v) = 0
start_code (refused n) = n

abbrev pub start_after : List ℕ → Answer PlaceValue → List ℕ
start_after words (got v) = placed words v
start_after words (refused n) = words

pub record Told (answer : Answer PlaceValue) (words words' : List ℕ) (r : ℕ) : Type 0 where
  pub code : r ≡ start_code answer
  pub place : words' ≡ start_after words answer

-- `matcher_start`
abbrev pub StartExport : Bytes → List ℕ → List ℕ → ℕ → Type 0
StartExport s words words' r = Told (start_into words s) words words' r

-- Whatever the answer would have been, it needs a row buffer with room for a row: 18, after 15 and 16
abbrev pub with_row : Bool → HostReply → HostReply
with_row true reply = reply
with_row false (refused_call n) = refused_call n
with_row false (found row next) = refused_call 18
with_row false (end next) = refused_call 18
with_row false (paused next) = refused_call 18

abbrev pub reply_code : HostReply → ℕ
reply_code (refused_call n) = n
reply_code (found row next) = 256
reply_code (paused next) = 257
reply_code (end next) = 258

abbrev pub place_after : List ℕ → HostReply → List ℕ
place_after words (refused_call n) = words
place_after words (found row next) = placed words next
place_after words (paused next) = placed words next
place_after words (end next) = placed words next

abbrev pub row_after : List ℕ → HostReply → List ℕ
row_after words (refused_call n) = words
row_after words (found row next) = placed words row
row_after words (paused next) = words
row_after words (end next) = words

-- An answer's number, and what the place and the row buffer hold after it
pub record Given (reply : HostReply) (place row place' row' : List ℕ) (r : ℕ) : Type 0 where
  pub code : r ≡ reply_code (with_row (has_place (length row)) reply)
  pub leaves : place' ≡ place_after place (with_row (has_place (length row)) reply)
  pub gives : row' ≡ row_after row (with_row (has_place (length row)) reply)

-- The number of an answer that is no refusal, and the row buffer, which has room; whatever place it leaves
pub record RowTold (answer : code.Answer) (row row' : List ℕ) (r : ℕ) : Type 0 where
  pub code : (next : PlaceValue) → r ≡ reply_code (reply_with answer next)
  pub gives : (next : PlaceValue) → row' ≡ row_after row (reply_with answer next)

-- `matcher_search`
pub record SearchExport (s : Bytes) (n : ℕ) (place row place' row' : List ℕ) (r : ℕ) : Type 0 where
  pub reply : HostReply
  pub call : SearchCall s (place_of_words place) n reply
  pub code : r ≡ reply_code (with_row (has_place (length row)) reply)
  pub leaves : place' ≡ place_after place (with_row (has_place (length row)) reply)
  pub gives : row' ≡ row_after row (with_row (has_place (length row)) reply)

abbrev pub write_code : Answer ℕ → ℕ
write_code (got n) = 0
write_code (refused n) = n

abbrev pub length_after : ℕ → Answer ℕ → ℕ
length_after before (got n) = n
length_after before (refused n) = before

-- `matcher_write`; of the buffer `WriteCall` speaks
pub record WriteExport (s : Bytes) (row : List ℕ) (out : Bytes) (written : ℕ) (out' : Bytes) (written' r : ℕ) : Type 0 where
  pub answer : Answer ℕ
  pub call : WriteCall s (place_of_words row) out answer out'
  pub code : r ≡ write_code answer
  pub length : written' ≡ length_after written answer

-- `matcher_longest`; of the buffer `LongestCall` speaks
pub record LongestExport (n : ℕ) (out : Bytes) (written : ℕ) (out' : Bytes) (written' r : ℕ) : Type 0 where
  pub answer : Answer ℕ
  pub call : LongestCall n out answer out'
  pub code : r ≡ write_code answer
  pub length : written' ≡ length_after written answer

abbrev pub check_code : Answer Bool → ℕ
check_code (got true) = 259
check_code (got false) = 260
check_code (refused n) = n

-- `matcher_check`
abbrev pub CheckExport : Bytes → Bytes → ℕ → Type 0
CheckExport s text r = r ≡ check_code (check_call s text)

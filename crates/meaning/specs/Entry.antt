-- What each entry point owes, on any input: "Every entry point's answer is equated with the definitions above for all inputs, buffer and
-- open search included". "Every entry point that takes a problem makes all checks down to the faces first": each is acceptance, then a
-- call on the accepted problem, which asks for no bytes.
--   start_call              the start of a problem
--   SearchOn, SearchCall   a search call with a place value and an allowance: on an accepted problem, and on any bytes
--   WriteOn, WriteCall     writing the text of a row into a buffer
--   check_on, check_call     the checker on a text
use Rattle.std.specs.Prelude.{◌≡◌, ℕ, ◌<◌, ◌≤◌, Bool, List, ◌++◌, length, drop}
use Rattle.meaning.specs.Basics.{Bytes}
use Rattle.meaning.specs.Problem.{Problem}
use Rattle.meaning.specs.Read.{Answer, after, got, refused}
use Rattle.meaning.specs.Row.{Row, SolutionRow}
use Rattle.meaning.specs.Accept.{accept}
use Rattle.meaning.specs.Text.{read_text, text_of}
use Rattle.meaning.specs.Search.{From, Keeps, Place, Reply, at, end, found, paused, refused_call, start}
use Rattle.meaning.specs.PlaceValue.{Names, PlaceValue, place_value}
use Rattle.meaning.specs.Encoded.{encode_text}
use Rattle.meaning.specs.Rows.{rows}
use Rattle.meaning.specs.Passing.{passes}

-- "The start is the first row, or past the last if there is none."
unfoldable pub start_call : Bytes → Answer PlaceValue
start_call s = after (accept s) (λ p. got (place_value (start p)))

-- A reply as a host sees it: the row found is a place that names a row
abbrev pub HostReply : Type 0
HostReply = Reply PlaceValue PlaceValue

abbrev pub reply_value : Reply Row (Place Row) → HostReply
reply_value (found r next) = found (place_value (at r)) (place_value next)
reply_value (end next) = end (place_value next)
reply_value (paused next) = paused (place_value next)
reply_value (refused_call r) = refused_call r

-- "A call takes the problem, a place and an allowance n"
pub data SearchOn (p : Problem) (v : PlaceValue) (n : ℕ) : HostReply → Type 0 where
  -- "15 n is 0"
  no_allowance : n ≡ 0 → SearchOn p v n (refused_call 15)
  -- "16 no such place"
  no_such_place : 0 < n → ((place : Place Row) → Names p v place → ⊥) → SearchOn p v n (refused_call 16)
  searches : 0 < n → (place : Place Row) → Names p v place → (from : List Row) → From (rows p) place from
      → {reply : Reply Row (Place Row)} → Keeps (SolutionRow p) n from reply → SearchOn p v n (reply_value reply)

pub data SearchCall (s : Bytes) (v : PlaceValue) (n : ℕ) : HostReply → Type 0 where
  -- 1 to 14, 25
  not_accepted : (r : ℕ) → accept s ≡ refused r → SearchCall s v n (refused_call r)
  on_accepted : (p : Problem) → accept s ≡ got p → {reply : HostReply} → SearchOn p v n reply → SearchCall s v n reply

abbrev pub row_text : Problem → Row → Bytes
row_text p r = encode_text (text_of p r)

-- Writing, by the answer (the text's length, or the refusal) and the whole buffer after: "a successful write puts the text at the
-- buffer's front, returns its length, and changes no byte after it"; on a refusal "the output buffer and open search stay"
pub data WriteOn (p : Problem) (v : PlaceValue) (buffer : Bytes) : Answer ℕ → Bytes → Type 0 where
  -- "16 no such row, past the last included"
  no_such_row : ((r : Row) → Names p v (at r) → ⊥) → WriteOn p v buffer (refused 16) buffer
  -- "17 not a solution row"
  no_solution_row : (r : Row) → Names p v (at r) → (SolutionRow p r → ⊥) → WriteOn p v buffer (refused 17) buffer
  -- "18 buffer too short"
  too_short : (r : Row) → Names p v (at r) → SolutionRow p r → length buffer < length (row_text p r)
      → WriteOn p v buffer (refused 18) buffer
  writes : (r : Row) → Names p v (at r) → SolutionRow p r → length (row_text p r) ≤ length buffer
      → WriteOn p v buffer (got (length (row_text p r))) (row_text p r ++ drop (length (row_text p r)) buffer)

pub data WriteCall (s : Bytes) (v : PlaceValue) (buffer : Bytes) : Answer ℕ → Bytes → Type 0 where
  -- 1 to 14, 25
  not_accepted : (r : ℕ) → accept s ≡ refused r → WriteCall s v buffer (refused r) buffer
  on_accepted : (p : Problem) → accept s ≡ got p → {a : Answer ℕ} {after : Bytes} → WriteOn p v buffer a after
      → WriteCall s v buffer a after

-- "The checker takes a problem and a text .. and says yes or no": 19, 20 and 27, after 1 to 14 and 25
unfoldable pub check_on : Problem → Bytes → Answer Bool
check_on p text = after (read_text text) (λ is. got (passes p is))

unfoldable pub check_call : Bytes → Bytes → Answer Bool
check_call s text = after (accept s) (λ p. check_on p text)

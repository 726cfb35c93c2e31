-- What the program `readings` prints, from a list of calls.
--   ascii, decimal, hexadecimal   words, numbers and bytes as they are printed
--   count_line, solution_line       a line, which "ends in a line feed"
--   Lines                         the lines for the replies to calls; the last reply is what the program stops at
--   Output                        all lines, for any input
use Rattle.std.specs.Prelude.{◌≡◌, ℕ, zero, suc, ◌+◌, ◌/◌, ◌%◌, ◌<◌, List, [], ◌∷◌, ◌++◌, map, ltb}
use Prim.Native.Char.{code}
use Prim.Native.String.{String}
use Rattle.meaning.specs.Basics.{All, Bytes, choose, each}
use Rattle.meaning.specs.Problem.{Problem}
use Rattle.meaning.specs.Read.{refused}
use Rattle.meaning.specs.Row.{Row}
use Rattle.meaning.specs.Accept.{accept}
use Rattle.meaning.specs.Search.{at, end, found, paused}
use Rattle.meaning.specs.PlaceValue.{Names, PlaceValue}
use Rattle.meaning.specs.Entry.{HostReply, row_text}
use Rattle.meaning.specs.Calls.{Carried, HostCall}

abbrev pub ascii : String → Bytes
ascii String.[] = []
ascii (String.◌∷◌ c s) = code c ∷ ascii s

-- A number has at most as many digits as it counts
abbrev pub decimal_within : ℕ → ℕ → Bytes
decimal_within zero n = []
decimal_within (suc most) n = choose (ltb n 10) ((48 + n) ∷ []) (decimal_within most (n / 10) ++ ((48 + n % 10) ∷ []))

unfoldable pub decimal : ℕ → Bytes
decimal n = decimal_within (suc n) n

-- "in upper-case hexadecimal"
abbrev pub hex_digit : ℕ → ℕ
hex_digit d = choose (ltb d 10) (48 + d) (55 + d)

unfoldable pub hexadecimal : Bytes → Bytes
hexadecimal bytes = each (λ b. hex_digit (b / 16) ∷ hex_digit (b % 16) ∷ []) bytes

-- "Every line ends in a line feed"
abbrev pub count_line : String → ℕ → Bytes
count_line word n = ascii word ++ (decimal n ++ (10 ∷ []))

abbrev pub solution_line : ℕ → Bytes → Bytes
solution_line k text = ascii "solution " ++ (decimal k ++ (ascii ":" ++ (hexadecimal text ++ (10 ∷ []))))

-- "`more 1000` in place of a 1,001st"
unfoldable pub most_printed : ℕ
most_printed = 1000

-- "calls with n = 1,000,000"
unfoldable pub allowance : ℕ
allowance = 1000000

-- After k solutions
pub data Lines (p : Problem) : ℕ → List HostReply → List Bytes → Type 0 where
  -- "`solution K:` with the text .., K counting from 1"
  solution : {k : ℕ} {row next : PlaceValue} (r : Row) {replies : List HostReply} {lines : List Bytes} → k < most_printed
      → Names p row (at r) → Lines p (suc k) replies lines
      → Lines p k (found row next ∷ replies) (solution_line (suc k) (row_text p r) ∷ lines)
  more : {row next : PlaceValue} → Lines p most_printed (found row next ∷ []) (count_line "more " most_printed ∷ [])
  ended : {k : ℕ} {next : PlaceValue} → Lines p k (end next ∷ []) (count_line "end " k ∷ [])
  -- "`paused N` at the first Paused (N solutions so far)"
  pauses : {k : ℕ} {next : PlaceValue} → Lines p k (paused next ∷ []) (count_line "paused " k ∷ [])

pub data Output (s : Bytes) : List Bytes → Type 0 where
  -- "or `refused N` (the number)"
  refuses : (r : ℕ) → accept s ≡ refused r → Output s (count_line "refused " r ∷ [])
  lists : (p : Problem) (cs : List HostCall) → Carried s p cs → All (λ c. c.allowance ≡ allowance) cs → {lines : List Bytes}
      → Lines p 0 (map (λ c. c.reply) cs) lines → Output s lines

-- What the program `readings` prints, line by line.
--   LineOf     a line for a search call at a place after k solutions, and how the list stands after it: None where the line is the last
--   Stands     a line at a buffer's front, n bytes
--   NextLine   the next line, at a buffer's front, and how the list stands after it
--   Steps      all the lines of a list: each made from where the one before it left the list, until none follows
use Rattle.std.specs.Prelude.{◌≡◌, Option, None, Some, List, [], ◌∷◌, ◌++◌, ℕ, suc, ◌+◌, ◌<◌, ◌≤◌, length, take}
use Rattle.meaning.specs.Basics.{Bytes}
use Rattle.meaning.specs.Problem.{Problem}
use Rattle.meaning.specs.Row.{Row}
use Rattle.meaning.specs.Read.{got}
use Rattle.meaning.specs.Accept.{accept}
use Rattle.meaning.specs.Search.{at, end, found, paused, refused_call, start}
use Rattle.meaning.specs.PlaceValue.{Names, PlaceValue, place_value}
use Rattle.meaning.specs.Entry.{SearchCall, row_text}
use Rattle.meaning.specs.Program.{allowance, count_line, decimal, most_printed, solution_line}
use Rattle.places.specs.Places.{value_of}
use Rattle.places.specs.declared.Place.{Place}
use Rattle.ascii.specs.Put.{Put}
use Rattle.listing.specs.declared.Listing.{Listing}
use Rattle.listing.specs.declared.Line.{Line}

-- "solution ", ten digits, ":", two digits for each byte of the largest text, and a line feed
abbrev pub line_room : ℕ
line_room = 8469

-- No solution yet, and a place: of an accepted problem its start
pub record Begins (s : Bytes) (r : Listing) : Type 0 where
  pub none : r.count ≡ 0
  pub place : (p : Problem) → accept s ≡ got p → value_of r.place ≡ place_value (start p)

-- A word and a number at the buffer's front: "32 bits" have ten digits at most
pub record Counted (word : Bytes) (n : ℕ) (before after : Bytes) (r : ℕ) : Type 0 where
  pub put : Put 0 (word ++ decimal n) before after r
  pub few : r ≤ length word + 10

pub record Stands (line buffer : Bytes) (n : ℕ) : Type 0 where
  pub long : n ≡ length line
  pub front : take n buffer ≡ line

pub record LastLine (word : Bytes) (n : ℕ) (after : Bytes) (r : Line) : Type 0 where
  pub line : Stands (word ++ (decimal n ++ (10 ∷ []))) after r.length
  pub over : r.then ≡ None

-- The list goes on, at a place and with so many solutions
pub record Goes (next : PlaceValue) (k : ℕ) (then : Listing) : Type 0 where
  pub place : value_of then.place ≡ next
  pub count : then.count ≡ k

-- For a Found
pub data FoundLine (now : Listing) (next : Place) (text after : Bytes) (r : Line) : Type 0 where
  solution : now.count < most_printed → Stands (solution_line (suc now.count) text) after r.length
      → {then : Listing} → r.then ≡ Some then → Goes (value_of next) (suc now.count) then → FoundLine now next text after r
  more : most_printed ≤ now.count → Stands (count_line "more " now.count) after r.length → r.then ≡ None → FoundLine now next text after r

pub data LineOf (s : Bytes) (place : PlaceValue) (k : ℕ) : Bytes → Option Listing → Type 0 where
  solution : (p : Problem) → accept s ≡ got p → {row next : PlaceValue} → SearchCall s place allowance (found row next) → (r : Row)
      → Names p row (at r) → k < most_printed → {then : Listing} → Goes next (suc k) then
      → LineOf s place k (solution_line (suc k) (row_text p r)) (Some then)
  more : {row next : PlaceValue} → SearchCall s place allowance (found row next) → most_printed ≤ k → LineOf s place k (count_line "more " k) None
  ends : {next : PlaceValue} → SearchCall s place allowance (end next) → LineOf s place k (count_line "end " k) None
  pauses : {next : PlaceValue} → SearchCall s place allowance (paused next) → LineOf s place k (count_line "paused " k) None
  refuses : {r : ℕ} → SearchCall s place allowance (refused_call r) → LineOf s place k (count_line "refused " r) None

pub record NextLine (s : Bytes) (now : Listing) (after : Bytes) (r : Line) : Type 0 where
  pub line : Bytes
  pub stands : Stands line after r.length
  pub is_next : LineOf s (value_of now.place) now.count line r.then

pub data Steps (s : Bytes) : Option Listing → List Bytes → Type 0 where
  over : Steps s None []
  next : {now : Listing} (after : Bytes) (r : Line) → NextLine s now after r → {lines : List Bytes} → Steps s r.then lines
      → Steps s (Some now) (take r.length after ∷ lines)

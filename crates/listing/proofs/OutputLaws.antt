-- THE WHOLE OUTPUT: the lines that are made one after the other, from the start until none follows, are what the program prints.
use mathlib.Core.Path.{◌≡◌, refl, ap, sym, ◌∙◌, subst}
use Rattle.std.proofs.Common.{Option, Some, None}
use mathlib.Core.List.{List, [], ◌∷◌}
use Prim.Native.Nat.{ℕ, suc, ◌≤◌}
use native.Mathlib.Omega.{arith}
use Rattle.meaning.specs.Basics.{Bytes}
use Rattle.meaning.specs.Problem.{Problem}
use Rattle.meaning.specs.Row.{Row}
use Rattle.meaning.specs.Rows.{rows}
use Rattle.meaning.specs.Read.{Answer, got, refused}
use Rattle.meaning.specs.Accept.{accept}
use Rattle.meaning.specs.Search.{From, Place, at, found, start}
use Rattle.meaning.specs.PlaceValue.{Names, PlaceValue, place_value}
use Rattle.meaning.specs.Entry.{HostReply, SearchCall, SearchOn, row_text}
use Rattle.meaning.specs.Program.{Lines, Output, allowance, count_line, most_printed, solution_line}
use Rattle.meaning.specs.Program as program
use Rattle.meaning.proofs.Lists.{never}
use Rattle.meaning.proofs.ByteLaws.{got_is, refused_not}
use Rattle.meaning.proofs.PlaceLaws.{from_place}
use Rattle.meaning.proofs.OneCall.{not_refused, reply_named, search_on, when_refused}
use Rattle.meaning.proofs.ProgramLaws.{Printing, calls_output, found_call, last_call, some_allowance}
use Rattle.places.specs.Places.{value_of}
use Rattle.listing.specs.declared.Listing.{Listing}
use Rattle.listing.specs.Listing as line
use Rattle.listing.specs.Listing.{Begins, LineOf, Steps, next, over}

-- No line comes after the last
none_after : {s : Bytes} {lines : List Bytes} → Steps s None lines → lines ≡ []
none_after over = refl

module _ (s : Bytes) (p : Problem) (accepted : accept s ≡ got p) where
  on : {v : PlaceValue} {reply : HostReply} → SearchCall s v allowance reply → SearchOn p v allowance reply
  on c = search_on p accepted c

  -- the last line
  stops : {k : ℕ} {v : PlaceValue} {lines : List Bytes} {line : Bytes} {reply : HostReply} → SearchOn p v allowance reply
      → Lines p k (reply ∷ []) (line ∷ []) → Steps s None lines → Printing p k v (line ∷ lines)
  stops {k} {v} {line = line} c l rest =
      subst (λ (ls : List Bytes). Printing p k v (line ∷ ls)) (sym (none_after rest)) (last_call c l)

  -- what is printed from where the list stands
  abbrev Prints : Option Listing → List Bytes → Type 0
  Prints None lines = Unit {0}
  Prints (Some now) lines = now.count ≤ most_printed → (place : Place Row) → Names p (value_of now.place) place
      → Printing p now.count (value_of now.place) lines

  -- a line, with those that come after it
  by_line : {v : PlaceValue} {k : ℕ} {line : Bytes} {then : Option Listing} {lines : List Bytes} → LineOf s v k line then → Steps s then lines
      → k ≤ most_printed → (place : Place Row) → Names p v place → Prints then lines → Printing p k v (line ∷ lines)
  by_line {v} {k} {lines = lines} (line.solution q e {row} {next} call r is l {then} goes) rest few place named later =
      let same : q ≡ p = got_is (sym e ∙ accepted) in
      let (after, m) = (reply_named p (on call)).1 in
      let all : Printing p then.count (value_of then.place) lines =
      later (omega (arith, goes.count)) after (subst (λ (u : PlaceValue). Names p u after) (sym goes.place) m) in
      let from : Printing p (suc k) next lines =
      subst (λ (n : ℕ). Printing p n next lines) goes.count (subst (λ (u : PlaceValue). Printing p then.count u lines) goes.place all) in
      subst (λ (y : Problem). Printing p k v (solution_line (suc k) (row_text y r) ∷ lines)) (sym same)
      (found_call (on call) l r (subst (λ (y : Problem). Names y row (at r)) same is) from)
  by_line {v} {k} (line.more {row} {next} call many) rest few place named later =
      let all : most_printed ≡ k = omega arith in
      stops (on call) (subst (λ (n : ℕ). Lines p n (found row next ∷ []) (count_line "more " n ∷ [])) all program.more) rest
  by_line (line.ends call) rest few place named later = stops (on call) program.ended rest
  by_line (line.pauses call) rest few place named later = stops (on call) program.pauses rest
  by_line {v} (line.refuses call) rest few place named later = absurd (not_refused p place named some_allowance (on call))

  printing : {then : Option Listing} {lines : List Bytes} → Steps s then lines → Prints then lines
  printing over = tt
  printing (next {now} after r l {lines} rest) = λ few place named.
      subst (λ (line : Bytes). Printing p now.count (value_of now.place) (line ∷ lines)) (sym l.stands.front)
      (by_line l.is_next rest few place named (printing rest))

-- A problem that is not accepted
module _ (s : Bytes) (r : ℕ) (e : accept s ≡ refused r) where
  refused_line : {v : PlaceValue} {k : ℕ} {line : Bytes} {then : Option Listing} {lines : List Bytes} → LineOf s v k line then
      → Steps s then lines → Output s (line ∷ lines)
  refused_line (line.solution q f call x is l goes) rest = absurd (refused_not (sym e ∙ f))
  refused_line (line.more call many) rest = never (let z = when_refused r e call in cc)
  refused_line (line.ends call) rest = never (let z = when_refused r e call in cc)
  refused_line (line.pauses call) rest = never (let z = when_refused r e call in cc)
  refused_line (line.refuses {r = q} call) rest =
      let z : q ≡ r = let w = when_refused r e call in cc in
      subst (λ (ls : List Bytes). Output s (count_line "refused " q ∷ ls)) (sym (none_after rest))
      (program.refuses q (e ∙ ap refused (sym z)))

  refused_lines : {now : Listing} {lines : List Bytes} → Steps s (Some now) lines → Output s lines
  refused_lines (next after q l {lines} rest) =
      subst (λ (line : Bytes). Output s (line ∷ lines)) (sym l.stands.front) (refused_line l.is_next rest)

-- THE OUTPUT
pub listing_output : (s : Bytes) {now : Listing} {lines : List Bytes} → Begins s now → Steps s (Some now) lines → Output s lines
listing_output s {now} {lines} begins steps = go (accept s) refl
  where
    go : (a : Answer Problem) → accept s ≡ a → Output s lines
    go (refused r) e = refused_lines s r e steps
    go (got p) e =
        let from : From (rows p) (start p) (rows p) = record { before = []; whole = refl; begins = refl } in
        let here = begins.place p e in
        let made = printing s p e steps (omega (arith, begins.none)) (start p)
        (record { is_place = from_place p (start p) (rows p) from; is_value = here }) in
        let calls : Printing p 0 (place_value (start p)) lines =
        subst (λ (n : ℕ). Printing p n (place_value (start p)) lines) begins.none
        (subst (λ (u : PlaceValue). Printing p now.count u lines) here made) in
        calls_output s p e calls

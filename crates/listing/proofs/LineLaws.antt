-- Lines in a buffer, and the law of each return.
use mathlib.Core.Path.{◌≡◌, refl, ap, sym, ◌∙◌, subst}
use Rattle.std.proofs.Common.{Option, Some, None, Result, Ok, Err, List}
use Rattle.std.specs.Result.{result_unwrap_or}
use mathlib.Core.List.{[], ◌∷◌, ◌++◌, append_assoc}
use Prim.Native.Nat.{ℕ, suc, ◌+◌, ◌-◌, ◌<◌, ◌≤◌}
use native.Mathlib.Numerals.{add-one}
use native.Mathlib.Omega.{arith}
use lib.ListN.{length, length-take, take}
use Rattle.meaning.specs.Limits.{largest_problem, largest_written, metavariable_count}
use Rattle.meaning.specs.Basics.{All, Byte, Bytes}
use Rattle.meaning.specs.Problem.{Problem}
use Rattle.meaning.specs.Read.{Answer, after, got}
use Rattle.meaning.specs.Readable.{Accepted}
use Rattle.meaning.specs.Search.{found, start}
use Rattle.meaning.specs.PlaceValue.{PlaceValue, place_value}
use Rattle.meaning.specs.Entry.{HostReply, SearchCall, SearchOn, WriteCall, WriteOn, no_solution_row, no_such_row, not_accepted, on_accepted, row_text}
use Rattle.meaning.specs.Entry.{start_call, too_short, writes}
use Rattle.meaning.specs.Program.{allowance, ascii, decimal, most_printed, solution_line}
use Rattle.meaning.proofs.Lists.{never}
use Rattle.meaning.proofs.ByteLaws.{got_is, refused_not}
use Rattle.meaning.proofs.ProblemReading.{accept_accepted}
use Rattle.meaning.proofs.OneCall.{reply_named}
use Rattle.meaning.proofs.WriteLaws.{write_on, written_text}
use Rattle.masks.specs.Sets.{masks_in}
use Rattle.places.specs.Places.{Starts, value_of}
use Rattle.places.specs.declared.Place.{Place}
use Rattle.refusal.specs.Number.{number}
use Rattle.refusal.specs.declared.Refusal.{Refusal}
use Rattle.masks.specs.declared.NodeSet.{NodeSet}
use Rattle.seeking.specs.declared.Answer.{Answer as Kind}
use Rattle.seeking.specs.declared.Answer.TheVariants as answers
use Rattle.search.specs.Calling.{reply_with, row_value}
use Rattle.finding.specs.Finding.{Finds, Handed}
use Rattle.finding.specs.declared.Finding.{Finding}
use Rattle.ascii.specs.Put.{Put}
use Rattle.ascii.proofs.PutLaws.{put_both, put_till}
use Rattle.listing.specs.declared.Listing.{Listing}
use Rattle.listing.specs.declared.Line.{Line}
use Rattle.listing.specs.Listing as line
use Rattle.listing.specs.Listing.{Begins, FoundLine, LastLine, LineOf, NextLine, Stands}

-- What comes after a word and a number
pub count_put : (word : Bytes) (n : ℕ) {rest before middle after : Bytes} {e r : ℕ} → Put 0 (word ++ decimal n) before middle e
    → Put e rest middle after r → Put 0 (word ++ (decimal n ++ rest)) before after r
count_put word n {rest} counted put = put_till (put_both counted put) (append_assoc word (decimal n) rest) refl

-- All of it lies in the buffer
pub put_stands : {bytes before after : Bytes} {r : ℕ} → Put 0 bytes before after r → Stands bytes after r
put_stands put = record { long = put.end ∙ omega arith; front = put.front }

pub stands_fits : {bytes after : Bytes} {r : ℕ} → Stands bytes after r → r ≤ length after
stands_fits {bytes} {after} {r} s = omega (arith, s.long, ap length s.front, length-take r after)

-- How much room there is for a text
pub text_room_lem : largest_written ≡ 4224
unfolding largest_written largest_problem metavariable_count
text_room_lem = refl

-- The start
pub begins : (s : Bytes) (r : Result Place Refusal) (other : Place) → Starts (start_call s) r
    → Begins s (record { place = result_unwrap_or r other; count = 0 })
unfolding start_call
begins s r other h = record {
  none = refl;
  place = λ p e. go p r (subst (λ (a : Answer Problem). Starts (after a (λ p. got (place_value (start p)))) r) e h);
}
  where
    go : (p : Problem) (r : Result Place Refusal) → Starts (got (place_value (start p))) r
        → value_of (result_unwrap_or r other) ≡ place_value (start p)
    go p (Ok place) here = sym (got_is here)
    go p (Err e) here = absurd (refused_not (sym here))

-- A Found, by the solutions so far
module _ {now : Listing} {next : Place} {text after : Bytes} {r : Line} where
  pub more_line : 1000 ≤ now.count → LastLine (ascii "more ") now.count after r → FoundLine now next text after r
  unfolding most_printed
  more_line h l = line.more h l.line l.over

  pub next_line : {before : Bytes} → now.count < 1000
      → Put 0 (solution_line (now.count + 1) text) before after r.length → r.then ≡ Some (record { place = next; count = now.count + 1 })
      → FoundLine now next text after r
  unfolding most_printed
  next_line h put goes =
      line.solution h (put_stands (put_till put (ap (λ (k : ℕ). solution_line k text) (add-one now.count)) refl)) goes
      (record { place = refl; count = add-one now.count })

-- A text has the length that its call returned, and that is no more than the room for it
written_fits : {s before after : Bytes} {v : PlaceValue} {n : ℕ} → WriteCall s v before (got n) after → n ≤ length before
written_fits {s} {before} {after} {v} {n} w = go w refl
  where
    on : (p : Problem) {a : Answer ℕ} {end : Bytes} → WriteOn p v before a end → a ≡ got n → n ≤ length before
    on p (no_such_row h) z = absurd (refused_not z)
    on p (no_solution_row k m h) z = absurd (refused_not z)
    on p (too_short k m h l) z = absurd (refused_not z)
    on p (writes k m h l) z = omega (arith, got_is z)

    go : {a : Answer ℕ} {end : Bytes} → WriteCall s v before a end → a ≡ got n → n ≤ length before
    go (not_accepted r e) z = absurd (refused_not z)
    go (on_accepted p e d) z = on p d z

-- The next line, once it stands
module _ {s : Bytes} {now : Listing} {after : Bytes} {r : Line} where
  line_is : {line : Bytes} → Stands line after r.length → LineOf s (value_of now.place) now.count line r.then → NextLine s now after r
  line_is {line} e l = record { line = line; stands = e; is_next = l }

  last_is : {word : Bytes} {n : ℕ} → LastLine word n after r → LineOf s (value_of now.place) now.count (word ++ (decimal n ++ (10 ∷ []))) None
      → NextLine s now after r
  last_is l is = line_is l.line (subst (LineOf s (value_of now.place) now.count _) (sym l.over) is)

-- One call of the program
module _ {s : Bytes} (now : Listing) {before text : Bytes} where
  pub refused_next : {e : Refusal} {n : ℕ} → Finds s now.place 1000000 before text (Err e) → n ≡ number e → {after : Bytes} {r : Line}
      → LastLine (ascii "refused ") n after r → NextLine s now after r
  unfolding allowance
  refused_next {e} {n} finds is l = last_is l (rw is (line.refuses finds.call.call))

  module _ {f : Finding} (finds : Finds s now.place 1000000 before text (Ok f)) where
    called : {a : Kind} → f.searched.answer ≡ a → SearchCall s (value_of now.place) allowance (reply_with a (value_of f.searched.place))
    unfolding allowance
    called e =
        subst (λ (x : Kind). SearchCall s (value_of now.place) 1000000 (reply_with x (value_of f.searched.place))) e finds.call.call

    handed : {a : Kind} → f.searched.answer ≡ a → Handed s before text f.length a
    handed e = subst (Handed s before text f.length) e finds.text

    pub text_fits : {row : List NodeSet} → f.searched.answer ≡ answers.Found row → f.length ≤ length before
    text_fits e = written_fits (handed e)

    module _ {after : Bytes} {r : Line} where
      pub end_next : f.searched.answer ≡ answers.End → LastLine (ascii "end ") now.count after r → NextLine s now after r
      end_next e l = last_is l (line.ends (called e))

      pub paused_next : f.searched.answer ≡ answers.Paused → LastLine (ascii "paused ") now.count after r → NextLine s now after r
      paused_next e l = last_is l (line.pauses (called e))

      pub found_next : All Byte s → {row : List NodeSet} → f.searched.answer ≡ answers.Found row
          → FoundLine now f.searched.place (take f.length text) after r → NextLine s now after r
      found_next b e (line.more many is over) =
          last_is {word = ascii "more "} {n = now.count} (record { line = is; over = over }) (line.more (called e) many)
      found_next b {row} e (line.solution few is continues goes) = go (called e) refl
        where
          value : PlaceValue
          value = row_value (masks_in row)

          go : {reply : HostReply} → SearchCall s (value_of now.place) allowance reply → reply ≡ found value (value_of f.searched.place)
              → NextLine s now after r
          go (not_accepted q z) w = never (cc)
          go (on_accepted p z on) w =
              let (q, named, solves) = (reply_named p (subst (SearchOn p (value_of now.place) allowance) w on)).0 in
              let accepted : Accepted p = (accept_accepted s p b z).0 in
              let said : take f.length text ≡ row_text p q = written_text p value before accepted q named (write_on p z (handed e)) in
              line_is (subst (λ (t : Bytes). Stands (solution_line (suc now.count) t) after r.length) said is)
              (subst (LineOf s (value_of now.place) now.count _) (sym continues) (line.solution p z (called e) q named few goes))

-- How many lines are left at most
abbrev pub left : Option Listing → ℕ
left None = 0
left (Some now) = 1001 - now.count

-- At most 1000 solutions so far
abbrev pub Few : Option Listing → Type 0
Few None = Unit {0}
Few (Some now) = now.count ≤ 1000

-- The list comes to its end
fewer_left : {k : ℕ} {s x : Bytes} {place : PlaceValue} {then : Option Listing} → LineOf s place k x then → k ≤ 1000
    → (left then < 1001 - k) × Few then
unfolding most_printed
fewer_left (line.solution p e call r named few goes) h = (omega (arith, goes.count), omega (arith, goes.count))
fewer_left (line.more call many) h = (omega arith, tt)
fewer_left (line.ends call) h = (omega arith, tt)
fewer_left (line.pauses call) h = (omega arith, tt)
fewer_left (line.refuses call) h = (omega arith, tt)

pub lines_end : {s : Bytes} {now : Listing} {after : Bytes} {r : Line} → NextLine s now after r → now.count ≤ 1000
    → (left r.then < left (Some now)) × Few r.then
lines_end l few = fewer_left l.is_next few

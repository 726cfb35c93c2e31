-- The row of a Found is written, since there is room for any text.
use mathlib.Core.Path.{◌≡◌, refl, subst}
use mathlib.Core.List.{List}
use Prim.Native.Nat.{ℕ, ◌≤◌}
use lib.ListN.{length}
use Rattle.std.proofs.Common.{Ok, Err}
use Rattle.meaning.specs.Limits.{largest_written}
use Rattle.meaning.specs.Basics.{All, Byte, Bytes}
use Rattle.meaning.specs.Read.{Answer, got}
use Rattle.meaning.specs.Search.{found}
use Rattle.meaning.specs.PlaceValue.{PlaceValue}
use Rattle.meaning.specs.Entry.{HostReply, SearchCall, SearchOn, WriteCall, not_accepted, on_accepted}
use Rattle.meaning.proofs.Lists.{never}
use Rattle.meaning.proofs.ByteLaws.{refused_not}
use Rattle.meaning.proofs.ProblemReading.{accept_accepted}
use Rattle.meaning.proofs.OneCall.{reply_named}
use Rattle.meaning.proofs.WriteLaws.{when_large, write_on}
use Rattle.masks.specs.Sets.{masks_in}
use Rattle.masks.specs.declared.NodeSet.{NodeSet}
use Rattle.places.specs.Places.{AtRow, value_of}
use Rattle.places.specs.declared.Place.{Place}
use Rattle.refusal.specs.declared.Refusal.{Refusal}
use Rattle.seeking.specs.declared.Answer.{Answer as Kind}
use Rattle.seeking.specs.declared.Answer.TheVariants as answers
use Rattle.seeking.specs.declared.Searched.{Searched}
use Rattle.search.specs.Calling.{Answers, row_value}
use Rattle.writing.specs.Writing.{Writes}
use Rattle.finding.specs.Finding.{Handed}

-- Of any calls
found_written : {s : Bytes} {v row next : PlaceValue} {n : ℕ} {before after : Bytes} {a : Answer ℕ} → All Byte s → largest_written ≤ length before
    → SearchCall s v n (found row next) → WriteCall s row before a after → (k : ℕ) × (a ≡ got k)
found_written {s} {v} {row} {next} {n} {before} {after} {a} b room c w = go c refl
  where
    go : {reply : HostReply} → SearchCall s v n reply → reply ≡ found row next → (k : ℕ) × (a ≡ got k)
    go (not_accepted r e) z = never (cc)
    go (on_accepted p e {reply} on) z =
        let (r, named, solution) = (reply_named p (subst (λ (y : HostReply). SearchOn p v n y) z on)).0 in
        let (k, gives, text) = when_large p row before (accept_accepted s p b e).0 r named solution room (write_on p e w) in (k, gives)

row_value_lem : {sets : List NodeSet} {row : Place} → AtRow sets row → value_of row ≡ row_value (masks_in sets)
row_value_lem is = cc

module _ {sets : List NodeSet} {row : Place} (is : AtRow sets row) {s before after : Bytes} where
  written_call : {a : Answer ℕ} → WriteCall s (value_of row) before a after → WriteCall s (row_value (masks_in sets)) before a after
  written_call {a} w = subst (λ (v : PlaceValue). WriteCall s v before a after) (row_value_lem is) w

  pub text_found : {a : Kind} {k : ℕ} → a ≡ answers.Found sets → Writes s row before after (Ok k) → Handed s before after k a
  text_found e w = rw e (written_call w)

  pub never_refused : {P : Type 0} {place : Place} {n : ℕ} (searched : Searched) → searched.answer ≡ answers.Found sets
      → Answers s place n (Ok searched) → (r : Refusal) → All Byte s → largest_written ≤ length before
      → Writes s row before after (Err r) → P
  never_refused {place = place} {n = n} searched e call r b room w =
      let found_call : SearchCall s (value_of place) n (found (row_value (masks_in sets)) (value_of searched.place)) = rw e at call.call in
      let (m, z) = found_written b room found_call (written_call w) in
      absurd (refused_not z)

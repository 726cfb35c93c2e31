-- The laws of the exported functions, one after the other: the start, the search.
use mathlib.Core.Path.{◌≡◌, refl, ap, sym, ◌∙◌, subst}
use mathlib.Core.Bool.{Bool, true, false}
use mathlib.Core.List.{List}
use Prim.Native.Nat.{ℕ, ◌<◌, ◌≤◌}
use Rattle.std.proofs.Common.{Ok}
use borrow.Author.Tests.{le-leb, lt-leb}
use lib.ListN.{length}
use Rattle.meaning.specs.Basics.{Bytes}
use Rattle.meaning.specs.Problem.{Problem}
use Rattle.meaning.specs.Read.{Answer, got, refused}
use Rattle.meaning.specs.Row.{Row}
use Rattle.meaning.specs.Search.{refused_call}
use Rattle.meaning.specs.Search as meant
use Rattle.meaning.specs.PlaceValue.{PlaceValue, Names}
use Rattle.meaning.specs.Entry.{HostReply, SearchCall, not_accepted, on_accepted, no_allowance, no_such_place, searches}
use Rattle.meaning.proofs.Lists.{never, choose_true, choose_false}
use Rattle.places.specs.Places.{value_of}
use Rattle.places.specs.declared.Place.{Place}
use Rattle.search.specs.Calling.{reply_with, host_reply, Answers}
use Rattle.seeking.specs.declared.Answer as code
use Rattle.seeking.specs.declared.Answer.TheVariants as answers
use Rattle.seeking.specs.declared.Searched.{Searched}
use Rattle.words.specs.Words.{has_place, place_of_words, place_words, placed}
use Rattle.tivagyesz.specs.Exported.{place_into, start_code, start_after, Told, with_row, reply_code, place_after, row_after}
use Rattle.tivagyesz.specs.Exported.{Given, RowTold}
use Rattle.words.proofs.WordLaws.{named_long}

-- The start
told_as : (a b : Answer PlaceValue) (words words' : List ℕ) (r : ℕ) → a ≡ b → r ≡ start_code b → words' ≡ start_after words b
    → Told a words words' r
told_as a b words words' r e c p =
    record { code = c ∙ ap start_code (sym e); place = p ∙ ap (start_after words) (sym e) }

module _ (words : List ℕ) (v : PlaceValue) where
  pub given : (words' : List ℕ) → place_words ≤ length words → words' ≡ placed words v → Told (place_into words v) words words' 0
  given words' long e =
      told_as (place_into words v) (got v) words words' 0 (choose_true _ _ (le-leb place_words (length words) long)) refl e

  pub not_given : length words < place_words → Told (place_into words v) words words 18
  not_given short =
      told_as (place_into words v) (refused 18) words words 18 (choose_false _ _ (lt-leb place_words (length words) short)) refl refl

-- An answer that is no refusal
module _ (answer : code.Answer) (v : PlaceValue) (place row : List ℕ) where
  as_given : (long : Bool) → has_place (length row) ≡ long → {place' row' : List ℕ} {r : ℕ}
      → r ≡ reply_code (with_row long (reply_with answer v)) → place' ≡ place_after place (with_row long (reply_with answer v))
      → row' ≡ row_after row (with_row long (reply_with answer v)) → Given (reply_with answer v) place row place' row' r
  as_given long e c l g = record { code = rw e c; leaves = rw e l; gives = rw e g }

  -- "18 buffer too short"
  pub given_short : length row < place_words → Given (reply_with answer v) place row place row 18
  given_short short = go answer
    where
      none : has_place (length row) ≡ false
      none = lt-leb place_words (length row) short

      go : (a : code.Answer) → Given (reply_with a v) place row place row 18
      go (answers.Found sets) = record { code = rw none; leaves = rw none; gives = rw none }
      go answers.Paused = record { code = rw none; leaves = rw none; gives = rw none }
      go answers.End = record { code = rw none; leaves = rw none; gives = rw none }

  pub given_long : {place' row' : List ℕ} {r : ℕ} → place_words ≤ length row → place' ≡ placed place v → RowTold answer row row' r
      → Given (reply_with answer v) place row place' row' r
  given_long {place'} {row'} {r} long moved told = as_given true (le-leb place_words (length row) long) (told.code v) (moves answer) (told.gives v)
    where
      moves : (a : code.Answer) → place' ≡ place_after place (with_row true (reply_with a v))
      moves (answers.Found sets) = moved
      moves answers.Paused = moved
      moves answers.End = moved

-- A call that is not refused has a place
pub has_place_lem : (s : Bytes) (v : PlaceValue) (n : ℕ) (reply : HostReply) → SearchCall s v n reply → ((r : ℕ) → reply ≡ refused_call r → ⊥)
    → (p : Problem) × (place : meant.Place Row) × Names p v place
has_place_lem s v n reply (not_accepted r e) other = absurd (other r refl)
has_place_lem s v n reply (on_accepted p e (no_allowance z)) other = absurd (other 15 refl)
has_place_lem s v n reply (on_accepted p e (no_such_place z none)) other = absurd (other 16 refl)
has_place_lem s v n reply (on_accepted p e (searches z place names from rows keeps)) other = (p, place, names)

module _ (s : Bytes) (n : ℕ) (words : List ℕ) (from : Place) (reads : value_of from ≡ place_of_words words) where
  no_refusal : (a : code.Answer) (v : PlaceValue) (r : ℕ) → reply_with a v ≡ refused_call r → ⊥
  no_refusal (answers.Found sets) v r e = never (cc)
  no_refusal answers.Paused v r e = never (cc)
  no_refusal answers.End v r e = never (cc)

  -- So the words of its place are enough
  pub place_long : (searched : Searched) → Answers s from n (Ok searched) → place_words ≤ length words
  place_long searched h =
      let called = subst (λ (v : PlaceValue). SearchCall s v n (host_reply (Ok searched))) reads h.call in
      let (p, place, names) = has_place_lem s (place_of_words words) n (host_reply (Ok searched)) called
      (no_refusal searched.answer (value_of searched.place)) in
      named_long p words place names

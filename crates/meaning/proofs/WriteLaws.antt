-- Writing a text: whatever it is given, a call has just one answer and one buffer after it, and a refused one leaves the buffer.
use mathlib.Core.Path.{◌≡◌, refl, ap, sym, ◌∙◌, subst}
use mathlib.Core.Logic.{◌⊎◌, inl, inr}
use Prim.Native.Nat.{ℕ, ◌<◌, ◌≤◌}
use mathlib.Core.List.{◌++◌}
use native.Mathlib.Decide.{dec_lt}
use native.Mathlib.Omega.{arith}
use lib.ListN.{length, take, drop}
use lib.Seq.{take_at}
use Rattle.meaning.specs.Limits.{largest_written}
use Rattle.meaning.specs.Basics.{All, Bytes, Byte}
use Rattle.meaning.specs.Problem.{Problem}
use Rattle.meaning.specs.Row.{Row, SolutionRow}
use Rattle.meaning.specs.Read.{Answer, refused, got}
use Rattle.meaning.specs.Readable.{Accepted}
use Rattle.meaning.specs.Accept.{accept}
use Rattle.meaning.specs.Search.{at}
use Rattle.meaning.specs.PlaceValue.{PlaceValue, Names}
use Rattle.meaning.specs.Entry.{row_text, WriteOn, WriteCall, not_accepted, on_accepted, no_such_row, no_solution_row, too_short, writes}
use Rattle.meaning.proofs.Proper.{accepted_proper}
use Rattle.meaning.proofs.ByteLaws.{got_is, refused_not}
use Rattle.meaning.proofs.ChoiceLaws.{rows_are}
use Rattle.meaning.proofs.ProblemReading.{accept_accepted}
use Rattle.meaning.proofs.Solutions.{solution_row_told, solves_is_right}
use Rattle.meaning.proofs.SecondDemand.{text_within}
use Rattle.meaning.proofs.PlaceLaws.{value_names_row, named_row}

-- A call on an accepted problem: its answer and the buffer after it, by what it is given
module _ (p : Problem) (v : PlaceValue) (buffer : Bytes) where
  pub when_nowhere : {a : Answer ℕ} {after : Bytes} → ((r : Row) → Names p v (at r) → ⊥)
      → WriteOn p v buffer a after → (a ≡ refused 16) × (after ≡ buffer)
  when_nowhere none (no_such_row h) = (refl, refl)
  when_nowhere none (no_solution_row r m h) = absurd (none r m)
  when_nowhere none (too_short r m h l) = absurd (none r m)
  when_nowhere none (writes r m h l) = absurd (none r m)

  module _ (accepted : Accepted p) (r : Row) (named : Names p v (at r)) where
    same_row : {k : Row} → Names p v (at k) → k ≡ r
    same_row {k} m = value_names_row p v k r accepted m named

    when_other : {a : Answer ℕ} {after : Bytes} → (SolutionRow p r → ⊥) → WriteOn p v buffer a after → (a ≡ refused 17) × (after ≡ buffer)
    when_other none (no_such_row h) = absurd (h r named)
    when_other none (no_solution_row k m h) = (refl, refl)
    when_other none (too_short k m h l) = absurd (none (subst (SolutionRow p) (same_row m) h))
    when_other none (writes k m h l) = absurd (none (subst (SolutionRow p) (same_row m) h))

    module _ (solution : SolutionRow p r) where
      when_short : {a : Answer ℕ} {after : Bytes} → length buffer < length (row_text p r)
          → WriteOn p v buffer a after → (a ≡ refused 18) × (after ≡ buffer)
      when_short short (no_such_row h) = absurd (h r named)
      when_short short (no_solution_row k m h) = absurd (h (subst (SolutionRow p) (sym (same_row m)) solution))
      when_short short (too_short k m h l) = (refl, refl)
      when_short short (writes k m h l) = absurd (omega (arith, ap (λ (y : Row). length (row_text p y)) (same_row m)))

      -- with room the text of the row is written
      pub when_room : {a : Answer ℕ} {after : Bytes} → length (row_text p r) ≤ length buffer → WriteOn p v buffer a after
          → (a ≡ got (length (row_text p r))) × (after ≡ row_text p r ++ drop (length (row_text p r)) buffer)
      when_room room (no_such_row h) = absurd (h r named)
      when_room room (no_solution_row k m h) = absurd (h (subst (SolutionRow p) (sym (same_row m)) solution))
      when_room room (too_short k m h l) = absurd (omega (arith, ap (λ (y : Row). length (row_text p y)) (same_row m)))
      when_room room (writes k m h l) = (
        ap (λ (y : Row). got (length (row_text p y))) (same_row m),
        ap (λ (y : Row). row_text p y ++ drop (length (row_text p y)) buffer) (same_row m),
      )

      -- ... as it is in a buffer with room for any text
      pub when_large : {a : Answer ℕ} {after : Bytes} → largest_written ≤ length buffer → WriteOn p v buffer a after
          → (n : ℕ) × (a ≡ got n) × (take n after ≡ row_text p r)
      when_large large w =
          let within = text_within p r accepted ((solves_is_right p r (accepted_proper p accepted) ((rows_are p r).1 named.is_place)).1 solution) in
          let (gives, holds) = when_room (omega arith) w in
          (length (row_text p r), gives, ap (take (length (row_text p r))) holds ∙ take_at (row_text p r) _ (length (row_text p r)) refl)

    -- what is written is the text of the row
    pub written_text : {n : ℕ} {after : Bytes} → WriteOn p v buffer (got n) after → take n after ≡ row_text p r
    written_text {n} w = go w refl
      where
        go : {a : Answer ℕ} {end : Bytes} → WriteOn p v buffer a end → a ≡ got n → take n end ≡ row_text p r
        go (no_such_row h) z = absurd (refused_not z)
        go (no_solution_row k m h) z = absurd (refused_not z)
        go (too_short k m h l) z = absurd (refused_not z)
        go (writes k m h l) z = take_at (row_text p k) _ n (got_is z) ∙ ap (row_text p) (same_row m)

  -- THERE IS AN ANSWER, whatever the row and the buffer
  pub some_text : Accepted p → (a : Answer ℕ) × (after : Bytes) × WriteOn p v buffer a after
  some_text accepted = go (named_row p v)
    where
      fits : (r : Row) → Names p v (at r) → SolutionRow p r → Dec (length buffer < length (row_text p r))
          → (a : Answer ℕ) × (after : Bytes) × WriteOn p v buffer a after
      fits r m h (yes l) = (refused 18, buffer, too_short r m h l)
      fits r m h (no l) =
          (got (length (row_text p r)), row_text p r ++ drop (length (row_text p r)) buffer, writes r m h (omega arith))

      solved : (r : Row) → Names p v (at r) → Dec (SolutionRow p r) → (a : Answer ℕ) × (after : Bytes) × WriteOn p v buffer a after
      solved r m (yes h) = fits r m h (dec_lt (length buffer) (length (row_text p r)))
      solved r m (no h) = (refused 17, buffer, no_solution_row r m h)

      go : ((r : Row) × Names p v (at r)) ⊎ ((r : Row) → Names p v (at r) → ⊥)
          → (a : Answer ℕ) × (after : Bytes) × WriteOn p v buffer a after
      go (inl (r, m)) = solved r m (solution_row_told p r (accepted_proper p accepted) ((rows_are p r).1 m.is_place))
      go (inr none) = (refused 16, buffer, no_such_row none)

  -- ... AND ONLY ONE, with one buffer after it
  pub one_text : {a a' : Answer ℕ} {after after' : Bytes} → Accepted p
      → WriteOn p v buffer a after → WriteOn p v buffer a' after' → (a ≡ a') × (after ≡ after')
  one_text accepted (no_such_row none) w = let o = when_nowhere none w in (sym o.0, sym o.1)
  one_text accepted (no_solution_row r m h) w = let o = when_other accepted r m h w in (sym o.0, sym o.1)
  one_text accepted (too_short r m h l) w = let o = when_short accepted r m h l w in (sym o.0, sym o.1)
  one_text accepted (writes r m h l) w = let o = when_room accepted r m h l w in (sym o.0, sym o.1)

  -- A refused call leaves the buffer
  pub refused_on : {a : Answer ℕ} {after : Bytes} (r : ℕ) → a ≡ refused r → WriteOn p v buffer a after → after ≡ buffer
  refused_on r z (no_such_row none) = refl
  refused_on r z (no_solution_row q m h) = refl
  refused_on r z (too_short q m h l) = refl
  refused_on r z (writes q m h l) = absurd (refused_not (sym z))

-- A call on any bytes
pub write_on : {s : Bytes} {v : PlaceValue} {buffer after : Bytes} {a : Answer ℕ} (p : Problem) → accept s ≡ got p
    → WriteCall s v buffer a after → WriteOn p v buffer a after
write_on p e (not_accepted q f) = absurd (refused_not (sym f ∙ e))
write_on {v = v} {buffer} {after} {a} p e (on_accepted q f w) = subst (λ (y : Problem). WriteOn y v buffer a after) (got_is (sym f ∙ e)) w

when_refused : {s : Bytes} {v : PlaceValue} {buffer after : Bytes} {a : Answer ℕ} (r : ℕ)
    → accept s ≡ refused r → WriteCall s v buffer a after → (a ≡ refused r) × (after ≡ buffer)
when_refused r e (not_accepted q f) = let z : q ≡ r = cc in (ap refused z, refl)
when_refused r e (on_accepted p f w) = absurd (refused_not (sym e ∙ f))

module _ (s : Bytes) (v : PlaceValue) (buffer : Bytes) where
  pub some_writing : All Byte s → (a : Answer ℕ) × (after : Bytes) × WriteCall s v buffer a after
  some_writing b = go (accept s) refl
    where
      go : (x : Answer Problem) → accept s ≡ x → (a : Answer ℕ) × (after : Bytes) × WriteCall s v buffer a after
      go (refused r) e = (refused r, buffer, not_accepted r e)
      go (got p) e = let (a, after, w) = some_text p v buffer (accept_accepted s p b e).0 in (a, after, on_accepted p e w)

  pub one_writing : {a a' : Answer ℕ} {after after' : Bytes}
      → All Byte s → WriteCall s v buffer a after → WriteCall s v buffer a' after' → (a ≡ a') × (after ≡ after')
  one_writing b (not_accepted r e) w = let o = when_refused r e w in (sym o.0, sym o.1)
  one_writing b (on_accepted p e d) w = one_text p v buffer (accept_accepted s p b e).0 d (write_on p e w)

  pub refused_leaves : (after : Bytes) (r : ℕ) → WriteCall s v buffer (refused r) after → after ≡ buffer
  refused_leaves after r w = go w refl
    where
      go : {a : Answer ℕ} {end : Bytes} → WriteCall s v buffer a end → a ≡ refused r → end ≡ buffer
      go (not_accepted q e) z = refl
      go (on_accepted p e d) z = refused_on p v buffer r z d

-- One search call: it always has a reply that it may give, and is free only in how far a pause goes.
--   Alike        two replies that differ at most in how far a pause goes
--   NamedReply   the row and the place in a reply are ones of the problem
use mathlib.Core.Path.{◌≡◌, refl, ap, sym, ◌∙◌, subst}
use mathlib.Core.Logic.{◌⊎◌, inl, inr, ◌↔◌}
use Prim.Native.Nat.{ℕ, zero, suc, ◌<◌}
use mathlib.Core.List.Memᴰ
use mathlib.Core.List.{List, [], ◌∷◌, ◌++◌, append_assoc, append-nil}
use native.Mathlib.Omega.{arith}
use lib.ListN.{length, length-append}
use lib.Seq.{append_snoc}
use Rattle.meaning.specs.Basics.{All, Distinct, ◌∈◌, Bytes, Byte}
use Rattle.meaning.specs.Problem.{Problem}
use Rattle.meaning.specs.Row.{Row, SolutionRow}
use Rattle.meaning.specs.Rows.{rows}
use Rattle.meaning.specs.Read.{Answer, refused, got}
use Rattle.meaning.specs.Readable.{Accepted}
use Rattle.meaning.specs.Accept.{accept}
use Rattle.meaning.specs.Search.{Place, at, past, place_of, Reply, found, end, paused, refused_call, Keeps, finds, ends, pauses, From}
use Rattle.meaning.specs.PlaceValue.{PlaceValue, Names, place_value}
use Rattle.meaning.specs.Entry.{HostReply, reply_value, SearchOn, SearchCall, not_accepted, on_accepted, no_allowance, no_such_place, searches}
use Rattle.meaning.proofs.Proper.{accepted_proper}
use Rattle.meaning.proofs.Lists.{never, all_mem, mem_all}
use Rattle.meaning.proofs.ByteLaws.{got_is, refused_not}
use Rattle.meaning.proofs.ProblemReading.{accept_accepted}
use Rattle.meaning.proofs.ChoiceLaws.{rows_once}
use Rattle.meaning.proofs.Solutions.{solution_row_told}
use Rattle.meaning.proofs.PlaceLaws.{from_place, value_names_one, named_place, rows_from}

pub data Alike {R P : Type 0} : Reply R P → Reply R P → Type 0 where
  same : {x y : Reply R P} → x ≡ y → Alike x y
  both_pause : {next next' : P} → Alike (paused next) (paused next')

-- In a list with no element twice an element fixes what follows it
same_rest : {A : Type 0} (x : A) (before before' later later' : List A)
    → Distinct (before ++ (x ∷ later)) → before ++ (x ∷ later) ≡ before' ++ (x ∷ later') → later ≡ later'
same_rest x [] [] later later' d e = cc
same_rest {A} x [] (y ∷ ys) later later' d e =
    let q : ys ++ (x ∷ later') ≡ later = cc in
    absurd (d.0 (subst (λ (l : List A). x ∈ l) q (Memᴰ.append_right ys (Memᴰ.head refl))))
same_rest x (y ∷ ys) [] later later' d e = absurd (d.0 (Memᴰ.append_right ys (Memᴰ.head (cc))))
same_rest x (y ∷ ys) (z ∷ zs) later later' d e = same_rest x ys zs later later' d.1 (cc)

-- A place names one suffix of the rows
one_suffix : {R : Type 0} (rs : List R) (place : Place R) (from from' : List R)
    → Distinct rs → From rs place from → From rs place from' → from ≡ from'
one_suffix rs place [] [] d f g = refl
one_suffix rs place [] (y ∷ ys) d f g = never (cc)
one_suffix rs place (x ∷ xs) [] d f g = never (cc)
one_suffix rs place (x ∷ xs) (y ∷ ys) d f g =
    let same : x ≡ y = cc in
    let split : f.before ++ (x ∷ xs) ≡ g.before ++ (x ∷ ys) = cc in
    let rest : xs ≡ ys = same_rest x f.before g.before xs ys (subst Distinct f.whole d) split in
    cc

-- Replies over the rows from a place on
module _ {R : Type 0} (IsSolution : R → Type 0) where
  -- Two ways to split a list at its first solution row are one
  same_first : (xs ys : List R) (r s : R) (later later' : List R)
      → All (λ x. IsSolution x → ⊥) xs
      → All (λ x. IsSolution x → ⊥) ys
      → IsSolution r
      → IsSolution s
      → xs ++ (r ∷ later) ≡ ys ++ (s ∷ later')
      → (r ≡ s) × (later ≡ later')
  same_first [] [] r s later later' a b h g e = (cc, cc)
  same_first [] (y ∷ ys) r s later later' a b h g e = absurd (b.0 (subst IsSolution (cc) h))
  same_first (x ∷ xs) [] r s later later' a b h g e = absurd (a.0 (subst IsSolution (cc) g))
  same_first (x ∷ xs) (y ∷ ys) r s later later' a b h g e = same_first xs ys r s later later' a.1 b.1 h g (cc)

  -- No solution row stands among rows that are none
  not_among : (xs ys : List R) (r : R) (later later' : List R)
      → All (λ x. IsSolution x → ⊥) ys → IsSolution r → length xs < length ys → xs ++ (r ∷ later) ≡ ys ++ later' → ⊥
  not_among xs [] r later later' b h l e = absurd (omega arith)
  not_among [] (y ∷ ys) r later later' b h l e = b.0 (subst IsSolution (cc) h)
  not_among (x ∷ xs) (y ∷ ys) r later later' b h l e = not_among xs ys r later later' b.1 h (omega arith) (cc)

  -- By the two forms of the same rows
  alike : {n : ℕ} {from from' : List R} {x y : Reply R (Place R)}
      → from ≡ from' → Keeps IsSolution n from x → Keeps IsSolution n from' y → Alike x y
  alike e (finds xs r later a h l) (finds ys s later' b g m) =
      let q = same_first xs ys r s later later' a b h g e in
      let p : found r (place_of later) ≡ found s (place_of later') = cc in
      same p
  alike e (finds xs r later a h l) (ends from b m) =
      absurd (not_among xs from r later [] b h (omega (arith, ap length e, length-append xs (r ∷ later))) (e ∙ sym (append-nil from)))
  alike e (finds xs r later a h l) (pauses ys s later' b m) = absurd (not_among xs ys r later (s ∷ later') b h (omega arith) e)
  alike e (ends from a l) (finds ys s later' b g m) =
      absurd (not_among ys from s later' [] a g (omega (arith, ap length e, length-append ys (s ∷ later'))) (sym e ∙ sym (append-nil from)))
  alike e (ends from a l) (ends from' b m) = same refl
  alike e (ends from a l) (pauses ys s later' b m) = absurd (omega (arith, ap length e, length-append ys (s ∷ later')))
  alike e (pauses xs r later a l) (finds ys s later' b g m) = absurd (not_among ys xs s later' (r ∷ later) a g (omega arith) (sym e))
  alike e (pauses xs r later a l) (ends from b m) = absurd (omega (arith, ap length e, length-append xs (r ∷ later)))
  alike e (pauses xs r later a l) (pauses ys s later' b m) = both_pause

  -- One row more that is no solution, and one more of the allowance
  pub one_before : {n : ℕ} {from : List R} {reply : Reply R (Place R)} (x : R)
      → (IsSolution x → ⊥) → Keeps IsSolution n from reply → Keeps IsSolution (suc n) (x ∷ from) reply
  one_before x e (finds skipped r later a h l) = finds (x ∷ skipped) r later (e, a) h (omega arith)
  one_before x e (ends from a l) = ends (x ∷ from) (e, a) (omega arith)
  one_before x e (pauses passed r later a l) = pauses (x ∷ passed) r later (e, a) (omega arith)

  some_keeps : (n : ℕ) (from : List R) → All (λ r. Dec (IsSolution r)) from → (reply : Reply R (Place R)) × Keeps IsSolution n from reply
  some_keeps n [] d = (end past, ends [] tt (omega arith))
  some_keeps zero (x ∷ xs) d = (paused (at x), pauses [] x xs tt (omega arith))
  some_keeps (suc n) (x ∷ xs) d = go d.0 (some_keeps n xs d.1)
    where
      go : Dec (IsSolution x) → (reply : Reply R (Place R)) × Keeps IsSolution n xs reply
          → (reply : Reply R (Place R)) × Keeps IsSolution (suc n) (x ∷ xs) reply
      go (yes e) r = (found x (place_of xs), finds [] x xs tt e (omega arith))
      go (no e) r = (r.0, one_before x e r.1)

-- The same promise in other words of what a solution row is
pub keeps_same : {R : Type 0} {P Q : R → Type 0} {n : ℕ} {from : List R} {reply : Reply R (Place R)}
    → ((r : R) → r ∈ from → P r ↔ Q r) → Keeps P n from reply → Keeps Q n from reply
keeps_same {R} {P} {Q} h (finds skipped r later a e l) =
    finds skipped r later (still skipped (λ x m. h x (Memᴰ.append_left (r ∷ later) m)) a)
    ((h r (Memᴰ.append_right skipped (Memᴰ.head refl))).0 e) l
  where
    still : (xs : List R) → ((x : R) → x ∈ xs → P x ↔ Q x) → All (λ x. P x → ⊥) xs → All (λ x. Q x → ⊥) xs
    still xs g b = mem_all (λ x. Q x → ⊥) xs (λ x m q. all_mem (λ y. P y → ⊥) x xs b m ((g x m).1 q))
keeps_same {R} {P} {Q} h (ends from a l) =
    ends from (mem_all (λ x. Q x → ⊥) from (λ x m q. all_mem (λ y. P y → ⊥) x from a m ((h x m).1 q))) l
keeps_same {R} {P} {Q} h (pauses passed r later a l) =
    pauses passed r later
    (mem_all (λ x. Q x → ⊥) passed (λ x m q. all_mem (λ y. P y → ⊥) x passed a m ((h x (Memᴰ.append_left (r ∷ later) m)).1 q))) l

value_alike : {x y : Reply Row (Place Row)} → Alike x y → Alike (reply_value x) (reply_value y)
value_alike (same e) = same (ap reply_value e)
value_alike both_pause = both_pause

some_kept : (p : Problem) → Accepted p → (before from : List Row) → rows p ≡ before ++ from → (n : ℕ)
    → (reply : Reply Row (Place Row)) × Keeps (SolutionRow p) n from reply
some_kept p a before from e n =
    some_keeps (SolutionRow p) n from
    (mem_all (λ r. Dec (SolutionRow p r)) from
    (λ r m. solution_row_told p r (accepted_proper p a) (subst (λ (rs : List Row). r ∈ rs) (sym e) (Memᴰ.append_right before m))))

-- A call on an accepted problem: what it answers, by what it is given
module _ (p : Problem) (v : PlaceValue) (n : ℕ) where
  pub when_zero : {x : HostReply} → n ≡ 0 → SearchOn p v n x → x ≡ refused_call 15
  when_zero z (no_allowance h) = refl
  when_zero z (no_such_place h g) = absurd (omega arith)
  when_zero z (searches h place m from g k) = absurd (omega arith)

  when_nowhere : {x : HostReply} → 0 < n → ((place : Place Row) → Names p v place → ⊥) → SearchOn p v n x → x ≡ refused_call 16
  when_nowhere l none (no_allowance h) = absurd (omega arith)
  when_nowhere l none (no_such_place h g) = refl
  when_nowhere l none (searches h place m from g k) = absurd (none place m)

  -- at a place it keeps its promise over the rows from there on
  pub when_placed : {x : HostReply} (place : Place Row) (from : List Row)
      → Accepted p → 0 < n → Names p v place → From (rows p) place from → SearchOn p v n x
      → (reply : Reply Row (Place Row)) × Keeps (SolutionRow p) n from reply × (x ≡ reply_value reply)
  when_placed place from a l m g (no_allowance h) = absurd (omega arith)
  when_placed place from a l m g (no_such_place h none) = absurd (none place m)
  when_placed place from a l m g (searches h place' m' from' g' {reply} k) =
      let here : place' ≡ place = value_names_one p v place' place a m' m in
      let rest : from' ≡ from =
      one_suffix (rows p) place from' from (rows_once p) (subst (λ (y : Place Row). From (rows p) y from') here g') g in
      (reply, subst (λ (rs : List Row). Keeps (SolutionRow p) n rs reply) rest k, refl)

  -- THERE IS AN ANSWER, whatever the place and the allowance
  pub some_search : Accepted p → (reply : HostReply) × SearchOn p v n reply
  some_search a = go n refl (named_place p v)
    where
      go : (m : ℕ) → n ≡ m → ((place : Place Row) × Names p v place) ⊎ ((place : Place Row) → Names p v place → ⊥)
          → (reply : HostReply) × SearchOn p v n reply
      go zero z named = (refused_call 15, no_allowance z)
      go (suc m) z (inr none) = (refused_call 16, no_such_place (omega arith) none)
      go (suc m) z (inl x) =
          let (from, f) = rows_from p x.0 x.1.is_place in
          let (reply, keeps) = some_kept p a f.before from f.whole n in
          (reply_value reply, searches (omega arith) x.0 x.1 from f keeps)

  -- ... AND ONLY ONE, but for how far a pause goes
  pub one_search : {x y : HostReply} → Accepted p → SearchOn p v n x → SearchOn p v n y → Alike x y
  one_search a (no_allowance z) c = same (sym (when_zero z c))
  one_search a (no_such_place h none) c = same (sym (when_nowhere h none c))
  one_search a (searches h place m from g k) c =
      let (reply, keeps, is) = when_placed place from a h m g c in
      subst (Alike _) (sym is) (value_alike (alike (SolutionRow p) refl k keeps))

-- What a reply names: the row of a Found is a solution row, and what a call leaves is a place
abbrev pub NamedReply : Problem → HostReply → Type 0
NamedReply p (found row next) = ((r : Row) × Names p row (at r) × SolutionRow p r) × ((place : Place Row) × Names p next place)
NamedReply p (end next) = (place : Place Row) × Names p next place
NamedReply p (paused next) = (place : Place Row) × Names p next place
NamedReply p (refused_call r) = Unit {0}

module _ (p : Problem) where
  begin_at : (before passed later : List Row) → rows p ≡ before ++ (passed ++ later) → Names p (place_value (place_of later)) (place_of later)
  begin_at before passed later w =
      let from : From (rows p) (place_of later) later =
      record { before = before ++ passed; whole = w ∙ sym (append_assoc before passed later); begins = refl } in
      record { is_place = from_place p (place_of later) later from; is_value = refl }

  kept_named : {n : ℕ} {from : List Row} {reply : Reply Row (Place Row)} (before : List Row) → rows p ≡ before ++ from
      → Keeps (SolutionRow p) n from reply → NamedReply p (reply_value reply)
  kept_named before w (finds skipped r later a h l) = (
    (r, begin_at before skipped (r ∷ later) w, h),
    (
      place_of later,
      begin_at before (skipped ++ (r ∷ [])) later (w ∙ ap (λ (rs : List Row). before ++ rs) (sym (append_snoc skipped r later))),
    ),
  )
  kept_named before w (ends from a l) = (past, record { is_place = tt; is_value = refl })
  kept_named before w (pauses passed r later a l) = (at r, begin_at before passed (r ∷ later) w)

  pub reply_named : {v : PlaceValue} {n : ℕ} {reply : HostReply} → SearchOn p v n reply → NamedReply p reply
  reply_named (no_allowance z) = tt
  reply_named (no_such_place l none) = tt
  reply_named (searches l place m from f k) = kept_named f.before f.whole k

  -- a call with an allowance, at one of the problem's places, is not refused
  pub not_refused : {v : PlaceValue} {n r : ℕ} (place : Place Row) → Names p v place → 0 < n → SearchOn p v n (refused_call r) → ⊥
  not_refused {v} {n} {r} place named l c = go c refl
    where
      kept : {from : List Row} {reply : Reply Row (Place Row)} → Keeps (SolutionRow p) n from reply → reply_value reply ≡ refused_call r → ⊥
      kept (finds skipped q later a h m) z = never (cc)
      kept (ends from a m) z = never (cc)
      kept (pauses passed q later a m) z = never (cc)

      go : {reply : HostReply} → SearchOn p v n reply → reply ≡ refused_call r → ⊥
      go (no_allowance z) e = omega arith
      go (no_such_place h none) e = none place named
      go (searches h q m from f k) e = kept k e

-- A call on any bytes
pub search_on : {s : Bytes} {v : PlaceValue} {n : ℕ} {x : HostReply} (p : Problem) → accept s ≡ got p → SearchCall s v n x → SearchOn p v n x
search_on p e (not_accepted q f) = absurd (refused_not (sym f ∙ e))
search_on {v = v} {n} {x} p e (on_accepted q f c) = subst (λ (y : Problem). SearchOn y v n x) (got_is (sym f ∙ e)) c

pub when_refused : {s : Bytes} {v : PlaceValue} {n : ℕ} {x : HostReply} (r : ℕ) → accept s ≡ refused r → SearchCall s v n x → x ≡ refused_call r
when_refused r e (not_accepted q f) = let z : q ≡ r = cc in ap refused_call z
when_refused r e (on_accepted p f c) = absurd (refused_not (sym e ∙ f))

pub some_reply : (s : Bytes) (v : PlaceValue) (n : ℕ) → All Byte s → (reply : HostReply) × SearchCall s v n reply
some_reply s v n b = go (accept s) refl
  where
    go : (a : Answer Problem) → accept s ≡ a → (reply : HostReply) × SearchCall s v n reply
    go (refused r) e = (refused_call r, not_accepted r e)
    go (got p) e = let (reply, c) = some_search p v n (accept_accepted s p b e).0 in (reply, on_accepted p e c)

pub one_reply : (s : Bytes) (v : PlaceValue) (n : ℕ) (x y : HostReply) → All Byte s → SearchCall s v n x → SearchCall s v n y → Alike x y
one_reply s v n x y b (not_accepted r e) c = same (sym (when_refused r e c))
one_reply s v n x y b (on_accepted p e d) c = one_search p v n (accept_accepted s p b e).0 d (search_on p e c)

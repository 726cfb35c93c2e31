-- The third demand: what lists of calls owe, from the promise of one call; and that there are lists of calls for any allowances.
--   Step   what one call does to the rows that are left: some are passed, the rest are left for the next call
--   Owes   the third demand over any list of what is to be found and any number of rows
use mathlib.Core.Path.{◌≡◌, refl, ap, sym, ◌∙◌, subst}
use mathlib.Core.Logic.{◌⊎◌, inl, inr, ⊎_elim}
use Prim.Native.Nat.{ℕ, zero, suc, ◌<◌, ◌≤◌}
use mathlib.Core.Bool.{Bool, true}
use mathlib.Core.List.Memᴰ
use mathlib.Core.List.{List, [], ◌∷◌, ◌++◌, map, map-map, append_assoc, append-nil}
use native.Mathlib.Omega.{arith}
use lib.ListN.{length, take, length-append}
use lib.Seq.{append_snoc, take-nil}
use Rattle.meaning.specs.Basics.{keep, All, ◌∈◌, Bytes, Byte}
use Rattle.meaning.specs.Problem.{Problem}
use Rattle.meaning.specs.Row.{Row, SolutionRow}
use Rattle.meaning.specs.Rows.{rows}
use Rattle.meaning.specs.Candidate.{candidate, solves, solution_rows, full_list}
use Rattle.meaning.specs.Read.{got}
use Rattle.meaning.specs.Readable.{Accepted}
use Rattle.meaning.specs.Accept.{accept}
use Rattle.meaning.specs.Search.{Place, at, past, place_of, start, Reply, end, refused_call, Keeps, finds, ends, pauses, From}
use Rattle.meaning.specs.PlaceValue.{PlaceValue, place_value, Names}
use Rattle.meaning.specs.Entry.{HostReply, reply_value, SearchOn, SearchCall, on_accepted}
use Rattle.meaning.specs.Calls.{Call, left, Run, KeptCall, Kept, calls_of, HostCall, Carried, Held, found_in, founds, HasEnd, allowed}
use Rattle.meaning.specs.Calls.{positive, given_row, ThirdDemandOf}
use Rattle.meaning.proofs.Proper.{accepted_proper}
use Rattle.meaning.proofs.Lists.{never, T_true, not_T, choose_true, choose_false}
use Rattle.meaning.proofs.PlaceLaws.{from_place}
use Rattle.meaning.proofs.ProblemReading.{accept_accepted}
use Rattle.meaning.proofs.Solutions.{solves_is_right}
use Rattle.meaning.proofs.FullListLaws.{all_rows_lem, full_list_is}
use Rattle.meaning.proofs.OneCall.{keeps_same, search_on, when_zero, when_placed, some_reply}

abbrev row_value : Row → PlaceValue
row_value r = place_value (at r)

-- Lists
module _ {A : Type 0} where
  -- What is kept of a list whose front has nothing to keep
  keep_after : (p : A → Bool) (xs ys : List A) → All (λ x. p x ≡ true → ⊥) xs → keep p (xs ++ ys) ≡ keep p ys
  keep_after p [] ys a = refl
  keep_after p (x ∷ xs) ys a =
      choose_false {b = p x} (x ∷ keep p (xs ++ ys)) (keep p (xs ++ ys)) (not_T (λ t. a.0 (T_true t))) ∙ keep_after p xs ys a.1

  -- The first elements, after a common front
  append_first : (xs ys full : List A) → ys ≡ take (length ys) full → xs ++ ys ≡ take (length (xs ++ ys)) (xs ++ full)
  append_first [] ys full e = e
  append_first (x ∷ xs) ys full e = ap (λ (l : List A). x ∷ l) (append_first xs ys full e)

  map_take : {B : Type 0} (f : A → B) (n : ℕ) (xs : List A) → map f (take n xs) ≡ take n (map f xs)
  map_take f n [] = ap (map f) (take-nil n) ∙ sym (take-nil n)
  map_take f zero (x ∷ xs) = refl
  map_take {B} f (suc n) (x ∷ xs) = ap (λ (l : List B). f x ∷ l) (map_take f n xs)

-- The step that one call makes
allowed_one : (n : ℕ) → allowed n ≤ 1
allowed_one zero = omega arith
allowed_one (suc n) = omega arith

record Step (p : Problem) (v : PlaceValue) (n : ℕ) (from : List Row) (reply : HostReply) : Type 0 where
  -- the rows passed, a Found's own among them, and the rows left for the next call
  passed : List Row
  later : List Row
  splits : from ≡ passed ++ later
  next : left v reply ≡ place_value (place_of later)
  -- what the call finds is the first of what there is to find
  gives : map row_value (keep (solves p) from) ≡ found_in reply ++ map row_value (keep (solves p) later)
  -- short of an End, a call with an allowance above 0 passes a row
  moves : ((w : PlaceValue) × (reply ≡ end w)) ⊎ (allowed n ≤ length passed)
  last : (w : PlaceValue) → reply ≡ end w → later ≡ []

keeps_step : {n : ℕ} {from : List Row} {reply : Reply Row (Place Row)} (p : Problem) (v : PlaceValue)
    → 0 < n → Keeps (λ r. solves p r ≡ true) n from reply → Step p v n from (reply_value reply)
keeps_step {n = n} p v h (finds skipped r later a e l) =
    record {
      passed = skipped ++ (r ∷ []);
      later = later;
      splits = sym (append_snoc skipped r later);
      next = refl;
      gives =
          ap (map row_value)
          (keep_after (solves p) skipped (r ∷ later) a ∙ choose_true (r ∷ keep (solves p) later) (keep (solves p) later) e);
      moves = inr (omega (arith, allowed_one n, length-append skipped (r ∷ [])));
      last = λ w q. never (cc);
    }
keeps_step p v h (ends from a l) =
    record {
      passed = from;
      later = [];
      splits = sym (append-nil from);
      next = refl;
      gives = ap (map row_value) (ap (keep (solves p)) (sym (append-nil from)) ∙ keep_after (solves p) from [] a);
      moves = inl (place_value past, refl);
      last = λ w q. refl;
    }
keeps_step {n = n} p v h (pauses passed r later a l) =
    record {
      passed = passed;
      later = r ∷ later;
      splits = refl;
      next = refl;
      gives = ap (map row_value) (keep_after (solves p) passed (r ∷ later) a);
      moves = inr (omega (arith, allowed_one n));
      last = λ w q. never (cc);
    }

-- A refusal leaves all as it was
still_step : (p : Problem) (from : List Row) (r : ℕ) → Step p (place_value (place_of from)) 0 from (refused_call r)
still_step p from r =
    record { passed = []; later = from; splits = refl; next = refl; gives = refl; moves = inr (omega arith); last = λ w q. never (cc) }

-- Lists of calls
module _ {R P : Type 0} where
  pub end_here : {c : Call R P} {cs : List (Call R P)} (w : P) → c.reply ≡ end w → HasEnd (c ∷ cs)
  end_here {c} w e = record { call = c; is_in = Memᴰ.head refl; place = w; is_end = e }

  pub end_later : {c : Call R P} {cs : List (Call R P)} → HasEnd cs → HasEnd (c ∷ cs)
  end_later h = record { call = h.call; is_in = Memᴰ.tail h.is_in; place = h.place; is_end = h.is_end }

  pub which_end : {c : Call R P} {cs : List (Call R P)} → HasEnd (c ∷ cs) → ((w : P) × (c.reply ≡ end w)) ⊎ HasEnd cs
  which_end {c} {cs} h = ⊎_elim here there (Memᴰ.cases_cons h.is_in)
    where
      here : h.call ≡ c → ((w : P) × (c.reply ≡ end w)) ⊎ HasEnd cs
      here e = inl (h.place, ap (λ (x : Call R P). x.reply) (sym e) ∙ h.is_end)

      there : h.call ∈ cs → ((w : P) × (c.reply ≡ end w)) ⊎ HasEnd cs
      there m = inr (record { call = h.call; is_in = m; place = h.place; is_end = h.is_end })

  pub no_end : HasEnd {R = R} {P = P} [] → ⊥
  no_end h = Memᴰ.not-nil h.is_in

record Owes (full : List PlaceValue) (count : ℕ) (cs : List HostCall) : Type 0 where
  prefix : founds cs ≡ take (length (founds cs)) full
  whole : HasEnd cs → founds cs ≡ full
  ends : count < positive cs → HasEnd cs

-- Where no row is left nothing more is found
none_left : (p : Problem) (later : List Row) (cs : List HostCall)
    → later ≡ [] → Owes (map row_value (keep (solves p) later)) (length later) cs → founds cs ≡ map row_value (keep (solves p) later)
none_left p [] cs e t = t.prefix ∙ take-nil (length (founds cs))
none_left p (x ∷ xs) cs e t = never (cc)

-- From the rows that a call leaves back to those that it had
add_call : {v : PlaceValue} {from : List Row} (p : Problem) (c : HostCall) (cs : List HostCall)
    → (s : Step p v c.allowance from c.reply)
    → Owes (map row_value (keep (solves p) s.later)) (length s.later) cs
    → Owes (map row_value (keep (solves p) from)) (length from) (c ∷ cs)
add_call p c cs s t =
    record {
      prefix = rw s.gives (append_first (found_in c.reply) (founds cs) (map row_value (keep (solves p) s.later)) t.prefix);
      whole =
          λ h.
          ap (λ (l : List PlaceValue). found_in c.reply ++ l)
          (⊎_elim (λ x. none_left p s.later cs (s.last x.0 x.1) t) t.whole (which_end h)) ∙ sym s.gives;
      ends =
          λ h.
          ⊎_elim
          (λ x. end_here x.0 x.1)
          (λ m. end_later (t.ends (omega (arith, ap length s.splits, length-append s.passed s.later))))
          s.moves;
    }

module _ (p : Problem) (accepted : Accepted p) where
  -- The promise of a call by the test of a row
  tested : {n : ℕ} {reply : Reply Row (Place Row)} (before from : List Row) → rows p ≡ before ++ from
      → Keeps (SolutionRow p) n from reply → Keeps (λ r. solves p r ≡ true) n from reply
  tested before from w k =
      keeps_same
      (λ r m. let right = solves_is_right p r (accepted_proper p accepted) (subst (λ (rs : List Row). r ∈ rs) (sym w) (Memᴰ.append_right before m)) in
      (right.1, right.0))
      k

  -- The step of a call at the place that the rows left begin with
  step : (n : ℕ) {reply : HostReply} (before from : List Row) → rows p ≡ before ++ from
      → SearchOn p (place_value (place_of from)) n reply → Step p (place_value (place_of from)) n from reply
  step zero before from w k =
      subst (Step p (place_value (place_of from)) 0 from) (sym (when_zero p (place_value (place_of from)) 0 refl k)) (still_step p from 15)
  step (suc n) before from w k =
      let f : From (rows p) (place_of from) from = record { before = before; whole = w; begins = refl } in
      let m : Names p (place_value (place_of from)) (place_of from) =
      record { is_place = from_place p (place_of from) from f; is_value = refl } in
      let (reply, keeps, is) = when_placed p (place_value (place_of from)) (suc n) (place_of from) from accepted (omega arith) m f k in
      subst (Step p (place_value (place_of from)) (suc n) from) (sym is)
      (keeps_step p (place_value (place_of from)) (omega arith) (tested before from w keeps))

  -- The third demand of the rows from any place on
  run_from : (before from : List Row) (cs : List HostCall) → rows p ≡ before ++ from
      → Run (SearchOn p) (place_value (place_of from)) cs → Owes (map row_value (keep (solves p) from)) (length from) cs
  run_from before from [] w r = record { prefix = refl; whole = λ h. absurd (no_end h); ends = λ h. absurd (omega arith) }
  run_from before from (c ∷ cs) w r =
      let one = step c.allowance before from w r.0 in
      let on : rows p ≡ (before ++ one.passed) ++ one.later =
      w ∙ ap (λ (l : List Row). before ++ l) one.splits ∙ sym (append_assoc before one.passed one.later) in
      add_call p c cs one
      (run_from (before ++ one.passed) one.later cs on (subst (λ (v : PlaceValue). Run (SearchOn p) v cs) one.next r.1))

kept_run : {R P : Type 0} (answers : P → ℕ → Reply R P → Type 0) (place : P) (cs : List (KeptCall R P))
    → Kept answers place cs → Run answers place (calls_of cs)
kept_run answers place [] k = tt
kept_run {R} {P} answers place (c ∷ cs) k =
    (k.0, subst (λ (next : P). Run answers next (calls_of cs)) k.1 (kept_run answers c.holds cs k.2))

-- The rows of the full list are the solution rows
full_rows : (p : Problem) → map given_row (full_list p) ≡ map row_value (keep (solves p) (rows p))
unfolding full_list solution_rows
full_rows p = map-map given_row (λ (r : Row). (r, candidate p r)) (keep (solves p) (rows p))

-- THE THIRD DEMAND, of calls on an accepted problem
pub accepted_third_demand : (p : Problem) (cs : List HostCall) → Accepted p → Run (SearchOn p) (place_value (start p)) cs → ThirdDemandOf p cs
accepted_third_demand p cs a r =
    let o = run_from p a [] (rows p) cs refl r in
    record {
      rows = rows p;
      are_rows = all_rows_lem p;
      full = full_list p;
      is_full = full_list_is p (accepted_proper p a);
      prefix =
          o.prefix ∙ ap (take (length (founds cs))) (sym (full_rows p)) ∙ sym (map_take given_row (length (founds cs)) (full_list p));
      whole = λ h. o.whole h ∙ sym (full_rows p);
      ends = o.ends;
    }

-- ... where the caller carries the place
pub run_on : (s : Bytes) (p : Problem) (v : PlaceValue) (cs : List HostCall) → accept s ≡ got p → Run (SearchCall s) v cs → Run (SearchOn p) v cs
run_on s p v [] e r = tt
run_on s p v (c ∷ cs) e r = (search_on p e r.0, run_on s p (left v c.reply) cs e r.1)

pub on_run : (s : Bytes) (p : Problem) (v : PlaceValue) (cs : List HostCall) → accept s ≡ got p → Run (SearchOn p) v cs → Run (SearchCall s) v cs
on_run s p v [] e r = tt
on_run s p v (c ∷ cs) e r = (on_accepted p e r.0, on_run s p (left v c.reply) cs e r.1)

pub third_demand : (s : Bytes) (p : Problem) (cs : List HostCall) → All Byte s → Carried s p cs → ThirdDemandOf p cs
third_demand s p cs b c =
    accepted_third_demand p cs (accept_accepted s p b c.accepted).0 (run_on s p (place_value (start p)) cs c.accepted c.run)

-- ... where the open search keeps it
pub kept_third_demand : (s : Bytes) (p : Problem) (cs : List (KeptCall PlaceValue PlaceValue))
    → All Byte s → Held s p cs → ThirdDemandOf p (calls_of cs)
kept_third_demand s p cs b k =
    third_demand s p (calls_of cs) b (record { accepted = k.accepted; run = kept_run (SearchCall s) (place_value (start p)) cs k.kept })

-- NOTHING IS VACUOUS: whatever the allowances, there is a list of calls with them
some_run : (s : Bytes) (v : PlaceValue) (ns : List ℕ) → All Byte s
    → (cs : List HostCall) × (map (λ c. c.allowance) cs ≡ ns) × Run (SearchCall s) v cs
some_run s v [] b = ([], refl, tt)
some_run s v (n ∷ ns) b =
    let r = some_reply s v n b in
    let rest = some_run s (left v r.0) ns b in
    (record { allowance = n; reply = r.0 } ∷ rest.0, ap (λ (l : List ℕ). n ∷ l) rest.1, (r.1, rest.2))

run_kept : (s : Bytes) (v : PlaceValue) (cs : List HostCall) → Run (SearchCall s) v cs
    → (ks : List (KeptCall PlaceValue PlaceValue)) × (calls_of ks ≡ cs) × Kept (SearchCall s) v ks
run_kept s v [] r = ([], refl, tt)
run_kept s v (c ∷ cs) r =
    let rest = run_kept s (left v c.reply) cs r.1 in
    (record { call = c; holds = left v c.reply } ∷ rest.0, ap (λ (l : List HostCall). c ∷ l) rest.1, (r.0, refl, rest.2))

pub calls_exist : (s : Bytes) (p : Problem) (ns : List ℕ) → All Byte s → accept s ≡ got p
    → (cs : List HostCall) × (map (λ c. c.allowance) cs ≡ ns) × Carried s p cs
calls_exist s p ns b e =
    let r = some_run s (place_value (start p)) ns b in
    (r.0, r.1, record { accepted = e; run = r.2 })

pub kept_calls_exist : (s : Bytes) (p : Problem) (ns : List ℕ) → All Byte s → accept s ≡ got p
    → (cs : List (KeptCall PlaceValue PlaceValue)) × (map (λ c. c.allowance) (calls_of cs) ≡ ns) × Held s p cs
kept_calls_exist s p ns b e =
    let r = some_run s (place_value (start p)) ns b in
    let k = run_kept s (place_value (start p)) r.0 r.2 in
    (k.0, ap (map (λ (c : HostCall). c.allowance)) k.1 ∙ r.1, record { accepted = e; kept = k.2 })

-- The laws of a list of calls, one call after the other.
use mathlib.Core.Path.{◌≡◌, refl, ap, sym, ◌∙◌, subst}
use mathlib.Core.Logic.{◌⊎◌, inl, inr, ⊎_elim}
use mathlib.Core.Bool.{false, false≢true}
use mathlib.Core.List.Memᴰ
use mathlib.Core.List.{List, [], ◌∷◌, ◌++◌, map-append, append_assoc, append-nil}
use Prim.Native.Nat.{ℕ, suc, ◌+◌, ◌*◌, ◌<◌, ◌≤◌}
use native.Mathlib.Omega.{arith}
use lib.ListN.{length, take, get_or, length-append, length-map}
use lib.Seq.{take-suc, take_all}
use Rattle.meaning.specs.Limits.{max_functions}
use Rattle.meaning.specs.Basics.{Bytes, All, ◌∈◌, Byte}
use Rattle.meaning.specs.Problem.{Problem}
use Rattle.meaning.specs.Read.{Answer, after, refused, got}
use Rattle.meaning.specs.Accept.{accept}
use Rattle.meaning.specs.Search.{start, found, end, paused, refused_call}
use Rattle.meaning.specs.PlaceValue.{PlaceValue, place_value}
use Rattle.meaning.specs.Entry.{HostReply, start_call, SearchCall}
use Rattle.meaning.specs.Calls.{left, Run, HostCall, Carried, found_in, founds, HasEnd}
use Rattle.meaning.proofs.Lists.{never, each_append}
use Rattle.meaning.proofs.CallLaws.{third_demand}
use Rattle.masks.specs.Sets.{masks_in}
use Rattle.masks.specs.declared.NodeSet.{NodeSet}
use Rattle.places.specs.Places.{value_of, Starts}
use Rattle.places.specs.declared.Place.{Place}
use Rattle.std.specs.Prelude.{Ok, Err}
use Rattle.refusal.specs.Number.{number}
use Rattle.refusal.specs.declared.Refusal.{Refusal}
use Rattle.search.specs.Calling.{reply_with, host_reply, Answers}
use Rattle.seeking.specs.declared.Answer as code
use Rattle.seeking.specs.declared.Answer.TheVariants as answers
use Rattle.seeking.specs.declared.Searched.{Searched}
use Rattle.words.specs.Storing.{PutRow}
use Rattle.words.specs.Words.{row_words}
use Rattle.words.proofs.WordLaws.{more_put}
use Rattle.calls.specs.Running.{words_of_row, words_of_rows, left_by, IsEnd, Called, FromPlace, Demanded, Runs}
use Rattle.calls.specs.declared.Progress.{Progress}
use Rattle.calls.specs.declared.Ran.{Ran}

-- A call that finds a row
module _ (s : Bytes) (at : Progress) (n : ℕ) (before : List ℕ) (searched : Searched) (h : Answers s at.place n (Ok searched)) (r : Progress)
    (place : r.place ≡ searched.place) where
  pub call_found : (row : List NodeSet) (now : List ℕ) → searched.answer ≡ answers.Found row
      → PutRow (row_words * at.found) (masks_in row) before now → r.found ≡ at.found + 1 → r.ended ≡ at.ended → Called s at n before now r
  unfolding max_functions
  call_found row now e put count flag =
      let reply : HostReply = host_reply (Ok searched) in
      let q : reply ≡ reply_with (answers.Found row) (value_of searched.place) =
      ap (λ (x : code.Answer). reply_with x (value_of searched.place)) e in
      let one : found_in reply ≡ record { masks = masks_in row; is_past = false } ∷ [] = ap found_in q in
      let far : row_words * at.found + row_words ≡ row_words * r.found = omega (arith, count) in
      record {
        reply = reply;
        call = h.call;
        leaves = ap value_of place ∙ h.leaves;
        found = rw one count;
        ended = (λ t. inl (sym flag ∙ t), ⊎_elim (λ t. flag ∙ t) (λ t. never (let z = sym q ∙ t.1 in cc)));
        long = rw (one, append-nil (words_of_row (masks_in row))) (omega (arith, put.long));
        rows = rw (one, append-nil (words_of_row (masks_in row)), sym far) put.put;
      }

-- One call more at the end of a list of calls
run_more : (answers : PlaceValue → ℕ → HostReply → Type 0) (v : PlaceValue) (cs : List HostCall) (c : HostCall) → Run answers v cs
    → answers (left_by v cs) c.allowance c.reply → Run answers v (cs ++ (c ∷ []))
run_more answers v [] c r a = (a, tt)
run_more answers v (x ∷ cs) c r a = (r.0, run_more answers (left v x.reply) cs c r.1 a)

left_more : (v : PlaceValue) (cs : List HostCall) (c : HostCall) → left_by v (cs ++ (c ∷ [])) ≡ left (left_by v cs) c.reply
left_more v [] c = refl
left_more v (x ∷ cs) c = left_more (left v x.reply) cs c

founds_more : (cs : List HostCall) (c : HostCall) → founds (cs ++ (c ∷ [])) ≡ founds cs ++ found_in c.reply
founds_more [] c = append-nil (found_in c.reply)
founds_more (x ∷ cs) c =
    ap (λ (l : List PlaceValue). found_in x.reply ++ l) (founds_more cs c)
    ∙ sym (append_assoc (found_in x.reply) (founds cs) (found_in c.reply))

end_before : (cs : List HostCall) (c : HostCall) → HasEnd cs → HasEnd (cs ++ (c ∷ []))
end_before cs c h = record { call = h.call; is_in = Memᴰ.append_left (c ∷ []) h.is_in; place = h.place; is_end = h.is_end }

end_last : (cs : List HostCall) (c : HostCall) → IsEnd c.reply → HasEnd (cs ++ (c ∷ []))
end_last cs c h = record { call = c; is_in = Memᴰ.append_right cs (Memᴰ.head refl); place = h.0; is_end = h.1 }

end_more : (cs : List HostCall) (c : HostCall) → HasEnd (cs ++ (c ∷ [])) → HasEnd cs ⊎ IsEnd c.reply
end_more cs c h =
    ⊎_elim early (λ m. ⊎_elim last (λ z. absurd (Memᴰ.not-nil z)) (Memᴰ.cases_cons m)) (Memᴰ.append_cases cs h.is_in)
  where
    early : h.call ∈ cs → HasEnd cs ⊎ IsEnd c.reply
    early m = inl (record { call = h.call; is_in = m; place = h.place; is_end = h.is_end })

    last : h.call ≡ c → HasEnd cs ⊎ IsEnd c.reply
    last e = inr (h.place, ap (λ (x : HostCall). x.reply) (sym e) ∙ h.is_end)

-- A call finds one row at most
found_few : (reply : HostReply) → length (found_in reply) ≤ 1
found_few (found r next) = omega arith
found_few (end next) = omega arith
found_few (paused next) = omega arith
found_few (refused_call r) = omega arith

founds_few : (cs : List HostCall) → length (founds cs) ≤ length cs
founds_few [] = omega arith
founds_few (c ∷ cs) = omega (arith, length-append (found_in c.reply) (founds cs), found_few c.reply, founds_few cs)

-- The calls of `from_place`
pub no_calls : (s : Bytes) (at : Progress) (before : List ℕ) → at.found ≡ 0 → at.ended ≡ false
    → FromPlace s at.place [] before before at
unfolding max_functions
no_calls s at before e f =
    record {
      calls = [];
      allowances = refl;
      run = tt;
      leaves = refl;
      found = e;
      ended = (λ t. absurd (false≢true (sym f ∙ t)), λ h. absurd (Memᴰ.not-nil h.is_in));
      long = omega arith;
      rows = rw e refl;
    }

module _ (s : Bytes) (place : Place) (ns before mid : List ℕ) (at : Progress) (h : FromPlace s place ns before mid at) where
  pub few_found : at.found ≤ length ns
  few_found =
      omega (arith, h.found, founds_few h.calls, ap length h.allowances, length-map h.calls (λ (c : HostCall). c.allowance))

  one_call_more : (n : ℕ) (now : List ℕ) (r : Progress) → Called s at n mid now r → FromPlace s place (ns ++ (n ∷ [])) before now r
  unfolding max_functions
  one_call_more n now r k =
      let cs = h.calls in
      let c : HostCall = record { allowance = n; reply = k.reply } in
      let F : List ℕ = words_of_rows (founds cs) in
      let M : List ℕ = words_of_rows (found_in k.reply) in
      let more : founds (cs ++ (c ∷ [])) ≡ founds cs ++ found_in k.reply = founds_more cs c in
      record {
        calls = cs ++ (c ∷ []);
        allowances = map-append (λ (x : HostCall). x.allowance) cs (c ∷ []) ∙ ap (λ (l : List ℕ). l ++ (n ∷ [])) h.allowances;
        run =
            run_more (SearchCall s) (value_of place) cs c h.run
            (subst (λ (v : PlaceValue). SearchCall s v n k.reply) h.leaves k.call);
        leaves =
            k.leaves ∙ ap (λ (v : PlaceValue). left v k.reply) h.leaves ∙ sym (left_more (value_of place) cs c);
        found = rw more (omega (arith, k.found, h.found, length-append (founds cs) (found_in k.reply)));
        ended = (
          λ t. ⊎_elim (λ x. end_before cs c (h.ended.0 x)) (end_last cs c) (k.ended.0 t),
          λ x. k.ended.1 (⊎_elim (λ y. inl (h.ended.1 y)) inr (end_more cs c x)),
        );
        long =
            rw (more, each_append (λ (v : PlaceValue). words_of_row v.masks) (founds cs) (found_in k.reply))
            (omega (arith, length-append F M, h.long, k.long, length-append (founds cs) (found_in k.reply)));
        rows =
            rw (more, each_append (λ (v : PlaceValue). words_of_row v.masks) (founds cs) (found_in k.reply))
            (more_put F M before mid now (row_words * at.found) (row_words * length (found_in k.reply)) (row_words * r.found)
            (omega (arith, h.long, h.found)) (omega (arith, k.found)) h.rows k.rows);
      }

-- ... for the allowances so far
module _ (s : Bytes) (place : Place) (ns before mid : List ℕ) (i : ℕ) (at : Progress)
    (h : FromPlace s place (take i ns) before mid at) where
  pub next_call : (now : List ℕ) (r : Progress) → i < length ns → Called s at (get_or ns i 0) mid now r
      → FromPlace s place (take (i + 1) ns) before now r
  next_call now r l k =
      let one : i + 1 ≡ suc i = omega arith in
      let more : take (i + 1) ns ≡ take i ns ++ (get_or ns i 0 ∷ []) = ap (λ (n : ℕ). take n ns) one ∙ take-suc ns i 0 l in
      rw more (one_call_more s place (take i ns) before mid at h (get_or ns i 0) now r k)

  pub all_calls : length ns ≤ i → FromPlace s place ns before mid at
  all_calls l = subst (λ (x : List ℕ). FromPlace s place x before mid at) (take_all i ns l) h

-- The answers of `run`
module _ (s : Bytes) (ns before : List ℕ) where
  pub run_refused : (e : Refusal) → Starts (start_call s) (Err e) → Runs (accept s) s ns before before (Err e)
  unfolding start_call Runs
  run_refused e h = (refused_as (accept s) h, refl)
    where
      refused_as : (a : Answer Problem) → after a (λ p. got (place_value (start p))) ≡ refused (number e) → a ≡ refused (number e)
      refused_as (refused n) h = let z : n ≡ number e = cc in ap {B = Answer Problem} refused z
      refused_as (got p) h = never (cc)

  module _ (now : List ℕ) (place : Place) (at : Progress) (bytes : All Byte s) (r : Ran) (count : r.found ≡ at.found)
      (flag : r.ended ≡ at.ended) (k : FromPlace s place ns before now at) where
    pub run_begins : Starts (start_call s) (Ok place) → Runs (accept s) s ns before now (Ok r)
    unfolding start_call Runs
    run_begins h = begins_as (accept s) refl h
      where
        begins_as : (a : Answer Problem) → accept s ≡ a → after a (λ p. got (place_value (start p))) ≡ got (value_of place)
            → (p : Problem) × (accept s ≡ got p) × Demanded s p ns before now r
        begins_as (refused n) accepted h = never (cc)
        begins_as (got p) accepted h =
            let v : value_of place ≡ place_value (start p) = cc in
            let run = subst (λ (v : PlaceValue). Run (SearchCall s) v k.calls) v k.run in
            let carried : Carried s p k.calls = record { accepted = accepted; run = run } in (
              p,
              accepted,
              record {
                calls = k.calls;
                allowances = k.allowances;
                carried = carried;
                demand = third_demand s p k.calls bytes carried;
                found = count ∙ k.found;
                ended = (λ t. k.ended.0 (sym flag ∙ t), λ x. flag ∙ k.ended.1 x);
                rows = rw count k.rows;
              },
            )

-- Lists of calls of `search`, and of `search_open` and `search_owned`, are document 01's: the same rows found, an End in both or in neither, the same allowances.
use mathlib.Core.Path.{◌≡◌, refl, ap, ap₂, sym, ◌∙◌, subst}
use mathlib.Core.Logic.{◌↔◌, inl, inr}
use mathlib.Core.List.{List, [], ◌∷◌, ◌++◌, map, map-append}
use Prim.Native.Nat.{ℕ, ◌+◌}
use Rattle.std.proofs.Common.{Result, Ok, Err}
use Rattle.meaning.specs.Basics.{Bytes}
use Rattle.meaning.specs.Search.{end}
use Rattle.meaning.specs.PlaceValue.{PlaceValue}
use Rattle.meaning.specs.Entry.{SearchCall}
use Rattle.meaning.specs.Calls.{HasEnd, HostCall, Run, allowed, found_in, founds, positive}
use Rattle.meaning.proofs.Lists.{map_mem, mem_map, never}
use Rattle.places.specs.Places.{value_of}
use Rattle.places.specs.declared.Place.{Place}
use Rattle.refusal.specs.declared.Refusal.{Refusal}
use Rattle.search.specs.Calling.{Answers, host_reply, place_left, reply_with}
use Rattle.seeking.specs.declared.Answer.{Answer}
use Rattle.seeking.specs.declared.Answer.TheVariants as answers
use Rattle.seeking.specs.declared.Searched.{Searched}
use Rattle.matcher.specs.Opened.{OpenAnswers}
use Rattle.matcher.specs.declared.OpenSearch.{OpenSearch}
use Rattle.promises.specs.Lists.{AnsweredEnd, CarriedCall, CarriedEnd, CarriedRun, KeptCall, KeptCalled, KeptRun, carried_allowed}
use Rattle.promises.specs.Lists.{carried_found, kept_calls, row_found, row_in}

abbrev pub call_of : CarriedCall → HostCall
call_of c = record { allowance = c.allowance; reply = host_reply c.gave }

pub carried_run : (s : Bytes) (place : Place) (cs : List CarriedCall) → CarriedRun s place cs
    → Run (SearchCall s) (value_of place) (map call_of cs)
carried_run s place [] r = tt
carried_run s place (c ∷ cs) r =
    let h : Answers s place c.allowance c.gave = r.0.1 in
    (h.call, subst (λ (v : PlaceValue). Run (SearchCall s) v (map call_of cs)) h.leaves (carried_run s (place_left place c.gave) cs r.1))

kept_call : {s : Bytes} {kept : OpenSearch} {c : KeptCall} → KeptCalled s kept c
    → OpenAnswers s kept.place c.allowance c.leaves.place c.answer
kept_call (inl lent) = lent
kept_call (inr handed) = handed.1

pub kept_run : (s : Bytes) (kept : OpenSearch) (cs : List KeptCall) → KeptRun s kept cs
    → Run (SearchCall s) (value_of kept.place) (map call_of (kept_calls cs))
kept_run s kept [] r = tt
kept_run s kept (c ∷ cs) r =
    let h : OpenAnswers s kept.place c.allowance c.leaves.place c.answer = kept_call r.0 in
    (h.call, subst (λ (v : PlaceValue). Run (SearchCall s) v (map call_of (kept_calls cs))) h.leaves (kept_run s c.leaves cs r.1))

-- The rows of the Founds
found_row : (a : Answer) (v : PlaceValue) → found_in (reply_with a v) ≡ map value_of (row_in a)
found_row (answers.Found row) v = refl
found_row answers.End v = refl
found_row answers.Paused v = refl

found_by : (r : Result Searched Refusal) → found_in (host_reply r) ≡ map value_of (row_found r)
found_by (Ok r) = found_row r.answer (value_of r.place)
found_by (Err e) = refl

pub founds_carried : (cs : List CarriedCall) → founds (map call_of cs) ≡ map value_of (carried_found cs)
founds_carried [] = refl
founds_carried (c ∷ cs) =
    ap₂ {C = List PlaceValue} (λ xs ys. xs ++ ys) (found_by c.gave) (founds_carried cs)
    ∙ sym (map-append value_of (row_found c.gave) (carried_found cs))

pub allowed_carried : (cs : List CarriedCall) → positive (map call_of cs) ≡ carried_allowed cs
allowed_carried [] = refl
allowed_carried (c ∷ cs) = ap (λ (n : ℕ). allowed c.allowance + n) (allowed_carried cs)

-- An End
end_told : (r : Result Searched Refusal) → AnsweredEnd r → (v : PlaceValue) × (host_reply r ≡ end v)
end_told (Ok r) e = (value_of r.place, ap (λ (a : Answer). reply_with a (value_of r.place)) e)
end_told (Err e) h = absurd h

end_answer : (a : Answer) (v w : PlaceValue) → reply_with a v ≡ end w → a ≡ answers.End
end_answer (answers.Found row) v w e = never (cc)
end_answer answers.End v w e = refl
end_answer answers.Paused v w e = never (cc)

end_read : (r : Result Searched Refusal) (w : PlaceValue) → host_reply r ≡ end w → AnsweredEnd r
end_read (Ok r) w e = end_answer r.answer (value_of r.place) w e
end_read (Err x) w e = never (cc)

pub end_carried : (cs : List CarriedCall) → CarriedEnd cs ↔ HasEnd (map call_of cs)
end_carried cs = (forth, back)
  where
    forth : CarriedEnd cs → HasEnd (map call_of cs)
    forth (c, m, e) =
        let (v, is_end) = end_told c.gave e in
        record { call = call_of c; is_in = mem_map call_of m; place = v; is_end = is_end }

    back : HasEnd (map call_of cs) → CarriedEnd cs
    back h =
        let (c, m, e) = map_mem call_of h.call cs h.is_in in
        (c, m, end_read c.gave h.place (ap (λ (x : HostCall). x.reply) (sym e) ∙ h.is_end))

-- Agreement of demands: the test, one demand after the other, is right; and demands that hold of a filling agree.
use mathlib.Core.Path.{◌≡◌, refl, ap, sym, ◌∙◌, subst}
use mathlib.Core.Logic.{◌⊎◌, inl, inr, ⊎_elim, ◌↔◌}
use Prim.Native.Nat.{ℕ}
use mathlib.Core.Bool.{Bool, true, false}
use mathlib.Core.List.Memᴰ
use mathlib.Core.List.{List, [], ◌∷◌, ◌++◌, append_assoc, append-nil}
use mathlib.Core.Option.{Option, none, some}
use lib.Dec.{eqb, T}
use Rattle.meaning.specs.Basics.{choose, All, ◌∈◌, or_else}
use Rattle.meaning.specs.Term.{one, Term}
use Rattle.meaning.specs.Shift.{ClosedTerm}
use Rattle.meaning.specs.Filling.{value, Filling}
use Rattle.meaning.specs.Value.{Source, lookup}
use Rattle.meaning.specs.Same.{same_terms}
use Rattle.meaning.proofs.Lists.{never, T_true, true_T, and_T, T_and, choose_true, eqb_self, eqb_eq, all_mem}
use Rattle.meaning.proofs.ShiftLaws.{test_closed, closed_test}
use Rattle.meaning.proofs.Alike.{same_terms_eq, same_terms_refl}
use Rattle.meaning.proofs.Renaming.{one_injective}
use Rattle.meaning.proofs.Candidate.{lookup_is, lookup_none, lookup_cases}
use Rattle.demands.specs.Agreeing.{Agreeing, agrees_with, agree_after}
use Rattle.demands.proofs.Holding.{Holds}

-- Looking up in a list that goes on
pub lookup_append : (m : ℕ) (ks ds : List Source) → lookup m (ks ++ ds) ≡ or_else (lookup m ks) (lookup m ds)
lookup_append m [] ds = refl
lookup_append m (k ∷ ks) ds = go (eqb m k.number) (lookup_append m ks ds)
  where
    go : (t : Bool) → lookup m (ks ++ ds) ≡ or_else (lookup m ks) (lookup m ds)
        → choose t (some k) (lookup m (ks ++ ds)) ≡ or_else (choose t (some k) (lookup m ks)) (lookup m ds)
    go true ih = refl
    go false ih = ih

pub lookup_earlier : (m : ℕ) (ks ds : List Source) (s : Source) → lookup m ks ≡ some s → lookup m (ks ++ ds) ≡ some s
lookup_earlier m ks ds s e = lookup_append m ks ds ∙ ap (λ (o : Option Source). or_else o (lookup m ds)) e

pub lookup_later : (m : ℕ) (ks ds : List Source) → lookup m ks ≡ none → lookup m (ks ++ ds) ≡ lookup m ds
lookup_later m ks ds e = lookup_append m ks ds ∙ ap (λ (o : Option Source). or_else o (lookup m ds)) e

pub lookup_own : (d : Source) (ds : List Source) → lookup d.number (d ∷ ds) ≡ some d
lookup_own d ds = choose_true (some d) (lookup d.number ds) (eqb_self d.number)

pub lookup_only : (m : ℕ) (d s : Source) → lookup m (d ∷ []) ≡ some s → (s ≡ d) × (m ≡ d.number)
lookup_only m d s e = go (eqb m d.number) refl e
  where
    go : (t : Bool) → eqb m d.number ≡ t → choose t (some d) none ≡ some s → (s ≡ d) × (m ≡ d.number)
    go true q r = (cc, eqb_eq m d.number q)
    go false q r = never (cc)

-- What one test says
first_closed : (o : Option Source) (d : Source) → T (agrees_with o d) → o ≡ none → ClosedTerm d.term
first_closed none d t e = test_closed 0 (one d.term) t
first_closed (some s) d t e = never (cc)

later_same : (o : Option Source) (d s : Source) → T (agrees_with o d) → o ≡ some s → s.term ≡ d.term
later_same none d s t e = never (cc)
later_same (some k) d s t e =
    let q : s ≡ k = cc in
    ap (λ (x : Source). x.term) q ∙ one_injective k.term d.term (same_terms_eq (one k.term) (one d.term) t)

-- One demand more
module _ (ks : List Source) (d : Source) (a : Agreeing ks) (t : T (agrees_with (lookup d.number ks) d)) where
  abbrev FirstSame : Source → Type 0
  FirstSame e = (s : Source) × (lookup e.number (ks ++ (d ∷ [])) ≡ some s) × (s.term ≡ e.term)

  old_same : (e : Source) → e ∈ ks → FirstSame e
  old_same e q = let (s, l, w) = a.same e q in (s, lookup_earlier e.number ks (d ∷ []) s l, w)

  new_same : (lookup d.number ks ≡ none) ⊎ ((s : Source) × (lookup d.number ks ≡ some s)) → FirstSame d
  new_same (inl n) = (d, lookup_later d.number ks (d ∷ []) n ∙ lookup_own d [], refl)
  new_same (inr (s, e)) = (s, lookup_earlier d.number ks (d ∷ []) s e, later_same (lookup d.number ks) d s t e)

  more_closed : (m : ℕ) (s : Source) → lookup m (ks ++ (d ∷ [])) ≡ some s → (lookup m ks ≡ none) ⊎ ((k : Source) × (lookup m ks ≡ some k))
      → ClosedTerm s.term
  more_closed m s e (inl n) =
      let (own, number) = lookup_only m d s (sym (lookup_later m ks (d ∷ []) n) ∙ e) in
      subst (λ (x : Source). ClosedTerm x.term) (sym own)
      (first_closed (lookup d.number ks) d t (sym (ap (λ (x : ℕ). lookup x ks) number) ∙ n))
  more_closed m s e (inr (k, l)) =
      let w : some k ≡ some s = sym (lookup_earlier m ks (d ∷ []) k l) ∙ e in
      let q : k ≡ s = cc in
      a.closed m s (l ∙ ap some q)

  agreeing_more : Agreeing (ks ++ (d ∷ []))
  agreeing_more = record {
    same = λ e q.
        ⊎_elim (old_same e) (λ i. subst FirstSame (sym (Memᴰ.eq_of_singleton i)) (new_same (lookup_cases d.number ks)))
        (Memᴰ.append_cases ks q);
    closed = λ m s e. more_closed m s e (lookup_cases m ks);
  }

agreeing_test : (ks : List Source) (d : Source) (ds : List Source) → Agreeing (ks ++ (d ∷ ds)) → T (agrees_with (lookup d.number ks) d)
agreeing_test ks d ds a = go (lookup d.number ks) refl
  where
    go : (o : Option Source) → lookup d.number ks ≡ o → T (agrees_with o d)
    go none e = closed_test 0 (one d.term) (a.closed d.number d (lookup_later d.number ks (d ∷ ds) e ∙ lookup_own d ds))
    go (some s) e =
        let (k, l, w) = a.same d (Memᴰ.append_right ks (Memᴰ.head refl)) in
        let v : some k ≡ some s = sym l ∙ lookup_earlier d.number ks (d ∷ ds) s e in
        let q : s ≡ k = cc in
        subst (λ (t : Term). T (same_terms (one s.term) (one t))) (ap (λ (x : Source). x.term) q ∙ w) (same_terms_refl (one s.term))

agree_in : (ks ds : List Source) → Agreeing (ks ++ ds) → T (agree_after ks ds)
agree_in ks [] a = tt
agree_in ks (d ∷ ds) a =
    T_and (agrees_with (lookup d.number ks) d) (agree_after (ks ++ (d ∷ [])) ds) (agreeing_test ks d ds a)
    (agree_in (ks ++ (d ∷ [])) ds (subst Agreeing (sym (append_assoc ks (d ∷ []) ds)) a))

agree_out : (ks ds : List Source) → Agreeing ks → T (agree_after ks ds) → Agreeing (ks ++ ds)
agree_out ks [] a t = subst Agreeing (sym (append-nil ks)) a
agree_out ks (d ∷ ds) a t =
    let (here, later) = and_T (agrees_with (lookup d.number ks) d) (agree_after (ks ++ (d ∷ [])) ds) t in
    subst Agreeing (append_assoc ks (d ∷ []) ds) (agree_out (ks ++ (d ∷ [])) ds (agreeing_more ks d a here) later)

none_agreeing : Agreeing []
none_agreeing = record { same = λ d q. absurd (Memᴰ.not-nil q); closed = λ m s q. never (cc) }

-- THE TEST IS RIGHT
pub agreeing_tested : (ds : List Source) → Agreeing ds ↔ (agree_after [] ds ≡ true)
agreeing_tested ds = (λ a. T_true (agree_in [] ds a), λ e. agree_out [] ds none_agreeing (true_T e))

-- DEMANDS THAT HOLD of one filling agree, if they are closed
pub holding_agree : (σ : Filling) (ds : List Source) → All (Holds σ) ds → ((d : Source) → d ∈ ds → ClosedTerm d.term) → Agreeing ds
holding_agree σ ds h closed = record {
  same = λ d q. same d q (lookup_cases d.number ds);
  closed = λ m s e. closed s (lookup_is m ds s e).0;
}
  where
    same : (d : Source) → d ∈ ds → (lookup d.number ds ≡ none) ⊎ ((s : Source) × (lookup d.number ds ≡ some s))
        → (s : Source) × (lookup d.number ds ≡ some s) × (s.term ≡ d.term)
    same d q (inl n) = absurd (lookup_none d.number ds n (d, q, refl))
    same d q (inr (s, e)) =
        let (i, n) = lookup_is d.number ds s e in
        let v : value s.term ≡ value d.term = sym (all_mem (Holds σ) s ds h i) ∙ ap σ n ∙ all_mem (Holds σ) d ds h q in
        (s, e, cc)

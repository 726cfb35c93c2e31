-- One demand, face or application after the other: each step fits and its demands agree with those before, exactly where it leads on.
--   Step   what comes of some demands after those that gave the sources ks, where besides something has to fit
use mathlib.Core.Path.{◌≡◌, refl, ap, sym, ◌∙◌, subst}
use mathlib.Core.Bool.{Bool, true, false, ◌&&◌}
use mathlib.Core.List.{List, [], ◌∷◌, ◌++◌, append_assoc, append-nil}
use mathlib.Core.Option.{Option, none, some}
use Prim.Native.Nat.{ℕ}
use Rattle.meaning.specs.Basics.{and_then, guard, is_some, join}
use Rattle.meaning.specs.Value.{Source, lookup}
use Rattle.meaning.proofs.Lists.{never, T_true, true_T, and_T, T_and, is_some_lem}
use Rattle.demands.specs.Agreeing.{agrees_with, agree_after}
use Rattle.demands.proofs.Answers.{then_some, joined}
use Rattle.sources.specs.Demand.{Nodes}
use Rattle.sources.proofs.KeptMeaning.{Firsts, Told}

pub record Step (es : List ℕ) (o : Option Nodes) (ks : List Source) (fits : Type 0) (demands : Option (List Source)) : Type 0 where
  pub into : (kept : Nodes) → o ≡ some kept
      → fits × ((ds : List Source) × (demands ≡ some ds) × (agree_after ks ds ≡ true) × Firsts es kept (ks ++ ds))
  pub back : fits → (ds : List Source) → demands ≡ some ds → agree_after ks ds ≡ true → is_some o ≡ true

-- Agreement of demands after others
agree_append : (ks ds ds' : List Source) → agree_after ks (ds ++ ds') ≡ agree_after ks ds && agree_after (ks ++ ds) ds'
agree_append ks [] ds' = ap (λ (l : List Source). agree_after l ds') (sym (append-nil ks))
agree_append ks (d ∷ ds) ds' =
    ap (λ (b : Bool). agrees_with (lookup d.number ks) d && b)
    (agree_append (ks ++ (d ∷ [])) ds ds' ∙ ap (λ (l : List Source). agree_after (ks ++ (d ∷ [])) ds && agree_after l ds')
    (append_assoc ks (d ∷ []) ds))
    ∙ both (agrees_with (lookup d.number ks) d) (agree_after (ks ++ (d ∷ [])) ds) (agree_after (ks ++ (d ∷ ds)) ds')
  where
    both : (a b c : Bool) → a && (b && c) ≡ (a && b) && c
    both true b c = refl
    both false b c = refl

module _ (es : List ℕ) (ks : List Source) where
  -- Nothing is demanded
  pub step_nothing : (kept : Nodes) → Firsts es kept ks → Step es (some kept) ks (Unit {0}) (some [])
  step_nothing kept f = record {
    into = λ k e. (
      tt,
      (
        [],
        refl,
        refl,
        subst (λ (l : Nodes). Firsts es l (ks ++ [])) (let q : kept ≡ k = cc in q)
            (subst (Firsts es kept) (sym (append-nil ks)) f),
      ),
    );
    back = λ u ds e a. refl;
  }

  -- A walk that disagrees
  pub step_none : (fits : Type 0) → Step es none ks fits none
  step_none fits = record { into = λ k e. never (cc); back = λ u ds e a. never (cc) }

  -- Demands on the table
  pub step_told : (o : Option Nodes) (ss : List Source) → Told es o ks ss → Step es o ks (Unit {0}) (some ss)
  step_told o ss t = record {
    into = λ k e. (tt, (ss, refl, sym t.test ∙ ap is_some e, t.nodes k e));
    back = λ u ds e a. t.test ∙ ap (agree_after ks) (let q : ss ≡ ds = cc in q) ∙ a;
  }

  -- Something that has to fit besides
  pub step_guard : (b : Bool) (o : Option Nodes) (fits : Type 0) (demands : Option (List Source)) → (b ≡ true → fits) → (fits → b ≡ true)
      → (fits → Step es o ks (Unit {0}) demands) → Step es (guard b o) ks fits demands
  step_guard true o fits demands to from s = record {
    into = λ k e. (to refl, ((s (to refl)).into k e).1);
    back = λ u ds e a. (s u).back tt ds e a;
  }
  step_guard false o fits demands to from s = record { into = λ k e. never (cc); back = λ u ds e a. never (cc (from u)) }

  -- One step and then another
  pub step_then : (o : Option Nodes) (next : Nodes → Option Nodes) (fits fits' : Type 0) (demands demands' : Option (List Source))
      → Step es o ks fits demands
      → ((kept : Nodes) (ds : List Source) → Firsts es kept (ks ++ ds) → Step es (next kept) (ks ++ ds) fits' demands')
      → Step es (and_then o next) ks (fits × fits') (join demands demands')
  step_then o next fits fits' demands demands' s s' = record { into = into; back = back }
    where
      into : (kept : Nodes) → and_then o next ≡ some kept
          → (fits × fits') × ((ds : List Source) × (join demands demands' ≡ some ds) × (agree_after ks ds ≡ true) × Firsts es kept
          (ks ++ ds))
      into kept e =
          let (k, i, j) = then_some o next kept e in
          let (u, (ds, d, a, f)) = s.into k i in
          let (u', (ds', d', a', f')) = (s' k ds f).into kept j in (
            (u, u'),
            (
              ds ++ ds',
              ap (λ (x : Option (List Source)). join x demands') d ∙ ap (join (some ds)) d',
              agree_append ks ds ds' ∙ T_true (T_and (agree_after ks ds) (agree_after (ks ++ ds) ds') (true_T a) (true_T a')),
              subst (Firsts es kept) (append_assoc ks ds ds') f',
            ),
          )

      back : fits × fits' → (ds : List Source) → join demands demands' ≡ some ds → agree_after ks ds ≡ true → is_some (and_then o next) ≡ true
      back u zs e a =
          let (ds, ds', d, d', w) = joined demands demands' zs e in
          let (t, t') =
          and_T (agree_after ks ds) (agree_after (ks ++ ds) ds') (true_T (sym (agree_append ks ds ds') ∙ ap (agree_after ks) (sym w) ∙ a)) in
          let (k, i) = is_some_lem o (s.back u.0 ds d (T_true t)) in
          let (v, (es', d'', a'', f)) = s.into k i in
          let same : es' ≡ ds = let q : some es' ≡ some ds = sym d'' ∙ d in cc in
          ap (λ (x : Option Nodes). is_some (and_then x next)) i
          ∙ (s' k ds (subst (λ (l : List Source). Firsts es k (ks ++ l)) same f)).back u.1 ds' d' (T_true t')

  -- The same demands, and what fits said in another way
  pub step_as : (o : Option Nodes) (fits fits' : Type 0) (demands demands' : Option (List Source)) → (fits → fits') → (fits' → fits)
      → demands ≡ demands' → Step es o ks fits demands → Step es o ks fits' demands'
  step_as o fits fits' demands demands' to from e s = record {
    into = λ k q. let (u, (ds, d, a, f)) = s.into k q in (to u, (ds, sym e ∙ d, a, f));
    back = λ u ds d a. s.back (from u) ds (e ∙ d) a;
  }

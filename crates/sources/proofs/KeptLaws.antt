-- What the code of demands owes: the law of each return and of each turn of the loop.
use mathlib.Core.Path.{◌≡◌, refl, ap, sym, ◌∙◌, subst}
use mathlib.Core.Bool.{Bool, true, false}
use mathlib.Core.List.{List, [], ◌∷◌, ◌++◌}
use mathlib.Core.Option.{Option, none, some}
use Prim.Native.Nat.{ℕ, suc, ◌+◌, ◌<◌, ◌≤◌}
use native.Mathlib.Omega.{arith}
use lib.ListN.{length, drop, set, length-set, drop_of_length-le}
use lib.Seq.{drop-cons, get_or-set_same, get_or-set_other}
use lib.Dec.{eqb}
use borrow.Author.Tests.{eq-eqb, ne_eqb, eqb-false}
use Rattle.meaning.specs.Basics.{All, and_then, guard}
use Rattle.meaning.proofs.Lists.{never, eqb_eq, by_test}
use Rattle.tokens.specs.Token.{tag_in, payload_in}
use Rattle.tokens.specs.Key.{at}
use Rattle.numbers.specs.Tests.{Tests, told}
use Rattle.lockstep.specs.Walk.{pattern_node, expression_node}
use Rattle.std.specs.Prelude.{Some, None}
use Rattle.std.specs.Prelude as std
use Rattle.std.specs.Bool.{then_some}
use Rattle.std.proofs.lemmas.Option.{same_Some}
use Rattle.sources.specs.Demand.{Demand, Nodes, first_of, demand_at, demands_in, agrees_after, agrees_at, kept_beside, kept_with, kept_after}
use Rattle.sources.specs.Kept.{Kept, Askable, Demandable, sources_of, Answers}
use Rattle.sources.specs.declared.Sources.{Sources}

-- An answer that is a test and, where it holds, what is kept
answers_guard : (b : Bool) (kept : Nodes) → then_some b (record { nodes = kept }) ≡ sources_of (guard b (some kept))
answers_guard true kept = refl
answers_guard false kept = refl

-- One demand
module _ (q : Tests) (kept : Nodes) (d : Demand) (o : std.Option ℕ) (here : first_of kept d.0 ≡ o) where
  demand_agrees : agrees_at q kept d ≡ agrees_after q o d.1
  unfolding agrees_at
  demand_agrees = ap (λ (x : std.Option ℕ). agrees_after q x d.1) here

  demand_kept : kept_with kept d ≡ kept_beside o kept d
  unfolding kept_with
  demand_kept = ap (λ (x : std.Option ℕ). kept_beside x kept d) here

  pub answers_demand : (b : Bool) → b ≡ agrees_after q o d.1 → (r : std.Option Sources)
      → r ≡ then_some b (record { nodes = kept_beside o kept d }) → Answers (kept_after q kept (d ∷ [])) r
  unfolding kept_after
  answers_demand b e r is = rw (demand_agrees, ← e, demand_kept) (is ∙ answers_guard b (kept_beside o kept d))

answers_none : (q : Tests) (kept : Nodes) → Answers (kept_after q kept []) (Some (record { nodes = kept }))
unfolding kept_after
answers_none q kept = refl

-- The demand of a recorded face, by the parts of its slot's token
module _ (ps ns : List ℕ) (kept : Nodes) (n tag : ℕ) (is : tag ≡ tag_in (at ps (pattern_node n))) where
  pub face_none : (tag ≡ 5 → ⊥)
      → Answers (kept_after (told ns) kept (demand_at ps n)) (Some (record { nodes = kept }))
  unfolding demand_at
  face_none h = rw (← is, ne_eqb tag 5 h) (answers_none (told ns) kept)

  module _ (h : tag ≡ 5) (m : ℕ) (load : m ≡ payload_in (at ps (pattern_node n))) where
    face_demand : demand_at ps n ≡ (m, expression_node n) ∷ []
    unfolding demand_at
    face_demand = rw (← is, ← load, eq-eqb tag 5 h)

    pub face_asks : Demandable ps ns n → Askable ns (m, expression_node n)
    face_asks r = (subst (All (Askable ns)) face_demand r.asks).0

    pub face_one : (r : std.Option Sources) → Answers (kept_after (told ns) kept ((m, expression_node n) ∷ [])) r
        → Answers (kept_after (told ns) kept (demand_at ps n)) r
    face_one r a = subst (λ (ds : List Demand). Answers (kept_after (told ns) kept ds) r) (sym face_demand) a

-- Demands after others
pub kept_append : (q : Tests) (kept : Nodes) (ds ds' : List Demand)
    → kept_after q kept (ds ++ ds') ≡ and_then (kept_after q kept ds) (λ ns. kept_after q ns ds')
unfolding kept_after
kept_append q kept [] ds' = refl
kept_append q kept (d ∷ ds) ds' = go (agrees_at q kept d) (kept_append q (kept_with kept d) ds ds')
  where
    go : (b : Bool) → kept_after q (kept_with kept d) (ds ++ ds') ≡ and_then (kept_after q (kept_with kept d) ds) (λ ns. kept_after q ns ds')
        → guard b (kept_after q (kept_with kept d) (ds ++ ds')) ≡ and_then (guard b (kept_after q (kept_with kept d) ds))
        (λ ns. kept_after q ns ds')
    go true e = e
    go false e = refl

-- The nodes kept stay nodes of the table
module _ (ns : List ℕ) (kept : Nodes) (d : Demand) (k : Kept ns kept) (a : Askable ns d) where
  set_kept : Kept ns (set kept d.0 (Some d.1))
  set_kept =
      record {
        long = length-set kept d.0 (Some d.1) ∙ k.long;
        inside = λ m h node is.
            by_test (eqb m d.0)
            (λ t. let e : Some d.1 ≡ Some node = sym (same m (eqb_eq m d.0 t)) ∙ is in
            subst (λ (j : ℕ). j < length ns) (same_Some d.1 node e) a.inside)
            (λ t. k.inside m h node (sym (other m (eqb-false m d.0 t)) ∙ is));
      }
    where
      same : (m : ℕ) → m ≡ d.0 → first_of (set kept d.0 (Some d.1)) m ≡ Some d.1
      same m e =
          ap (first_of (set kept d.0 (Some d.1))) e
          ∙ get_or-set_same kept d.0 (Some d.1) None (subst (λ (n : ℕ). d.0 < n) (sym k.long) a.number)

      other : (m : ℕ) → (m ≡ d.0 → ⊥) → first_of (set kept d.0 (Some d.1)) m ≡ first_of kept m
      other m e = get_or-set_other kept d.0 m (Some d.1) None e

  kept_with_lem : Kept ns (kept_with kept d)
  unfolding kept_with
  kept_with_lem = go (first_of kept d.0)
    where
      go : (o : std.Option ℕ) → Kept ns (kept_beside o kept d)
      go None = set_kept
      go (Some first) = k

pub kept_stays : (q : Tests) (ns : List ℕ) (kept : Nodes) (ds : List Demand) (kept' : Nodes) → Kept ns kept → All (Askable ns) ds
    → kept_after q kept ds ≡ some kept' → Kept ns kept'
unfolding kept_after
kept_stays q ns kept [] kept' k a e = subst (Kept ns) (let i : kept ≡ kept' = cc in i) k
kept_stays q ns kept (d ∷ ds) kept' k a e =
    go (agrees_at q kept d) (kept_stays q ns (kept_with kept d) ds kept' (kept_with_lem ns kept d k a.0) a.1) e
  where
    go : (b : Bool) → (kept_after q (kept_with kept d) ds ≡ some kept' → Kept ns kept')
        → guard b (kept_after q (kept_with kept d) ds) ≡ some kept' → Kept ns kept'
    go true f x = f x
    go false f x = never (cc)

-- What an answer says
module _ (o : Option Nodes) (r : std.Option Sources) (a : Answers o r) where
  pub answer_some : (t : Sources) → r ≡ Some t → o ≡ some t.nodes
  answer_some t e = go o refl (sym e ∙ a)
    where
      go : (w : Option Nodes) → o ≡ w → Some t ≡ sources_of w → o ≡ some t.nodes
      go none q i = never (cc)
      go (some kept) q i = q ∙ ap (λ (u : Sources). some u.nodes) (sym (same_Some t (record { nodes = kept }) i))

  pub answer_none : r ≡ None → o ≡ none
  answer_none e = go o refl (sym e ∙ a)
    where
      go : (w : Option Nodes) → o ≡ w → None ≡ sources_of w → o ≡ none
      go none q i = q
      go (some kept) q i = never (cc)

-- The demands of the recorded faces from k on: what is kept so far leads where the demands from the start lead
pub record Going (ps ns faces : List ℕ) (end : Option Nodes) (k : ℕ) (kept : Nodes) : Type 0 where
  pub nodes : Kept ns kept
  pub reads : All (Demandable ps ns) (drop k faces)
  pub leads : kept_after (told ns) kept (demands_in ps (drop k faces)) ≡ end

module _ (ps ns faces : List ℕ) (end : Option Nodes) (k : ℕ) (kept : Nodes) (g : Going ps ns faces end k kept) where
  module _ (h : k < length faces) where
    rest : drop k faces ≡ at faces k ∷ drop (suc k) faces
    rest = drop-cons faces k 0 h

    both : All (Demandable ps ns) (at faces k ∷ drop (suc k) faces)
    both = subst (All (Demandable ps ns)) rest g.reads

    goes : and_then (kept_after (told ns) kept (demand_at ps (at faces k))) (λ ms. kept_after (told ns) ms (demands_in ps (drop (suc k) faces)))
        ≡ end
    goes =
        sym (kept_append (told ns) kept (demand_at ps (at faces k)) (demands_in ps (drop (suc k) faces)))
        ∙ sym (ap (λ (fs : List ℕ). kept_after (told ns) kept (demands_in ps fs)) rest) ∙ g.leads

    after : Option Nodes → Option Nodes
    after o = and_then o (λ ms. kept_after (told ns) ms (demands_in ps (drop (suc k) faces)))

    pub going_on : (next : Sources) → Answers (kept_after (told ns) kept (demand_at ps (at faces k))) (Some next)
        → Going ps ns faces end (k + 1) next.nodes
    unfolding after
    going_on next a =
        let q = answer_some (kept_after (told ns) kept (demand_at ps (at faces k))) (Some next) a next refl in
        let z : k + 1 ≡ suc k = omega arith in
        rw z
        (record {
          nodes = kept_stays (told ns) ns kept (demand_at ps (at faces k)) next.nodes g.nodes both.0.asks q;
          reads = both.1;
          leads = sym (ap after q) ∙ goes;
        })

    pub going_fails : Answers (kept_after (told ns) kept (demand_at ps (at faces k))) None → Answers end None
    unfolding after
    going_fails a =
        let q = answer_none (kept_after (told ns) kept (demand_at ps (at faces k))) None a refl in
        let w : none ≡ end = sym (ap after q) ∙ goes in
        ap sources_of w

  pub going_ends : length faces ≤ k → Answers end (Some (record { nodes = kept }))
  going_ends h =
      subst (λ (o : Option Nodes). Answers o (Some (record { nodes = kept })))
      (sym (ap (λ (fs : List ℕ). kept_after (told ns) kept (demands_in ps fs)) (drop_of_length-le faces h)) ∙ g.leads)
      (answers_none (told ns) kept)

-- What `demanded_at` and `all_demanded` cite
pub ruleset facing = (face_none, face_asks, face_one)

pub ruleset going = (going_fails, going_ends)

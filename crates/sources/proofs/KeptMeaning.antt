-- What demands on the table mean: they agree exactly when `demands` says so, and the nodes kept are those of the first of each
-- metavariable.
--   q        what is asked of the nodes, which says what the table does
--   MovedAt  what stands at a node is a term moved under more binders, which it does not use
--   Says     a demand on the table is a source
--   Firsts   the nodes kept are those of the first of each metavariable, and the terms there are closed
--   Told     what the demands ds, after those that gave the sources ks, lead to
use mathlib.Core.Path.{◌≡◌, refl, ap, ap₂, sym, ◌∙◌, subst}
use mathlib.Core.Logic.{◌↔◌, ◌⊎◌, inl, inr}
use mathlib.Core.Bool.{Bool, true, false, ◌&&◌, not, not-not}
use mathlib.Core.List.{List, [], ◌∷◌, ◌++◌, append_assoc, append-nil}
use mathlib.Core.Option.{Option, none, some}
use Prim.Native.Nat.{ℕ, ◌<◌}
use native.Mathlib.Omega.{arith}
use lib.ListN.{length, set, length-set}
use lib.Seq.{get_or-set_same, get_or-set_other}
use lib.Dec.{eqb, T}
use borrow.Author.Tests.{eqb-false}
use Rattle.meaning.specs.Limits.{metavariable_count}
use Rattle.meaning.specs.Basics.{guard, is_some, or_else}
use Rattle.meaning.specs.Term.{one, Term}
use Rattle.meaning.specs.Scope.{nameless_term}
use Rattle.meaning.specs.Shift.{shift, ClosedTerm}
use Rattle.meaning.specs.Lower.{lower}
use Rattle.meaning.specs.ClosedTest.{is_closed}
use Rattle.meaning.specs.Same.{same_terms}
use Rattle.meaning.specs.Value.{Source, lookup}
use Rattle.meaning.proofs.Lists.{never, T_true, true_T, eqb_eq, by_test, choose_false}
use Rattle.meaning.proofs.ShiftLaws.{lower_shift, shift_closed, test_closed, closed_test}
use Rattle.meaning.proofs.Nodes.{closed_more}
use Rattle.meaning.proofs.Renaming.{one_injective}
use Rattle.meaning.proofs.ViewLaws.{equal_closed, closed_equal}
use Rattle.meaning.proofs.Alike.{same_terms_eq, same_terms_refl}
use Rattle.meaning.proofs.Candidate.{lookup_cases}
use Rattle.demands.specs.Agreeing.{agrees_with, agree_after}
use Rattle.demands.proofs.Agreement.{lookup_append, lookup_earlier, lookup_later, lookup_own, lookup_only}
use Rattle.masks.proofs.Cases.{same_truth}
use Rattle.std.specs.Prelude.{Some, None}
use Rattle.std.specs.Prelude as std
use Rattle.tokens.specs.Key.{level_from, same_at, uses_at, closed_at}
use Rattle.tokens.proofs.KeyLaws.{closed_means, same_means}
use Rattle.numbers.specs.Tests.{Tests, closed_by, Tells}
use Rattle.faces.proofs.NodeTokens.{AtNode, node_inside}
use Rattle.sources.specs.Demand.{Demand, Nodes, first_of, agrees_after, agrees_at, kept_beside, kept_with, kept_after}

-- The tests on a table, of the terms at its nodes
module _ (table : List ℕ) (a : ℕ) (t : Term) (n : AtNode table a t) where
  node_closed : (closed_at table a ≡ true) ↔ ClosedTerm t
  node_closed =
      let m = closed_means n.levels n.context table a n.scope n.named n.held n.stands in
      (λ e. subst ClosedTerm (sym n.term) (m.0 e), λ c. m.1 (subst ClosedTerm n.term c))

  node_same : (b : ℕ) (u : Term) → AtNode table b u → ClosedTerm t → (same_at table a b ≡ true) ↔ (t ≡ u)
  node_same b u o c =
      let closed : ClosedTerm (nameless_term n.scope n.named) = subst ClosedTerm n.term c in
      let m =
      same_means n.levels o.levels n.context o.context table a b n.scope o.scope n.named o.named n.held o.held
      n.stands o.stands in
      let left = nameless_term n.scope n.named in
      let right = nameless_term o.scope o.named in (
        λ e. n.term ∙ closed_equal (level_from n.scope) (level_from o.scope) left right closed (m.0 e) ∙ sym o.term,
        λ e. let q : left ≡ right = sym n.term ∙ e ∙ o.term in
            m.1 ((equal_closed (level_from n.scope) (level_from o.scope) left right closed (subst ClosedTerm q closed)).1 q),
      )

-- A term that is moved under more binders and is closed before or after is not changed
module _ (more under : ℕ) (t whole : Term) (moved : shift more under (one t) ≡ one whole) where
  moved_closed : ClosedTerm t → t ≡ whole
  moved_closed c = one_injective t whole (sym (shift_closed more under (one t) (closed_more 0 under (one t) (omega arith) c)) ∙ moved)

  closed_moved : ClosedTerm whole → t ≡ whole
  closed_moved c =
      let still : shift more under (one whole) ≡ one whole =
      shift_closed more under (one whole) (closed_more 0 under (one whole) (omega arith) c) in
      let e : some (one t) ≡ some (one whole) =
      sym (lower_shift more under (one t)) ∙ ap (lower more under) (moved ∙ sym still) ∙ lower_shift more under (one whole) in
      one_injective t whole (cc)

pub record MovedAt (es : List ℕ) (j : ℕ) (t : Term) : Type 0 where
  pub whole : Term
  pub stands : AtNode es j whole
  pub more : ℕ
  pub under : ℕ
  pub moved : shift more under (one t) ≡ one whole

pub record Says (es : List ℕ) (d : Demand) (s : Source) : Type 0 where
  pub number : d.0 ≡ s.number
  pub small : s.number < metavariable_count
  pub node : d.1 ≡ s.node
  pub at : MovedAt es d.1 s.term

abbrev pub AllSay : List ℕ → List Demand → List Source → Type 0
AllSay es [] [] = Unit {0}
AllSay es [] (s ∷ ss) = ⊥
AllSay es (d ∷ ds) [] = ⊥
AllSay es (d ∷ ds) (s ∷ ss) = Says es d s × AllSay es ds ss

module _ (es : List ℕ) (d : Demand) (s : Source) (w : Says es d s) where
  pub said_inside : d.1 < length es
  said_inside = node_inside es d.1 w.at.whole w.at.stands

  said_closed : (closed_at es d.1 ≡ true) ↔ ClosedTerm s.term
  said_closed =
      let n = node_closed es d.1 w.at.whole w.at.stands in (
        λ e. subst ClosedTerm (sym (closed_moved w.at.more w.at.under s.term w.at.whole w.at.moved (n.0 e))) (n.0 e),
        λ c. n.1 (subst ClosedTerm (moved_closed w.at.more w.at.under s.term w.at.whole w.at.moved c) c),
      )

  said_same : (d' : Demand) (s' : Source) → Says es d' s' → ClosedTerm s.term → (same_at es d.1 d'.1 ≡ true) ↔ (s.term ≡ s'.term)
  said_same d' s' w' c =
      let own : s.term ≡ w.at.whole = moved_closed w.at.more w.at.under s.term w.at.whole w.at.moved c in
      let closed : ClosedTerm w.at.whole = subst ClosedTerm own c in
      let n = node_same es d.1 w.at.whole w.at.stands d'.1 w'.at.whole w'.at.stands closed in (
        λ e. own ∙ n.0 e ∙ sym (closed_moved w'.at.more w'.at.under s'.term w'.at.whole w'.at.moved
            (subst ClosedTerm (n.0 e) closed)),
        λ e. n.1 (sym own ∙ e ∙ moved_closed w'.at.more w'.at.under s'.term w'.at.whole w'.at.moved
            (subst ClosedTerm e c)),
      )

-- The node of a source that may be missing
abbrev pub node_of : Option Source → std.Option ℕ
node_of none = None
node_of (some s) = Some s.node

pub record Firsts (es : List ℕ) (kept : Nodes) (ks : List Source) : Type 0 where
  pub long : length kept ≡ metavariable_count
  pub nodes : (m : ℕ) → m < metavariable_count → first_of kept m ≡ node_of (lookup m ks)
  pub said : (m : ℕ) (s : Source) → lookup m ks ≡ some s → Says es (m, s.node) s × ClosedTerm s.term

-- What is asked of the nodes, as the table says it
module _ (es : List ℕ) (q : Tests) (tells : Tells es q) where
  told_closed : (a : ℕ) → a < length es → closed_by q a ≡ closed_at es a
  unfolding closed_at
  told_closed a h = ap not (tells.uses a 0 h)

  -- A node that is closed uses no binder outside it, whatever it is compared with
  told_same : (a b : ℕ) → a < length es → b < length es → closed_at es a ≡ true → q.same a b ≡ same_at es a b
  unfolding closed_at
  told_same a b h g c = tells.same 0 a b h g (λ y l r. omega arith) (sym (not-not (uses_at es a 0)) ∙ ap not c)

-- One demand more
module _ (es : List ℕ) (kept : Nodes) (ks : List Source) (f : Firsts es kept ks) (d : Demand) (s : Source)
    (w : Says es d s) where
  here : first_of kept d.0 ≡ node_of (lookup s.number ks)
  here = ap (first_of kept) w.number ∙ f.nodes s.number w.small

  open_here : lookup s.number ks ≡ none → first_of kept d.0 ≡ None
  open_here e = here ∙ ap node_of e

  kept_here : (k : Source) → lookup s.number ks ≡ some k → first_of kept d.0 ≡ Some k.node
  kept_here k e = here ∙ ap node_of e

  test_said : (q : Tests) → Tells es q → (o : Option Source) → lookup s.number ks ≡ o → agrees_at q kept d ≡ agrees_with o s
  unfolding agrees_at
  test_said q tells none e =
      let c = said_closed es d s w in
      ap (λ (o : std.Option ℕ). agrees_after q o d.1) (open_here e)
      ∙ told_closed es q tells d.1 (said_inside es d s w)
      ∙ same_truth (closed_at es d.1) (is_closed 0 (one s.term))
      (λ t. T_true (closed_test 0 (one s.term) (c.0 t))) (λ t. c.1 (test_closed 0 (one s.term) (true_T t)))
  test_said q tells (some k) e =
      let (v, c) = f.said s.number k e in
      let n = said_same es (s.number, k.node) k v d s w c in
      ap (λ (o : std.Option ℕ). agrees_after q o d.1) (kept_here k e)
      ∙ told_same es q tells k.node d.1 (said_inside es (s.number, k.node) k v) (said_inside es d s w)
      ((said_closed es (s.number, k.node) k v).1 c)
      ∙ same_truth (same_at es k.node d.1) (same_terms (one k.term) (one s.term))
      (λ t. T_true (subst (λ (u : Term). T (same_terms (one k.term) (one u))) (n.0 t) (same_terms_refl (one k.term))))
      (λ t. n.1 (one_injective k.term s.term (same_terms_eq (one k.term) (one s.term) (true_T t))))

  -- Looking up in what there is then
  abbrev after : List Source
  after = ks ++ (s ∷ [])

  other_same : (m : ℕ) → eqb m s.number ≡ false → lookup m after ≡ lookup m ks
  other_same m e = lookup_append m ks (s ∷ []) ∙ ap (or_else (lookup m ks)) (choose_false (some s) none e) ∙ or_none_lem (lookup m ks)
    where
      or_none_lem : (o : Option Source) → or_else o none ≡ o
      or_none_lem none = refl
      or_none_lem (some k) = refl

  said_after : (m : ℕ) (x : Source) → (lookup s.number ks ≡ none → ClosedTerm s.term) → lookup m after ≡ some x
      → (lookup m ks ≡ none) ⊎ ((k : Source) × (lookup m ks ≡ some k)) → Says es (m, x.node) x × ClosedTerm x.term
  said_after m x c e (inl n) =
      let (own, number) = lookup_only m s x (sym (lookup_later m ks (s ∷ []) n) ∙ e) in
      subst (λ (y : Source). Says es (m, y.node) y × ClosedTerm y.term) (sym own) (
        subst (λ (z : Demand). Says es z s) (ap₂ {C = Demand} (λ a b. (a, b)) (w.number ∙ sym number) w.node) w,
        c
            (sym (ap (λ (a : ℕ). lookup a ks) number) ∙ n),
      )
  said_after m x c e (inr (k, l)) =
      let q : some k ≡ some x = sym (lookup_earlier m ks (s ∷ []) k l) ∙ e in
      let i : k ≡ x = cc in
      f.said m x (l ∙ ap some i)

  firsts_after : (o : Option Source) → lookup s.number ks ≡ o → agrees_with o s ≡ true → Firsts es (kept_with kept d) after
  unfolding kept_with
  firsts_after none e t =
      subst (λ (o : std.Option ℕ). Firsts es (kept_beside o kept d) after) (sym (open_here e))
      (record {
        long = length-set kept d.0 (Some d.1) ∙ f.long;
        nodes = λ m h. by_test (eqb m s.number) (λ q. own m h (eqb_eq m s.number q)) (other m h);
        said = λ m x q. said_after m x (λ z. test_closed 0 (one s.term) (true_T t)) q (lookup_cases m ks);
      })
    where
      own : (m : ℕ) → m < metavariable_count → m ≡ s.number → first_of (set kept d.0 (Some d.1)) m ≡ node_of (lookup m after)
      own m h q =
          ap (first_of (set kept d.0 (Some d.1))) (q ∙ sym w.number)
          ∙ get_or-set_same kept d.0 (Some d.1) None
          (subst (λ (n : ℕ). d.0 < n) (sym f.long) (subst (λ (n : ℕ). n < metavariable_count) (q ∙ sym w.number) h))
          ∙ ap (λ (j : ℕ). Some j) w.node
          ∙ sym (ap node_of (ap (λ (n : ℕ). lookup n after) q ∙ lookup_later s.number ks (s ∷ []) e ∙ lookup_own s []))

      other : (m : ℕ) → m < metavariable_count → eqb m s.number ≡ false → first_of (set kept d.0 (Some d.1)) m ≡ node_of (lookup m after)
      other m h q =
          get_or-set_other kept d.0 m (Some d.1) None (λ z. eqb-false m s.number q (z ∙ w.number)) ∙ f.nodes m h ∙ sym
          (ap node_of (other_same m q))
  firsts_after (some k) e t =
      subst (λ (o : std.Option ℕ). Firsts es (kept_beside o kept d) after) (sym (kept_here k e))
      (record {
        long = f.long;
        nodes = λ m h. f.nodes m h ∙ sym (ap node_of (by_test (eqb m s.number) (λ q. own m (eqb_eq m s.number q)) (other_same m)));
        said = λ m x q. said_after m x (λ n. never (cc)) q (lookup_cases m ks);
      })
    where
      own : (m : ℕ) → m ≡ s.number → lookup m after ≡ lookup m ks
      own m q =
          let l : lookup m ks ≡ some k = ap (λ (n : ℕ). lookup n ks) q ∙ e in
          lookup_earlier m ks (s ∷ []) k l ∙ sym l

pub record Told (es : List ℕ) (o : Option Nodes) (ks ss : List Source) : Type 0 where
  pub test : is_some o ≡ agree_after ks ss
  pub nodes : (kept : Nodes) → o ≡ some kept → Firsts es kept (ks ++ ss)

-- THE THEOREM: one demand after the other, from what those before have left
pub kept_means : (es : List ℕ) (q : Tests) → Tells es q
    → (kept : Nodes) (ks : List Source) (ds : List Demand) (ss : List Source) → Firsts es kept ks
    → AllSay es ds ss → Told es (kept_after q kept ds) ks ss
unfolding kept_after
kept_means es q tells kept ks [] [] f w =
    record {
      test =
          refl;
      nodes =
          λ l e. subst (λ (x : Nodes). Firsts es x (ks ++ [])) (let i : kept ≡ l = cc in i)
          (subst (Firsts es kept) (sym (append-nil ks)) f);
    }
kept_means es q tells kept ks [] (s ∷ ss) f w = absurd w
kept_means es q tells kept ks (d ∷ ds) [] f w = absurd w
kept_means es q tells kept ks (d ∷ ds) (s ∷ ss) f w =
    go (agrees_with (lookup s.number ks) s) refl (test_said es kept ks f d s w.0 q tells (lookup s.number ks) refl)
    (λ t. kept_means es q tells (kept_with kept d) (ks ++ (s ∷ [])) ds ss
    (firsts_after es kept ks f d s w.0 (lookup s.number ks) refl t) w.1)
  where
    go : (b : Bool) → agrees_with (lookup s.number ks) s ≡ b → agrees_at q kept d ≡ agrees_with (lookup s.number ks) s
        → (agrees_with (lookup s.number ks) s ≡ true → Told es (kept_after q (kept_with kept d) ds) (ks ++ (s ∷ [])) ss)
        → Told es (guard (agrees_at q kept d) (kept_after q (kept_with kept d) ds)) ks (s ∷ ss)
    go true t e next =
        let r = next t in
        rw (e, t) (record {
          test = r.test ∙ sym (ap (λ (b : Bool). b && agree_after (ks ++ (s ∷ [])) ss) t);
          nodes = λ l i. subst (Firsts es l) (append_assoc ks (s ∷ []) ss) (r.nodes l i);
        })
    go false t e next =
        rw (e, t) (record { test = sym (ap (λ (b : Bool). b && agree_after (ks ++ (s ∷ [])) ss) t); nodes = λ l i. never (cc) })

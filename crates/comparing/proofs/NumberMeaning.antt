-- What the numbers of a problem's table mean: two are the same exactly when the subexpressions are equal, and exactly when the comparison
-- of the two nodes says yes.
use mathlib.Core.Path.{◌≡◌, refl, ap, ap₂, sym, ◌∙◌, subst}
use mathlib.Core.Logic.{◌↔◌}
use Prim.Native.Nat.{ℕ, zero, suc, ◌+◌, ◌-◌, ◌<◌, ◌≤◌}
use mathlib.Core.Bool.{Bool, true, false, ◌&&◌, ◌||◌, not}
use mathlib.Core.List.{List, [], ◌∷◌}
use mathlib.Core.Option.{some, some-injective}
use native.Mathlib.Omega.{arith}
use native.Mathlib.Decide.{dec_lt, ℕ_discrete}
use lib.ListN.{length, take, get_elem?}
use lib.Seq.{length-take-le}
use borrow.Author.Tests.{eq-eqb, ne_eqb, le-ltb, ltb-false, not-true}
use Rattle.meaning.specs.Problem.{Problem}
use Rattle.meaning.specs.Same.{all_alike}
use Rattle.meaning.specs.Compare.{subexpressions, Numbers}
use Rattle.meaning.specs.Readable.{WithinLimits}
use Rattle.meaning.proofs.Lists.{never, choose_true, choose_false, T_true, true_T, and_T, at_past}
use Rattle.tokens.specs.Token.{depth_in}
use Rattle.tokens.specs.Key.{at, part, same_keys, reaches, agree_under, same_across, same_at, compared_across, any_reaches, uses_at}
use Rattle.tokens.specs.declared.same.Compared.{Compared}
use Rattle.tokens.proofs.Spots.{depth_at, Over}
use Rattle.numbers.specs.Alike.{level_at, last_at, binder_at, alike}
use Rattle.numbers.specs.Numbering.{Numbered}
use Rattle.numbers.proofs.ProblemTable.{table_short}
use Rattle.numbers.proofs.KeyLevels.{level_uses, level_deep}
use Rattle.numbers.proofs.AlikeLaws.{keys_same, same_keys_lem, alike_parts, alike_level, numbers_alike, alike_numbers, numbers_front}
use Rattle.numbers.proofs.Asked.{last_run, beneath_alike}
use Rattle.numbers.proofs.Buckets.{alike_binder}
use Rattle.comparing.specs.Comparing.{Shared, ComparedIn}
use Rattle.comparing.proofs.Agreement.{shared_deep}
use Rattle.comparing.proofs.NodeTold.{chain_at}
use Rattle.comparing.proofs.SharedLaws.{shared_some}
use Rattle.comparing.proofs.Meaning.{table, node, node_depth, node_seen, node_missing, node_view, node_compared}

-- Comparing under shared binders is comparing keys, where no binder outside is used that is not shared
regrouped : (a b c d : Bool) → (a && not b) && (c && not d) ≡ (a && c) && not (b || d)
regrouped false b c d = refl
regrouped true false c d = refl
regrouped true true false d = refl
regrouped true true true d = refl

shared_keys : (s d e : ℕ) (xs ys : List ℕ) → all_alike (agree_under s d e) xs ys ≡ all_alike (same_keys d e) xs ys && not (any_reaches s d xs)
unfolding agree_under any_reaches
shared_keys s d e [] [] = refl
shared_keys s d e [] (y ∷ ys) = refl
shared_keys s d e (x ∷ xs) [] = refl
shared_keys s d e (x ∷ xs) (y ∷ ys) =
    ap (λ (b : Bool). (same_keys d e x y && not (reaches s d x)) && b) (shared_keys s d e xs ys)
    ∙ regrouped (same_keys d e x y) (reaches s d x) (all_alike (same_keys d e) xs ys) (any_reaches s d xs)

compared_keys : (t : List ℕ) (a b s : ℕ) → (compared_across t a t b s).equal ≡ same_at t a b && not (uses_at t a s)
unfolding compared_across same_across uses_at
compared_keys t a b s = shared_keys s (depth_in (at t a)) (depth_in (at t b)) (part t a) (part t b)

at_there : (xs : List ℕ) (i : ℕ) → i < length xs → get_elem? xs i ≡ some (at xs i)
at_there [] i h = absurd (omega arith)
at_there (x ∷ xs) zero h = refl
at_there (x ∷ xs) (suc i) h = at_there xs i (omega arith)

-- A binder that lies above a node is the last node at its depth before it
last_over : (t : List ℕ) (x a : ℕ) → x < a → Over t x (suc a) → last_at t (depth_at t x) a ≡ suc x
unfolding last_at
last_over t x a h over =
    let e : suc x + (a - suc x) ≡ a = omega arith in
    ap (last_at t (depth_at t x)) (sym e)
    ∙ last_run t (depth_at t x) (suc x) (a - suc x) (λ y p q z. omega (arith, over y (omega arith) (omega arith)))
    ∙ choose_true _ _ (eq-eqb (depth_at t x) (depth_at t x) refl)

module _ (p : Problem) (w : WithinLimits p) where
  abbrev t : List ℕ
  t = table p w

  small : (a : ℕ) → a < length t → a < 65536
  small a h = omega (arith, table_short p w)

  -- The innermost binder outside that a node uses, where it uses one
  record Innermost (a : ℕ) : Type 0 where
    binder : ℕ
    is : binder_at t a ≡ suc binder
    level : suc (depth_at t binder) ≡ level_at t a
    above : (binder < a) × Over t binder (suc a)

  innermost : (a : ℕ) → a < length t → (level_at t a ≡ 0 → ⊥) → Innermost a
  unfolding binder_at
  innermost a h uses =
      let n = node p w a h in
      let deep = level_deep t a in
      let long = node_depth p w a h in
      let c = chain_at t a n.binders (length n.binders - level_at t a) (omega (arith, n.deep)) n.chain in
      let l : suc (depth_at t c.0) ≡ level_at t a = omega (arith, c.2, n.deep) in
      let d : level_at t a - 1 ≡ depth_at t c.0 = omega arith in
      record {
        binder = c.0;
        is =
            choose_false _ _ (ne_eqb (level_at t a) 0 uses) ∙ ap (λ (e : ℕ). last_at t e a) d ∙ last_over t c.0 a c.3 c.4;
        level = l;
        above = (c.3, c.4);
      }

  module _ (a b : ℕ) (h : a < length t) (g : b < length t) (s : ℕ) (shared : Shared t a b s) where
    -- Nodes that are alike use no binder outside that they do not share
    level_shared : alike t a b ≡ true → level_at t a ≤ s
    level_shared e = go (ℕ_discrete (level_at t a) 0)
      where
        levels : level_at t a ≡ level_at t b
        levels = alike_level t a b e

        go : Dec (level_at t a ≡ 0) → level_at t a ≤ s
        go (yes z) = omega arith
        go (no z) =
            let x = innermost a h z in
            let y = innermost b g (λ q. z (levels ∙ q)) in
            let same : y.binder ≡ x.binder = omega (arith, x.is, y.is, alike_binder t a b (small a h) (small b g) e) in
            omega (arith, x.level, shared_deep t a b s shared x.binder x.above (subst (λ (n : ℕ). (n < b) × Over t n (suc b)) same y.above))

    alike_compared : (alike t a b ≡ true) ↔ ((compared_across t a t b s).equal ≡ true)
    alike_compared = (there, back)
      where
        there : alike t a b ≡ true → (compared_across t a t b s).equal ≡ true
        there e =
            compared_keys t a b s
            ∙ ap₂ (λ (c d : Bool). c && not d) (keys_same t a b (alike_parts t a b e).1)
            (level_uses t a s ∙ le-ltb s (level_at t a) (level_shared e))

        back : (compared_across t a t b s).equal ≡ true → alike t a b ≡ true
        back e =
            let (k, u) = and_T (same_at t a b) (not (uses_at t a s)) (true_T (sym (compared_keys t a b s) ∙ e)) in
            let free : uses_at t a s ≡ false = not-true (uses_at t a s) (T_true u) in
            beneath_alike t s a b (λ y p q. shared.least y (p, q)) (ltb-false s (level_at t a) (sym (level_uses t a s) ∙ free))
            (same_keys_lem t a b (T_true k))

  module _ (ns : List ℕ) (made : Numbered t ns) where
    -- Main theorems. The numbers of two nodes are the same exactly when comparing the two says yes,
    pub numbers_compared : (a b : ℕ) → a < length t → b < length t → (r : Compared) → ComparedIn t a b r
        → (at ns a ≡ at ns b) ↔ (r.equal ≡ true)
    numbers_compared a b h g r c =
        let q = alike_compared a b h g c.above c.shared in
        let e = ap (λ (d : Compared). d.equal) c.compared in
        let x = numbers_alike t a b (at ns a) (at ns b) (small a h) (small b g) (made a h) (made b g) in
        let y = alike_numbers t a b (at ns a) (at ns b) (small a h) (small b g) (made a h) (made b g) in
        (λ z. e ∙ q.0 (x z), λ z. y (q.1 (sym e ∙ z)))

    -- and exactly when their subexpressions are equal
    numbers_seen : (a b : ℕ) (h : a < length t) (g : b < length t) → (at ns a ≡ at ns b) ↔ (node_view p w a h ≡ node_view p w b g)
    numbers_seen a b h g =
        let (s, shared) = shared_some t a b in
        let c : ComparedIn t a b (compared_across t a t b s) = record { above = s; shared = shared; compared = refl } in
        let v = (node_compared p w a b h g (compared_across t a t b s) c).verdict in
        let n = numbers_compared a b h g (compared_across t a t b s) c in
        (λ z. v.0 (n.0 z), λ z. n.1 (v.1 z))

    pub numbers_mean : length ns ≡ length t → Numbers p ns
    numbers_mean long a b = go (dec_lt a (length t)) (dec_lt b (length t))
      where
        go : Dec (a < length t) → Dec (b < length t)
            → (get_elem? ns a ≡ get_elem? ns b) ↔ (get_elem? (subexpressions p) a ≡ get_elem? (subexpressions p) b)
        go (yes h) (yes g) =
            let q = numbers_seen a b h g in
            rw (at_there ns a (omega arith), at_there ns b (omega arith), node_seen p w a h, node_seen p w b g) (
              λ e. ap some (q.0 (some-injective (at ns a) (at ns b) e)),
              λ e. ap some (q.1 (some-injective (node_view p w a h) (node_view p w b g) e)),
            )
        go (yes h) (no g) =
            rw (at_there ns a (omega arith), at_past ns b (omega arith), node_seen p w a h, node_missing p w b (omega arith))
            (λ e. never (cc), λ e. never (cc))
        go (no h) (yes g) =
            rw (at_past ns a (omega arith), at_there ns b (omega arith), node_missing p w a (omega arith), node_seen p w b g)
            (λ e. never (cc), λ e. never (cc))
        go (no h) (no g) =
            rw (at_past ns a (omega arith), at_past ns b (omega arith), node_missing p w a (omega arith), node_missing p w b (omega arith))
            (λ e. refl, λ e. refl)

  -- The same of a longer list, of which only the front counts
  pub front_means : (ns : List ℕ) (n : ℕ) → n ≡ length t → n ≤ length ns → Numbered t ns → Numbers p (take n ns)
  front_means ns n e h made =
      numbers_mean (take n ns) (numbers_front t ns n (omega arith) made) (length-take-le n ns h ∙ e)

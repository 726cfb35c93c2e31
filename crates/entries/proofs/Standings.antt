-- The metavariables that need a value, out of the places where they stand.
--   needing   of some standings, the metavariables of those that need a value, in order
use mathlib.Core.Path.{◌≡◌, refl, ap, ap₂, sym, ◌∙◌, subst}
use Prim.Native.Nat.{ℕ, suc}
use mathlib.Core.Bool.{Bool, true, false, ◌&&◌, ◌||◌, not, and-true}
use mathlib.Core.List.{List, [], ◌∷◌, ◌++◌, map, map-append, append-nil}
use native.Mathlib.Omega.{arith}
use lib.Dec.{eqb}
use Rattle.meaning.specs.Basics.{choose, every, is_in, keep, ◌∈◌}
use Rattle.meaning.specs.Term.{nil, cons, one, trees, own, slot, metavariable, function, hole, Nameless, Terms}
use Rattle.meaning.specs.Problem.{Where, argument_of, Standing, plain, in_arguments, standings}
use Rattle.meaning.specs.Filling.{Filling, body_or}
use Rattle.meaning.specs.Solution.{has_hole, needs}
use Rattle.meaning.specs.Passing.{is_needed}
use Rattle.meaning.proofs.Lists.{choose_true, choose_false, mem_map, map_mem, keep_mem}
use Rattle.meaning.proofs.Proper.{IsArgument}

-- All metavariables that are no functions stand somewhere
plain_graft : (l : Nameless) (c s : Terms) → plain (one (l, c)) ++ plain s ≡ plain (cons l c s)
plain_graft (own o) c s = ap (λ (ms : List ℕ). ms ++ plain s) (append-nil (plain c))
plain_graft (slot (metavariable m)) c s = refl
plain_graft (slot (function f n)) c s = ap (λ (ms : List ℕ). ms ++ plain s) (append-nil (plain c))
plain_graft (slot (hole i)) c s = refl

abbrev who : Standing → ℕ
who w = w.0

who_at : (w : Where) (ms : List ℕ) → map who (map (λ (m : ℕ). (m, w)) ms) ≡ ms
who_at w [] = refl
who_at w (m ∷ ms) = ap (λ (l : List ℕ). m ∷ l) (who_at w ms)

arguments_plain : (f i : ℕ) (c : Terms) → map who (in_arguments f i c) ≡ plain c
arguments_plain f i nil = refl
arguments_plain f i (cons l c s) =
    map-append who (map (λ (m : ℕ). (m, argument_of f i)) (plain (one (l, c)))) (in_arguments f (suc i) s)
    ∙ ap₂ ◌++◌ (who_at (argument_of f i) (plain (one (l, c)))) (arguments_plain f (suc i) s)
    ∙ plain_graft l c s

standings_plain : (u : Terms) → map who (standings u) ≡ plain u
standings_plain nil = refl
standings_plain (cons (own o) c s) = map-append who (standings c) (standings s) ∙ ap₂ ◌++◌ (standings_plain c) (standings_plain s)
standings_plain (cons (slot (metavariable m)) c s) = ap (λ (l : List ℕ). m ∷ l) (standings_plain s)
standings_plain (cons (slot (function f n)) c s) =
    map-append who (in_arguments f 0 c) (standings s) ∙ ap₂ ◌++◌ (arguments_plain f 0 c) (standings_plain s)
standings_plain (cons (slot (hole i)) c s) = standings_plain s

module _ (σ : Filling) where
  abbrev needy : Standing → Bool
  needy w = needs σ w.1

  unfoldable pub needing : List Standing → List ℕ
  needing ws = map who (keep needy ws)

  needing_cons : (w : Standing) (ws : List Standing) → needing (w ∷ ws) ≡ choose (needs σ w.1) (w.0 ∷ needing ws) (needing ws)
  unfolding needing
  needing_cons w ws = go (needs σ w.1)
    where
      go : (b : Bool)
          → map who (choose b (w ∷ keep needy ws) (keep needy ws)) ≡ choose b (w.0 ∷ map who (keep needy ws)) (map who (keep needy ws))
      go true = refl
      go false = refl

  pub needing_append : (xs ys : List Standing) → needing (xs ++ ys) ≡ needing xs ++ needing ys
  unfolding needing
  needing_append [] ys = refl
  needing_append (x ∷ xs) ys =
      needing_cons x (xs ++ ys) ∙ go (needs σ x.1) (needing_append xs ys)
      ∙ sym (ap (λ (l : List ℕ). l ++ needing ys) (needing_cons x xs))
    where
      go : (b : Bool) → needing (xs ++ ys) ≡ needing xs ++ needing ys
          → choose b (x.0 ∷ needing (xs ++ ys)) (needing (xs ++ ys)) ≡ choose b (x.0 ∷ needing xs) (needing xs) ++ needing ys
      go true e = ap (λ (l : List ℕ). x.0 ∷ l) e
      go false e = e

  pub needing_plain : (u : Terms) (m : ℕ) → m ∈ needing (standings u) → m ∈ plain u
  unfolding needing
  needing_plain u m q =
      let r = map_mem who m (keep needy (standings u)) q in
      let there : r.0 ∈ standings u = (keep_mem needy r.0 (standings u) r.1).0 in
      subst (λ (k : ℕ). k ∈ plain u) (sym r.2) (subst (λ (l : List ℕ). who r.0 ∈ l) (standings_plain u) (mem_map who there))

  pub needing_needed : (m : ℕ) (ws : List Standing) → is_in m (needing ws) ≡ is_needed σ ws m
  unfolding needing
  needing_needed m [] = refl
  needing_needed m (w ∷ ws) =
      ap (is_in m) (needing_cons w ws)
      ∙ go (needs σ w.1) (every (λ (x : Standing). not (eqb m x.0 && needs σ x.1)) ws) (needing_needed m ws)
    where
      either : (a e : Bool) → a || not e ≡ not (not (a && true) && e)
      either true e = refl
      either false e = refl

      neither : (a e : Bool) → not e ≡ not (not (a && false) && e)
      neither true e = refl
      neither false e = refl

      go : (b e : Bool) → is_in m (needing ws) ≡ not e
          → is_in m (choose b (w.0 ∷ needing ws) (needing ws)) ≡ not (not (eqb m w.0 && b) && e)
      go true e h = ap (λ (x : Bool). eqb m w.0 || x) h ∙ either (eqb m w.0) e
      go false e h = h ∙ neither (eqb m w.0) e

  -- A test that each of them fails
  pub needing_every : (q : ℕ → Bool) (ws : List Standing)
      → every (λ m. not (q m)) (needing ws) ≡ every (λ (w : Standing). not (q w.0 && needs σ w.1)) ws
  unfolding needing
  needing_every q [] = refl
  needing_every q (w ∷ ws) = ap (every (λ m. not (q m))) (needing_cons w ws) ∙ go (needs σ w.1) (needing_every q ws)
    where
      later : Bool
      later = every (λ (x : Standing). not (q x.0 && needs σ x.1)) ws

      none : (a : Bool) → later ≡ not (a && false) && later
      none true = refl
      none false = refl

      go : (b : Bool) → every (λ m. not (q m)) (needing ws) ≡ later
          → every (λ m. not (q m)) (choose b (w.0 ∷ needing ws) (needing ws)) ≡ not (q w.0 && b) && later
      go true h = ap₂ (λ (x y : Bool). not x && y) (sym (and-true (q w.0))) h
      go false h = h ∙ none (q w.0)

  -- All metavariables that stand at one place
  needing_at : (w : Where) (b : Bool) → needs σ w ≡ b → (ms : List ℕ) → needing (map (λ (m : ℕ). (m, w)) ms) ≡ choose b ms []
  unfolding needing
  needing_at w true e [] = refl
  needing_at w false e [] = refl
  needing_at w true e (m ∷ ms) =
      needing_cons (m, w) (map (λ (k : ℕ). (k, w)) ms) ∙ choose_true _ _ e ∙ ap (λ (l : List ℕ). m ∷ l) (needing_at w true e ms)
  needing_at w false e (m ∷ ms) = needing_cons (m, w) (map (λ (k : ℕ). (k, w)) ms) ∙ choose_false _ _ e ∙ needing_at w false e ms

  -- A function of one place: what stands in its argument needs a value where its body has a hole
  pub one_argument : (f : ℕ) (c : Terms) → trees c ≡ 1
      → needing (in_arguments f 0 c) ≡ choose (has_hole 0 (one (body_or f (σ f)))) (plain c) []
  one_argument f nil e = absurd (omega arith)
  one_argument f (cons l c nil) e =
      ap needing (append-nil (map (λ (m : ℕ). (m, argument_of f 0)) (plain (one (l, c)))))
      ∙ needing_at (argument_of f 0) (needs σ (argument_of f 0)) refl (plain (one (l, c)))
  one_argument f (cons l c (cons k d s)) e = absurd (omega arith)

  pub argument_needing : (u : Terms) → IsArgument u → needing (standings u) ≡ plain u
  unfolding needing
  argument_needing nil h = refl
  argument_needing (cons (own o) c s) h =
      needing_append (standings c) (standings s) ∙ ap₂ ◌++◌ (argument_needing c h.1) (argument_needing s h.2)
  argument_needing (cons (slot (metavariable m)) c s) h = ap (λ (l : List ℕ). m ∷ l) (argument_needing s h.2)
  argument_needing (cons (slot (function f n)) c s) h = absurd h.0
  argument_needing (cons (slot (hole i)) c s) h = absurd h.0

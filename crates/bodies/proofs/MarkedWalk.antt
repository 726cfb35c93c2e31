-- The walk that stops at the marked nodes is the walk of the body. Up to where it stops the two compare the same: of a closed body each
-- variable is free or bound inside, and then its label seen from the root says what the label itself does.
--   in_clear   a variable, and so a label, that is seen to be bound by no binder outside
--   nodes_of   the nodes across that a walk of views records, and nodes_met those that a walk of terms meets
use mathlib.Core.Path.{◌≡◌, refl, ap, ap₂, sym, ◌∙◌, subst}
use Prim.Native.Nat.{ℕ, suc, ◌+◌, ◌-◌, ◌*◌, ◌/◌, ◌<◌, ◌≤◌}
use native.Mathlib.Omega.{arith}
use mathlib.Core.Bool.{Bool, true, false, true≢false}
use mathlib.Core.List.{List, [], ◌∷◌, map, map-append}
use mathlib.Core.Option.{Option, none, some}
use lib.ListN.{drop}
use lib.Dec.{eqb, ltb}
use Rattle.meaning.specs.Basics.{choose, and_then, is_some, join, guard}
use Rattle.meaning.specs.Term.{nil, cons, size, symbol, variable, application, binder, own, slot, hole, Variable, free, bound, Nameless}
use Rattle.meaning.specs.Term.{Terms, Term, inner, OwnLabel, IsExpression}
use Rattle.meaning.specs.Shift.{with_variable, ClosedVariable, ClosedLabel, Closed}
use Rattle.meaning.specs.Equal.{Seen, seen_free, inside, outside, see}
use Rattle.meaning.specs.Face.{Face, agrees, meet, walk}
use Rattle.meaning.specs.Choice.{Mark, Marks, mark, punch_node, punch}
use Rattle.meaning.proofs.Lists.{never, choose_true, choose_false, T_true, true_T, eqb_self, eqb_eq}
use Rattle.meaning.proofs.ShiftLaws.{ltb_yes, relabel_size}
use Rattle.meaning.proofs.Lockstep.{agrees_eq, agrees_self}
use Rattle.masks.proofs.Cases.{same_truth}
use Rattle.tokens.specs.Key.{level_from}
use Rattle.tokens.proofs.Codes.{Viewed, code, Coded, code_injective, seen_label, view_from}
use Rattle.lockstep.specs.Walk.{expression_node}
use Rattle.lockstep.proofs.WalkTrees.{SeenStop, seen_meet, seen_walk}
use Rattle.bodies.proofs.MarkLaws.{punch_left}

-- What is seen of a variable that no binder outside binds tells the variable
in_clear : Seen ℕ → Bool
in_clear (seen_free x) = true
in_clear (inside i) = true
in_clear (outside w) = false

unseen : Seen ℕ → Variable
unseen (seen_free x) = free x
unseen (inside i) = bound i
unseen (outside w) = bound w

clear_label : Viewed → Bool
clear_label (own (symbol n)) = true
clear_label (own (variable v)) = in_clear v
clear_label (own (application n)) = true
clear_label (own (binder b x)) = true
clear_label (slot z) = true

module _ (root : List ℕ) (k : ℕ) where
  clear_unseen : (v : Variable) → in_clear (see (level_from root) k v) ≡ true → unseen (see (level_from root) k v) ≡ v
  unfolding in_clear unseen
  clear_unseen (free x) e = refl
  clear_unseen (bound i) e = go (ltb i k) e
    where
      go : (b : Bool) → in_clear (choose b (inside i) (outside (level_from root (i - k)))) ≡ true
          → unseen (choose b (inside i) (outside (level_from root (i - k)))) ≡ bound i
      go true q = refl
      go false q = absurd (true≢false (sym q))

  clear_label_lem : (l : Nameless) → clear_label (seen_label root k l) ≡ true → with_variable unseen (seen_label root k l) ≡ l
  unfolding clear_label
  clear_label_lem (own (symbol n)) e = refl
  clear_label_lem (own (variable v)) e = ap (λ (w : Variable). own (variable w)) (clear_unseen v e)
  clear_label_lem (own (application n)) e = refl
  clear_label_lem (own (binder b x)) e = refl
  clear_label_lem (slot z) e = refl

  closed_seen : (v : Variable) → ClosedVariable k v → in_clear (see (level_from root) k v) ≡ true
  unfolding in_clear
  closed_seen (free x) h = refl
  closed_seen (bound i) h = rw (ltb_yes i k h)

  closed_clear : (l : Nameless) → ClosedLabel k l → clear_label (seen_label root k l) ≡ true
  unfolding clear_label
  closed_clear (own (symbol n)) h = refl
  closed_clear (own (variable v)) h = closed_seen v h
  closed_clear (own (application n)) h = refl
  closed_clear (own (binder b x)) h = refl
  closed_clear (slot z) h = refl

  own_coded : (l : Nameless) → OwnLabel l → Coded (seen_label root k l)
  own_coded (own (symbol n)) h = tt
  own_coded (own (variable v)) h = tt
  own_coded (own (application n)) h = tt
  own_coded (own (binder b x)) h = tt
  own_coded (slot z) h = absurd h

-- Seen from any root, a closed label looks the same
same_variable_lem : (root root' : List ℕ) (k : ℕ) (v : Variable) → ClosedVariable k v → see (level_from root) k v ≡ see (level_from root') k v
same_variable_lem root root' k (free x) h = refl
same_variable_lem root root' k (bound i) h = rw (ltb_yes i k h)

same_label_lem : (root root' : List ℕ) (k : ℕ) (l : Nameless) → ClosedLabel k l → seen_label root k l ≡ seen_label root' k l
same_label_lem root root' k (own (symbol n)) h = refl
same_label_lem root root' k (own (variable v)) h = ap (λ (w : Seen ℕ). own (variable w)) (same_variable_lem root root' k v h)
same_label_lem root root' k (own (application n)) h = refl
same_label_lem root root' k (own (binder b x)) h = refl
same_label_lem root root' k (slot z) h = refl

-- One node of each
matches : Nameless → Nameless → Bool
matches (own o) m = agrees o m
matches (slot z) m = false

matches_eq : (l m : Nameless) → matches l m ≡ true → l ≡ m
unfolding matches
matches_eq (own o) m e = agrees_eq o m (true_T e)
matches_eq (slot z) m e = absurd (true≢false (sym e))

matches_self : (l : Nameless) → OwnLabel l → matches l l ≡ true
unfolding matches
matches_self (own o) h = T_true (agrees_self o)
matches_self (slot z) h = absurd h

meet_matches : (k n : ℕ) (l : Nameless) (c : Terms) (t : Term) (below : Option (List Face)) → OwnLabel l
    → meet k n l c t below ≡ guard (matches l t.0) below
unfolding matches
meet_matches k n (own o) c t below h = refl
meet_matches k n (slot z) c t below h = absurd h

codes_match : (root root' : List ℕ) (k : ℕ) (l m : Nameless) → ClosedLabel k l → OwnLabel l → OwnLabel m
    → eqb (code (seen_label root k l)) (code (seen_label root' k m)) ≡ matches l m
codes_match root root' k l m h o o' = same_truth (eqb (code (seen_label root k l)) (code (seen_label root' k m))) (matches l m) there back
  where
    there : eqb (code (seen_label root k l)) (code (seen_label root' k m)) ≡ true → matches l m ≡ true
    there e =
        let q : seen_label root k l ≡ seen_label root' k m =
        code_injective _ _ (own_coded root k l o) (own_coded root' k m o') (eqb_eq _ _ e) in
        let c = closed_clear root k l h in
        let r : l ≡ m =
        sym (clear_label_lem root k l c) ∙ ap (with_variable unseen) q ∙ clear_label_lem root' k m (ap clear_label (sym q) ∙ c) in
        ap (matches l) (sym r) ∙ matches_self l o

    back : matches l m ≡ true → eqb (code (seen_label root k l)) (code (seen_label root' k m)) ≡ true
    back e =
        let q : seen_label root k l ≡ seen_label root' k m = same_label_lem root root' k l h ∙ ap (seen_label root' k) (matches_eq l m e) in
        ap (λ (x : Viewed). eqb (code x) (code (seen_label root' k m))) q ∙ eqb_self (code (seen_label root' k m))

-- The nodes that a walk finds
abbrev pub nodes_of : Option (List ℕ) → Option (List ℕ)
nodes_of o = and_then o (λ xs. some (map expression_node xs))

abbrev pub nodes_met : Option (List Face) → Option (List ℕ)
nodes_met o = and_then o (λ xs. some (map (λ (x : Face). x.node) xs))

of_join : (a b : Option (List ℕ)) → nodes_of (join a b) ≡ join (nodes_of a) (nodes_of b)
of_join none b = refl
of_join (some x) none = refl
of_join (some x) (some y) = ap some (map-append expression_node x y)

met_join : (a b : Option (List Face)) → nodes_met (join a b) ≡ join (nodes_met a) (nodes_met b)
met_join none b = refl
met_join (some x) none = refl
met_join (some x) (some y) = ap some (map-append (λ (z : Face). z.node) x y)

guard_both : (b : Bool) (a : Option (List ℕ)) (c : Option (List Face)) → (b ≡ true → nodes_of a ≡ nodes_met c)
    → nodes_of (guard b a) ≡ nodes_met (guard b c)
guard_both true a c h = h refl
guard_both false a c h = refl

-- A punched node before what comes after it: t is what the marks make of that, b what they make of the children
module _ (k j : ℕ) (l : Nameless) (b t : Terms) where
  punched_alone : (m : Mark) → walk k j (punch_node m l b t) nil ≡ none
  punched_alone none = refl
  punched_alone (some h) = refl

  closed_later : (m : Mark) → Closed k (punch_node m l b t) → Closed k t
  closed_later none h = h.2
  closed_later (some i) h = h.2

  closed_below : (m : Mark) → m ≡ none → Closed k (punch_node m l b t) → ClosedLabel k l × Closed (inner l k) b
  closed_below none e h = (h.0, h.1)
  closed_below (some i) e h = never (cc)

module _ (stops : ℕ → Bool) (ms : Marks) (told : (i : ℕ) → stops i ≡ is_some (mark (drop i ms))) (root root' : List ℕ) where
  abbrev stop : SeenStop
  stop i l = stops i

  -- One node of each; w and w' are the walks of the views of the children, and of what comes after
  module _ (i j k k' : ℕ) (l l' : Nameless) (b t c' s' : Terms) (w w' : Option (List ℕ)) (same : k ≡ k') (mine : OwnLabel l)
      (theirs : OwnLabel l')
      (small : i < 65536) (later : nodes_of w' ≡ nodes_met (walk k (suc j + size c') t s')) where
    here : Option (List ℕ)
    here = seen_meet stop i j (seen_label root k l) (seen_label root' k' l') w

    node_marked : (h : ℕ) → mark (drop i ms) ≡ some h
        → nodes_of (join here w') ≡ nodes_met (walk k j (cons (slot (hole h)) nil t) (cons l' c' s'))
    unfolding here
    node_marked h e =
        let n : (i + 65536 * j) / 65536 ≡ j = omega arith in
        of_join here w'
        ∙ ap₂ join (ap nodes_of (choose_true _ _ (told i ∙ ap is_some e)) ∙ ap (λ (x : ℕ). some (x ∷ [])) n) later
        ∙ sym (met_join (meet k j (slot (hole h)) nil (l', c') none) (walk k (suc j + size c') t s'))

    node_own : mark (drop i ms) ≡ none → ClosedLabel k l → (matches l l' ≡ true → nodes_of w ≡ nodes_met (walk (inner l k) (suc j) b c'))
        → nodes_of (join here w') ≡ nodes_met (walk k j (cons l b t) (cons l' c' s'))
    unfolding here
    node_own e closed below =
        of_join here w'
        ∙ ap₂ join
        (ap nodes_of (choose_false _ _ (told i ∙ ap is_some e) ∙ ap (λ (x : Bool). guard x w) agree)
        ∙ guard_both (matches l l') w (walk (inner l k) (suc j) b c') below
        ∙ ap nodes_met (sym (meet_matches k j l b (l', c') (walk (inner l k) (suc j) b c') mine)))
        later
        ∙ sym (met_join (meet k j l b (l', c') (walk (inner l k) (suc j) b c')) (walk k (suc j + size c') t s'))
      where
        agree : eqb (code (seen_label root k l)) (code (seen_label root' k' l')) ≡ matches l l'
        agree =
            ap (λ (n : ℕ). eqb (code (seen_label root k l)) (code (seen_label root' n l'))) (sym same)
            ∙ codes_match root root' k l l' closed mine theirs

    node : Closed k (punch_node (mark (drop i ms)) l b t)
        → (mark (drop i ms) ≡ none → matches l l' ≡ true → nodes_of w ≡ nodes_met (walk (inner l k) (suc j) b c'))
        → nodes_of (join here w') ≡ nodes_met (walk k j (punch_node (mark (drop i ms)) l b t) (cons l' c' s'))
    node closed below = go (mark (drop i ms)) refl closed below
      where
        go : (m : Mark) → mark (drop i ms) ≡ m → Closed k (punch_node m l b t)
            → (m ≡ none → matches l l' ≡ true → nodes_of w ≡ nodes_met (walk (inner l k) (suc j) b c'))
            → nodes_of (join here w') ≡ nodes_met (walk k j (punch_node m l b t) (cons l' c' s'))
        go none e h f = node_own e h.0 (f refl)
        go (some x) e h f = node_marked x e

  -- THE THEOREM
  pub marked_walk : (i j k k' : ℕ) (u v : Terms) → k ≡ k' → IsExpression u → IsExpression v → Closed k (punch (drop i ms) u)
      → i + size u ≤ 65536
      → nodes_of (seen_walk stop i j (view_from root k u) (view_from root' k' v)) ≡ nodes_met (walk k j (punch (drop i ms) u) v)
  unfolding here
  marked_walk i j k k' nil nil same x y h small = refl
  marked_walk i j k k' nil (cons l' c' s') same x y h small = refl
  marked_walk i j k k' (cons l c s) nil same x y h small =
      sym (ap nodes_met (ap (λ (z : Terms). walk k j z nil) (punch_left ms i l c s)
      ∙ punched_alone k j l (punch (drop (suc i) ms) c) (punch (drop (suc i + size c) ms) s) (mark (drop i ms))))
  marked_walk i j k k' (cons l c s) (cons l' c' s') same x y h small =
      let b : Terms = punch (drop (suc i) ms) c in
      let t : Terms = punch (drop (suc i + size c) ms) s in
      let closed : Closed k (punch_node (mark (drop i ms)) l b t) = subst (Closed k) (punch_left ms i l c s) h in
      let n : size (view_from root (inner l k) c) ≡ size c = relabel_size inner (seen_label root) (inner l k) c in
      let n' : size (view_from root' (inner l' k') c') ≡ size c' = relabel_size inner (seen_label root') (inner l' k') c' in
      node i j k k' l l' b t c' s'
      (seen_walk stop (suc i) (suc j) (view_from root (inner l k) c) (view_from root' (inner l' k') c'))
      (seen_walk stop (suc i + size (view_from root (inner l k) c)) (suc j + size (view_from root' (inner l' k') c')) (view_from root k s)
      (view_from root' k' s'))
      same x.0 y.0 (omega arith)
      (ap nodes_of (ap₂ (λ (a a' : ℕ). seen_walk stop (suc i + a) (suc j + a') (view_from root k s) (view_from root' k' s')) n n')
      ∙ marked_walk (suc i + size c) (suc j + size c') k k' s s' same x.2 y.2 (closed_later k j l b t (mark (drop i ms)) closed)
      (omega arith))
      closed
      (λ e q. marked_walk (suc i) (suc j) (inner l k) (inner l' k') c c'
      (ap₂ (λ (m : Nameless) (z : ℕ). inner m z) (matches_eq l l' q) same) x.1 y.1
      (closed_below k j l b t (mark (drop i ms)) e closed).1 (omega arith))
      ∙ ap (λ (z : Terms). nodes_met (walk k j z (cons l' c' s'))) (sym (punch_left ms i l c s))

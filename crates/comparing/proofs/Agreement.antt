-- What a node's token tells of the node's label, for two nodes of one table.
--   levelled    a label with each binder outside by its level: the table has the binder's depth
--   SeenOver    a binder outside lies above node a: it is over all nodes up to a (`Over`, of Spots)
--   Tells       the token x, seen from node a, and the label o that is seen there
-- Two labels are the same just when they are the same by levels and no level is above the binders that the two nodes share: a binder
-- that lies above both is shared, and a shared level belongs to one binder.
use mathlib.Core.Path.{◌≡◌, refl, ap, ap₂, sym, ◌∙◌, subst}
use Prim.Native.Nat.{ℕ, suc, ◌<◌, ◌≤◌}
use mathlib.Core.Bool.{Bool, true, false, ◌&&◌, not, true≢false}
use mathlib.Core.List.{List}
use native.Mathlib.Omega.{arith}
use native.Mathlib.Decide.{dec_lt}
use lib.Dec.{eqb}
use borrow.Author.Tests.{eq-eqb, eqb-true, le-ltb, ltb-false, not-true}
use Rattle.meaning.specs.Basics.{AllOf}
use Rattle.meaning.specs.Term.{symbol, variable, application, binder, Label, own, slot, variable_of}
use Rattle.meaning.specs.Shift.{with_variable}
use Rattle.meaning.specs.Equal.{Seen, seen_free, inside, outside}
use Rattle.meaning.specs.Choice.{Owner, node_of_face, above_face}
use Rattle.meaning.specs.Compare.{agree}
use Rattle.meaning.proofs.Lists.{never, by_test, T_true, true_T, not_T, and_T}
use Rattle.meaning.proofs.ViewLaws.{variable_or, variable_with, rebuilt}
use Rattle.meaning.proofs.CompareLaws.{agree_equal}
use Rattle.tokens.specs.Key.{key_of, reaches, agree_under}
use Rattle.tokens.proofs.Codes.{Coded, code, code_injective}
use Rattle.tokens.proofs.Owners.{deep_seen, deep_label}
use Rattle.tokens.proofs.Spots.{depth_at, Over}
use Rattle.comparing.specs.Comparing.{Shared}

abbrev pub OwnerLabel : Type 0
OwnerLabel = Label (Seen Owner) (Unit {0})

abbrev pub level_of_seen : List ℕ → Seen Owner → Seen ℕ
level_of_seen t (seen_free x) = seen_free x
level_of_seen t (inside i) = inside i
level_of_seen t (outside (node_of_face x)) = outside (suc (depth_at t x))
level_of_seen t (outside (above_face j)) = outside 0

abbrev pub levelled : List ℕ → OwnerLabel → Label (Seen ℕ) (Unit {0})
levelled t o = with_variable (level_of_seen t) o

abbrev pub SeenOver : List ℕ → ℕ → Seen Owner → Type 0
SeenOver t a (seen_free x) = Unit {0}
SeenOver t a (inside i) = Unit {0}
SeenOver t a (outside (node_of_face x)) = (x < a) × Over t x (suc a)
SeenOver t a (outside (above_face j)) = ⊥

-- r is the depth of node a
pub record Tells (t : List ℕ) (a r s x : ℕ) (o : OwnerLabel) : Type 0 where
  pub key : key_of r x ≡ code (levelled t o)
  pub reach : reaches s r x ≡ deep_label s (levelled t o)
  pub coded : Coded (levelled t o)
  pub over : AllOf (SeenOver t a) (variable_of o)

module _ (t : List ℕ) (a b s : ℕ) (shared : Shared t a b s) where
  -- A binder that lies above both is shared
  pub shared_deep : (x : ℕ) → (x < a) × Over t x (suc a) → (x < b) × Over t x (suc b) → suc (depth_at t x) ≤ s
  shared_deep x p q =
      let y = shared.node in
      let h : depth_at t x < depth_at t y =
      elim (dec_lt y (suc a)) [
        | yes g ↦ p.1 y (omega (arith, p.0, q.0, shared.between.0)) g
        | no g ↦ q.1 y (omega (arith, p.0, q.0, shared.between.0)) (omega (arith, shared.between.1))
      ] in
      omega (arith, shared.reached)

  -- A shared level belongs to one binder
  shared_one : (x y : ℕ) → (x < a) × Over t x (suc a) → (y < b) × Over t y (suc b) → depth_at t x ≡ depth_at t y → depth_at t x < s → x ≡ y
  shared_one x y p q e h = go (dec_lt x y) (dec_lt y x)
    where
      first : x < y → ⊥
      first g = elim (dec_lt y (suc a)) [
        | yes k ↦ omega (arith, p.1 y g k)
        | no k ↦ omega (arith, shared.least y (omega arith, omega (arith, q.0)))
      ]

      second : y < x → ⊥
      second g = elim (dec_lt x (suc b)) [
        | yes k ↦ omega (arith, q.1 x g k)
        | no k ↦ omega (arith, shared.least x (omega arith, omega (arith, p.0)))
      ]

      go : Dec (x < y) → Dec (y < x) → x ≡ y
      go (yes g) k = absurd (first g)
      go (no g) (yes k) = absurd (second k)
      go (no g) (no k) = omega arith

  -- The variable of a label
  seen_same : (v w : Seen Owner) → SeenOver t a v → SeenOver t b w → deep_seen s (level_of_seen t v) ≡ false
      → level_of_seen t v ≡ level_of_seen t w → v ≡ w
  seen_same (seen_free x) (seen_free y) p q d e = let z : x ≡ y = cc in ap seen_free z
  seen_same (seen_free x) (inside j) p q d e = never (cc)
  seen_same (seen_free x) (outside (node_of_face y)) p q d e = never (cc)
  seen_same (inside i) (seen_free y) p q d e = never (cc)
  seen_same (inside i) (inside j) p q d e = let z : i ≡ j = cc in ap inside z
  seen_same (inside i) (outside (node_of_face y)) p q d e = never (cc)
  seen_same (outside (node_of_face x)) (seen_free y) p q d e = never (cc)
  seen_same (outside (node_of_face x)) (inside j) p q d e = never (cc)
  seen_same (outside (node_of_face x)) (outside (node_of_face y)) p q d e =
      let z : suc (depth_at t x) ≡ suc (depth_at t y) = cc in
      ap (λ (n : ℕ). outside (node_of_face n)) (shared_one x y p q (omega arith) (omega (arith, ltb-false s (suc (depth_at t x)) d)))
  seen_same (outside (above_face i)) w p q d e = absurd p
  seen_same (seen_free x) (outside (above_face j)) p q d e = absurd q
  seen_same (inside i) (outside (above_face j)) p q d e = absurd q
  seen_same (outside (node_of_face x)) (outside (above_face j)) p q d e = absurd q

  over_or : (c : ℕ) (o : OwnerLabel) → AllOf (SeenOver t c) (variable_of o) → SeenOver t c (variable_or (seen_free 0) o)
  over_or c (own (symbol n)) p = tt
  over_or c (own (variable v)) p = p
  over_or c (own (application n)) p = tt
  over_or c (own (binder n x)) p = tt
  over_or c (slot z) p = tt

  deep_or : (o : OwnerLabel) → deep_label s (levelled t o) ≡ false → deep_seen s (level_of_seen t (variable_or (seen_free 0) o)) ≡ false
  deep_or (own (symbol n)) d = refl
  deep_or (own (variable v)) d = d
  deep_or (own (application n)) d = refl
  deep_or (own (binder n x)) d = refl
  deep_or (slot z) d = refl

  label_same : (o o' : OwnerLabel) → AllOf (SeenOver t a) (variable_of o) → AllOf (SeenOver t b) (variable_of o')
      → deep_label s (levelled t o) ≡ false → levelled t o ≡ levelled t o' → o ≡ o'
  label_same o o' p q d e =
      let v = variable_or (seen_free 0) o in
      let w = variable_or (seen_free 0) o' in
      let h : level_of_seen t v ≡ level_of_seen t w =
      sym (variable_with (seen_free 0) (level_of_seen t) o) ∙ ap (variable_or (seen_free 0)) e ∙ variable_with (seen_free 0) (level_of_seen t) o' in
      let z : v ≡ w = seen_same v w (over_or a o p) (over_or b o' q) (deep_or o d) h in
      sym (rebuilt (seen_free 0) (level_of_seen t) o)
      ∙ ap₂ (λ (x : Seen Owner) (l : Label (Seen ℕ) (Unit {0})). with_variable (λ y. x) l) z e ∙ rebuilt (seen_free 0) (level_of_seen t) o'

  seen_shallow : (v : Seen Owner) → SeenOver t a v → SeenOver t b v → deep_seen s (level_of_seen t v) ≡ false
  seen_shallow (seen_free x) p q = refl
  seen_shallow (inside i) p q = refl
  seen_shallow (outside (node_of_face x)) p q = le-ltb s (suc (depth_at t x)) (shared_deep x p q)
  seen_shallow (outside (above_face j)) p q = absurd p

  label_shallow : (o : OwnerLabel) → AllOf (SeenOver t a) (variable_of o) → AllOf (SeenOver t b) (variable_of o)
      → deep_label s (levelled t o) ≡ false
  label_shallow (own (symbol n)) p q = refl
  label_shallow (own (variable v)) p q = seen_shallow v p q
  label_shallow (own (application n)) p q = refl
  label_shallow (own (binder n x)) p q = refl
  label_shallow (slot z) p q = refl

  -- Main theorem of this file: the test of two tokens is the test of the labels
  module _ (r r' x y : ℕ) (o o' : OwnerLabel) (h : Tells t a r s x o) (g : Tells t b r' s y o') where
    agreed : agree o o' ≡ true → agree_under s r r' x y ≡ true
    unfolding agree_under
    agreed e =
        let z : o ≡ o' = (agree_equal o o').0 e in
        let k : key_of r x ≡ key_of r' y = h.key ∙ ap (λ (l : OwnerLabel). code (levelled t l)) z ∙ sym g.key in
        let q : AllOf (SeenOver t b) (variable_of o) = subst (λ (l : OwnerLabel). AllOf (SeenOver t b) (variable_of l)) (sym z) g.over in
        ap₂ (λ (c d : Bool). c && not d) (eq-eqb (key_of r x) (key_of r' y) k) (h.reach ∙ label_shallow o h.over q)

    told : agree_under s r r' x y ≡ true → agree o o' ≡ true
    unfolding agree_under
    told e =
        let (p, q) = and_T (eqb (key_of r x) (key_of r' y)) (not (reaches s r x)) (true_T e) in
        let k : key_of r x ≡ key_of r' y = eqb-true (key_of r x) (key_of r' y) (T_true p) in
        let l : levelled t o ≡ levelled t o' =
        code_injective (levelled t o) (levelled t o') h.coded g.coded (sym h.key ∙ k ∙ g.key) in
        (agree_equal o o').1 (label_same o o' h.over g.over (sym h.reach ∙ not-true (reaches s r x) (T_true q)) l)

    pub tokens_agree : agree_under s r r' x y ≡ agree o o'
    tokens_agree =
        by_test (agree o o') (λ e. agreed e ∙ sym e)
        (λ e. not_T (λ w. true≢false (sym (told (T_true w)) ∙ e)) ∙ sym e)

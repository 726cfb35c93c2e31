-- The walk that stops at slots records the faces of `meaning`'s walk.
--   Looks   a forest stands in a larger one from node i on: `look` gives the term at each node of the larger one
--   root    the scope around both forests; k binders of each are above the nodes that are looked at
use mathlib.Core.Path.{◌≡◌, refl, ap, ap₂, sym, ◌∙◌, subst}
use mathlib.Core.Logic.{◌↔◌}
use mathlib.Core.Bool.{Bool, true, false, false≢true}
use mathlib.Core.List.{List, [], ◌∷◌, ◌++◌}
use mathlib.Core.Option.{Option, none, some}
use Prim.Native.Nat.{ℕ, suc, ◌+◌, ◌-◌, ◌%◌, ◌<◌, ◌≤◌}
use native.Mathlib.Omega.{arith}
use lib.ListN.{length}
use lib.Dec.{eqb}
use borrow.Author.Tests.{lt-ltb, le-ltb, eq-eqb, ne_eqb}
use Rattle.meaning.specs.Basics.{join, guard}
use Rattle.meaning.specs.Term.{nil, cons, size, node_at, Own, symbol, variable, application, binder, Label, own, slot, Slot, metavariable}
use Rattle.meaning.specs.Term.{function, hole, Named, Nameless, Variable, Terms, Term, inner}
use Rattle.meaning.specs.Scope.{nameless_label}
use Rattle.meaning.specs.Shift.{ClosedLabel, Closed}
use Rattle.meaning.specs.Same.{same_own, same_variable}
use Rattle.meaning.specs.Face.{Face, agrees, meet, walk}
use Rattle.meaning.specs.Field.{tag_of}
use Rattle.meaning.proofs.Lists.{T_true, true_T, never, by_test, choose_true, choose_false}
use Rattle.meaning.proofs.Alike.{variable_eq, variable_refl, own_eq, own_refl}
use Rattle.meaning.proofs.ShiftLaws.{relabel_size}
use Rattle.meaning.proofs.ViewLaws.{ToldAlike, label_injective, inner_plus}
use Rattle.tokens.specs.Key.{level_from}
use Rattle.tokens.proofs.Codes.{Coded, code, code_injective, seen_label, view_from}
use Rattle.tokens.proofs.ProblemTokens.{tag_at}
use Rattle.lockstep.specs.Walk.{face_code, pattern_node, expression_node, slot_tag, is_slot, at_slots}
use Rattle.lockstep.specs.Recorded.{RecordedBy, Both}
use Rattle.lockstep.proofs.WalkTrees.{SeenStop, Tells, seen_meet, seen_walk}

-- What a filling replaces, by its label
abbrev slot_label : {X B : Type 0} → Label X B → Bool
slot_label (own o) = false
slot_label (slot z) = true

abbrev pub seen_slots : SeenStop
seen_slots i l = slot_label l

pub tells_slots : (root : List ℕ) → Tells root at_slots seen_slots
unfolding is_slot
tells_slots root i k sc l c room small = ap slot_tag (tag_at sc l c room small) ∙ tags l
  where
    tags : (l : Named) → slot_tag (tag_of l) ≡ slot_label (seen_label root k (nameless_label sc l))
    tags (own (symbol n)) = refl
    tags (own (variable x)) = refl
    tags (own (application n)) = refl
    tags (own (binder b x)) = refl
    tags (slot (metavariable m)) = refl
    tags (slot (function f n)) = refl
    tags (slot (hole h)) = refl

-- The binders of a scope are told apart by their levels
told_levels : (root : List ℕ) → ToldAlike (length root) (level_from root) (level_from root)
told_levels root i j h g = (λ e. omega arith, λ e. ap (level_from root) e)

-- A node of an expression, seen: its code can be read back and is no slot's
own_coded : (root : List ℕ) (k : ℕ) (o : Own Variable (Unit {0})) → Coded (seen_label root k (own o))
own_coded root k (symbol n) = tt
own_coded root k (variable v) = tt
own_coded root k (application n) = tt
own_coded root k (binder b x) = tt

own_goes : (root : List ℕ) (k : ℕ) (o : Own Variable (Unit {0})) → slot_label (seen_label root k (own o)) ≡ false
own_goes root k (symbol n) = refl
own_goes root k (variable v) = refl
own_goes root k (application n) = refl
own_goes root k (binder b x) = refl

own_code : (root : List ℕ) (k : ℕ) (o : Own Variable (Unit {0})) → code (seen_label root k (own o)) % 256 < 5
own_code root k (symbol n) = omega arith
own_code root k (variable v) = omega arith
own_code root k (application n) = omega arith
own_code root k (binder b x) = omega arith

slot_code : (z : Slot) → 5 ≤ code (slot z) % 256
slot_code (metavariable m) = omega arith
slot_code (function f n) = omega arith
slot_code (hole i) = omega arith

-- "Kinds, symbol and binder numbers and child counts must agree": codes are the same just when the labels agree
module _ (root : List ℕ) (k : ℕ) (o : Own Variable (Unit {0})) (closed : ClosedLabel (k + length root) (own o)) where
  code_agrees : (l : Nameless) → ClosedLabel (k + length root) l
      → eqb (code (seen_label root k (own o))) (code (seen_label root k l)) ≡ agrees o l
  code_agrees (slot z) h = ne_eqb (code (seen_label root k (own o))) (code (slot z)) (λ e. omega (arith, own_code root k o, slot_code z))
  code_agrees (own q) h =
      by_test (same_own same_variable o q)
      (λ t. eq-eqb _ _ (ap (λ (x : Own Variable (Unit {0})). code (seen_label root k (own x)))
      (own_eq same_variable variable_eq o q (true_T t))) ∙ sym t)
      (λ f. ne_eqb _ _ (λ e. false≢true
      (sym f ∙ ap (same_own same_variable o) (sym (same e)) ∙ T_true (own_refl same_variable variable_refl o))) ∙ sym f)
    where
      same : code (seen_label root k (own o)) ≡ code (seen_label root k (own q)) → o ≡ q
      same e =
          let labels : own o ≡ own q =
          label_injective (length root) (level_from root) (level_from root) (told_levels root) k (own o) (own q) closed h
          (code_injective (seen_label root k (own o)) (seen_label root k (own q)) (own_coded root k o) (own_coded root k q) e) in
          cc

agree_label : (o : Own Variable (Unit {0})) (l : Nameless) → agrees o l ≡ true → own o ≡ l
agree_label o (own q) t = ap (λ (x : Own Variable (Unit {0})). own x) (own_eq same_variable variable_eq o q (true_T t))
agree_label o (slot z) t = absurd (false≢true t)

-- A forest stands in a larger one from node i on
abbrev pub Looks : (ℕ → Option Term) → ℕ → Terms → Type 0
Looks look i u = (m : ℕ) → m < size u → look (i + m) ≡ node_at m u

module _ (look : ℕ → Option Term) (i : ℕ) (l : Nameless) (c s : Terms) (h : Looks look i (cons l c s)) where
  look_here : look i ≡ some (l, c)
  look_here = let e : i ≡ i + 0 = omega arith in ap look e ∙ h 0 (omega arith)

  pub look_below : Looks look (suc i) c
  look_below m g =
      let e : suc i + m ≡ i + suc m = omega arith in
      ap look e ∙ h (suc m) (omega arith) ∙ choose_true _ _ (lt-ltb m (size c) g)

  look_later : Looks look (suc i + size c) s
  look_later m g =
      let e : suc i + size c + m ≡ i + suc (size c + m) = omega arith in
      let d : size c + m - size c ≡ m = omega arith in
      ap look e ∙ h (suc (size c + m)) (omega arith) ∙ choose_false _ _ (le-ltb (size c + m) (size c) (omega arith))
      ∙ ap (λ (k : ℕ). node_at k s) d

-- There are d i binders above node i, the first of a forest that has k around it, and so for the nodes after it
abbrev pub Deep : (ℕ → ℕ) → ℕ → ℕ → Terms → Type 0
Deep d i k nil = Unit {0}
Deep d i k (cons l c s) = (d i ≡ k) × Deep d (suc i) (inner l k) c × Deep d (suc i + size c) k s

-- Two answers that belong together
pub both_none : {A B : Type 0} (R : A → B → Type 0) (a : Option A) (b : Option B) → Both R a b → (a ≡ none) ↔ (b ≡ none)
both_none R none none r = (λ e. refl, λ e. refl)
both_none R none (some b) r = absurd r
both_none R (some a) none r = absurd r
both_none R (some a) (some b) r = (λ e. never (cc), λ e. never (cc))

pub both_some : {A B : Type 0} (R : A → B → Type 0) (a : Option A) (b : B) → Both R a (some b) → (x : A) × (a ≡ some x) × R x b
both_some R none b r = absurd r
both_some R (some a) b r = (a, refl, r)

guard_both : {A B : Type 0} (R : A → B → Type 0) (s t : Bool) (a : Option A) (b : Option B) → s ≡ t → (t ≡ true → Both R a b)
    → Both R (guard s a) (guard t b)
guard_both R true true a b e h = h refl
guard_both R true false a b e h = absurd (false≢true (sym e))
guard_both R false true a b e h = absurd (false≢true e)
guard_both R false false a b e h = tt

module _ (p e : ℕ → Option Term) (d : ℕ → ℕ) where
  append_recorded : (ns ns' : List ℕ) (xs xs' : List Face) → RecordedBy p e d ns xs → RecordedBy p e d ns' xs'
      → RecordedBy p e d (ns ++ ns') (xs ++ xs')
  append_recorded [] ns' [] xs' r r' = r'
  append_recorded [] ns' (x ∷ xs) xs' r r' = absurd r
  append_recorded (n ∷ ns) ns' [] xs' r r' = absurd r
  append_recorded (n ∷ ns) ns' (x ∷ xs) xs' r r' = (r.0, append_recorded ns ns' xs xs' r.1 r')

  join_both : (a b : Option (List ℕ)) (x y : Option (List Face)) → Both (RecordedBy p e d) a x → Both (RecordedBy p e d) b y
      → Both (RecordedBy p e d) (join a b) (join x y)
  join_both none b none y r r' = tt
  join_both none b (some x) y r r' = absurd r
  join_both (some a) b none y r r' = absurd r
  join_both (some a) none (some x) none r r' = tt
  join_both (some a) none (some x) (some y) r r' = absurd r'
  join_both (some a) (some b) (some x) none r r' = absurd r'
  join_both (some a) (some b) (some x) (some y) r r' = append_recorded a b x y r r'

  module _ (root : List ℕ) where
    face_both : (n i j : ℕ) (z : Slot) (c : Terms) (t : Term) → i < 65536 → d i ≡ n → p i ≡ some (slot z, c) → e j ≡ some t
        → Both (RecordedBy p e d) (some (face_code i j ∷ [])) (some (record { under = n; what = z; children = c; node = j; term = t } ∷ []))
    face_both n i j z c t h dp lp le =
        let q : pattern_node (face_code i j) ≡ i = omega arith in
        let r : expression_node (face_code i j) ≡ j = omega arith in
        (record { slots = ap p q ∙ lp; under = ap d q ∙ dp; node = r; term = le }, tt)

    -- One node of each forest; a and x are the walks of the children, which are alike where the labels are the same
    meet_both : (n k i j : ℕ) (l l' : Nameless) (c c' : Terms) → ClosedLabel (k + length root) l
        → ClosedLabel (k + length root) l'
        → i < 65536 → d i ≡ n → p i ≡ some (l, c) → e j ≡ some (l', c') → (a : Option (List ℕ)) (x : Option (List Face))
        → (l ≡ l' → Both (RecordedBy p e d) a x)
        → Both (RecordedBy p e d) (seen_meet seen_slots i j (seen_label root k l) (seen_label root k l') a) (meet n j l c (l', c') x)
    meet_both n k i j (own o) l' c c' h h' few dp lp le a x ih =
        subst (λ (w : Option (List ℕ)). Both (RecordedBy p e d) w (guard (agrees o l') x)) (sym (choose_false _ _ (own_goes root k o)))
        (guard_both (RecordedBy p e d) (eqb (code (seen_label root k (own o))) (code (seen_label root k l'))) (agrees o l') a x
        (code_agrees root k o h l' h') (λ t. ih (agree_label o l' t)))
    meet_both n k i j (slot z) l' c c' h h' few dp lp le a x ih = face_both n i j z c (l', c') few dp lp le

    -- THE THEOREM
    pub seen_both : (n k i j : ℕ) (u v : Terms) → Closed (k + length root) u → Closed (k + length root) v → Looks p i u
        → Looks e j v
        → Deep d i n u → i + size u ≤ 65536
        → Both (RecordedBy p e d) (seen_walk seen_slots i j (view_from root k u) (view_from root k v)) (walk n j u v)
    seen_both n k i j nil nil h h' lp le dp few = tt
    seen_both n k i j nil (cons l c s) h h' lp le dp few = tt
    seen_both n k i j (cons l c s) nil h h' lp le dp few = tt
    seen_both n k i j (cons l c s) (cons l' c' s') h h' lp le dp few =
        join_both (seen_meet seen_slots i j (seen_label root k l) (seen_label root k l') below)
        (seen_walk seen_slots (suc i + size (view_from root (inner l k) c)) (suc j + size (view_from root (inner l' k) c'))
        (view_from root k s) (view_from root k s'))
        (meet n j l c (l', c') (walk (inner l n) (suc j) c c')) (walk n (suc j + size c') s s')
        (meet_both n k i j l l' c c' h.0 h'.0 (omega arith) dp.0 (look_here p i l c s lp)
        (look_here e j l' c' s' le) below (walk (inner l n) (suc j) c c')
        (λ z. children z (seen_both (inner l n) (inner l k) (suc i) (suc j) c c'
        (subst (λ (m : ℕ). Closed m c) (inner_plus (length root) k l) h.1)
        (subst (λ (m : ℕ). Closed m c') (ap (λ (m : Nameless). inner m (k + length root)) (sym z) ∙ inner_plus (length root) k l) h'.1)
        (look_below p i l c s lp) (look_below e j l' c' s' le) dp.1 (omega arith))))
        (later (seen_both n k (suc i + size c) (suc j + size c') s s' h.2 h'.2
        (look_later p i l c s lp) (look_later e j l' c' s' le) dp.2 (omega arith)))
      where
        below : Option (List ℕ)
        below = seen_walk seen_slots (suc i) (suc j) (view_from root (inner l k) c) (view_from root (inner l' k) c')

        children : l ≡ l'
            → Both (RecordedBy p e d) (seen_walk seen_slots (suc i) (suc j) (view_from root (inner l k) c) (view_from root (inner l k) c'))
            (walk (inner l n) (suc j) c c')
            → Both (RecordedBy p e d) below (walk (inner l n) (suc j) c c')
        children z r =
            subst (λ (m : Nameless). Both (RecordedBy p e d)
            (seen_walk seen_slots (suc i) (suc j) (view_from root (inner l k) c) (view_from root (inner m k) c'))
            (walk (inner l n) (suc j) c c')) z r

        later : Both (RecordedBy p e d) (seen_walk seen_slots (suc i + size c) (suc j + size c') (view_from root k s) (view_from root k s'))
            (walk n (suc j + size c') s s')
            → Both (RecordedBy p e d)
            (seen_walk seen_slots (suc i + size (view_from root (inner l k) c)) (suc j + size (view_from root (inner l' k) c'))
            (view_from root k s) (view_from root k s'))
            (walk n (suc j + size c') s s')
        later r =
            subst (λ (w : Option (List ℕ)). Both (RecordedBy p e d) w (walk n (suc j + size c') s s'))
            (ap₂ (λ (a b : ℕ). seen_walk seen_slots (suc i + a) (suc j + b) (view_from root k s) (view_from root k s'))
            (sym (relabel_size inner (seen_label root) (inner l k) c)) (sym (relabel_size inner (seen_label root) (inner l' k) c'))) r

-- What it says of marks that the walk through the nodes accepts them.
--   Holed    a step that makes a hole: all that it needs, and what holds after it
--   Walked   past the nodes to skip, each marked node has a class that its place takes, nodes of one place have one class, and no marked
--            node lies below another
use mathlib.Core.Path.{◌≡◌, refl, ap, sym, ◌∙◌, subst}
use mathlib.Core.Logic.{◌↔◌}
use Prim.Native.Nat.{ℕ, zero, suc, ◌+◌, ◌<◌, ◌≤◌}
use mathlib.Core.Bool.{Bool, true, false}
use mathlib.Core.List.{List, [], ◌∷◌}
use mathlib.Core.Option.{Option, none, some}
use native.Mathlib.Omega.{arith}
use native.Mathlib.Decide.{ℕ_discrete}
use lib.ListN.{length, get_elem?, set}
use lib.Dec.{eqb, eqb→eq, T}
use Rattle.meaning.specs.Basics.{All, and_then, guard, holds}
use Rattle.meaning.specs.Choice.{Mark, Marks}
use Rattle.meaning.proofs.Lists.{never, true_T, eqb_self, mem_all, mem_at}
use Rattle.meaning.proofs.Ordered.{Placed}
use Rattle.paths.specs.Words.{accepts}
use Rattle.paths.specs.Paths.{Node, State, class_at, holed, next, passed, size_at, takes}

-- The class of a place after a change
set_same : {A : Type 0} (xs : List A) (q : ℕ) (x : A) → q < length xs → get_elem? (set xs q x) q ≡ some x
set_same [] q x h = absurd (omega arith)
set_same (y ∷ xs) zero x h = refl
set_same (y ∷ xs) (suc q) x h = set_same xs q x (omega arith)

set_other : {A : Type 0} (xs : List A) (p q : ℕ) (x : A) → (p ≡ q → ⊥) → get_elem? (set xs q x) p ≡ get_elem? xs p
set_other [] p q x h = refl
set_other (y ∷ xs) zero zero x h = absurd (h refl)
set_other (y ∷ xs) zero (suc q) x h = refl
set_other (y ∷ xs) (suc p) zero x h = refl
set_other (y ∷ xs) (suc p) (suc q) x h = set_other xs p q x (λ e. h (ap suc e))

-- Tests of an answer that may be missing
holds_guard : {A : Type 0} (p : A → Bool) (b : Bool) (w : Option A) → T (holds p (guard b w)) → T b × T (holds p w)
holds_guard p true w t = (tt, t)
holds_guard p false w t = absurd t

guard_holds : {A : Type 0} (p : A → Bool) (b : Bool) (w : Option A) → T b → T (holds p w) → T (holds p (guard b w))
guard_holds p true w t h = h
guard_holds p false w t h = absurd t

holds_then : {A B : Type 0} (p : B → Bool) (w : Option A) (f : A → Option B) → T (holds p (and_then w f))
    → (a : A) × (w ≡ some a) × T (holds p (f a))
holds_then p none f t = absurd t
holds_then p (some a) f t = (a, refl, t)

-- A place and a class
takes_same : (w : Option (Option ℕ)) (c d : ℕ) → T (takes w c) → w ≡ some (some d) → d ≡ c
takes_same none c d t e = absurd t
takes_same (some none) c d t e = never (cc)
takes_same (some (some b)) c d t e = let same : d ≡ b = cc in same ∙ eqb→eq b c t

same_takes : (w : Option (Option ℕ)) (c : ℕ) → w ≡ some (some c) → T (takes w c)
same_takes w c e = true_T (ap (λ (v : Option (Option ℕ)). takes v c) e ∙ eqb_self c)

pub takes_low : (cs : List (Option ℕ)) (q c : ℕ) → T (takes (get_elem? cs q) c) → q < length cs
takes_low [] q c t = absurd t
takes_low (d ∷ cs) zero c t = omega arith
takes_low (d ∷ cs) (suc q) c t = let h = takes_low cs q c t in omega arith

-- A step that makes a hole
pub record Holed (p : State → Bool) (s : State) (x : Node) (q : ℕ) : Type 0 where
  pub here : s.skip ≡ 0
  pub class : ℕ
  pub has : x.class ≡ some class
  pub taken : T (takes (get_elem? s.classes q) class)
  pub on : T (p (holed s q x.size class))

module _ (p : State → Bool) (s : State) (x : Node) (q : ℕ) where
  pub hole_step : T (holds p (next s x (some q))) → Holed p s x q
  unfolding next
  hole_step t =
      let a = holds_guard p (eqb s.skip 0) _ t in
      let b = holds_then p x.class _ a.1 in
      let d = holds_guard p (takes (get_elem? s.classes q) b.0) (some (holed s q x.size b.0)) b.2 in
      record { here = eqb→eq s.skip 0 a.0; class = b.0; has = b.1; taken = d.0; on = d.1 }

  step_hole : Holed p s x q → T (holds p (next s x (some q)))
  unfolding next
  step_hole h =
      guard_holds p (eqb s.skip 0) _ (true_T (ap (λ (k : ℕ). eqb k 0) h.here))
      (subst (λ (w : Option ℕ). T (holds p (and_then w (λ c.
      guard (takes (get_elem? s.classes q) c) (some (holed s q x.size c)))))) (sym h.has)
      (guard_holds p (takes (get_elem? s.classes q) h.class) (some (holed s q x.size h.class)) h.taken h.on))

pub record Walked (s : State) (xs : List Node) (ms : Marks) : Type 0 where
  pub past : (k q : ℕ) → get_elem? ms k ≡ some (some q) → s.skip ≤ k
  pub classed : (k q : ℕ) → get_elem? ms k ≡ some (some q) → (c : ℕ) × (class_at xs k ≡ some c) × T (takes (get_elem? s.classes q) c)
  pub equal : (j k q : ℕ) → get_elem? ms j ≡ some (some q) → get_elem? ms k ≡ some (some q) → class_at xs j ≡ class_at xs k
  pub apart : (j k p q : ℕ) → get_elem? ms j ≡ some (some p) → get_elem? ms k ≡ some (some q) → j < k → j + size_at xs j ≤ k

-- One node on, with none
module _ (s : State) (x : Node) (xs : List Node) (ms : Marks) where
  none_walked : Walked (passed s) xs ms → Walked s (x ∷ xs) (none ∷ ms)
  none_walked w = record { past = past; classed = classed; equal = equal; apart = apart }
    where
      past : (k q : ℕ) → get_elem? (none ∷ ms) k ≡ some (some q) → s.skip ≤ k
      past zero q e = never (cc)
      past (suc k) q e = let h = w.past k q e in omega arith

      classed : (k q : ℕ) → get_elem? (none ∷ ms) k ≡ some (some q)
          → (c : ℕ) × (class_at (x ∷ xs) k ≡ some c) × T (takes (get_elem? s.classes q) c)
      classed zero q e = never (cc)
      classed (suc k) q e = w.classed k q e

      equal : (j k q : ℕ) → get_elem? (none ∷ ms) j ≡ some (some q) → get_elem? (none ∷ ms) k ≡ some (some q)
          → class_at (x ∷ xs) j ≡ class_at (x ∷ xs) k
      equal zero k q d e = never (cc)
      equal (suc j) zero q d e = never (cc)
      equal (suc j) (suc k) q d e = w.equal j k q d e

      apart : (j k p q : ℕ) → get_elem? (none ∷ ms) j ≡ some (some p) → get_elem? (none ∷ ms) k ≡ some (some q) → j < k
          → j + size_at (x ∷ xs) j ≤ k
      apart zero k p q d e l = never (cc)
      apart (suc j) zero p q d e l = never (cc)
      apart (suc j) (suc k) p q d e l = let h = w.apart j k p q d e (omega arith) in omega arith

  walked_none : Walked s (x ∷ xs) (none ∷ ms) → Walked (passed s) xs ms
  walked_none w =
      record {
        past = λ k q e. let h = w.past (suc k) q e in omega arith;
        classed = λ k q e. w.classed (suc k) q e;
        equal = λ j k q d e. w.equal (suc j) (suc k) q d e;
        apart = λ j k p q d e l. let h = w.apart (suc j) (suc k) p q d e (omega arith) in omega arith;
      }

-- One node on, with a hole of place q, which then has class c
module _ (s : State) (x : Node) (q c : ℕ) (xs : List Node) (ms : Marks) (has : x.class ≡ some c)
    (taken : T (takes (get_elem? s.classes q) c)) where
  put : get_elem? (set s.classes q (some c)) q ≡ some (some c)
  put = set_same s.classes q (some c) (takes_low s.classes q c taken)

  hole_walked : s.skip ≡ 0 → Walked (holed s q x.size c) xs ms
      → Walked s (x ∷ xs) (some q ∷ ms)
  hole_walked here w = record { past = λ k p e. omega arith; classed = classed; equal = equal; apart = apart }
    where
      -- What has become a hole of place q has its class
      own : (k : ℕ) → get_elem? ms k ≡ some (some q) → class_at xs k ≡ some c
      own k e =
          let (d, h, g) = w.classed k q e in
          h ∙ ap some (sym (takes_same (get_elem? (set s.classes q (some c)) q) d c g put))

      classed : (k p : ℕ) → get_elem? (some q ∷ ms) k ≡ some (some p)
          → (d : ℕ) × (class_at (x ∷ xs) k ≡ some d) × T (takes (get_elem? s.classes p) d)
      classed zero p e =
          let same : q ≡ p = cc in (c, has, subst (λ (r : ℕ). T (takes (get_elem? s.classes r) c)) same taken)
      classed (suc k) p e =
          elim (ℕ_discrete p q) [
            | yes same ↦
                let mine = own k (e ∙ ap (λ (r : ℕ). some (some r)) same) in
                (c, mine, subst (λ (r : ℕ). T (takes (get_elem? s.classes r) c)) (sym same) taken)
            | no other ↦
                let (d, h, g) = w.classed k p e in
                (d, h, subst (λ (v : Option (Option ℕ)). T (takes v d)) (set_other s.classes p q (some c) other) g)
          ]

      equal : (j k p : ℕ) → get_elem? (some q ∷ ms) j ≡ some (some p) → get_elem? (some q ∷ ms) k ≡ some (some p)
          → class_at (x ∷ xs) j ≡ class_at (x ∷ xs) k
      equal zero zero p d e = refl
      equal zero (suc k) p d e = has ∙ sym (own k (e ∙ sym d))
      equal (suc j) zero p d e = own j (d ∙ sym e) ∙ sym has
      equal (suc j) (suc k) p d e = w.equal j k p d e

      apart : (j k p r : ℕ) → get_elem? (some q ∷ ms) j ≡ some (some p) → get_elem? (some q ∷ ms) k ≡ some (some r) → j < k
          → j + size_at (x ∷ xs) j ≤ k
      apart j zero p r d e l = absurd (omega arith)
      apart zero (suc k) p r d e l = let h = w.past k r e in omega arith
      apart (suc j) (suc k) p r d e l = let h = w.apart j k p r d e (omega arith) in omega arith

  walked_hole : Walked s (x ∷ xs) (some q ∷ ms) → Walked (holed s q x.size c) xs ms
  walked_hole w =
      record {
        past = λ k p e. let h = w.apart 0 (suc k) q p refl e (omega arith) in omega arith;
        classed = classed;
        equal = λ j k p d e. w.equal (suc j) (suc k) p d e;
        apart = λ j k p r d e l. let h = w.apart (suc j) (suc k) p r d e (omega arith) in omega arith;
      }
    where
      classed : (k p : ℕ) → get_elem? ms k ≡ some (some p)
          → (d : ℕ) × (class_at xs k ≡ some d) × T (takes (get_elem? (set s.classes q (some c)) p) d)
      classed k p e =
          elim (ℕ_discrete p q) [
            | yes same ↦ (
              c,
              w.equal (suc k) 0 q (e ∙ ap (λ (r : ℕ). some (some r)) same) refl ∙ has,
              same_takes (get_elem? (set s.classes q (some c)) p) c
                  (ap (get_elem? (set s.classes q (some c))) same ∙ put),
            )
            | no other ↦
                let (d, h, g) = w.classed (suc k) p e in
                (d, h, subst (λ (v : Option (Option ℕ)). T (takes v d)) (sym (set_other s.classes p q (some c) other)) g)
          ]

nothing_walked : (s : State) → Walked s [] []
nothing_walked s =
    record {
      past = λ k q e. never (cc);
      classed = λ k q e. never (cc);
      equal = λ j k q d e. never (cc);
      apart = λ j k p q d e h. never (cc);
    }

-- THE WALK ACCEPTS just such marks
accepts_walked : (s : State) (xs : List Node) (ms : Marks) → T (accepts next s xs ms) → (length ms ≡ length xs) × Walked s xs ms
unfolding accepts next
accepts_walked s [] [] t = (refl, nothing_walked s)
accepts_walked s [] (m ∷ ms) t = absurd t
accepts_walked s (x ∷ xs) [] t = absurd t
accepts_walked s (x ∷ xs) (none ∷ ms) t =
    let (l, w) = accepts_walked (passed s) xs ms t in (ap suc l, none_walked s x xs ms w)
accepts_walked s (x ∷ xs) (some q ∷ ms) t =
    let h = hole_step (λ r. accepts next r xs ms) s x q t in
    let (l, w) = accepts_walked (holed s q x.size h.class) xs ms h.on in
    (ap suc l, hole_walked s x q h.class xs ms h.has h.taken h.here w)

walked_accepts : (s : State) (xs : List Node) (ms : Marks) → length ms ≡ length xs → Walked s xs ms → T (accepts next s xs ms)
unfolding accepts next
walked_accepts s [] [] e w = tt
walked_accepts s [] (m ∷ ms) e w = absurd (omega arith)
walked_accepts s (x ∷ xs) [] e w = absurd (omega arith)
walked_accepts s (x ∷ xs) (none ∷ ms) e w = walked_accepts (passed s) xs ms (omega arith) (walked_none s x xs ms w)
walked_accepts s (x ∷ xs) (some q ∷ ms) e w =
    let (c, has, taken) = w.classed 0 q refl in
    let first = w.past 0 q refl in
    step_hole (λ r. accepts next r xs ms) s x q (record {
      here = omega arith;
      class = c;
      has = has;
      taken = taken;
      on = walked_accepts (holed s q x.size c) xs ms (omega arith) (walked_hole s x q c xs ms has taken w);
    })

pub accepted_walked : (s : State) (xs : List Node) (ms : Marks) → T (accepts next s xs ms) ↔ ((length ms ≡ length xs) × Walked s xs ms)
accepted_walked s xs ms = (accepts_walked s xs ms, λ h. walked_accepts s xs ms h.0 h.1)

-- Each hole has one of the places
pub accepted_placed : (s : State) (xs : List Node) (ms : Marks) → T (accepts next s xs ms) → All (Placed (length s.classes)) ms
accepted_placed s xs ms t = mem_all (Placed (length s.classes)) ms (λ m h. let (k, e) = mem_at ms m h in go m k e)
  where
    go : (m : Mark) (k : ℕ) → get_elem? ms k ≡ some m → Placed (length s.classes) m
    go none k e = tt
    go (some q) k e = let (c, h, g) = (accepts_walked s xs ms t).1.classed k q e in takes_low s.classes q c g

-- Which slots arguments, bodies and patterns have, and so which faces a walk of them finds.
use mathlib.Core.Path.{◌≡◌, refl}
use Prim.Native.Nat.{ℕ, ◌<◌}
use mathlib.Core.List.{List}
use mathlib.Core.Option.{some}
use Rattle.meaning.specs.Basics.{All, ◌∈◌}
use Rattle.meaning.specs.Term.{nil, cons, own, slot, Slot, metavariable, function, hole, Terms}
use Rattle.meaning.specs.Filling.{IsBody}
use Rattle.meaning.specs.Face.{Face, walk}
use Rattle.meaning.proofs.Lists.{all_mem, all_append}
use Rattle.meaning.proofs.Proper.{IsArgument, IsPattern}
use Rattle.meaning.proofs.Slots.{slots, face_slot}

abbrev pub IsMetavariable : Slot → Type 0
IsMetavariable z = (m : ℕ) × (z ≡ metavariable m)

abbrev pub IsHoleOf : ℕ → Slot → Type 0
IsHoleOf n z = (i : ℕ) × (z ≡ hole i) × (i < n)

abbrev pub NoHole : Slot → Type 0
NoHole (metavariable m) = Unit {0}
NoHole (function f n) = Unit {0}
NoHole (hole i) = ⊥

argument_slots : (u : Terms) → IsArgument u → All (λ y. IsMetavariable y.0) (slots u)
argument_slots nil h = tt
argument_slots (cons (own o) c s) h =
    all_append (λ y. IsMetavariable y.0) (slots c) (slots s) (argument_slots c h.1) (argument_slots s h.2)
argument_slots (cons (slot (metavariable m)) c s) h = ((m, refl), argument_slots s h.2)
argument_slots (cons (slot (function f n)) c s) h = absurd h.0
argument_slots (cons (slot (hole i)) c s) h = absurd h.0

body_slots : (n : ℕ) (u : Terms) → IsBody n u → All (λ y. IsHoleOf n y.0) (slots u)
body_slots n nil h = tt
body_slots n (cons (own o) c s) h =
    all_append (λ y. IsHoleOf n y.0) (slots c) (slots s) (body_slots n c h.1) (body_slots n s h.2)
body_slots n (cons (slot (metavariable m)) c s) h = absurd h.0
body_slots n (cons (slot (function f a)) c s) h = absurd h.0
body_slots n (cons (slot (hole i)) c s) h = ((i, refl, h.0.0), body_slots n s h.2)

pattern_slots : (u : Terms) → IsPattern u → All (λ y. NoHole y.0) (slots u)
pattern_slots nil h = tt
pattern_slots (cons (own o) c s) h = all_append (λ y. NoHole y.0) (slots c) (slots s) (pattern_slots c h.1) (pattern_slots s h.2)
pattern_slots (cons (slot (metavariable m)) c s) h = (tt, pattern_slots s h.2)
pattern_slots (cons (slot (function f n)) c s) h = (tt, pattern_slots s h.2)
pattern_slots (cons (slot (hole i)) c s) h = absurd h.0

-- What holds of every slot holds of every face
module _ (k n : ℕ) (u e : Terms) (xs : List Face) (found : walk k n u e ≡ some xs) (x : Face) (among : x ∈ xs) where
  face_has : (P : Slot → Type 0) → All (λ y. P y.0) (slots u) → P x.what
  face_has P a = all_mem (λ (y : Slot × Terms). P y.0) (x.what, x.children) (slots u) a (face_slot k n u e xs x found among)

  pub argument_face : IsArgument u → IsMetavariable x.what
  argument_face h = face_has IsMetavariable (argument_slots u h)

  pub body_face : (places : ℕ) → IsBody places u → IsHoleOf places x.what
  body_face places h = face_has (IsHoleOf places) (body_slots places u h)

  pub pattern_face : IsPattern u → NoHole x.what
  pattern_face h = face_has NoHole (pattern_slots u h)

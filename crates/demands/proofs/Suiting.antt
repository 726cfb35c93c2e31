-- Bodies that suit what they face, by the walk of the two: all holes of a place hold, without the binders above them, one term.
--   Gets   a face of a body's walk, as the slot z, is filled to what it faces
use mathlib.Core.Path.{◌≡◌, ap, sym, ◌∙◌, subst}
use mathlib.Core.Logic.{◌↔◌}
use Prim.Native.Nat.{ℕ, ◌<◌}
use mathlib.Core.List.{List}
use mathlib.Core.Option.{Option, none, some}
use Rattle.meaning.specs.Basics.{AllO, ◌∈◌, and_then}
use Rattle.meaning.specs.Term.{nil, one, slot, Slot, hole, Term}
use Rattle.meaning.specs.Shift.{shift_term}
use Rattle.meaning.specs.Filling.{fill, plug_handler, plug, IsBody}
use Rattle.meaning.specs.Face.{Face, walk}
use Rattle.meaning.specs.Value.{lowest_hole}
use Rattle.meaning.specs.Lower.{lower_term}
use Rattle.meaning.specs.Agree.{Satisfied}
use Rattle.meaning.proofs.Lists.{mem_all}
use Rattle.meaning.proofs.ShiftLaws.{lower_shift_term, shift_lower_term}
use Rattle.meaning.proofs.Renaming.{one_injective}
use Rattle.meaning.proofs.Lockstep.{walk_out}
use Rattle.meaning.proofs.Sources.{Walked, walked, lowest_is, lowest_there}
use Rattle.demands.specs.Demand.{lowered}
use Rattle.demands.specs.Fit.{Suits, SuitsWalked}
use Rattle.demands.proofs.SlotKinds.{IsHoleOf, body_face}

abbrev pub Gets : (ℕ → Term) → Face → Slot → Type 0
Gets a h z = plug_handler a h.under z (fill (plug_handler a) h.under h.children) ≡ h.term

pub shift_lowered : (a : Term) (h : Face) → shift_term h.under a ≡ h.term → lowered h ≡ some a
shift_lowered a h e = subst (λ (t : Term). lower_term h.under t ≡ some a) e (lower_shift_term h.under a)

-- A body whose holes all get what they face
pub fill_body : (places n : ℕ) (a : ℕ → Term) (b e : Term) (hs : List Face) → IsBody places (one b) → walk 0 n (one b) (one e) ≡ some hs
    → ((h : Face) (i : ℕ) → h ∈ hs → h.what ≡ hole i → i < places → shift_term h.under (a i) ≡ h.term) → plug a b ≡ e
fill_body places n a b e hs is_body found gets =
    one_injective (plug a b) e
    (walk_out (plug_handler a) 0 n (one b) (one e)
    (subst (AllO (Satisfied (plug_handler a))) (sym found)
    (mem_all (Satisfied (plug_handler a)) hs (λ h q. at h q (body_face 0 n (one b) (one e) hs found h q places is_body)))))
  where
    at : (h : Face) → h ∈ hs → IsHoleOf places h.what → Satisfied (plug_handler a) h
    at h q (i, z, small) = subst (Gets a h) (sym z) (gets h i q z small)

-- What the lowest hole of each place holds
abbrev or_hole : ℕ → Option Term → Term
or_hole i none = (slot (hole i), nil)
or_hole i (some t) = t

abbrev held_at : List Face → ℕ → Term
held_at hs i = or_hole i (and_then (lowest_hole i hs) lowered)

module _ (places n : ℕ) (b e : Term) (is_body : IsBody places (one b)) where
  suits_in : Suits b e → SuitsWalked n b e
  suits_in (a, q) =
      let w : Walked (plug_handler a) 0 n (one b) (one e) = walked (plug_handler a) 0 n (one b) (one e) (ap (λ (t : Term). one t) q) in
      record {
        holes = w.found;
        found = w.defined;
        same = λ i h l m z low.
            let (k, y) = lowest_is i w.found l low in (
              a i,
              shift_lowered (a i) h (subst (Gets a h) z (w.satisfied h m)),
              shift_lowered (a i) l (subst (Gets a l) y (w.satisfied l k)),
            );
      }

  suits_out : SuitsWalked n b e → Suits b e
  suits_out s = (held_at s.holes, fill_body places n (held_at s.holes) b e s.holes is_body s.found (λ h i q z small. at h i q z))
    where
      at : (h : Face) (i : ℕ) → h ∈ s.holes → h.what ≡ hole i → shift_term h.under (held_at s.holes i) ≡ h.term
      at h i q z =
          let (l, low) = lowest_there i s.holes h q z in
          let (t, here, lowest) = s.same i h l q z low in
          let held : held_at s.holes i ≡ t =
          ap (λ (o : Option Face). or_hole i (and_then o lowered)) low ∙ ap (or_hole i) lowest in
          ap (shift_term h.under) held ∙ shift_lower_term h.under h.term t here

  -- SUITING IS TESTED BY A WALK
  pub suits_walked : Suits b e ↔ SuitsWalked n b e
  suits_walked = (suits_in, suits_out)

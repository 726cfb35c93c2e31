-- All faces together: a filling meets the constraints exactly when its bodies suit what they face and the demands hold of it.
use mathlib.Core.Path.{◌≡◌, refl, ap, sym, ◌∙◌, subst}
use Prim.Native.Nat.{ℕ}
use mathlib.Core.List.{List}
use mathlib.Core.Option.{some}
use Rattle.meaning.specs.Basics.{each, All, AllO, ◌∈◌}
use Rattle.meaning.specs.Term.{one, Slot, metavariable, function, hole, Term}
use Rattle.meaning.specs.Problem.{Problem, patterns, expressions, applications, applied}
use Rattle.meaning.specs.Filling.{fill, plug, Entry, body, Filling, body_or, fill_handler, filled, IsBody}
use Rattle.meaning.specs.Face.{Face, walk_of}
use Rattle.meaning.specs.Value.{source_at, source_of}
use Rattle.meaning.specs.Agree.{Satisfied}
use Rattle.meaning.proofs.Lists.{all_mem, mem_all, join_in, join_out}
use Rattle.meaning.proofs.Lockstep.{walk_in, walk_out}
use Rattle.meaning.proofs.Proper.{Proper}
use Rattle.meaning.proofs.Slots.{slot_application, faced_slot, faced_expression, faced_shape, faced_applied}
use Rattle.demands.specs.Demand.{each_some, slot_lowest, lowest_in}
use Rattle.demands.specs.Fit.{Suits}
use Rattle.demands.proofs.SlotKinds.{NoHole, pattern_face}
use Rattle.demands.proofs.Answers.{each-some-in, each-some-out, all-each, each_all}
use Rattle.demands.proofs.Holding.{Holds, slot_holds, holds_slot, filled_arguments, application_in, application_out}

module _ (p : Problem) (c : Proper p) (xs : List Face) (defined : walk_of p ≡ some xs) (σ : Filling) (b : ℕ → Term)
    (agree : (f : ℕ) → f ∈ applied (patterns p) → σ f ≡ body (b f)) where
  -- What a face's slot is filled to, by what it is
  abbrev filled_as : Face → Slot → Term
  filled_as x z = fill_handler σ x.under z (fill (fill_handler σ) x.under x.children)

  filled_application : (f n : ℕ) (x : Face) → x ∈ xs → x.what ≡ function f n
      → plug (filled_arguments σ x) (b f) ≡ filled_as x (function f n)
  filled_application f n x q e =
      ap (λ (y : Entry Term). plug (filled_arguments σ x) (body_or f y)) (sym (agree f (faced_applied p c xs defined f n x q e)))

  -- FROM THE FILLED PATTERNS
  module _ (meets : filled σ (patterns p) ≡ expressions p) where
    satisfied : (x : Face) → x ∈ xs → (z : Slot) → x.what ≡ z → filled_as x z ≡ x.term
    satisfied x q z e =
        subst (λ (y : Slot). filled_as x y ≡ x.term) e
        (all_mem (Satisfied (fill_handler σ)) x xs
        (subst (AllO (Satisfied (fill_handler σ))) defined (walk_in (fill_handler σ) 0 0 (patterns p) (expressions p) meets)) q)

    plugged : (f n : ℕ) (x : Face) → x ∈ xs → x.what ≡ function f n → plug (filled_arguments σ x) (b f) ≡ x.term
    plugged f n x q e = filled_application f n x q e ∙ satisfied x q (function f n) e

    pub meets_suits : (f n : ℕ) (x : Face) → x ∈ xs → x.what ≡ function f n → Suits (b f) x.term
    meets_suits f n x q e = (filled_arguments σ x, plugged f n x q e)

    slot_in : (x : Face) → x ∈ xs → (z : Slot) → x.what ≡ z → AllO (Holds σ) (slot_lowest b x z)
    slot_in x q (metavariable m) e = tt
    slot_in x q (hole i) e = tt
    slot_in x q (function f n) e =
        application_in σ (b f) n x (faced_shape p c xs defined f n x q e).0 (faced_expression p c xs defined x q) (plugged f n x q e)

    pub meets_demands : AllO (Holds σ) (lowest_in b xs)
    meets_demands =
        join_in (Holds σ) (some (each source_of xs)) (each_some (λ x. slot_lowest b x x.what) xs)
        (all-each (Holds σ) source_of xs
        (λ x q. slot_holds σ x.what x.under x.node (fill (fill_handler σ) x.under x.children) x.term
        (faced_expression p c xs defined x q) (satisfied x q x.what refl)))
        (each-some-in (Holds σ) (λ x. slot_lowest b x x.what) xs (λ x q. slot_in x q x.what refl))

  -- FROM THE DEMANDS
  module _ (bodies : (f n : ℕ) → (f, n) ∈ applications (patterns p) → IsBody n (one (b f)))
      (suits : (f n : ℕ) (x : Face) → x ∈ xs → x.what ≡ function f n → Suits (b f) x.term) where
    slot_out : (x : Face) → x ∈ xs → (z : Slot) → x.what ≡ z → NoHole z → All (Holds σ) (source_at z x.node x.term)
        → AllO (Holds σ) (slot_lowest b x z) → filled_as x z ≡ x.term
    slot_out x q (metavariable m) e v s a = holds_slot σ m x.under x.node (fill (fill_handler σ) x.under x.children) x.term s
    slot_out x q (hole i) e v s a = absurd v
    slot_out x q (function f n) e v s a =
        let (many, arguments) = faced_shape p c xs defined f n x q e in
        let is_body : IsBody n (one (b f)) =
        bodies f n (slot_application (patterns p) f n x.children (faced_slot p c xs defined (function f n) x q e)) in
        sym (filled_application f n x q e) ∙ application_out σ (b f) n x many arguments is_body (suits f n x q e) a

    pub demands_meet : AllO (Holds σ) (lowest_in b xs) → filled σ (patterns p) ≡ expressions p
    demands_meet a =
        let (plain, applying) = join_out (Holds σ) (some (each source_of xs)) (each_some (λ x. slot_lowest b x x.what) xs) a in
        walk_out (fill_handler σ) 0 0 (patterns p) (expressions p)
        (subst (AllO (Satisfied (fill_handler σ))) (sym defined)
        (mem_all (Satisfied (fill_handler σ)) xs
        (λ x q. slot_out x q x.what refl
        (pattern_face 0 0 (patterns p) (expressions p) xs defined x q c.pattern)
        (each_all (Holds σ) source_of xs plain x q)
        (each-some-out (Holds σ) (λ x. slot_lowest b x x.what) xs applying x q))))

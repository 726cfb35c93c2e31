-- Demands that hold of a filling: an argument and a hole are filled to what they face exactly when their demands hold, and so is an
-- application whose body suits it.
--   Holds   a metavariable is given the term that a demand asks for
use mathlib.Core.Path.{◌≡◌, refl, ap, sym, ◌∙◌, subst}
use Prim.Native.Nat.{ℕ, ◌<◌}
use mathlib.Core.List.{List}
use mathlib.Core.Option.{Option, none, some}
use Rattle.meaning.specs.Basics.{each, up_to, All, AllO, ◌∈◌, and_then}
use Rattle.meaning.specs.Term.{one, trees, Slot, metavariable, function, hole, Terms, Term, IsExpression}
use Rattle.meaning.specs.Shift.{shift_term}
use Rattle.meaning.specs.Filling.{fill, fill_term, plug_handler, plug, argument, value, Filling, value_or, fill_handler, IsBody}
use Rattle.meaning.specs.Face.{Face, walk}
use Rattle.meaning.specs.Value.{Source, source_at, source_of, lowest_hole}
use Rattle.meaning.specs.Agree.{Satisfied}
use Rattle.meaning.proofs.Lists.{up_to_mem, mem_up_to, mem_all}
use Rattle.meaning.proofs.ShiftLaws.{lower_expression}
use Rattle.meaning.proofs.Renaming.{one_injective}
use Rattle.meaning.proofs.Lockstep.{walk_out}
use Rattle.meaning.proofs.Proper.{IsArgument}
use Rattle.meaning.proofs.Slots.{faces_expression}
use Rattle.meaning.proofs.Sources.{value_is, Walked, walked, lowest_is, lowest_there, argument_filled, argument_of_lem}
use Rattle.demands.specs.Demand.{each_some, sources_met, lowered, hole_demands, lowest_demand, place_demands, application_lowest}
use Rattle.demands.specs.Fit.{Suits}
use Rattle.demands.proofs.SlotKinds.{IsMetavariable, argument_face}
use Rattle.demands.proofs.Suiting.{Gets, shift_lowered, fill_body}
use Rattle.demands.proofs.Answers.{each-some-in, each-some-out, then-in, then-out, all-each, each_all}

abbrev pub Holds : Filling → Source → Type 0
Holds σ d = σ d.number ≡ value d.term

module _ (σ : Filling) where
  -- One slot against what it faces
  pub slot_holds : (z : Slot) (k n : ℕ) (c : Terms) (t : Term) → IsExpression (one t) → fill_handler σ k z c ≡ t
      → All (Holds σ) (source_at z n t)
  slot_holds (metavariable m) k n c t x e = (value_is m (σ m) t x e, tt)
  slot_holds (function f a) k n c t x e = tt
  slot_holds (hole i) k n c t x e = tt

  pub holds_slot : (m k n : ℕ) (c : Terms) (t : Term) → All (Holds σ) (source_at (metavariable m) n t)
      → fill_handler σ k (metavariable m) c ≡ t
  holds_slot m k n c t a = ap (value_or m) a.0

  -- AN ARGUMENT
  argument_in : (k n : ℕ) (t u : Terms) → IsExpression u → fill (fill_handler σ) k t ≡ u → AllO (Holds σ) (sources_met (walk k n t u))
  argument_in k n t u x e =
      let w : Walked (fill_handler σ) k n t u = walked (fill_handler σ) k n t u e in
      then-in (Holds σ) (walk k n t u) (λ ys. some (each source_of ys)) w.found w.defined
      (all-each (Holds σ) source_of w.found
      (λ y q. slot_holds y.what y.under y.node (fill (fill_handler σ) y.under y.children) y.term
      (faces_expression k n t u w.found x w.defined y q) (w.satisfied y q)))

  argument_out : (k n : ℕ) (t u : Terms) → IsArgument t → AllO (Holds σ) (sources_met (walk k n t u)) → fill (fill_handler σ) k t ≡ u
  argument_out k n t u v a =
      let (ys, d, h) = then-out (Holds σ) (walk k n t u) (λ ys. some (each source_of ys)) a in
      walk_out (fill_handler σ) k n t u
      (subst (AllO (Satisfied (fill_handler σ))) (sym d)
      (mem_all (Satisfied (fill_handler σ)) ys
      (λ y q. at y (argument_face k n t u ys d y q v) (each_all (Holds σ) source_of ys h y q))))
    where
      at : (y : Face) → IsMetavariable y.what → All (Holds σ) (source_of y) → Satisfied (fill_handler σ) y
      at y (m, e) h =
          subst (λ (z : Slot). fill_handler σ y.under z (fill (fill_handler σ) y.under y.children) ≡ y.term) (sym e)
          (holds_slot m y.under y.node (fill (fill_handler σ) y.under y.children) y.term
          (subst (λ (z : Slot). All (Holds σ) (source_at z y.node y.term)) e h))

  -- A HOLE
  hole_in_lem : (k : ℕ) (t : Term) (h : Face) → IsExpression (one h.term) → shift_term h.under (fill_term (fill_handler σ) k t) ≡ h.term
      → AllO (Holds σ) (hole_demands k t h)
  hole_in_lem k t h x e =
      let a : Term = fill_term (fill_handler σ) k t in
      let l : lowered h ≡ some a = shift_lowered a h e in
      then-in (Holds σ) (lowered h) (λ u. sources_met (walk k h.node (one t) (one u))) a l
      (argument_in k h.node (one t) (one a) (lower_expression h.under h.term a l x) refl)

  hole_out : (k : ℕ) (t : Term) (h : Face) → IsArgument (one t) → AllO (Holds σ) (hole_demands k t h)
      → lowered h ≡ some (fill_term (fill_handler σ) k t)
  hole_out k t h v a =
      let (u, l, w) = then-out (Holds σ) (lowered h) (λ u. sources_met (walk k h.node (one t) (one u))) a in
      l ∙ ap some (sym (one_injective (fill_term (fill_handler σ) k t) u (argument_out k h.node (one t) (one u) v w)))

  -- AN APPLICATION of a function with body b, with n arguments
  abbrev pub filled_arguments : Face → ℕ → Term
  filled_arguments x = argument (fill (fill_handler σ) x.under x.children)

  module _ (b : Term) (n : ℕ) (x : Face) (many : trees x.children ≡ n) where
    fewer : (i : ℕ) → i < n → i < trees x.children
    fewer i h = subst (λ (m : ℕ). i < m) (sym many) h

    filled_is : (i : ℕ) → i < n → filled_arguments x i ≡ fill_term (fill_handler σ) x.under (argument x.children i)
    filled_is i h = argument_filled (fill_handler σ) x.under x.children i (fewer i h)

    -- That it is filled to what it faces makes the demands at all holes hold, those at the lowest among them
    pub application_in : IsExpression (one x.term) → plug (filled_arguments x) b ≡ x.term → AllO (Holds σ) (application_lowest b n x)
    application_in ex e =
        then-in (Holds σ) (walk 0 x.node (one b) (one x.term)) (λ hs. each_some (place_demands x hs) (up_to n)) w.found w.defined
        (each-some-in (Holds σ) (place_demands x w.found) (up_to n) (λ i q. at i (up_to_mem n i q) (lowest_hole i w.found) refl))
      where
        w : Walked (plug_handler (filled_arguments x)) 0 x.node (one b) (one x.term)
        w = walked (plug_handler (filled_arguments x)) 0 x.node (one b) (one x.term) (ap (λ (t : Term). one t) e)

        at : (i : ℕ) → i < n → (o : Option Face) → lowest_hole i w.found ≡ o
            → AllO (Holds σ) (lowest_demand x.under (argument x.children i) o)
        at i small none q = tt
        at i small (some h) q =
            let (m, z) = lowest_is i w.found h q in
            let s : shift_term h.under (filled_arguments x i) ≡ h.term = subst (Gets (filled_arguments x) h) z (w.satisfied h m) in
            hole_in_lem x.under (argument x.children i) h
            (faces_expression 0 x.node (one b) (one x.term) w.found ex w.defined h m)
            (ap (shift_term h.under) (sym (filled_is i small)) ∙ s)

    -- Where some arguments a make the body what is faced, the demands at the lowest hole of a place fix the argument there
    pub application_out : IsArgument x.children → IsBody n (one b) → Suits b x.term → AllO (Holds σ) (application_lowest b n x)
        → plug (filled_arguments x) b ≡ x.term
    application_out v is_body (a, e) demanded =
        fill_body n x.node (filled_arguments x) b x.term w.found is_body w.defined (λ h i q z small. at h i q z small)
      where
        w : Walked (plug_handler a) 0 x.node (one b) (one x.term)
        w = walked (plug_handler a) 0 x.node (one b) (one x.term) (ap (λ (t : Term). one t) e)

        placed : (i : ℕ) → i < n → AllO (Holds σ) (place_demands x w.found i)
        placed i small =
            each-some-out (Holds σ) (place_demands x w.found) (up_to n)
            (subst (λ (o : Option (List Face)). AllO (Holds σ) (and_then o (λ hs. each_some (place_demands x hs) (up_to n)))) w.defined
            demanded)
            i (mem_up_to n i small)

        fixed : (i : ℕ) → i < n → (h : Face) → lowest_hole i w.found ≡ some h → filled_arguments x i ≡ a i
        fixed i small h q =
            let (m, z) = lowest_is i w.found h q in
            let lowest : AllO (Holds σ) (hole_demands x.under (argument x.children i) h) =
            subst (λ (o : Option Face). AllO (Holds σ) (lowest_demand x.under (argument x.children i) o)) q (placed i small) in
            let filling : lowered h ≡ some (fill_term (fill_handler σ) x.under (argument x.children i)) =
            hole_out x.under (argument x.children i) h (argument_of_lem x.children i v (fewer i small)) lowest in
            let given : lowered h ≡ some (a i) = shift_lowered (a i) h (subst (Gets a h) z (w.satisfied h m)) in
            filled_is i small ∙ (cc (filling, given))

        at : (h : Face) (i : ℕ) → h ∈ w.found → h.what ≡ hole i → i < n → shift_term h.under (filled_arguments x i) ≡ h.term
        at h i q z small =
            let (l, low) = lowest_there i w.found h q z in
            ap (shift_term h.under) (fixed i small l low) ∙ subst (Gets a h) z (w.satisfied h q)

-- The minimal complete solutions of source document 000 are our solutions with what is open left out.
--   opened    a potential solution with `left_open` for each metavariable that it leaves out and that is no function
--   without   one without what it gives to m
use mathlib.Core.Path.{◌≡◌, ap, refl, sym, ◌∙◌, subst, fun_ext}
use mathlib.Core.Logic.{◌⊎◌, inl, inr}
use mathlib.Core.Bool.{Bool, true, false, true≢false}
use Prim.Native.Nat.{ℕ}
use lib.Dec.{eqb}
use Rattle.meaning.specs.Basics.{choose, ◌∈◌}
use Rattle.meaning.specs.Term.{IsExpression, Slot, Term, Terms, function, hole, metavariable, one}
use Rattle.meaning.specs.Shift.{ClosedTerm}
use Rattle.meaning.specs.Problem.{Problem, Where, applied, is_plain, patterns, places_of, plain, standings}
use Rattle.meaning.specs.Filling.{Entry, Filling, Handler, absent, argument, body, body_or, fill, fill_handler, filled, left_open, plug}
use Rattle.meaning.specs.Filling.{value, value_or}
use Rattle.meaning.specs.Solution.{Idle, Solution, needs}
use Rattle.meaning.specs.Textbook.{EitherOf, ElementOf, ExpressionFunction, IfGiven, Language, Minimal, ProperlyExtends, Robust}
use Rattle.meaning.specs.Textbook.{left_out, without_open}
use Rattle.meaning.specs.Encoded.{encode_text}
use Rattle.meaning.specs.Text.{text_of}
use Rattle.meaning.specs.Read.{got}
use Rattle.meaning.specs.Readable.{Accepted}
use Rattle.meaning.proofs.Lists.{by_test, choose_false, choose_true, eqb_other, eqb_self, mem_is_in, never, not_is_in}
use Rattle.meaning.proofs.OneWay.{one_way_means}
use Rattle.meaning.proofs.Proper.{Proper, accepted_proper, by_role, functions_applied}
use Rattle.meaning.proofs.Solutions.{solutions_unique}
use Rattle.meaning.proofs.TextReading.{text_bytes}
use Rattle.meaning.proofs.TextLaws.{text_readable}
use Rattle.meaning.proofs.SecondDemand.{Written, solution_written, text_fits, text_names, text_read_back}
use Rattle.meaning.proofs.CompleteLaws.{Whole}
use Rattle.meaning.proofs.IdleLaws.{needed_same}
use Rattle.meaning.proofs.Gaps.{body_given, needs_same, standing_plain, value_given, whole_one_way}

-- WHAT IS OPEN LEFT OUT: it stays as a slot either way
value_alike : (m : ℕ) (e : Entry Term) → value_or m (without_open e) ≡ value_or m e
value_alike m absent = refl
value_alike m left_open = refl
value_alike m (value t) = refl
value_alike m (body b) = refl

body_alike : (f : ℕ) (e : Entry Term) → body_or f (without_open e) ≡ body_or f e
body_alike f absent = refl
body_alike f left_open = refl
body_alike f (value t) = refl
body_alike f (body b) = refl

left_out_filled : (σ : Filling) (u : Terms) → filled (left_out σ) u ≡ filled σ u
left_out_filled σ u = ap (λ (h : Handler). fill h 0 u) (fun_ext (λ k. fun_ext (λ z. fun_ext (at k z))))
  where
    at : (k : ℕ) (z : Slot) (c : Terms) → fill_handler (left_out σ) k z c ≡ fill_handler σ k z c
    at k (metavariable m) c = value_alike m (σ m)
    at k (function f n) c = ap (plug (argument c)) (body_alike f (σ f))
    at k (hole i) c = refl

-- What is left out, open where b says so
abbrev open_entry : Bool → Entry Term → Entry Term
open_entry true absent = left_open
open_entry false absent = absent
open_entry b left_open = left_open
open_entry b (value t) = value t
open_entry b (body t) = body t

open_without : (b : Bool) (e : Entry Term) → without_open (open_entry b e) ≡ without_open e
open_without true absent = refl
open_without false absent = refl
open_without b left_open = refl
open_without b (value t) = refl
open_without b (body t) = refl

module _ (E : Language) (robust : Robust E) (p : Problem) (a : Accepted p) where
  abbrev c : Proper p
  c = accepted_proper p a

  module _ (σ : Filling) (s : Solution p σ) where
    -- What a solution gives can be written: it stands in the text of its row
    in_language : (m : ℕ) (t : Term) → (σ m ≡ value t) ⊎ (σ m ≡ body t) → E t
    in_language m t e =
        let w : Written p σ = solution_written p σ a s in
        let items = text_of p w.row in
        let readable = text_readable p w.row a w.is_row w.is_solution_row in
        let bytes = text_bytes items readable (text_fits p w.row a w.is_solution_row) in
        let reads = text_names (encode_text items) (text_read_back p w.row a w.is_row w.is_solution_row) in
        robust t (encode_text items, σ, m, bytes, reads ∙ ap got w.says, e)

    solution_function : (f : ℕ) → f ∈ applied (patterns p) → ExpressionFunction E (places_of p f) (left_out σ f)
    solution_function f i =
        let (b, e, shape, closed) = s.bodies f i in
        (b, ap without_open e, shape, closed, in_language f b (inr e))

    solution_element : (m : ℕ) → m ∈ plain (patterns p) → IfGiven (ElementOf E) (left_out σ m)
    solution_element m i = go (s.values m i)
      where
        go : (σ m ≡ left_open) ⊎ ((t : Term) × (σ m ≡ value t) × IsExpression (one t) × ClosedTerm t) → IfGiven (ElementOf E) (left_out σ m)
        go (inl e) = inl (ap without_open e)
        go (inr (t, e, shape, closed)) = inr (t, ap without_open e, shape, closed, in_language m t (inl e))

    -- (a) A SOLUTION IS COMPLETE
    solution_whole : Whole E p (left_out σ)
    solution_whole = record {
      potential = record {
        given = λ m. by_role p m (λ i. inr (inr (places_of p m, solution_function m i))) (λ i. some m (solution_element m i))
            (λ nf nv. inl (ap without_open (s.others m nf nv)));
        functions = λ f i. inr (solution_function f i);
        elements = solution_element;
      };
      meets = left_out_filled σ (patterns p) ∙ s.meets;
    }
      where
        some : (m : ℕ) → IfGiven (ElementOf E) (left_out σ m) → IfGiven (EitherOf E) (left_out σ m)
        some m (inl e) = inl e
        some m (inr v) = inr (inl v)

    -- (b) .. AND MINIMAL: a part that is complete has all its bodies ..
    module _ (π : Filling) (part : ProperlyExtends (left_out σ) π) (w : Whole E p π) where
      same_body : (f : ℕ) → f ∈ applied (patterns p) → π f ≡ σ f
      same_body f i = go (part.0 f)
        where
          go : (π f ≡ absent) ⊎ (π f ≡ left_out σ f) → π f ≡ σ f
          go (inl e) = let d = (body_given E p π c w f i).1 in never (cc)
          go (inr e) = let d = (s.bodies f i).1 in e ∙ ap without_open d ∙ sym d

      -- .. and what it leaves out is idle
      left_idle : (m : ℕ) → π m ≡ absent → Idle p σ m
      left_idle m e at i = by_test (needs σ at) needed (λ n. n)
        where
          needed : needs σ at ≡ true → needs σ at ≡ false
          needed n =
              let (t, v) = value_given E p π c w m at i (needs_same (patterns p) σ π same_body m at i ∙ n) in
              never (cc)

      not_left : (m : ℕ) → π m ≡ absent → left_out σ m ≡ absent
      not_left m e =
          by_role p m (λ i. ap without_open (sym (same_body m i) ∙ e)) (λ i. ap without_open (s.idle_open m i (left_idle m e)))
          (λ nf nv. ap without_open (s.others m nf nv))

    pub solution_minimal : Minimal (Whole E p) (left_out σ)
    solution_minimal = (solution_whole, λ π part w. let (m, gone, given) = part.1 in given (not_left π part w m gone))

  -- (c) WHAT IS MINIMAL COMPLETE IS A SOLUTION
  module _ (s : Filling) (least : Minimal (Whole E p) s) where
    abbrev w : Whole E p s
    w = least.0

    abbrev without : ℕ → Filling
    without m k = choose (eqb k m) absent (s k)

    without_either : (P : Entry Term → Type 0) (m k : ℕ) → P absent → P (s k) → P (without m k)
    without_either P m k none kept =
        by_test (eqb k m) (λ e. subst P (sym (choose_true absent (s k) e)) none) (λ e. subst P (sym (choose_false absent (s k) e)) kept)

    without_other : (m k : ℕ) → (k ≡ m → ⊥) → without m k ≡ s k
    without_other m k d = choose_false absent (s k) (eqb_other k m d)

    -- Without a letter that is no function and needs no value it is still complete ..
    without_whole : (m : ℕ) → (m ∈ applied (patterns p) → ⊥) → Idle p s m → Whole E p (without m)
    without_whole m nf idle = record {
      potential = record {
        given = λ k. without_either (IfGiven (EitherOf E)) m k (inl refl) (w.potential.given k);
        functions = λ f i. without_either (IfGiven (ExpressionFunction E (places_of p f))) m f (inl refl) (w.potential.functions f i);
        elements = λ k i. without_either (IfGiven (ElementOf E)) m k (inl refl) (w.potential.elements k i);
      };
      meets = needed_same s (without m) (patterns p) c.pattern
          (λ f i. without_other m f (λ e. nf (subst (λ (k : ℕ). k ∈ applied (patterns p)) e i)))
          (λ k at i n. without_other m k (λ e. true≢false (sym n ∙ idle at (subst (λ (y : ℕ). ◌∈◌ {A = ℕ × Where} (y, at) (standings (patterns p))) e i))))
          0
          ∙ w.meets;
    }

    -- .. so that it has none such
    idle_absent : (m : ℕ) → (m ∈ applied (patterns p) → ⊥) → Idle p s m → s m ≡ absent
    idle_absent m nf idle = go (w.potential.given m)
      where
        unless : (s m ≡ absent → ⊥) → s m ≡ absent
        unless given =
            absurd (least.1 (without m)
            ((λ k. without_either (λ e. (e ≡ absent) ⊎ (e ≡ s k)) m k (inl refl) (inr refl)), (m, choose_true absent (s m) (eqb_self m), given))
            (without_whole m nf idle))

        go : IfGiven (EitherOf E) (s m) → s m ≡ absent
        go (inl e) = e
        go (inr (inl v)) = unless (λ d. let e = v.1 in never (cc))
        go (inr (inr (n, v))) = unless (λ d. let e = v.1 in never (cc))

    abbrev opened : Filling
    opened m = open_entry (is_plain p m) (s m)

    nothing_open : (m : ℕ) → without_open (s m) ≡ s m
    nothing_open m = go (w.potential.given m)
      where
        go : IfGiven (EitherOf E) (s m) → without_open (s m) ≡ s m
        go (inl e) = ap without_open e ∙ sym e
        go (inr (inl v)) = ap without_open v.1 ∙ sym v.1
        go (inr (inr (n, v))) = ap without_open v.1 ∙ sym v.1

    opened_left_out : s ≡ left_out opened
    opened_left_out = fun_ext (λ m. sym (open_without (is_plain p m) (s m) ∙ nothing_open m))

    opened_body : (f : ℕ) → f ∈ applied (patterns p) → opened f ≡ s f
    opened_body f i = let e = (body_given E p s c w f i).1 in ap (open_entry (is_plain p f)) e ∙ sym e

    opened_needs : (m : ℕ) (at : Where) → (m, at) ∈ standings (patterns p) → needs opened at ≡ needs s at
    opened_needs = needs_same (patterns p) s opened opened_body

    opened_absent : (m : ℕ) → m ∈ plain (patterns p) → s m ≡ absent → opened m ≡ left_open
    opened_absent m i e = ap (open_entry (is_plain p m)) e ∙ ap (λ (b : Bool). open_entry b absent) (mem_is_in m (plain (patterns p)) i)

    open_idle_lem : (m : ℕ) → opened m ≡ left_open → Idle p opened m
    open_idle_lem m e at i = by_test (needs opened at) needed (λ n. n)
      where
        needed : needs opened at ≡ true → needs opened at ≡ false
        needed n =
            let (t, v) = value_given E p s c w m at i (sym (opened_needs m at i) ∙ n) in
            let d : opened m ≡ value t = ap (open_entry (is_plain p m)) v in
            never (cc)

    one_way_lem : (m : ℕ) → m ∈ plain (patterns p) → m ∈ applied (patterns p) → ⊥
    one_way_lem m i j = (one_way_means p c.small_applied).0 (whole_one_way E p s c w) m j i

    opened_element : (m : ℕ) → m ∈ plain (patterns p)
        → (opened m ≡ left_open) ⊎ ((t : Term) × (opened m ≡ value t) × IsExpression (one t) × ClosedTerm t)
    opened_element m i = go (w.potential.elements m i)
      where
        go : IfGiven (ElementOf E) (s m) → (opened m ≡ left_open) ⊎ ((t : Term) × (opened m ≡ value t) × IsExpression (one t) × ClosedTerm t)
        go (inl e) = inl (opened_absent m i e)
        go (inr (t, e, shape, closed, in-t)) = inr (t, ap (open_entry (is_plain p m)) e, shape, closed)

    opened_other : (m : ℕ) → (m ∈ applied (patterns p) → ⊥) → (m ∈ plain (patterns p) → ⊥) → opened m ≡ absent
    opened_other m nf nv =
        ap (open_entry (is_plain p m)) (idle_absent m nf (λ at i. absurd (nv (standing_plain (patterns p) m at i))))
        ∙ ap (λ (b : Bool). open_entry b absent) (not_is_in m (plain (patterns p)) nv)

    opened_solution : Solution p opened
    opened_solution = record {
      one_way = whole_one_way E p s c w;
      meets = sym (left_out_filled opened (patterns p)) ∙ ap (λ (τ : Filling). filled τ (patterns p)) (sym opened_left_out) ∙ w.meets;
      bodies = λ f i. let (b, e, shape, closed, in_b) = body_given E p s c w f i in (b, opened_body f i ∙ e, shape, closed);
      values = opened_element;
      others = opened_other;
      open_idle = open_idle_lem;
      idle_open = λ m i idle. opened_absent m i (idle_absent m (one_way_lem m i) (λ at j. sym (opened_needs m at j) ∙ idle at j));
    }

    pub minimal_solution : (σ : Filling) × Solution p σ × (s ≡ left_out σ)
    minimal_solution = (opened, opened_solution, opened_left_out)

-- NO TWO SOLUTIONS BECOME ONE
pub left_out_once : (p : Problem) (σ τ : Filling) → Accepted p → Solution p σ → Solution p τ → left_out σ ≡ left_out τ → σ ≡ τ
left_out_once p σ τ a s t e = fun_ext (solutions_unique p σ τ (accepted_proper p a) s t (λ f q. same f (functions_applied p f q)))
  where
    same : (f : ℕ) → f ∈ applied (patterns p) → σ f ≡ τ f
    same f q =
        let d = (s.bodies f q).1 in
        let d' = (t.bodies f q).1 in
        d ∙ ap without_open (sym d) ∙ ap (λ (π : Filling). π f) e ∙ ap without_open d' ∙ sym d'

-- All recorded faces: the code's test of them is that every body suits what its applications face, and that the demands agree.
--   Applied    what is known of a recorded face that is that of an application
--   SlotFits   a face whose body suits it, where it is that of an application
use mathlib.Core.Path.{◌≡◌, refl, ap, sym, ◌∙◌, subst}
use mathlib.Core.Bool.{false}
use mathlib.Core.List.Memᴰ
use mathlib.Core.List.{List, [], ◌∷◌, ◌++◌}
use mathlib.Core.Option.{Option, some}
use Prim.Native.Nat.{ℕ, ◌<◌}
use lib.ListN.{length, get_or-replicate, get_elem?}
use lib.Dec.{eqb}
use Rattle.meaning.specs.Limits.{metavariable_count, max_face_nodes}
use Rattle.meaning.specs.Basics.{All, each, ◌∈◌}
use Rattle.meaning.specs.Term.{one, slot, Slot, metavariable, function, hole, Term, IsExpression}
use Rattle.meaning.specs.Problem.{Problem, patterns, functions, applied}
use Rattle.meaning.specs.Shift.{Closed, ClosedTerm}
use Rattle.meaning.specs.Filling.{IsBody}
use Rattle.meaning.specs.Face.{Face}
use Rattle.meaning.specs.Choice.{Marks}
use Rattle.meaning.specs.Row.{Row, face_of, choice_in, row_body}
use Rattle.meaning.specs.Rows.{rows}
use Rattle.meaning.specs.Value.{Source, source_of}
use Rattle.meaning.specs.Field.{tag_of}
use Rattle.meaning.specs.PlaceValue.{mask_of, masks_of}
use Rattle.meaning.proofs.Lists.{never, choose_true, choose_false}
use Rattle.meaning.proofs.Proper.{Proper, accepted_proper, one_place, applied_functions}
use Rattle.meaning.proofs.OneWay.{faces_walk}
use Rattle.meaning.proofs.ShiftLaws.{shift_closed}
use Rattle.meaning.proofs.ViewLaws.{nameless_closed}
use Rattle.meaning.proofs.Slots.{faced_applied}
use Rattle.meaning.proofs.RowBodies.{face_expression}
use Rattle.meaning.proofs.ChoiceLaws.{rows_are}
use Rattle.meaning.proofs.Solutions.{row_body_shape}
use Rattle.tokens.specs.Token.{tag_in, payload_in, payload_of, pattern_tokens, expression_tokens}
use Rattle.tokens.specs.Key.{at}
use Rattle.numbers.specs.Tests.{Tests}
use Rattle.metavariables.specs.Survey.{count}
use Rattle.lockstep.specs.Walk.{pattern_node}
use Rattle.faces.specs.Recorded.{Recorded}
use Rattle.faces.specs.declared.first.Firsts.{Firsts}
use Rattle.faces.proofs.NodeTokens.{AtNode, node_tag, node_payload, pattern_node_lem}
use Rattle.demands.specs.Demand.{each_some, application_lowest, slot_lowest, lowest_in}
use Rattle.demands.specs.Fit.{Suits}
use Rattle.bodies.proofs.HoleTests.{Spotted}
use Rattle.std.specs.Prelude.{None}
use Rattle.sources.specs.Demand.{Nodes, demands_in, kept_after}
use Rattle.sources.proofs.KeptMeaning as meaning
use Rattle.sources.proofs.KeptMeaning.{kept_means}
use Rattle.sources.proofs.RecordedDemands.{MovedFace, slot_fits, recorded_say}
use Rattle.fit.specs.Judging.{application_kept, rank_at, face_kept, faces_kept, none_kept, demanded_at}
use Rattle.fit.specs.Laid.{Laid}
use Rattle.fit.proofs.Ranks.{rank_at_lem}
use Rattle.fit.proofs.Steps.{Step, step_nothing, step_told, step_then}
use Rattle.fit.proofs.Functions.{FunctionAt, function_at}
use Rattle.fit.proofs.Arguments.{RecordedFace, faces_spotted}
use Rattle.fit.proofs.Applications.{application_step}

abbrev pub SlotFits : (ℕ → Term) → Face → Slot → Type 0
SlotFits b x (metavariable m) = Unit {0}
SlotFits b x (function f n) = Suits (b f) x.term
SlotFits b x (hole i) = Unit {0}

pub record Applied (p : Problem) (s : ℕ) (firsts : Firsts) (r : Row) (n : ℕ) (x : Face) (f : ℕ) : Type 0 where
  pub applies : x.what ≡ function f 1
  pub is_function : f ∈ functions p
  pub tag : tag_in (at (pattern_tokens p) (pattern_node n)) ≡ 6
  pub number : payload_in (at (pattern_tokens p) (pattern_node n)) ≡ f
  pub few : f < metavariable_count
  pub rank : FunctionAt p firsts (masks_of r) (choice_in (functions p) r f) (rank_at (pattern_tokens p) s n) f
  pub is_face : IsExpression (one (face_of p f))
  pub is_body : IsBody 1 (one (row_body p r f))

-- Before any demand nothing is kept
none_first : (es : List ℕ) → meaning.Firsts es none_kept []
unfolding metavariable_count
none_first es = record { long = refl; nodes = λ m h. get_or-replicate 32 m None None h; said = λ m k e. never (cc) }

-- A term stands under no more binders than it does
still : (es : List ℕ) (j : ℕ) (t : Term) → AtNode es j t → meaning.MovedAt es j t
still es j t n = record {
  whole = t;
  stands = n;
  more = 0;
  under = length n.scope;
  moved = shift_closed 0 (length n.scope) (one t)
      (subst (λ (u : Term). Closed (length n.scope) (one u)) (sym n.term) (nameless_closed n.scope (one n.named)));
}

pub recorded_moved : (p : Problem) (ns : List ℕ) (xs : List Face) → Recorded p ns xs → All (Spotted (expression_tokens p) 0) xs
    → All (MovedFace (expression_tokens p)) xs
recorded_moved p [] [] r a = tt
recorded_moved p [] (x ∷ xs) r a = absurd r
recorded_moved p (n ∷ ns) [] r a = absurd r
recorded_moved p (n ∷ ns) (x ∷ xs) r a =
    (still (expression_tokens p) x.node x.term a.0.there, recorded_moved p ns xs r.1 a.1)

module _ (p : Problem) (q : Tests) (ns : List ℕ) (s : ℕ) (firsts : Firsts)
    (l : Laid p q (pattern_tokens p) (expression_tokens p) ns s firsts) (r : Row) (i : r ∈ rows p) where
  abbrev ps : List ℕ
  ps = pattern_tokens p

  abbrev es : List ℕ
  es = expression_tokens p

  abbrev row : List ℕ
  row = masks_of r

  proper : Proper p
  proper = accepted_proper p l.accepted

  pub all_spotted : All (Spotted es 0) l.found
  all_spotted = faces_spotted p l.accepted.within l.found l.agree

  -- A face that is that of an application
  pub applied_at_lem : (n : ℕ) (x : Face) → RecordedFace p n x → x ∈ l.found → (f k : ℕ) → x.what ≡ function f k → Applied p s firsts r n x f
  unfolding payload_of
  applied_at_lem n x recorded m f k e =
      let slots = recorded.slots ∙ ap (λ (z : Slot). some (slot z, x.children)) e in
      let a = pattern_node_lem p l.accepted.within (pattern_node n) (slot (function f k), x.children) slots in
      let (few, single) = slot_fits ps (pattern_node n) (function f k) x.children a in
      let is_applied : f ∈ applied (patterns p) = faced_applied p proper l.found (faces_walk p l.found l.agree) f k x m e in
      let is_function : f ∈ functions p = applied_functions p proper f is_applied in
      let number : payload_in (at ps (pattern_node n)) ≡ f = node_payload ps (pattern_node n) (function f k) x.children a in
      record {
        applies = e ∙ ap (function f) single;
        is_function = is_function;
        tag = node_tag ps (pattern_node n) (function f k) x.children a;
        number = number;
        few = few;
        rank = function_at p q ns s firsts l r i (rank_at ps s n) f
            (ap (λ (g : ℕ). get_elem? (functions p) (count g s)) number ∙ rank_at_lem p s l.set f is_function);
        is_face = face_expression p proper l.found l.agree f is_applied;
        is_body = subst (λ (c : ℕ). IsBody c (one (row_body p r f))) (one_place p l.accepted.within f is_applied)
            (row_body_shape p r proper ((rows_are p r).0 i) f is_applied);
      }

  -- A face of another kind makes no test
  plain_slot : (n : ℕ) (x : Face) → RecordedFace p n x → (kept : Nodes) → eqb (tag_of (slot x.what)) 6 ≡ false
      → face_kept q ps es s firsts.nodes row n kept ≡ some kept
  unfolding face_kept
  plain_slot n x recorded kept e =
      choose_false _ _
      (ap (λ (g : ℕ). eqb g 6)
      (node_tag ps (pattern_node n) x.what x.children
      (pattern_node_lem p l.accepted.within (pattern_node n) (slot x.what, x.children) recorded.slots)) ∙ e)

  module _ (closed : (f : ℕ) → f ∈ functions p → ClosedTerm (row_body p r f)) where
    -- That of an application
    application_face : (n : ℕ) (x : Face) → RecordedFace p n x → Spotted es 0 x → (f k : ℕ) → x.what ≡ function f k
        → Applied p s firsts r n x f
        → (kept : Nodes) (ks : List Source) → meaning.Firsts es kept ks
        → Step es (face_kept q ps es s firsts.nodes row n kept) ks (Suits (row_body p r f) x.term)
        (application_lowest (row_body p r f) k x)
    unfolding face_kept row_body
    application_face n x recorded spotted f k e a kept ks first =
        let one_argument : 1 ≡ k = let i : function f 1 ≡ function f k = sym a.applies ∙ e in cc in
        let ms : Marks = choice_in (functions p) r f in
        let node : ℕ = at firsts.nodes (rank_at ps s n) in
        let same : application_kept q ps es n node (mask_of max_face_nodes ms) kept ≡ face_kept q ps es s firsts.nodes row n kept =
        ap (λ (m : ℕ). application_kept q ps es n node m kept) (sym a.rank.mask) ∙ sym
        (choose_true _ _ (ap (λ (g : ℕ). eqb g 6) a.tag)) in
        subst (λ (c : ℕ). Step es (face_kept q ps es s firsts.nodes row n kept) ks (Suits (row_body p r f) x.term)
        (application_lowest (row_body p r f) c x)) one_argument
        (subst (λ (o : Option Nodes). Step es o ks (Suits (row_body p r f) x.term) (application_lowest (row_body p r f) 1 x)) same
        (application_step p l.accepted.within n f x recorded a.applies spotted node (face_of p f) a.rank.face a.is_face ms
        a.rank.choice
        a.rank.small a.is_body (closed f a.is_function) q l.tells kept ks first))

    -- One face
    face_step : (n : ℕ) (x : Face) → RecordedFace p n x → x ∈ l.found → Spotted es 0 x → (kept : Nodes) (ks : List Source)
        → meaning.Firsts es kept ks
        → Step es (face_kept q ps es s firsts.nodes row n kept) ks (SlotFits (row_body p r) x x.what)
        (slot_lowest (row_body p r) x x.what)
    face_step n x recorded m spotted kept ks first = go x.what refl
      where
        plain : (z : Slot) → x.what ≡ z → eqb (tag_of (slot z)) 6 ≡ false
            → Step es (face_kept q ps es s firsts.nodes row n kept) ks (Unit {0}) (some [])
        plain z e t =
            subst (λ (o : Option Nodes). Step es o ks (Unit {0}) (some []))
            (sym (plain_slot n x recorded kept (ap (λ (y : Slot). eqb (tag_of (slot y)) 6) e ∙ t))) (step_nothing es ks kept first)

        go : (z : Slot) → x.what ≡ z
            → Step es (face_kept q ps es s firsts.nodes row n kept) ks (SlotFits (row_body p r) x z) (slot_lowest (row_body p r) x z)
        go (metavariable k) e = plain (metavariable k) e refl
        go (hole k) e = plain (hole k) e refl
        go (function f k) e = application_face n x recorded spotted f k e (applied_at_lem n x recorded m f k e) kept ks first

    -- All of them
    faces_step : (ms : List ℕ) (xs : List Face) → Recorded p ms xs → ((x : Face) → x ∈ xs → x ∈ l.found) → All (Spotted es 0) xs
        → (kept : Nodes) (ks : List Source) → meaning.Firsts es kept ks
        → Step es (faces_kept q ps es s firsts.nodes row ms kept) ks (All (λ x. SlotFits (row_body p r) x x.what) xs)
        (each_some (λ x. slot_lowest (row_body p r) x x.what) xs)
    unfolding faces_kept
    faces_step [] [] recorded h a kept ks first = step_nothing es ks kept first
    faces_step [] (x ∷ xs) recorded h a kept ks first = absurd recorded
    faces_step (n ∷ ms) [] recorded h a kept ks first = absurd recorded
    faces_step (n ∷ ms) (x ∷ xs) recorded h a kept ks first =
        step_then es ks (face_kept q ps es s firsts.nodes row n kept) (λ next. faces_kept q ps es s firsts.nodes row ms next)
        (SlotFits (row_body p r) x x.what) (All (λ y. SlotFits (row_body p r) y y.what) xs)
        (slot_lowest (row_body p r) x x.what) (each_some (λ y. slot_lowest (row_body p r) y y.what) xs)
        (face_step n x recorded.0 (h x (Memᴰ.head refl)) a.0 kept ks first)
        (λ next ds later. faces_step ms xs recorded.1 (λ y m. h y (Memᴰ.tail m)) a.1 next (ks ++ ds) later)

    -- THE PLAIN FACES AND THEN THE APPLICATIONS
    pub demanded_step : Step es (demanded_at q ps es ns s firsts row) []
        (Unit {0} × All (λ x. SlotFits (row_body p r) x x.what) l.found) (lowest_in (row_body p r) l.found)
    unfolding demanded_at
    demanded_step =
        step_then es [] (kept_after q none_kept (demands_in ps ns)) (λ kept. faces_kept q ps es s firsts.nodes row ns kept) (Unit {0})
        (All (λ x. SlotFits (row_body p r) x x.what) l.found) (some (each source_of l.found))
        (each_some (λ x. slot_lowest (row_body p r) x x.what) l.found)
        (step_told es [] (kept_after q none_kept (demands_in ps ns)) (each source_of l.found)
        (kept_means es q l.tells none_kept [] (demands_in ps ns)
        (each source_of l.found) (none_first es)
        (recorded_say ps es _ _ _ (pattern_node_lem p l.accepted.within) ns l.found l.recorded
        (recorded_moved p ns l.found l.recorded all_spotted))))
        (λ kept ds first. faces_step ns l.found l.recorded (λ x m. m) all_spotted kept ds first)

-- An application against what it faces: its function's body, with the filled argument in each hole, is that exactly when the body's walk is
-- defined and across each hole stands the argument, filled and moved past the binders of the body above the hole.
use mathlib.Core.Path.{◌≡◌, refl, ap, sym, ◌∙◌, subst}
use mathlib.Core.List.{List, [], ◌∷◌}
use mathlib.Core.Bool.{false}
use mathlib.Core.Option.{some}
use Prim.Native.Nat.{ℕ, zero, suc, ◌+◌, ◌<◌}
use native.Mathlib.Omega.{arith}
use native.Mathlib.Numerals.{add-one}
use lib.ListN.{length}
use Rattle.meaning.specs.Limits.{max_depth, metavariable_count}
use Rattle.meaning.specs.Basics.{All, ◌∈◌}
use Rattle.meaning.specs.Term.{Forest, nil, cons, one, trees, node_at, symbol, variable, application, binder, own, slot, Slot, metavariable}
use Rattle.meaning.specs.Term.{function, hole, Named, NamedTerm, Terms, Term, IsExpression}
use Rattle.meaning.specs.Scope.{enter, nameless_label, nameless, nameless_term}
use Rattle.meaning.specs.Problem.{Problem, patterns, expressions}
use Rattle.meaning.specs.Shift.{shift_term}
use Rattle.meaning.specs.Filling.{fill, fill_term, plug_handler, plug, argument, Entry, absent, left_open, value, body, body_or, fill_handler}
use Rattle.meaning.specs.Filling.{IsBody}
use Rattle.meaning.specs.Face.{Face, walk}
use Rattle.meaning.specs.Agree.{Satisfied}
use Rattle.meaning.specs.Read.{in_body, context_below}
use Rattle.meaning.specs.Readable.{Readable, WithinLimits}
use Rattle.meaning.specs.Text.{Item, meant, said}
use Rattle.meaning.proofs.Nodes.{Stands, here, below, node_stands, stands_node, stands_in}
use Rattle.meaning.proofs.Proper.{IsArgument, relabel_nil}
use Rattle.meaning.proofs.Renaming.{one_injective}
use Rattle.meaning.proofs.ShiftLaws.{shift_closed_term}
use Rattle.meaning.proofs.Slots.{faces_expression}
use Rattle.meaning.proofs.Sources.{argument_filled, argument_of_lem}
use Rattle.meaning.proofs.ViewLaws.{nameless_closed}
use Rattle.tokens.specs.Token.{depth_in, payload_of, pattern_tokens, expression_tokens}
use Rattle.tokens.specs.Key.{at, Inside}
use Rattle.demands.proofs.Holding.{filled_arguments}
use Rattle.demands.proofs.SlotKinds.{IsHoleOf, body_face}
use Rattle.demands.proofs.Suiting.{Gets}
use Rattle.lockstep.specs.Walk.{pattern_node, expression_node}
use Rattle.lockstep.specs.Recorded.{Records, RecordedBy, Both}
use Rattle.lockstep.proofs.SlotWalk.{Deep}
use Rattle.faces.proofs.NodeTokens.{AtNode, node_inside, node_payload, pattern_node_lem}
use Rattle.bodies.proofs.HoleTests.{Spotted}
use Rattle.sources.proofs.RecordedDemands.{slot_fits}
use Rattle.std.specs.Prelude.{Some, None}
use Rattle.std.specs.Prelude as std
use Rattle.meaning.proofs.Lists.{never}
use Rattle.said.specs.declared.Field.{Field}
use Rattle.said.specs.declared.Field.TheVariants.{Value, Body, Open}
use Rattle.said.specs.Said.{item_of, field_of, TermAt, HeldAs, SaidBy}
use Rattle.said.specs.declared.Said.{Said}
use Rattle.said.proofs.SaidLaws.{said_item}
use Rattle.filled.specs.Filled.{walk_across, number_at, hole_at, body_at, body_in, application_at, argument_at}
use Rattle.filled.specs.Ready.{Faced, Argued, ArguedAt, Bodied, Applied}
use Rattle.filled.proofs.Cases.{body_says}
use Rattle.filled.proofs.Deciding.{Decides, decides_no, fill_decided}
use Rattle.filled.proofs.Across.{from, node_depth, node_whole, node_deep, across_walk, across_spotted}
use Rattle.filled.proofs.Values.{slot_never, text_node, faced_at}
use Rattle.filled.proofs.Arguments.{argument_decided}

-- A text's body is a body of one place
readable_body : (levels : ℕ) (sc : List ℕ) (u : Forest Named) → Readable levels in_body u → IsBody 1 (nameless sc u)
unfolding context_below
readable_body levels sc nil h = tt
readable_body zero sc (cons l c s) h = absurd h
readable_body (suc levels) sc (cons (own (symbol n)) c s) h = (tt, readable_body levels sc c h.1, readable_body (suc levels) sc s h.2)
readable_body (suc levels) sc (cons (own (variable x)) c s) h =
    (tt, readable_body levels sc c h.1, readable_body (suc levels) sc s h.2)
readable_body (suc levels) sc (cons (own (application n)) c s) h =
    (tt, readable_body levels sc c h.1, readable_body (suc levels) sc s h.2)
readable_body (suc levels) sc (cons (own (binder b x)) c s) h =
    (tt, readable_body levels (x ∷ sc) c h.1, readable_body (suc levels) sc s h.2)
readable_body (suc levels) sc (cons (slot (metavariable m)) c s) h = absurd h.0.0
readable_body (suc levels) sc (cons (slot (function f n)) c s) h = absurd h.0.0
readable_body (suc levels) sc (cons (slot (hole i)) c s) h =
    let empty : nameless sc c ≡ nil = relabel_nil enter nameless_label sc c h.0.2 in
    ((omega (arith, h.0.1), empty), subst (IsBody 1) (sym empty) tt, readable_body (suc levels) sc s h.2)

-- The first argument stands behind its application, under as many binders
first_stands : (cs : Terms) → 0 < trees cs → Stands 0 cs (argument cs 0)
first_stands nil h = absurd (omega arith)
first_stands (cons l c s) h = here

first_deep : (d : ℕ → ℕ) (i k : ℕ) (cs : Terms) → 0 < trees cs → Deep d i k cs → d i ≡ k
first_deep d i k nil h g = absurd (omega arith)
first_deep d i k (cons l c s) h g = g.0

module _ (p : Problem) (w : WithinLimits p) (ts : List ℕ) (is : List Item) (s : Said) (by : SaidBy ts is s) (n f : ℕ) (x : Face)
    (recorded : Records (λ i. node_at i (patterns p)) (λ j. node_at j (expressions p)) (λ i. depth_in (at (pattern_tokens p) i)) n x)
    (applies : x.what ≡ function f 1) (shape : (trees x.children ≡ 1) × IsArgument x.children)
    (expression : IsExpression (one x.term)) (spotted : Spotted (expression_tokens p) 0 x) where
  abbrev ps : List ℕ
  ps = pattern_tokens p

  abbrev es : List ℕ
  es = expression_tokens p

  abbrev i : ℕ
  i = pattern_node n

  abbrev first : Term
  first = argument x.children 0

  some_argument : 0 < trees x.children
  some_argument = omega (arith, shape.0)

  slots : node_at i (patterns p) ≡ some (slot (function f 1), x.children)
  slots = recorded.slots ∙ ap (λ (z : Slot). some (slot z, x.children)) applies

  application_node : AtNode ps i (slot (function f 1), x.children)
  application_node = pattern_node_lem p w i (slot (function f 1), x.children) slots

  first_there : node_at (i + 1) (patterns p) ≡ some first
  first_there =
      stands_node (stands_in (node_stands i (patterns p) (slot (function f 1), x.children) slots)
      (below (first_stands x.children some_argument)) refl)

  abbrev first_node_lem : AtNode ps (i + 1) first
  first_node_lem = pattern_node_lem p w (i + 1) first first_there

  -- The argument's binders are those of the application
  first_depth : length first_node_lem.scope ≡ x.under
  first_depth =
      let app = node_deep ps i (slot (function f 1), x.children) application_node in
      let deep : depth_in (at ps (suc i)) ≡ length application_node.scope =
      first_deep (λ m. depth_in (at ps m)) (suc i) (length application_node.scope) x.children some_argument app.1 in
      sym (node_depth ps (i + 1) first first_node_lem) ∙ ap (λ (m : ℕ). depth_in (at ps m)) (add-one i) ∙ deep ∙ sym app.0 ∙ recorded.under

  -- What is put into the holes
  arguments_are_lem : filled_arguments (said is) x 0 ≡ fill_term (fill_handler (said is)) (length first_node_lem.scope) first
  arguments_are_lem =
      argument_filled (fill_handler (said is)) x.under x.children 0 some_argument
      ∙ ap (λ (k : ℕ). fill_term (fill_handler (said is)) k first) (sym first_depth)

  -- The body that the text gives
  module _ (node : ℕ) (t : NamedTerm) (at_body : TermAt ts node in_body t) where
    abbrev b : Term
    b = nameless_term [] t

    abbrev body_node : AtNode ts node b
    body_node = text_node ts node in_body t at_body

    abbrev deeper : ℕ
    deeper = length spotted.there.scope

    -- A closed body is not changed by the binders above what it is walked against
    body_walk_lem : Both
        (RecordedBy (from node (one b)) (from x.node (one x.term)) (λ m. depth_in (at ts m)))
        (walk_across ts node es x.node) (walk 0 x.node (one b) (one x.term))
    body_walk_lem =
        subst (λ (c : Term). Both
        (RecordedBy (from node (one c)) (from x.node (one x.term)) (λ m. depth_in (at ts m)))
        (walk_across ts node es x.node) (walk 0 x.node (one c) (one x.term)))
        (shift_closed_term deeper b (nameless_closed [] (one t)))
        (across_walk ts es node x.node deeper b x.term body_node spotted.there (omega arith) by.is_table.small)

    -- A hole that is met
    hole_decided : (hs : List Face) → walk 0 x.node (one b) (one x.term) ≡ some hs → (m : ℕ) (h : Face) → h ∈ hs
        → Records (from node (one b)) (from x.node (one x.term)) (λ a. depth_in (at ts a)) m h
        → Decides (ArguedAt ps es ts s (i + 1) m) (hole_at ps es ts s (i + 1) m) (Satisfied (plug_handler (filled_arguments (said is) x)) h)
    hole_decided hs e m h q r =
        go (body_face 0 x.node (one b) (one x.term) hs e h q 1
        (readable_body max_depth [] (one t) at_body.held.readable))
      where
        there : Spotted es (length spotted.there.scope) h
        there =
            across_spotted es x.node x.term spotted.there 0 (length spotted.there.scope) (omega arith) (one b) hs e h q

        argued : Decides (Argued ps es ts s (i + 1) h.node) (argument_at ps es ts s (i + 1) h.node)
            (shift_term h.under (fill_term (fill_handler (said is)) (length first_node_lem.scope) first) ≡ h.term)
        argued =
            argument_decided p w (i + 1) first first_there ts is s by (argument_of_lem x.children 0 shape.1 some_argument) h.node
            h.under h.term there.there
            (faces_expression 0 x.node (one b) (one x.term) hs expression e h q)
            (omega (arith, there.deep, spotted.deep, first_depth))

        go : IsHoleOf 1 h.what
            → Decides (ArguedAt ps es ts s (i + 1) m) (hole_at ps es ts s (i + 1) m)
            (Satisfied (plug_handler (filled_arguments (said is) x)) h)
        go (k, kind, small) =
            let zeroth : k ≡ 0 = omega arith in
            subst (λ (z : Slot). Decides (ArguedAt ps es ts s (i + 1) m) (hole_at ps es ts s (i + 1) m)
            (Gets (filled_arguments (said is) x) h z)) (sym (kind ∙ ap hole zeroth))
            (subst (λ (j : ℕ). Decides (Argued ps es ts s (i + 1) j) (argument_at ps es ts s (i + 1) j)
            (shift_term h.under (filled_arguments (said is) x 0) ≡ h.term)) (sym r.node)
            (subst (λ (a : Term). Decides (Argued ps es ts s (i + 1) h.node) (argument_at ps es ts s (i + 1) h.node)
            (shift_term h.under a ≡ h.term)) (sym arguments_are_lem) argued))

    walk_told : Decides ((hs : List ℕ) → walk_across ts node es x.node ≡ some hs → All (ArguedAt ps es ts s (i + 1)) hs)
        (body_at ps es ts s node (i + 1) x.node)
        (fill (plug_handler (filled_arguments (said is) x)) 0 (one b) ≡ one x.term)
    unfolding body_at
    walk_told =
        fill_decided (from node (one b)) (from x.node (one x.term)) (λ a. depth_in (at ts a))
        (ArguedAt ps es ts s (i + 1)) (hole_at ps es ts s (i + 1)) (plug_handler (filled_arguments (said is) x)) 0 x.node (one b)
        (one x.term) (walk_across ts node es x.node) body_walk_lem hole_decided

    body_decided : Decides (Bodied ps es ts s node (i + 1) x.node) (body_at ps es ts s node (i + 1) x.node)
        (plug (filled_arguments (said is) x) b ≡ x.term)
    body_decided = record {
      can = record {
        body = node_whole ts node b body_node;
        across = (node_whole es x.node x.term spotted.there).starts;
        holes = walk_told.can;
      };
      into = λ t. one_injective (plug (filled_arguments (said is) x) b) x.term (walk_told.into t);
      back = λ e. walk_told.back (ap (λ (c : Term). one c) e);
    }

  -- The function is the number that the application's token has
  number : number_at ps n ≡ f
  unfolding payload_of
  number = node_payload ps i (function f 1) x.children application_node

  small : f < metavariable_count
  small = (slot_fits ps i (function f 1) x.children application_node).0

  faced : Faced ps es ts s n
  faced =
      faced_at ts is s by ps es n f (node_inside ps i (slot (function f 1), x.children) application_node) number small
      (subst (Inside es) (sym recorded.node) (node_whole es x.node x.term spotted.there))

  -- What the text gives it
  abbrev Given : ℕ → ℕ → Type 0
  Given g j = (b : ℕ) → field_of s g ≡ Some (Body b) → Bodied ps es ts s b (i + 1) j

  abbrev Told : Term → Type 0
  Told b = Decides (Given f x.node) (application_at ps es ts s n) (plug (filled_arguments (said is) x) b ≡ x.term)

  says : (o : std.Option Field) → field_of s f ≡ o → application_at ps es ts s n ≡ body_in ps es ts s o (i + 1) (expression_node n)
  says o e = body_says ps es ts s n f number o e

  no_body : application_at ps es ts s n ≡ false → Given f x.node → Told (slot (function f 0), nil)
  no_body e g =
      decides_no (Given f x.node) (application_at ps es ts s n) (◌≡◌ {A = Term} (slot (function f 0), nil) x.term)
      g e (slot_never (function f 0) nil x.term expression)

  given_decided : (o : Entry NamedTerm) → HeldAs ts o (field_of s f) → Told (body_or f (meant o))
  given_decided absent h = no_body (says None h) (λ b q. never (cc))
  given_decided left_open h = no_body (says (Some Open) h) (λ b q. never (cc))
  given_decided (value t) h = no_body (says (Some (Value h.0)) h.1) (λ b q. never (let e = h.1 in cc))
  given_decided (body t) h =
      let d = body_decided h.0 t h.2 in
      let same : application_at ps es ts s n ≡ body_at ps es ts s h.0 (i + 1) x.node =
      says (Some (Body h.0)) h.1 ∙ ap (body_at ps es ts s h.0 (i + 1)) recorded.node in
      record {
        can = λ b q.
            let e = h.1 in
            let one_body : h.0 ≡ b = cc in
            subst (λ (k : ℕ). Bodied ps es ts s k (i + 1) x.node) one_body d.can;
        into = λ q. d.into (sym same ∙ q);
        back = λ q. same ∙ d.back q;
      }

  told : Decides (Given f x.node) (application_at ps es ts s n) (Satisfied (fill_handler (said is)) x)
  told =
      subst (λ (z : Slot). Decides (Given f x.node) (application_at ps es ts s n)
      (fill_handler (said is) x.under z (fill (fill_handler (said is)) x.under x.children) ≡ x.term)) (sym applies)
      (subst (λ (o : Entry Term). Told (body_or f o)) (sym (said_item is f))
      (given_decided (item_of is f) (by.fields f small)))

  -- THE APPLICATION
  pub application_decided : Decides (Applied ps es ts s n) (application_at ps es ts s n) (Satisfied (fill_handler (said is)) x)
  application_decided = record {
    can = record {
      faced = faced;
      bodied = subst (Given (number_at ps n)) (sym recorded.node) (subst (λ (g : ℕ). Given g x.node) (sym number) told.can);
    };
    into = told.into;
    back = told.back;
  }

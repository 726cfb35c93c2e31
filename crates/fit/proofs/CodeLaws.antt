-- What the code of the test owes: the law of each return and of each turn of the loops.
use mathlib.Core.Path.{◌≡◌, refl, ap, ap₂, sym, ◌∙◌, subst}
use mathlib.Core.Bool.{Bool, true, false, ◌&&◌}
use mathlib.Core.List.{List, [], ◌∷◌}
use mathlib.Core.Option.{Option, some}
use Prim.Native.Nat.{ℕ, suc, ◌+◌, ◌<◌, ◌≤◌}
use native.Mathlib.Omega.{arith}
use lib.ListN.{length, get_or, take, drop, drop_of_length-le, get_or-replicate}
use lib.Seq.{drop-cons, length-take-le, get_or-take}
use lib.Dec.{eqb}
use borrow.Author.Tests.{eq-eqb, ne_eqb, eqb-true, eqb-false}
use Rattle.meaning.specs.Limits.{metavariable_count}
use Rattle.meaning.specs.Basics.{choose, All, and_then, guard}
use Rattle.meaning.proofs.Lists.{never, by_test, choose_true, choose_false, all_append}
use Rattle.demands.proofs.Answers.{then_some}
use Rattle.masks.specs.Sets.{mask, masks_in}
use Rattle.masks.specs.declared.NodeSet.{NodeSet}
use Rattle.masks.proofs.Words.{no_nodes, masks_at}
use Rattle.tokens.specs.Token.{tag_in, depth_in, size_in, Table}
use Rattle.tokens.specs.Key.{at}
use Rattle.numbers.specs.Tests.{told}
use Rattle.lockstep.specs.Walk.{pattern_node, expression_node}
use Rattle.lockstep.specs.Span.{span_walk, Lent, Walked}
use Rattle.lockstep.specs.declared.Span.{Span}
use Rattle.lockstep.proofs.Answers.{Found, found, disagreed}
use Rattle.faces.specs.First.{listed}
use Rattle.faces.specs.declared.first.Firsts.{Firsts}
use Rattle.bodies.specs.Marked.{lowest_marked}
use Rattle.bodies.specs.BodyClosed.{body_closed_at}
use Rattle.bodies.specs.Suits.{suits_at}
use Rattle.std.specs.Prelude.{Some, None}
use Rattle.std.specs.Prelude as std
use Rattle.sources.specs.Demand.{Nodes, first_of, demand_at, demands_in, kept_after}
use Rattle.sources.specs.Kept.{Kept, Askable, Demandable, sources_of, Answers}
use Rattle.sources.specs.declared.Sources.{Sources}
use Rattle.sources.proofs.KeptLaws.{answer_some, answer_none, kept_stays}
use Rattle.fit.specs.Judging.{bodies_closed, argument_span, argument_kept, application_kept, rank_at, face_kept, faces_kept, none_kept}
use Rattle.fit.specs.Judging.{demanded_at, judged_at}
use Rattle.fit.specs.Ready.{Walkable, Applicable, Slots}

-- ---- the bodies, from function k on

-- As the code reads a set out of a row
pub read_mask : (es nodes : List ℕ) (row : List NodeSet) (k : ℕ) {b : Bool}
    → b ≡ body_closed_at es (at nodes k) (mask (get_or row k no_nodes))
    → b ≡ body_closed_at es (at nodes k) (at (masks_in row) k)
read_mask es nodes row k e = e ∙ ap (body_closed_at es (at nodes k)) (masks_at row k)

module _ (es nodes row : List ℕ) (end k : ℕ) (fits : end ≤ length nodes) (masks : end ≤ length row) where
  abbrev left : List ℕ
  left = drop k (take end nodes)

  pub closed_ends : end ≤ k → true ≡ bodies_closed es (drop k (take end nodes)) (drop k row)
  unfolding bodies_closed
  closed_ends h =
      sym (ap (λ (js : List ℕ). bodies_closed es js (drop k row))
      (drop_of_length-le (take end nodes) {i = k} (omega (arith, length-take-le end nodes fits))))

  module _ (h : k < end) where
    closed_one : bodies_closed es left (drop k row)
        ≡ body_closed_at es (at nodes k) (at row k) && bodies_closed es (drop (suc k) (take end nodes)) (drop (suc k) row)
    unfolding bodies_closed
    closed_one =
        ap₂ (bodies_closed es)
        (drop-cons (take end nodes) k 0 (omega (arith, length-take-le end nodes fits))
        ∙ ap (λ (j : ℕ). j ∷ drop (suc k) (take end nodes)) (get_or-take end nodes k 0 h))
        (drop-cons row k 0 (omega arith))

    pub closed_fails : body_closed_at es (at nodes k) (at row k) ≡ false → false ≡ bodies_closed es (drop k (take end nodes)) (drop k row)
    closed_fails e = sym (closed_one ∙ ap (λ (b : Bool). b && bodies_closed es (drop (suc k) (take end nodes)) (drop (suc k) row)) e)

    pub closed_next : body_closed_at es (at nodes k) (at row k) ≡ true
        → bodies_closed es (drop (k + 1) (take end nodes)) (drop (k + 1) row) ≡ bodies_closed es (drop k (take end nodes)) (drop k row)
    closed_next e =
        let z : k + 1 ≡ suc k = omega arith in
        sym (closed_one ∙ ap (λ (b : Bool). b && bodies_closed es (drop (suc k) (take end nodes)) (drop (suc k) row)) e
        ∙ ap (λ (i : ℕ). bodies_closed es (drop i (take end nodes)) (drop i row)) (sym z))

-- ---- one argument

-- The span, from the parts of the tokens
pub span_is : (ps es : List ℕ) (n mask low long deep across : ℕ) → low ≡ lowest_marked mask → long ≡ size_in (at ps (pattern_node n))
    → deep ≡ depth_in (at ps (pattern_node n)) → across ≡ depth_in (at es (expression_node n + low))
    → record { from = pattern_node n + 1; to = pattern_node n + long; at = expression_node n + low; d = deep; e = across }
    ≡ argument_span ps es n mask
unfolding argument_span
span_is ps es n mask low long deep across l s d e = rw (e, d, s, l) refl

module _ (ps es ns : List ℕ) (n mask : ℕ) (span : Span) (is : span ≡ argument_span ps es n mask) where
  pub argument_lent : (scratch : List ℕ) → Table ps → Table es → length ps ≤ length scratch → Walkable ps es ns n mask → Lent ps es scratch span
  unfolding argument_span
  argument_lent scratch p e room w =
      subst (Lent ps es scratch) (sym is)
      (record { patterns = p; expressions = e; inside = w.ends; room = omega (arith, w.ends, room) })

  -- After the walk
  module _ (old new : List ℕ) (r : std.Option ℕ) (w : Walked (span_walk ps es span) old new r) where
    walked : Walked (span_walk ps es (argument_span ps es n mask)) old new r
    walked = subst (λ (s : Span). Walked (span_walk ps es s) old new r) is w

    pub argument_disagrees : r ≡ None → (kept : Nodes) → Answers (argument_kept (told ns) ps es n mask kept) None
    unfolding argument_kept
    argument_disagrees e kept = let d = disagreed _ old new r walked e in rw d refl

    module _ (count : ℕ) (e : r ≡ Some count) where
      recorded : Found (span_walk ps es (argument_span ps es n mask)) new count
      recorded = found _ old new r walked count e

      pub argument_room : count ≤ length new
      argument_room = recorded.room

      -- What is recorded makes demands that can be looked up
      pub argument_reads : Walkable ps es ns n mask → All (Demandable ps ns) (take count new)
      argument_reads a = subst (All (Demandable ps ns)) (sym recorded.front) (a.reads recorded.faces recorded.walked)

      pub argument_demands : (kept : Nodes) (a : std.Option Sources) → Answers (kept_after (told ns) kept (demands_in ps (take count new))) a
          → Answers (argument_kept (told ns) ps es n mask kept) a
      unfolding argument_kept
      argument_demands kept a d = rw (recorded.walked, ← recorded.front) d

-- ---- one application

module _ (ps es ns : List ℕ) (n node mask : ℕ) (kept : Nodes) (suits : Bool)
    (is : suits ≡ suits_at (told ns) es node (expression_node n) mask) where
  pub application_unsuited : suits ≡ false → Answers (application_kept (told ns) ps es n node mask kept) None
  unfolding application_kept
  application_unsuited e = rw (← is, e) refl

  module _ (e : suits ≡ true) where
    pub application_open : mask ≡ 0
        → Answers (application_kept (told ns) ps es n node mask kept) (Some (record { nodes = kept }))
    unfolding application_kept
    application_open z = rw (← is, e, eq-eqb mask 0 z) refl

    pub application_filled : (mask ≡ 0 → ⊥) → (r : std.Option Sources) → Answers (argument_kept (told ns) ps es n mask kept) r
        → Answers (application_kept (told ns) ps es n node mask kept) r
    unfolding application_kept
    application_filled z r a = rw (← is, e, ne_eqb mask 0 z) a

-- ---- one face

module _ (ps es ns : List ℕ) (functions : ℕ) (nodes row : List ℕ) (n : ℕ) (kept : Nodes) (tag : ℕ)
    (is : tag ≡ tag_in (at ps (pattern_node n))) where
  pub face_plain : (tag ≡ 6 → ⊥)
      → Answers (face_kept (told ns) ps es functions nodes row n kept) (Some (record { nodes = kept }))
  unfolding face_kept
  face_plain h = rw (← is, ne_eqb tag 6 h) refl

  pub face_applies : tag ≡ 6 → (k mask : ℕ) → k ≡ rank_at ps functions n → mask ≡ at row k → (r : std.Option Sources)
      → Answers (application_kept (told ns) ps es n (at nodes k) mask kept) r
      → Answers (face_kept (told ns) ps es functions nodes row n kept) r
  unfolding face_kept
  face_applies h k mask e i r a = rw (← is, eq-eqb tag 6 h, ← e, ← i) a

-- The nodes kept stay nodes of the table
reads_ask : (ps ns ms : List ℕ) → All (Demandable ps ns) ms → All (Askable ns) (demands_in ps ms)
reads_ask ps ns [] r = tt
reads_ask ps ns (m ∷ ms) r = all_append (Askable ns) (demand_at ps m) (demands_in ps ms) r.0.asks (reads_ask ps ns ms r.1)

application_stays : (ps es ns : List ℕ) (n node mask : ℕ) (kept kept' : Nodes) → Applicable ps es ns n node mask → Kept ns kept
    → application_kept (told ns) ps es n node mask kept ≡ some kept' → Kept ns kept'
unfolding application_kept argument_kept
application_stays ps es ns n node mask kept kept' a k e =
    by_test (suits_at (told ns) es node (expression_node n) mask) suited (λ f. never (cc (f, e)))
  where
    demanded : (mask ≡ 0 → ⊥) → suits_at (told ns) es node (expression_node n) mask ≡ true
        → argument_kept (told ns) ps es n mask kept ≡ some kept' → Kept ns kept'
    demanded z t q =
        let (ms, w, d) = then_some (span_walk ps es (argument_span ps es n mask)) (λ l. kept_after (told ns) kept (demands_in ps l)) kept' q in
        kept_stays (told ns) ns kept (demands_in ps ms) kept' k (reads_ask ps ns ms ((a.walks t z).reads ms w)) d

    suited : suits_at (told ns) es node (expression_node n) mask ≡ true → Kept ns kept'
    suited t =
        let q : choose (eqb mask 0) (some kept) (argument_kept (told ns) ps es n mask kept) ≡ some kept' =
        ap (λ (b : Bool). guard b (choose (eqb mask 0) (some kept) (argument_kept (told ns) ps es n mask kept))) (sym t) ∙ e in
        by_test (eqb mask 0)
        (λ z. let i : some kept ≡ some kept' = sym (choose_true _ _ z) ∙ q in subst (Kept ns) (let same : kept ≡ kept' = cc in same) k)
        (λ z. demanded (eqb-false mask 0 z) t (sym (choose_false _ _ z) ∙ q))

face_stays : (ps es ns : List ℕ) (functions : ℕ) (nodes row : List ℕ) (n : ℕ) (kept kept' : Nodes) → Slots ps es ns functions nodes row n
    → Kept ns kept
    → face_kept (told ns) ps es functions nodes row n kept ≡ some kept' → Kept ns kept'
unfolding face_kept
face_stays ps es ns functions nodes row n kept kept' s k e =
    by_test (eqb (tag_in (at ps (pattern_node n))) 6)
    (λ t. application_stays ps es ns n (at nodes (rank_at ps functions n)) (at row (rank_at ps functions n)) kept kept'
    (s.applies (eqb-true (tag_in (at ps (pattern_node n))) 6 t)) k (sym (choose_true _ _ t) ∙ e))
    (λ t. let i : some kept ≡ some kept' = sym (choose_false _ _ t) ∙ e in subst (Kept ns) (let same : kept ≡ kept' = cc in same) k)

-- ---- all faces, from face k on: what is kept so far leads where all faces lead from the start

pub record Going (ps es ns : List ℕ) (functions : ℕ) (nodes row faces : List ℕ) (end : Option Nodes) (k : ℕ) (kept : Nodes)
    : Type 0 where
  pub inside : Kept ns kept
  pub slots : All (Slots ps es ns functions nodes row) (drop k faces)
  pub leads : faces_kept (told ns) ps es functions nodes row (drop k faces) kept ≡ end

module _ (ps es ns : List ℕ) (functions : ℕ) (nodes row faces : List ℕ) (end : Option Nodes) (k : ℕ) (kept : Nodes)
    (g : Going ps es ns functions nodes row faces end k kept) where
  pub going_ends : length faces ≤ k → Answers end (Some (record { nodes = kept }))
  unfolding faces_kept
  going_ends h =
      subst (λ (o : Option Nodes). Answers o (Some (record { nodes = kept })))
      (sym (ap (λ (ms : List ℕ). faces_kept (told ns) ps es functions nodes row ms kept) (drop_of_length-le faces {i = k} h)) ∙ g.leads)
      refl

  module _ (h : k < length faces) where
    rest : drop k faces ≡ at faces k ∷ drop (suc k) faces
    rest = drop-cons faces k 0 h

    both : All (Slots ps es ns functions nodes row) (at faces k ∷ drop (suc k) faces)
    both = subst (All (Slots ps es ns functions nodes row)) rest g.slots

    pub going_slots : Slots ps es ns functions nodes row (at faces k)
    going_slots = both.0

    next : Option Nodes → Option Nodes
    next o = and_then o (λ ms. faces_kept (told ns) ps es functions nodes row (drop (suc k) faces) ms)

    goes : next (face_kept (told ns) ps es functions nodes row (at faces k) kept) ≡ end
    unfolding faces_kept next
    goes = sym (ap (λ (ms : List ℕ). faces_kept (told ns) ps es functions nodes row ms kept) rest) ∙ g.leads

    pub going_fails : Answers (face_kept (told ns) ps es functions nodes row (at faces k) kept) None → Answers end None
    unfolding next
    going_fails a =
        let q = answer_none (face_kept (told ns) ps es functions nodes row (at faces k) kept) None a refl in
        ap sources_of (sym (ap next q) ∙ goes)

    pub going_on : (t : Sources) → Answers (face_kept (told ns) ps es functions nodes row (at faces k) kept) (Some t)
        → Going ps es ns functions nodes row faces end (k + 1) t.nodes
    unfolding next
    going_on t a =
        let q = answer_some (face_kept (told ns) ps es functions nodes row (at faces k) kept) (Some t) a t refl in
        let z : k + 1 ≡ suc k = omega arith in
        rw z (record {
          inside = face_stays ps es ns functions nodes row (at faces k) kept t.nodes both.0 g.inside q;
          slots = both.1;
          leads = sym (ap next q) ∙ goes;
        })

-- ---- the plain faces, and then the applications

-- Before any demand
pub none_kept_lem : (ns : List ℕ) → Kept ns none_kept
unfolding metavariable_count
none_kept_lem ns = record { long = refl; inside = λ m h node e. let q : first_of none_kept m ≡ None = get_or-replicate 32 m None None h in never (cc) }

module _ (ps es ns faces : List ℕ) (functions : ℕ) (firsts : Firsts) (row : List ℕ) (kept : Nodes) (fresh : kept ≡ none_kept) where
  pub plain_begins : Kept ns kept
  plain_begins = subst (Kept ns) (sym fresh) (none_kept_lem ns)

  begun : (r : std.Option Sources) → Answers (kept_after (told ns) kept (demands_in ps faces)) r
      → Answers (kept_after (told ns) none_kept (demands_in ps faces)) r
  begun r a = subst (λ (k : Nodes). Answers (kept_after (told ns) k (demands_in ps faces)) r) fresh a

  pub plain_fails : Answers (kept_after (told ns) kept (demands_in ps faces)) None
      → Answers (demanded_at (told ns) ps es faces functions firsts row) None
  unfolding demanded_at
  plain_fails a =
      let q = answer_none (kept_after (told ns) none_kept (demands_in ps faces)) None (begun None a) refl in
      rw q refl

  module _ (t : Sources) (a : Answers (kept_after (told ns) kept (demands_in ps faces)) (Some t)) where
    plain_some : kept_after (told ns) none_kept (demands_in ps faces) ≡ some t.nodes
    plain_some = answer_some (kept_after (told ns) none_kept (demands_in ps faces)) (Some t) (begun (Some t) a) t refl

    pub plain_stays : All (Demandable ps ns) faces → Kept ns t.nodes
    plain_stays s =
        kept_stays (told ns) ns none_kept (demands_in ps faces) t.nodes (none_kept_lem ns) (reads_ask ps ns faces s) plain_some

    pub then_applied : (v : std.Option Sources) → Answers (faces_kept (told ns) ps es functions firsts.nodes row faces t.nodes) v
        → Answers (demanded_at (told ns) ps es faces functions firsts row) v
    unfolding demanded_at
    then_applied v w = rw plain_some w

-- ---- the answer

module _ (ps es ns faces : List ℕ) (functions : ℕ) (firsts : Firsts) (row : List ℕ) where
  pub judges_open : bodies_closed es (listed firsts) row ≡ false → Answers (judged_at (told ns) ps es faces functions firsts row) None
  unfolding judged_at
  judges_open e = rw e refl

  pub judges_closed : bodies_closed es (listed firsts) row ≡ true → (r : std.Option Sources)
      → Answers (demanded_at (told ns) ps es faces functions firsts row) r → Answers (judged_at (told ns) ps es faces functions firsts row) r
  unfolding judged_at
  judges_closed e r a = rw e a

-- ---- what each function cites

pub ruleset closing = (read_mask, closed_ends, closed_fails, closed_next)

pub ruleset applying = (application_unsuited, application_open, application_filled)

pub ruleset facing = (masks_at, face_plain, face_applies)

pub ruleset going = (going_slots, going_fails, going_ends)

pub ruleset plain = (plain_begins, plain_fails)

pub ruleset judging = (judges_open, judges_closed)

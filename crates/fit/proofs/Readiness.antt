-- The tables of a problem and the masks of one of its rows have all that the code asks.
use mathlib.Core.Path.{◌≡◌, refl, ap, sym, ◌∙◌, subst}
use mathlib.Core.List.Memᴰ
use mathlib.Core.List.{List, [], ◌∷◌}
use mathlib.Core.Option.{Option, none, some}
use Prim.Native.Nat.{ℕ, ◌<◌, ◌≤◌}
use native.Mathlib.Omega.{arith}
use lib.ListN.{length}
use Rattle.meaning.specs.Limits.{metavariable_count}
use Rattle.meaning.specs.Basics.{All, ◌∈◌}
use Rattle.meaning.specs.Term.{node_at, slot, Slot, metavariable, function, hole, Term}
use Rattle.meaning.specs.Problem.{Problem, patterns, expressions, functions}
use Rattle.meaning.specs.Shift.{ClosedTerm}
use Rattle.meaning.specs.Face.{Face}
use Rattle.meaning.specs.Choice.{Marks}
use Rattle.meaning.specs.Row.{Row, face_of, choice_in, row_body}
use Rattle.meaning.specs.Rows.{rows}
use Rattle.meaning.specs.Field.{tag_of}
use Rattle.meaning.specs.PlaceValue.{masks_of}
use Rattle.meaning.proofs.Lists.{never}
use Rattle.tokens.specs.Token.{tag_in, pattern_tokens, expression_tokens}
use Rattle.tokens.specs.Key.{at, Inside}
use Rattle.tokens.proofs.KeyLaws.{stands_inside}
use Rattle.numbers.specs.Tests.{told}
use Rattle.lockstep.specs.Walk.{pattern_node}
use Rattle.lockstep.specs.Recorded.{Both}
use Rattle.faces.specs.Recorded.{Recorded}
use Rattle.faces.specs.First.{listed}
use Rattle.faces.specs.declared.first.Firsts.{Firsts}
use Rattle.faces.proofs.NodeTokens.{AtNode, node_inside, node_tag, pattern_node_lem, expression_node_lem}
use Rattle.faces.proofs.ArgumentWalk.{argument_inside}
use Rattle.bodies.proofs.HoleTests.{Spotted}
use Rattle.sources.specs.Kept.{Demandable}
use Rattle.sources.proofs.RecordedDemands.{recorded_reads}
use Rattle.fit.specs.Judging.{rank_at}
use Rattle.fit.specs.Laid.{Laid, RowOf}
use Rattle.fit.specs.Ready.{Bodies, Applicable, Slots, Ready}
use Rattle.fit.proofs.Functions.{laid_own, listed_long, row_masks, function_of, function_at, bodies_closed_in}
use Rattle.fit.proofs.Arguments.{RecordedFace, SameDemands}
use Rattle.fit.proofs.Applications.{walked_argument}
use Rattle.fit.proofs.FacesMeaning.{Applied, applied_at_lem, all_spotted, recorded_moved}

-- What is recorded, where the two walks meet the same
met_reads : (ps es ks ns : List ℕ) → length ks ≡ length es → (o : Option (List ℕ)) (v : Option (List Face)) → Both (SameDemands ps es) o v
    → o ≡ some ns → All (Demandable ps ks) ns
met_reads ps es ks ns long none v b e = never (cc)
met_reads ps es ks ns long (some ms) none b e = absurd b
met_reads ps es ks ns long (some ms) (some ys) b e = subst (All (Demandable ps ks)) (let q : ms ≡ ns = cc in q) (b.1 ks long)

-- The numbers ks tell what the table of the expressions says
module _ (p : Problem) (ks ns : List ℕ) (s : ℕ) (firsts : Firsts) (l : Laid p (told ks) (pattern_tokens p) (expression_tokens p) ns s firsts)
    (long : length ks ≡ length (expression_tokens p)) (r : Row) (i : r ∈ rows p) where
  abbrev ps : List ℕ
  ps = pattern_tokens p

  abbrev es : List ℕ
  es = expression_tokens p

  abbrev row : List ℕ
  row = masks_of r

  expression_inside : (j : ℕ) (t : Term) → node_at j (expressions p) ≡ some t → Inside es j
  expression_inside j t e =
      let a = expression_node_lem p l.accepted.within j t e in
      stands_inside a.levels a.context es j a.scope a.named a.held a.stands

  bodies_ready : Bodies es firsts row
  bodies_ready = record {
    fits = l.fits;
    inside = λ k h.
        let (f, e) =
        function_of p l.found (functions p) (listed firsts) k l.nodes (omega (arith, listed_long p (told ks) ns s firsts l)) in
        expression_inside (at firsts.nodes k) (face_of p f) (function_at p (told ks) ns s firsts l r i k f e).face;
    masks = row_masks p (told ks) ns s firsts l r i;
  }

  module _ (closed : (f : ℕ) → f ∈ functions p → ClosedTerm (row_body p r f)) where
    -- One application
    application_ready : (n : ℕ) (x : Face) → RecordedFace p n x → Spotted es 0 x → (f : ℕ) → Applied p s firsts r n x f
        → Applicable ps es ks n (at firsts.nodes (rank_at ps s n)) (at row (rank_at ps s n))
    unfolding row_body
    application_ready n x recorded spotted f a =
        subst (λ (m : ℕ). Applicable ps es ks n node m) (sym a.rank.mask)
        (record {
          face = (expression_inside node (face_of p f) a.rank.face).starts;
          faced = subst (λ (j : ℕ). j < length es) (sym recorded.node) (expression_inside x.node x.term recorded.term).starts;
          walks = λ t z.
              let (hs, g) =
              walked_argument p l.accepted.within n f x recorded a.applies spotted node (face_of p f) a.rank.face a.is_face ms
              a.rank.choice a.rank.small a.is_body (closed f a.is_function) (told ks) l.tells t z in
              record {
                slot = node_inside ps (pattern_node n) (slot (function f 1), x.children)
                    (pattern_node_lem p l.accepted.within (pattern_node n) (slot (function f 1), x.children) slots);
                ends = argument_inside p l.accepted.within (pattern_node n) f 1 x.children slots;
                hole = g.inside;
                reads = λ ms e. met_reads ps es ks ms long _ _ g.met e;
              };
        })
      where
        node : ℕ
        node = at firsts.nodes (rank_at ps s n)

        ms : Marks
        ms = choice_in (functions p) r f

        slots : node_at (pattern_node n) (patterns p) ≡ some (slot (function f 1), x.children)
        slots = recorded.slots ∙ ap (λ (z : Slot). some (slot z, x.children)) a.applies

    -- One face of whatever kind
    slot_ready : (n : ℕ) (x : Face) → RecordedFace p n x → x ∈ l.found → Spotted es 0 x → Slots ps es ks s firsts.nodes row n
    slot_ready n x recorded m spotted = record {
      slot = node_inside ps (pattern_node n) (slot x.what, x.children) there;
      number = λ t. let (f, a) = application t in subst (λ (g : ℕ). g < metavariable_count) (sym a.number) a.few;
      rank = λ t. let (f, a) = application t in a.rank.few;
      applies = λ t. let (f, a) = application t in application_ready n x recorded spotted f a;
    }
      where
        there : AtNode ps (pattern_node n) (slot x.what, x.children)
        there = pattern_node_lem p l.accepted.within (pattern_node n) (slot x.what, x.children) recorded.slots

        kind : (z : Slot) → x.what ≡ z → tag_of (slot z) ≡ 6 → (f : ℕ) × Applied p s firsts r n x f
        kind (metavariable k) e t = absurd (omega arith)
        kind (function f k) e t = (f, applied_at_lem p (told ks) ns s firsts l r i n x recorded m f k e)
        kind (hole k) e t = absurd (omega arith)

        application : tag_in (at ps (pattern_node n)) ≡ 6 → (f : ℕ) × Applied p s firsts r n x f
        application t = kind x.what refl (sym (node_tag ps (pattern_node n) x.what x.children there) ∙ t)

    slots_ready : (ms : List ℕ) (xs : List Face) → Recorded p ms xs → ((x : Face) → x ∈ xs → x ∈ l.found) → All (Spotted es 0) xs
        → All (Slots ps es ks s firsts.nodes row) ms
    slots_ready [] [] q h a = tt
    slots_ready [] (x ∷ xs) q h a = absurd q
    slots_ready (n ∷ ms) [] q h a = absurd q
    slots_ready (n ∷ ms) (x ∷ xs) q h a =
        (slot_ready n x q.0 (h x (Memᴰ.head refl)) a.0, slots_ready ms xs q.1 (λ y m. h y (Memᴰ.tail m)) a.1)

  ready : (scratch : List ℕ) → length ps ≤ length scratch → Ready ps es ks ns s firsts row scratch
  ready scratch room = record {
    room = room;
    bodies = bodies_ready;
    reads = recorded_reads ps es _ _ _ (pattern_node_lem p l.accepted.within) ks long ns l.found l.recorded
        (recorded_moved p ns l.found l.recorded spotted);
    slots = λ c. slots_ready (bodies_closed_in p (told ks) ns s firsts l r i c) ns l.found l.recorded (λ x m. m) spotted;
  }
    where
      spotted : All (Spotted es 0) l.found
      spotted = all_spotted p (told ks) ns s firsts l r i

-- THE CODE CAN BE CALLED
pub laid_ready : (p : Problem) (ps es ks ns : List ℕ) (s : ℕ) (firsts : Firsts) → Laid p (told ks) ps es ns s firsts → length ks ≡ length es
    → (row : List ℕ) → RowOf p row → (scratch : List ℕ) → length ps ≤ length scratch → Ready ps es ks ns s firsts row scratch
laid_ready p ps es ks ns s firsts l long row o scratch room =
    subst (λ (q : List ℕ). Ready q es ks ns s firsts row scratch) (sym l.patterns)
    (subst (λ (q : List ℕ). Ready (pattern_tokens p) q ks ns s firsts row scratch) (sym l.expressions)
    (subst (λ (q : List ℕ). Ready (pattern_tokens p) (expression_tokens p) ks ns s firsts q scratch) (sym o.masks)
    (ready p ks ns s firsts (laid_own p (told ks) ps es ns s firsts l) (long ∙ ap length l.expressions) o.choices o.is_row scratch
    (subst (λ (q : List ℕ). length q ≤ length scratch) l.patterns room))))

-- The test on the tables says whether each filled pattern equals its expression, and the code can make it.
use mathlib.Core.Path.{◌≡◌, refl, ap, sym, ◌∙◌, subst}
use mathlib.Core.Logic.{◌↔◌}
use mathlib.Core.Bool.{true, false}
use mathlib.Core.List.{List, [], append-nil}
use mathlib.Core.Option.{none, some}
use Prim.Native.Nat.{ℕ}
use native.Mathlib.Omega.{arith}
use lib.Dec.{T}
use Rattle.meaning.specs.Limits.{max_depth}
use Rattle.meaning.specs.Basics.{All, AllO, ◌∈◌}
use Rattle.meaning.specs.Term.{node_at, slot, Slot, metavariable, function, hole, Terms}
use Rattle.meaning.specs.Problem.{Problem, patterns, expressions, named_expressions}
use Rattle.meaning.specs.Filling.{fill, Filling, fill_handler, filled}
use Rattle.meaning.specs.Same.{same_terms}
use Rattle.meaning.specs.Face.{Face, walk_of}
use Rattle.meaning.specs.Agree.{Satisfied}
use Rattle.meaning.specs.Field.{tag_of}
use Rattle.meaning.specs.Read.{in_expression}
use Rattle.meaning.specs.Readable.{Accepted}
use Rattle.meaning.specs.Text.{Item, said}
use Rattle.meaning.specs.Passing.{meets}
use Rattle.meaning.proofs.Lists.{T_true, true_T, not_T, all_mem}
use Rattle.meaning.proofs.Alike.{same_terms_eq, same_terms_refl}
use Rattle.meaning.proofs.Lockstep.{walk_in}
use Rattle.meaning.proofs.Proper.{Proper, accepted_proper, expressions_readable}
use Rattle.meaning.proofs.Slots.{faced_expression, faced_shape}
use Rattle.masks.proofs.Cases.{same_truth}
use Rattle.tokens.specs.Token.{Table, depth_in, tag_in, tokens, pattern_tokens, expression_tokens}
use Rattle.tokens.specs.Key.{at}
use Rattle.tokens.proofs.ProblemTokens.{expressions_room, pattern_table_lem, expression_table_lem}
use Rattle.demands.proofs.SlotKinds.{NoHole, pattern_face}
use Rattle.lockstep.specs.Walk.{pattern_node, expression_node}
use Rattle.lockstep.specs.Recorded.{Records, Both}
use Rattle.faces.specs.Recorded.{Recorded}
use Rattle.faces.proofs.NodeTokens.{AtNode, node_tag, pattern_node_lem, expression_node_lem}
use Rattle.bodies.proofs.HoleTests.{Spotted, spots}
use Rattle.sources.proofs.RecordedDemands.{slot_fits}
use Rattle.said.specs.Said.{SaidBy}
use Rattle.said.specs.declared.Said.{Said}
use Rattle.filled.specs.Filled.{faced_value_at, application_at, face_at, filled_at}
use Rattle.filled.specs.Ready.{Rooms, Slotted}
use Rattle.filled.specs.Grounded.{Grounded}
use Rattle.filled.proofs.Cases.{plain_face, applied_face}
use Rattle.filled.proofs.Deciding.{Decides, fill_decided}
use Rattle.filled.proofs.Values.{face_decided}
use Rattle.filled.proofs.Applications.{application_decided}

same_decides : (u v : Terms) → (same_terms u v ≡ true) ↔ (u ≡ v)
same_decides u v = (
  λ e. same_terms_eq u v (true_T e),
  λ e. T_true (subst (λ (t : Terms). T (same_terms u t)) e (same_terms_refl u)),
)

module _ (p : Problem) (accepted : Accepted p) (ts : List ℕ) (is : List Item) (s : Said) (by : SaidBy ts is s) where
  abbrev ps : List ℕ
  ps = pattern_tokens p

  abbrev es : List ℕ
  es = expression_tokens p

  proper : Proper p
  proper = accepted_proper p accepted

  -- One recorded face
  module _ (xs : List Face) (agree : walk_of p ≡ some xs) (n : ℕ) (x : Face) (among : x ∈ xs)
      (recorded : Records (λ i. node_at i (patterns p)) (λ j. node_at j (expressions p)) (λ i. depth_in (at ps i)) n x) where
    -- What it faces stands under as many binders as its slot
    spotted : Spotted es 0 x
    unfolding expression_tokens
    spotted =
        all_mem (Spotted es 0) x xs
        (spots es 0 0 0 max_depth in_expression (patterns p) [] (named_expressions p) []
        (sym (append-nil (tokens [] (named_expressions p)))) refl (expressions_readable p accepted.within)
        (expressions_room p accepted.within) xs agree) among

    slot_at : (z : Slot) → x.what ≡ z → AtNode ps (pattern_node n) (slot z, x.children)
    slot_at z e =
        pattern_node_lem p accepted.within (pattern_node n) (slot z, x.children)
        (recorded.slots ∙ ap (λ (y : Slot). some (slot y, x.children)) e)

    tagged : (z : Slot) → x.what ≡ z → tag_in (at ps (pattern_node n)) ≡ tag_of (slot z)
    tagged z e = node_tag ps (pattern_node n) z x.children (slot_at z e)

    abbrev Told : Slot → Type 0
    Told z =
        Decides (Slotted ps es ts s n) (face_at ps es ts s n)
        (fill_handler (said is) x.under z (fill (fill_handler (said is)) x.under x.children) ≡ x.term)

    plain_told : (m : ℕ) → x.what ≡ metavariable m → Told (metavariable m)
    plain_told m e =
        let d = face_decided ts is s by ps es n m x.children x.term (slot_at (metavariable m) e)
        (expression_node_lem p accepted.within (expression_node n) x.term
        (ap (λ (j : ℕ). node_at j (expressions p)) recorded.node ∙ recorded.term)) (faced_expression p proper xs agree x among) in
        let other : (tag_in (at ps (pattern_node n)) ≡ 6 → ⊥) = λ q. omega (arith, tagged (metavariable m) e) in
        let same : face_at ps es ts s n ≡ faced_value_at ps es ts s n = plain_face ps es ts s n other in
        record {
          can = record { faced = d.can; applied = λ t. absurd (other t) };
          into = λ q. d.into (sym same ∙ q);
          back = λ q. same ∙ d.back q;
        }

    applied_told : (f a : ℕ) → x.what ≡ function f a → Told (function f a)
    applied_told f a e =
        let single : a ≡ 1 = (slot_fits ps (pattern_node n) (function f a) x.children (slot_at (function f a) e)).1 in
        let (many, is_argument) = faced_shape p proper xs agree f a x among e in
        let d = application_decided p accepted.within ts is s by n f x recorded (e ∙ ap (function f) single) (many ∙ single, is_argument)
        (faced_expression p proper xs agree x among) spotted in
        let same : face_at ps es ts s n ≡ application_at ps es ts s n = applied_face ps es ts s n (tagged (function f a) e) in
        subst Told e (record {
          can = record { faced = d.can.faced; applied = λ t. d.can };
          into = λ q. d.into (sym same ∙ q);
          back = λ q. same ∙ d.back q;
        })

    slot_told : Told x.what
    slot_told = go x.what refl (pattern_face 0 0 (patterns p) (expressions p) xs agree x among proper.pattern)
      where
        go : (z : Slot) → x.what ≡ z → NoHole z → Told z
        go (metavariable m) e h = plain_told m e
        go (function f a) e h = applied_told f a e
        go (hole i) e h = absurd h

  -- All of them
  all_told : (ns : List ℕ) (found : List Face) → walk_of p ≡ some found → Recorded p ns found
      → Decides ((ms : List ℕ) → some ns ≡ some ms → All (Slotted ps es ts s) ms) (filled_at ps es ns ts s)
      (filled (said is) (patterns p) ≡ expressions p)
  unfolding filled_at
  all_told ns found agree recorded =
      fill_decided (λ i. node_at i (patterns p)) (λ j. node_at j (expressions p)) (λ i. depth_in (at ps i)) (Slotted ps es ts s)
      (face_at ps es ts s) (fill_handler (said is)) 0 0 (patterns p) (expressions p) (some ns)
      (subst (Both (Recorded p) (some ns)) (sym agree) recorded) (λ xs e n x q r. slot_told xs e n x q r)

-- THE MEANING
pub filled_means : (p : Problem) → Accepted p → (ns : List ℕ) (found : List Face) → walk_of p ≡ some found → Recorded p ns found
    → (ts : List ℕ) (is : List Item) (s : Said)
    → SaidBy ts is s → filled_at (pattern_tokens p) (expression_tokens p) ns ts s ≡ meets p (said is)
filled_means p accepted ns found agree recorded ts is s by =
    let d = all_told p accepted ts is s by ns found agree recorded in
    let e = same_decides (filled (said is) (patterns p)) (expressions p) in
    same_truth (filled_at (pattern_tokens p) (expression_tokens p) ns ts s) (meets p (said is)) (λ t. e.1 (d.into t)) (λ t. d.back (e.0 t))

-- "If they disagree anywhere", no filling meets the constraints
pub meets_disagree : (p : Problem) (σ : Filling) → walk_of p ≡ none → meets p σ ≡ false
meets_disagree p σ e =
    not_T (λ t. subst (AllO (Satisfied (fill_handler σ))) e
    (walk_in (fill_handler σ) 0 0 (patterns p) (expressions p) (same_terms_eq (filled σ (patterns p)) (expressions p) t)))

-- THE CODE CAN BE CALLED
module _ (ps es ns ts : List ℕ) (s : Said) (holes scratch : List ℕ) (g : Grounded ps es ns ts s holes scratch) where
  pub grounded_patterns : Table ps
  grounded_patterns = subst Table (sym g.patterns) (pattern_table_lem g.problem g.accepted.within)

  pub grounded_expressions : Table es
  grounded_expressions = subst Table (sym g.expressions) (expression_table_lem g.problem g.accepted.within)

  pub grounded_rooms : Rooms ps ts holes scratch
  grounded_rooms = record { bodies = g.body_room; arguments = g.argument_room }

  pub grounded_slots : All (Slotted ps es ts s) ns
  grounded_slots =
      subst (λ (l : List ℕ). All (Slotted l es ts s) ns) (sym g.patterns)
      (subst (λ (l : List ℕ). All (Slotted (pattern_tokens g.problem) l ts s) ns) (sym g.expressions)
      ((all_told g.problem g.accepted ts g.items s g.says ns g.found g.agree g.recorded).can ns refl))

-- The subterm at a node of one table walked against that at a node of another: on the tokens as on the terms, the first of which is moved
-- under the binders by which the second lies deeper. A body is closed and stays what it is; an argument is moved past the binders of the
-- body above a hole.
--   from    the nodes of a forest whose first has the number i
--   A, B    the two terms, each in its table
use mathlib.Core.Path.{◌≡◌, refl, ap, ap₂, sym, ◌∙◌, subst}
use mathlib.Core.List.{List}
use mathlib.Core.Option.{Option, none, some}
use Prim.Native.Nat.{ℕ, ◌+◌, ◌-◌, ◌≤◌}
use native.Mathlib.Nat.{zero-add}
use native.Mathlib.Omega.{arith}
use lib.ListN.{length, drop}
use lib.Dec.{ltb}
use borrow.Author.Tests.{ltb-false}
use Rattle.meaning.specs.Basics.{choose, ◌∈◌}
use Rattle.meaning.specs.Term.{one, node_at, Terms, Term, inner}
use Rattle.meaning.specs.Shift.{shift_label, shift_term, Closed}
use Rattle.meaning.specs.Equal.{View}
use Rattle.meaning.specs.Face.{Face, walk}
use Rattle.meaning.proofs.Lists.{never, by_test, choose_true, choose_false, all_mem}
use Rattle.meaning.proofs.ShiftLaws.{ltb_no, relabel_size}
use Rattle.meaning.proofs.ViewLaws.{nameless_closed}
use Rattle.tokens.specs.Token.{depth_in, size_in}
use Rattle.tokens.specs.Key.{at, nodes, Inside}
use Rattle.tokens.proofs.Codes.{view_from}
use Rattle.tokens.proofs.KeyLaws.{stands_depth, stands_part, stands_inside}
use Rattle.tokens.proofs.ProblemTokens.{Room}
use Rattle.lockstep.specs.Walk.{lockstep, at_slots}
use Rattle.lockstep.specs.Recorded.{RecordedBy, Both}
use Rattle.lockstep.proofs.WalkTrees.{seen_walk, flat_trees}
use Rattle.lockstep.proofs.SlotWalk.{seen_slots, tells_slots, Looks, Deep, seen_both}
use Rattle.lockstep.proofs.TokenDepths.{tokens_deep}
use Rattle.faces.proofs.NodeTokens.{AtNode, node_size}
use Rattle.bodies.proofs.HoleTests.{Spotted, spots}
use Rattle.filled.specs.Filled.{span_across, walk_across}
use Rattle.filled.proofs.Moved.{moved_within, moved_seen, moved_deep}

abbrev pub from : ℕ → Terms → ℕ → Option Term
from i u m = choose (ltb m i) none (node_at (m - i) u)

from_looks : (i : ℕ) (u : Terms) → Looks (from i u) i u
from_looks i u m h =
    let e : i + m - i ≡ m = omega arith in
    choose_false _ _ (ltb_no (i + m) i (omega arith)) ∙ ap (λ (x : ℕ). node_at x u) e

pub from_node : (i : ℕ) (u : Terms) (m : ℕ) (t : Term) → from i u m ≡ some t → (i ≤ m) × (node_at (m - i) u ≡ some t)
from_node i u m t e =
    by_test (ltb m i) (λ y. never (cc (choose_true none (node_at (m - i) u) y)))
    (λ y. (ltb-false m i y, sym (choose_false none (node_at (m - i) u) y) ∙ e))

-- What a node's token and tokens are
module _ (t : List ℕ) (i : ℕ) (a : Term) (A : AtNode t i a) where
  pub node_depth : depth_in (at t i) ≡ length A.scope
  node_depth = stands_depth A.levels A.context t i A.scope A.named A.held A.stands

  pub node_whole : Inside t i
  node_whole = stands_inside A.levels A.context t i A.scope A.named A.held A.stands

  node_within : Closed (length A.scope) (one a)
  node_within = subst (λ (x : Term). Closed (length A.scope) (one x)) (sym A.term) (nameless_closed A.scope (one A.named))

  node_room : Room A.levels A.scope (one A.named)
  node_room = record { depths = A.held.depths; sizes = A.held.sizes }

  pub node_deep : Deep (λ m. depth_in (at t m)) i (length A.scope) (one a)
  node_deep =
      subst (λ (x : Term). Deep (λ m. depth_in (at t m)) i (length A.scope) (one x)) (sym A.term)
      (tokens_deep t i A.levels A.context A.scope (one A.named) A.stands.after A.stands.split A.held.readable
      node_room)

module _ (t u : List ℕ) (i j n : ℕ) (a b : Term) (A : AtNode t i a) (B : AtNode u j b)
    (deeper : length B.scope ≡ n + length A.scope) (few : length t ≤ 65536) where
  on_tokens : walk_across t i u j ≡ seen_walk seen_slots i j (view_from A.scope 0 (one a)) (view_from B.scope 0 (one b))
  unfolding walk_across span_across
  on_tokens =
      let z : i + size_in (at t i) - i ≡ size_in (at t i) = omega arith in
      ap₂ (λ (x y : ℕ). lockstep at_slots x y 0 i j (nodes t i (i + size_in (at t i) - i)) (drop j u)) (node_depth t i a A)
      (node_depth u j b B)
      ∙ ap₂ (lockstep at_slots (length A.scope) (length B.scope) 0 i j)
      (ap (nodes t i) z ∙ stands_part A.levels A.context t i A.scope A.named A.held A.stands) B.stands.split
      ∙ flat_trees at_slots seen_slots A.scope B.scope (tells_slots A.scope) i j A.levels B.levels A.context B.context
      (one A.named) (one B.named) B.stands.after A.held.readable B.held.readable (node_room t i a A) (node_room u j b B)
      refl
      ∙ ap₂ (λ (x y : Term). seen_walk seen_slots i j (view_from A.scope 0 (one x)) (view_from B.scope 0 (one y)))
      (sym A.term) (sym B.term)

  -- THE THEOREM
  pub across_walk : Both (RecordedBy (from i (one (shift_term n a))) (from j (one b)) (λ m. depth_in (at t m))) (walk_across t i u j)
      (walk (length A.scope) j (one (shift_term n a)) (one b))
  across_walk =
      subst (λ (o : Option (List ℕ)). Both (RecordedBy (from i (one (shift_term n a))) (from j (one b)) (λ m. depth_in (at t m))) o
      (walk (length A.scope) j (one (shift_term n a)) (one b)))
      (sym (on_tokens ∙ ap (λ (w : View ℕ). seen_walk seen_slots i j w (view_from B.scope 0 (one b)))
      (moved_seen A.scope B.scope n deeper a (node_within t i a A))))
      (seen_both (from i (one (shift_term n a))) (from j (one b)) (λ m. depth_in (at t m)) B.scope (length A.scope) 0 i j
      (one (shift_term n a)) (one b)
      (widened (shift_term n a) (moved_within A.scope B.scope n deeper a (node_within t i a A)))
      (widened b (node_within u j b B)) (from_looks i (one (shift_term n a))) (from_looks j (one b))
      (moved_deep (λ m. depth_in (at t m)) n 0 i (length A.scope) (one a) (node_deep t i a A))
      (omega (arith, relabel_size inner (shift_label n) 0 (one a), node_size t i a A, (node_whole t i a A).ends)))
    where
      widened : (x : Term) → Closed (length B.scope) (one x) → Closed (0 + length B.scope) (one x)
      widened x = subst (λ (m : ℕ). Closed m (one x)) (sym (zero-add (length B.scope)))

-- What a face of any walk against the second term faces stands in its table, under as many binders as the face
pub across_spotted : (u : List ℕ) (j : ℕ) (b : Term) (B : AtNode u j b) (k d : ℕ) → length B.scope ≡ k + d
    → (w : Terms) (hs : List Face)
    → walk k j w (one b) ≡ some hs → (h : Face) → h ∈ hs → Spotted u d h
across_spotted u j b B k d deep w hs e h q =
    all_mem (Spotted u d) h hs
    (spots u d k j B.levels B.context w B.scope (one B.named) B.stands.after B.stands.split deep B.held.readable
    (node_room u j b B) hs (ap (λ (x : Term). walk k j w (one x)) (sym B.term) ∙ e)) q

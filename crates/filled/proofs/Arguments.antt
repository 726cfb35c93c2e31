-- An argument against what stands across a hole: filled and moved past the binders of the body above the hole, it is that exactly when its
-- walk is defined and each metavariable that it meets has as its value what it faces there. That it uses none of these binders follows.
--   i, j   the argument's node among the patterns, and the hole's among the expressions; n binders of the body are above the hole
use mathlib.Core.Path.{◌≡◌, ap, sym, ◌∙◌, subst}
use mathlib.Core.List.{List}
use mathlib.Core.Option.{some}
use Prim.Native.Nat.{ℕ, ◌+◌, ◌-◌}
use native.Mathlib.Omega.{arith}
use lib.ListN.{length}
use Rattle.meaning.specs.Basics.{All, ◌∈◌}
use Rattle.meaning.specs.Term.{one, node_at, slot, Slot, metavariable, Nameless, Terms, Term, inner, IsExpression}
use Rattle.meaning.specs.Problem.{Problem, patterns}
use Rattle.meaning.specs.Shift.{shift_label, shift_term}
use Rattle.meaning.specs.Filling.{fill, fill_term, fill_handler}
use Rattle.meaning.specs.Face.{Face, walk}
use Rattle.meaning.specs.Agree.{Satisfied}
use Rattle.meaning.specs.Text.{Item, said}
use Rattle.meaning.specs.Readable.{WithinLimits}
use Rattle.meaning.proofs.Nodes.{node_stands, stands_node, stands_in, stands_relabel}
use Rattle.meaning.proofs.Proper.{IsArgument}
use Rattle.meaning.proofs.Renaming.{one_injective}
use Rattle.meaning.proofs.Slots.{faces_expression}
use Rattle.tokens.specs.Token.{depth_in, pattern_tokens, expression_tokens}
use Rattle.tokens.specs.Key.{at}
use Rattle.tokens.proofs.ProblemTokens.{pattern_table_lem}
use Rattle.demands.proofs.SlotKinds.{IsMetavariable, argument_face}
use Rattle.lockstep.specs.Walk.{pattern_node, expression_node}
use Rattle.lockstep.specs.Recorded.{Records}
use Rattle.faces.proofs.NodeTokens.{AtNode, pattern_node_lem}
use Rattle.said.specs.Said.{SaidBy}
use Rattle.said.specs.declared.Said.{Said}
use Rattle.filled.specs.Filled.{walk_across, faced_value_at, argument_at}
use Rattle.filled.specs.Ready.{Faced, Argued}
use Rattle.filled.proofs.Deciding.{Decides, fill_decided}
use Rattle.filled.proofs.Moved.{moved_slot, moved_argument, moved_filled}
use Rattle.filled.proofs.Across.{from, from_node, node_whole, across_walk, across_spotted}
use Rattle.filled.proofs.Values.{said_closed, face_decided}

module _ (p : Problem) (w : WithinLimits p) (i : ℕ) (argument : Term) (stands : node_at i (patterns p) ≡ some argument) where
  -- A slot of the argument, wherever that is moved, is a slot of the patterns
  slot_there : (n m : ℕ) (z : Slot) (c : Terms) → from i (one (shift_term n argument)) m ≡ some (slot z, c)
      → (c' : Terms) × (node_at m (patterns p) ≡ some (slot z, c'))
  slot_there n m z c e =
      let (low, q) = from_node i (one (shift_term n argument)) m (slot z, c) e in
      let (k, t, there, same) =
      stands_relabel inner (shift_label n) (one argument) 0 (node_stands (m - i) (one (shift_term n argument)) (slot z, c) q) in
      let number : m ≡ i + (m - i) = omega arith in
      let label : t.0 ≡ slot z = moved_slot n k t.0 z (sym (ap (λ (x : Term). x.0) same)) in (
        t.1,
        stands_node (stands_in (node_stands i (patterns p) argument stands) there number)
            ∙ ap (λ (l : Nameless). some (l, t.1)) label,
      )

  abbrev pub argument_node : AtNode (pattern_tokens p) i argument
  argument_node = pattern_node_lem p w i argument stands

  module _ (ts : List ℕ) (is : List Item) (s : Said) (by : SaidBy ts is s) (is_argument : IsArgument (one argument)) (j n : ℕ) (v : Term)
      (across : AtNode (expression_tokens p) j v) (expression : IsExpression (one v))
      (deeper : length across.scope ≡ n + length argument_node.scope) where
    abbrev ps : List ℕ
    ps = pattern_tokens p

    abbrev es : List ℕ
    es = expression_tokens p

    abbrev k : ℕ
    k = length argument_node.scope

    abbrev moved : Terms
    moved = one (shift_term n argument)

    -- A metavariable that is met
    met_decided : (ys : List Face) → walk k j moved (one v) ≡ some ys → (m : ℕ) (y : Face) → y ∈ ys
        → Records (from i moved) (from j (one v)) (λ a. depth_in (at ps a)) m y
        → Decides (Faced ps es ts s m) (faced_value_at ps es ts s m) (Satisfied (fill_handler (said is)) y)
    met_decided ys e m y q r =
        go (argument_face k j moved (one v) ys e y q (moved_argument n 0 (one argument) is_argument))
      where
        there : AtNode es (expression_node m) y.term
        there =
            subst (λ (a : ℕ). AtNode es a y.term) (sym r.node)
            (across_spotted es j v across k n (omega arith) moved ys e y q).there

        go : IsMetavariable y.what → Decides (Faced ps es ts s m) (faced_value_at ps es ts s m) (Satisfied (fill_handler (said is)) y)
        go (x, kind) =
            let (c, slots) = slot_there n (pattern_node m) y.what y.children r.slots in
            subst (λ (z : Slot). Decides (Faced ps es ts s m) (faced_value_at ps es ts s m)
            (fill_handler (said is) y.under z (fill (fill_handler (said is)) y.under y.children) ≡ y.term)) (sym kind)
            (face_decided ts is s by ps es m x c y.term
            (pattern_node_lem p w (pattern_node m) (slot (metavariable x), c) (slots ∙ ap (λ (z : Slot). some (slot z, c)) kind)) there
            (faces_expression k j moved (one v) ys expression e y q))

    walk_told : Decides ((ns : List ℕ) → walk_across ps i es j ≡ some ns → All (Faced ps es ts s) ns) (argument_at ps es ts s i j)
        (fill (fill_handler (said is)) k moved ≡ one v)
    unfolding argument_at
    walk_told =
        fill_decided (from i moved) (from j (one v)) (λ a. depth_in (at ps a)) (Faced ps es ts s) (faced_value_at ps es ts s)
        (fill_handler (said is)) k j moved (one v) (walk_across ps i es j)
        (across_walk ps es i j n argument v argument_node across deeper (pattern_table_lem p w).small) met_decided

    -- THE ARGUMENT
    pub argument_decided : Decides (Argued ps es ts s i j) (argument_at ps es ts s i j)
        (shift_term n (fill_term (fill_handler (said is)) k argument) ≡ v)
    argument_decided =
        let f = fill_term (fill_handler (said is)) k argument in
        let later : one (shift_term n f) ≡ fill (fill_handler (said is)) k moved =
        moved_filled (said is) (said_closed is) n 0 k (one argument) is_argument in
        record {
          can = record {
            argument = node_whole ps i argument argument_node;
            across = (node_whole es j v across).starts;
            faces = walk_told.can;
          };
          into = λ t. one_injective (shift_term n f) v (later ∙ walk_told.into t);
          back = λ e. walk_told.back (sym later ∙ ap (λ (x : Term). one x) e);
        }

-- `bench_rows::count`. The loop's invariant: the row that is reached is one of the rows.
use mathlib.Core.Path.{refl, sym, ◌∙◌, subst, subst₂}
use native.Mathlib.Omega.{arith}
use Prim.Native.Nat.{ℕ, ◌-◌, ◌<◌}
use lib.ListN.{get_or}
use Rattle.meaning.specs.Limits.{max_functions}
use Rattle.meaning.specs.Basics.{◌∈◌}
use Rattle.masks.specs.Sets.{mask}
use Rattle.rows.specs.Functions.{choices_in}
use Rattle.rows.proofs.RowLaws.{Moving, above_zero, last_moves, moved, moving_choice, moving_inside, nothing}
use Rattle.bench_rows.proofs.Laws.{place_mem, step_in}
use Rattle.bench_rows.proofs.count.Goals as goal
use Rattle.bench_rows.proofs.count.Goals.{After-row_known-1, then-is_empty+else-k-eq0, else-is_empty}

-- Whichever way the function that steps is found, the row is about to step
moving : (c : After-row_known-1)
    → Moving c.args.functions.now.firsts.count c.first_row-first.result c.loop-n.reached c.if-is_empty.reached c.if-is_empty.k
moving c =
    let f = c.args.functions.now in
    let first = c.first_row-first in
    let row = c.loop-n.reached in
    let about = Moving f.firsts.count first.result row in
    elim c.if-is_empty.branch [
      | then-is_empty+else-k-eq0 w ↦
          subst₂ about (sym w.reached-is) (sym w.k-is)
          (record { steps = w.stepping-k.ensures; some = omega (arith, w.if-k-eq0.false); again = w.begin_again-reached.ensures })
      | else-is_empty w ↦
          subst₂ about (sym w.reached-is) (sym w.k-is)
          (last_moves _ _ _ f.faced first.result row first.ensures c.loop-n.invariant
          (subst (λ (i : ℕ). 0 < mask (get_or row i nothing)) c.last_function-last.ensures
          (above_zero _ (sym c.is_empty.ensures ∙ w.if-is_empty.false))))
    ]

choice : (c : After-row_known-1)
    → (mask (get_or c.if-is_empty.reached (c.if-is_empty.k - 1) nothing) ∈ choices_in c.args.functions.now (c.if-is_empty.k - 1))
    × (0 < mask (get_or c.if-is_empty.reached (c.if-is_empty.k - 1) nothing))
choice c =
    let first = c.first_row-first in
    moving_choice _ _ _ c.args.functions.now.faced first.result c.loop-n.reached first.ensures c.loop-n.invariant c.if-is_empty.reached
    c.if-is_empty.k (moving c)

pub loop-n-init : goal.loop-n-init
loop-n-init c = place_mem _ _ c.first_row-first.ensures

pub offset_bounds-reached-last : goal.offset_bounds-reached-last
unfolding max_functions
offset_bounds-reached-last c = omega (arith, c.last_function-last.ensures, c.args.functions.now.faced.faces.few)

pub bounds-reached-last : goal.bounds-reached-last
unfolding max_functions
bounds-reached-last c = omega (arith, c.last_function-last.ensures, c.args.functions.now.faced.faces.few)

pub overflow_sub-k : goal.overflow_sub-k
overflow_sub-k c = (moving c).some

pub overflow_sub-k-in-loop-n : goal.overflow_sub-k-in-loop-n
overflow_sub-k-in-loop-n c = (moving (goal.at.overflow_sub-k-in-loop-n c).After-row_known-1).some

pub offset_bounds-reached-k : goal.offset_bounds-reached-k
unfolding max_functions
offset_bounds-reached-k c = omega (arith, moving_inside _ c.args.functions.now.faced.faces.few (moving (goal.at.offset_bounds-reached-k c).After-row_known-1))

pub bounds-reached-k : goal.bounds-reached-k
unfolding max_functions
bounds-reached-k c = moving_inside _ c.args.functions.now.faced.faces.few (moving (goal.at.bounds-reached-k c).After-row_known-1)

pub next_of-requires-clause-function : goal.next_of-requires-clause-function
next_of-requires-clause-function c = moving_inside _ c.args.functions.now.faced.faces.few (moving (goal.at.next_of-requires-clause-function c).After-row_known-1)

pub next_of-requires-clause-choice : goal.next_of-requires-clause-choice
next_of-requires-clause-choice c = (choice (goal.at.next_of-requires-clause-choice c).After-row_known-1).0

pub next_of-requires-clause-more : goal.next_of-requires-clause-more
next_of-requires-clause-more c = (choice (goal.at.next_of-requires-clause-more c).After-row_known-1).1

pub overflow_sub-reached : goal.overflow_sub-reached
overflow_sub-reached c = (moving (goal.at.overflow_sub-reached c).After-row_known-1).some

pub offset_bounds-reached-k-in-loop-n : goal.offset_bounds-reached-k-in-loop-n
unfolding max_functions
offset_bounds-reached-k-in-loop-n c = omega (arith, moving_inside _ c.args.functions.now.faced.faces.few (moving (goal.at.offset_bounds-reached-k-in-loop-n c).After-row_known-1))

pub bounds-reached-k-in-loop-n : goal.bounds-reached-k-in-loop-n
unfolding max_functions
bounds-reached-k-in-loop-n c = moving_inside _ c.args.functions.now.faced.faces.few (moving (goal.at.bounds-reached-k-in-loop-n c).After-row_known-1)

pub loop-n-preserved : goal.loop-n-preserved
loop-n-preserved c =
    let first = c.first_row-first in
    let on =
    moved _ _ _ c.args.functions.now.faced first.result c.loop-n.reached first.ensures c.loop-n.invariant c.if-is_empty.reached c.if-is_empty.k
    (moving (goal.at.loop-n-preserved c).After-row_known-1) _ c.next_of.ensures in
    step_in c.args.functions.now _ _ _ refl on c.loop-n.invariant

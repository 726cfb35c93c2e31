-- `Fixed::seek` meets its contract.
use Rattle.std.proofs.Common.{refl, sym, ◌∙◌, subst, ℕ, ◌-◌, ◌<◌, [], get_or, arith}
use mathlib.Core.Path.{subst₂}
use Rattle.meaning.specs.Basics.{◌∈◌}
use Rattle.meaning.specs.Limits.{max_functions}
use Rattle.masks.specs.Sets.{mask, masks_in}
use Rattle.rows.specs.Functions.{choices_in}
use Rattle.rows.proofs.RowLaws.{Moving, above_zero, last_moves, moved, moving_choice, moving_inside, nothing, steps_none}
use Rattle.seeking.proofs.SeekLaws.{judged_here, next_member, row_ready, seeks_found, seeks_ended, seeks_paused, seeks_on}
use Rattle.seeking.proofs.fixed.Fixed.seek.Goals as goal
use Rattle.seeking.proofs.fixed.Fixed.seek.Goals.{After-row_known-1, then-is_empty+else-k-eq0, else-is_empty}

-- Whichever way the function that steps is found, the row is about to step
moving : (c : After-row_known-1)
    → Moving c.args.self.now.functions.firsts.count c.args.self.now.first c.loop.at c.if-is_empty.at c.if-is_empty.k
moving c =
    let self = c.args.self.now in
    let at = c.loop.at in
    let about = Moving self.functions.firsts.count self.first at in
    elim c.if-is_empty.branch [
      | then-is_empty+else-k-eq0 w ↦
          subst₂ about (sym w.at-is) (sym w.k-is)
          (record { steps = w.stepping-k.ensures; some = omega (arith, w.if-k-eq0.false); again = w.begin_again-at.ensures })
      | else-is_empty w ↦
          subst₂ about (sym w.at-is) (sym w.k-is)
          (last_moves _ _ _ self.functions.faced self.first at self.begins c.loop.invariant.is_row
          (subst (λ (i : ℕ). 0 < mask (get_or at i nothing)) c.last_function-last.ensures
          (above_zero _ (sym c.is_empty.ensures ∙ w.if-is_empty.false))))
    ]

choice : (c : After-row_known-1)
    → (mask (get_or c.if-is_empty.at (c.if-is_empty.k - 1) nothing) ∈ choices_in c.args.self.now.functions (c.if-is_empty.k - 1))
    × (0 < mask (get_or c.if-is_empty.at (c.if-is_empty.k - 1) nothing))
choice c =
    let self = c.args.self.now in
    moving_choice _ _ _ self.functions.faced self.first c.loop.at self.begins c.loop.invariant.is_row c.if-is_empty.at c.if-is_empty.k (moving c)

pub judge-requires : goal.judge-requires
judge-requires c = row_ready _ _ _ c.requires.grounded c.loop.invariant.is_row (omega arith)

pub returns-then-is_some : goal.returns-then-is_some
returns-then-is_some c =
    let solves = judged_here c.args.self.now (masks_in c.loop.at) c.judge.result c.judge.ensures ∙ sym c.is_some.ensures ∙ c.if-is_some.true in
    c.loop.invariant.promised _ (seeks_found _ _ _ c.loop.at _ (omega (arith, c.loop-test.true)) refl solves c.found_at.ensures)

pub offset_bounds-at-last : goal.offset_bounds-at-last
unfolding max_functions
offset_bounds-at-last c = omega (arith, c.last_function-last.ensures, c.args.self.now.functions.faced.faces.few)

pub bounds-at-last : goal.bounds-at-last
unfolding max_functions
bounds-at-last c = omega (arith, c.last_function-last.ensures, c.args.self.now.functions.faced.faces.few)

pub returns-then-k-eq0 : goal.returns-then-k-eq0
returns-then-k-eq0 c =
    let self = c.args.self.now in
    let none = judged_here self (masks_in c.loop.at) c.judge.result c.judge.ensures ∙ sym c.is_some.ensures ∙ c.if-is_some.false in
    let past =
    steps_none _ _ _ self.functions.faced self.first c.loop.at self.begins c.loop.invariant.is_row _ _ c.stepping-k.ensures c.if-k-eq0.true in
    c.loop.invariant.promised _ (seeks_ended _ _ none _ [] past _ _ (omega (arith, c.loop-test.true)) refl c.ended.ensures)

pub overflow_sub-k : goal.overflow_sub-k
overflow_sub-k c = (moving c).some

pub overflow_sub-k-in-loop : goal.overflow_sub-k-in-loop
overflow_sub-k-in-loop c = (moving (goal.at.overflow_sub-k-in-loop c).After-row_known-1).some

pub offset_bounds-at-k : goal.offset_bounds-at-k
unfolding max_functions
offset_bounds-at-k c = omega (arith, moving_inside _ c.args.self.now.functions.faced.faces.few (moving (goal.at.offset_bounds-at-k c).After-row_known-1))

pub bounds-at-k : goal.bounds-at-k
unfolding max_functions
bounds-at-k c = moving_inside _ c.args.self.now.functions.faced.faces.few (moving (goal.at.bounds-at-k c).After-row_known-1)

pub next_of-requires-clause-function : goal.next_of-requires-clause-function
next_of-requires-clause-function c = moving_inside _ c.args.self.now.functions.faced.faces.few (moving (goal.at.next_of-requires-clause-function c).After-row_known-1)

pub next_of-requires-clause-choice : goal.next_of-requires-clause-choice
next_of-requires-clause-choice c = (choice (goal.at.next_of-requires-clause-choice c).After-row_known-1).0

pub next_of-requires-clause-more : goal.next_of-requires-clause-more
next_of-requires-clause-more c = (choice (goal.at.next_of-requires-clause-more c).After-row_known-1).1

pub overflow_sub-at : goal.overflow_sub-at
overflow_sub-at c = (moving (goal.at.overflow_sub-at c).After-row_known-1).some

pub offset_bounds-at-k-in-loop : goal.offset_bounds-at-k-in-loop
unfolding max_functions
offset_bounds-at-k-in-loop c = omega (arith, moving_inside _ c.args.self.now.functions.faced.faces.few (moving (goal.at.offset_bounds-at-k-in-loop c).After-row_known-1))

pub bounds-at-k-in-loop : goal.bounds-at-k-in-loop
unfolding max_functions
bounds-at-k-in-loop c = moving_inside _ c.args.self.now.functions.faced.faces.few (moving (goal.at.bounds-at-k-in-loop c).After-row_known-1)

pub loop-preserved : goal.loop-preserved
loop-preserved c =
    let self = c.args.self.now in
    let none = judged_here self (masks_in c.loop.at) c.judge.result c.judge.ensures ∙ sym c.is_some.ensures ∙ c.if-is_some.false in
    let on =
    moved _ _ _ self.functions.faced self.first c.loop.at self.begins c.loop.invariant.is_row c.if-is_empty.at c.if-is_empty.k
    (moving (goal.at.loop-preserved c).After-row_known-1) _ c.next_of.ensures in
    record {
      is_row = next_member self _ none _ _ on refl c.loop.invariant.is_row;
      long = c.judge.auto.scratch ∙ c.loop.invariant.long;
      promised = λ r h. c.loop.invariant.promised r (seeks_on _ _ none _ _ on _ _ r (omega (arith, c.loop-test.true)) refl h);
    }

pub returns : goal.returns
returns c = c.loop.invariant.promised _ (seeks_paused _ _ _ _ _ (omega (arith, c.loop-test.false)) refl c.pause_at.ensures)

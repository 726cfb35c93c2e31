-- `Functions::next_row` meets its contract: the parts of a step, one after the other.
use native.Mathlib.Omega.{arith}
use Rattle.meaning.specs.Limits.{max_functions}
use Rattle.rows.proofs.RowLaws.{moved, moving_choice, steps_none}
use Rattle.rows.proofs.functions.Functions.next_row.Goals as goal

pub stepping-k-requires : goal.stepping-k-requires
stepping-k-requires c = c.args.self.now.faced.faces.few

pub returns-then-k-eq0 : goal.returns-then-k-eq0
returns-then-k-eq0 c =
    let step = c.stepping-k in
    λ next. steps_none _ _ _ c.args.self.now.faced c.args.first c.args.row c.requires.first_row c.requires.row step.result next step.ensures c.if-k-eq0.true

pub begin_again-next-requires : goal.begin_again-next-requires
begin_again-next-requires c =
    record {
      there = c.stepping-k.ensures.few;
      few = c.args.self.now.faced.faces.few;
    }

pub offset_bounds-next-k : goal.offset_bounds-next-k
unfolding max_functions
offset_bounds-next-k c = omega (arith, c.stepping-k.ensures.few, c.args.self.now.faced.faces.few)

pub bounds-next-k : goal.bounds-next-k
unfolding max_functions
bounds-next-k c = omega (arith, c.if-k-eq0.false, c.stepping-k.ensures.few, c.args.self.now.faced.faces.few)

pub overflow_sub-k : goal.overflow_sub-k
overflow_sub-k c = omega (arith, c.if-k-eq0.false)

pub next_of-requires : goal.next_of-requires
unfolding max_functions
next_of-requires c =
    let step = c.stepping-k in
    let again = c.begin_again-next in
    let choice = moving_choice _ _ _ c.args.self.now.faced c.args.first c.args.row c.requires.first_row c.requires.row again.result step.result
    (record { steps = step.ensures; some = omega (arith, c.if-k-eq0.false); again = again.ensures }) in
    record {
      function = omega (arith, c.if-k-eq0.false, step.ensures.few, c.args.self.now.faced.faces.few);
      choice = choice.0;
      more = choice.1;
    }

pub overflow_sub-next : goal.overflow_sub-next
overflow_sub-next c = omega (arith, c.if-k-eq0.false)

pub offset_bounds-next-k-2 : goal.offset_bounds-next-k-2
unfolding max_functions
offset_bounds-next-k-2 c = omega (arith, c.stepping-k.ensures.few, c.args.self.now.faced.faces.few)

pub bounds-next-k-2 : goal.bounds-next-k-2
unfolding max_functions
bounds-next-k-2 c =
    let step = c.stepping-k in
    omega (arith, c.if-k-eq0.false, step.ensures.few, c.args.self.now.faced.faces.few)

pub returns : goal.returns
returns c =
    let step = c.stepping-k in
    let again = c.begin_again-next in
    moved _ _ _ c.args.self.now.faced c.args.first c.args.row c.requires.first_row c.requires.row again.result step.result
    (record { steps = step.ensures; some = omega (arith, c.if-k-eq0.false); again = again.ensures })
    _ c.next_of.ensures

-- `Functions::first_row`. The loop's invariant: from function k on each set is its function's first choice.
use native.Mathlib.Omega.{arith}
use Prim.Native.Nat.{ℕ, suc, ◌-◌}
use mathlib.Core.Path.{◌≡◌, refl, subst}
use lib.ListN.{replicate}
use Rattle.meaning.specs.Limits.{max_functions}
use Rattle.rows.proofs.RowLaws.{Freshly, freshly_none, freshly_more, first_of_rows}
use Rattle.rows.proofs.functions.Functions.first_row.Goals as goal

pub loop-k-init : goal.loop-k-init
unfolding max_functions
loop-k-init c =
    let es = c.args.self.now.nodes.tokens.now in
    let ns = c.args.self.now.nodes.numbers.now in
    let firsts = c.args.self.now.firsts in
    freshly_none es ns firsts (replicate max_functions c.none-row.result) refl

pub first_of-requires : goal.first_of-requires
unfolding max_functions
first_of-requires c = omega arith

pub loop-k-preserved : goal.loop-k-preserved
unfolding max_functions
loop-k-preserved c =
    let es = c.args.self.now.nodes.tokens.now in
    let ns = c.args.self.now.nodes.numbers.now in
    let firsts = c.args.self.now.firsts in
    let at = c.loop-k in
    let j : ℕ = at.k - 1 in
    let e : at.k ≡ suc j = omega arith in
    let w : Freshly es ns firsts at.row (suc j) = subst (Freshly es ns firsts at.row) e at.invariant in
    freshly_more es ns firsts at.row j _ (omega arith) w c.first_of.ensures

pub returns : goal.returns
returns c =
    let es = c.args.self.now.nodes.tokens.now in
    let ns = c.args.self.now.nodes.numbers.now in
    let firsts = c.args.self.now.firsts in
    let at = c.loop-k in
    let e : at.k ≡ 0 = omega arith in
    first_of_rows es ns firsts c.args.self.now.faced at.row (subst (Freshly es ns firsts at.row) e at.invariant)

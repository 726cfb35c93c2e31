-- `Functions::first_of`: the first choice of the face, or none.
use native.Mathlib.Omega.{arith}
use Rattle.meaning.specs.Limits.{max_functions}
use Rattle.rows.proofs.RowLaws.{first_here, first_none}
use Rattle.rows.proofs.functions.Functions.first_of.Goals as goal

pub offset_bounds-self-k : goal.offset_bounds-self-k
unfolding max_functions
offset_bounds-self-k c = omega (arith, c.requires)

pub bounds-self-k : goal.bounds-self-k
unfolding max_functions
bounds-self-k c = c.requires

pub invariant_of-face : goal.invariant_of-face
invariant_of-face c = record { whole = c.args.self.now.faced.faces.whole c.args.k c.if-k-self.true }

pub returns-then-k-self : goal.returns-then-k-self
returns-then-k-self c =
    let es = c.args.self.now.nodes.tokens.now in
    let ns = c.args.self.now.nodes.numbers.now in
    let firsts = c.args.self.now.firsts in
    first_here es ns firsts c.args.k _ c.if-k-self.true c.first_choice.ensures

pub returns-else-k-self : goal.returns-else-k-self
returns-else-k-self c =
    let es = c.args.self.now.nodes.tokens.now in
    let ns = c.args.self.now.nodes.numbers.now in
    let firsts = c.args.self.now.firsts in
    first_none es ns firsts c.args.k _ c.if-k-self.false c.none.ensures

-- `Functions::is_choice_of`: a choice of the face, or none.
use native.Mathlib.Omega.{arith}
use mathlib.Core.Path.{sym, ◌∙◌}
use Rattle.meaning.specs.Limits.{max_functions}
use Rattle.masks.specs.Sets.{mask}
use Rattle.rows.proofs.RowLaws.{there_choice, absent_choice}
use Rattle.rows.proofs.functions.Functions.is_choice_of.Goals as goal

pub offset_bounds-self-k : goal.offset_bounds-self-k
unfolding max_functions
offset_bounds-self-k c = omega (arith, c.requires)

pub bounds-self-k : goal.bounds-self-k
unfolding max_functions
bounds-self-k c = c.requires

pub invariant_of-face : goal.invariant_of-face
invariant_of-face c = record { whole = c.args.self.now.faced.faces.whole c.args.k c.if-k-self.true }

pub returns-then-k-self : goal.returns-then-k-self
returns-then-k-self c =
    let es = c.args.self.now.nodes.tokens.now in
    let ns = c.args.self.now.nodes.numbers.now in
    let firsts = c.args.self.now.firsts in
    let here = there_choice es ns firsts c.args.k (mask c.args.set) c.if-k-self.true in
    let is = c.is_choice.ensures in
    (λ e. here.0 (is.0 e), λ m. is.1 (here.1 m))

pub returns-else-k-self : goal.returns-else-k-self
returns-else-k-self c =
    let es = c.args.self.now.nodes.tokens.now in
    let ns = c.args.self.now.nodes.numbers.now in
    let firsts = c.args.self.now.firsts in
    let here = absent_choice es ns firsts c.args.k (mask c.args.set) c.if-k-self.false in
    let is = c.is_empty.ensures in
    (λ e. here.0 (sym is ∙ e), λ m. is ∙ here.1 m)

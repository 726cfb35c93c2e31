-- `Functions::next_of`: the next choice of the face.
use native.Mathlib.Omega.{arith}
use Rattle.meaning.specs.Limits.{max_functions}
use Rattle.masks.specs.Sets.{mask}
use Rattle.rows.proofs.RowLaws.{there, there_choice, next_here}
use Rattle.rows.proofs.functions.Functions.next_of.Goals as goal

pub offset_bounds-self-k : goal.offset_bounds-self-k
unfolding max_functions
offset_bounds-self-k c = omega (arith, c.requires.function)

pub bounds-self-k : goal.bounds-self-k
unfolding max_functions
bounds-self-k c = c.requires.function

pub invariant_of-face : goal.invariant_of-face
invariant_of-face c =
    let self = c.args.self.now in
    let here =
    there self.nodes.tokens.now self.nodes.numbers.now self.firsts c.args.k (mask c.args.set) c.requires.choice c.requires.more in
    record { whole = self.faced.faces.whole c.args.k here }

pub next_choice-requires : goal.next_choice-requires
next_choice-requires c =
    let es = c.args.self.now.nodes.tokens.now in
    let ns = c.args.self.now.nodes.numbers.now in
    let firsts = c.args.self.now.firsts in
    let here = there es ns firsts c.args.k (mask c.args.set) c.requires.choice c.requires.more in record {
      choice = (there_choice es ns firsts c.args.k (mask c.args.set) here).1 c.requires.choice;
      more = c.requires.more;
    }

pub returns : goal.returns
returns c =
    let es = c.args.self.now.nodes.tokens.now in
    let ns = c.args.self.now.nodes.numbers.now in
    let firsts = c.args.self.now.firsts in
    let here = there es ns firsts c.args.k (mask c.args.set) c.requires.choice c.requires.more in
    next_here es ns firsts c.args.k _ _ here c.next_choice.ensures

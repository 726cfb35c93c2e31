-- `NodeSet::holes`: ones are counted over all words.
use borrow.Author.Rules.{rules}
use mathlib.Core.Path.{◌≡◌, refl, sym, ap, ◌∙◌}
use native.Mathlib.Numerals.{add-one}
use native.Mathlib.Omega.{arith}
use Prim.Native.Nat.{ℕ}
use mathlib.Core.List.{List}
use lib.ListN.{length}
use lib.Seq.{take_all}
use Rattle.masks.specs.Mask.{trues}
use Rattle.masks.specs.Sets.{word_count, marks_in}
use Rattle.masks.proofs.Words.{few_ones, most_ones, nodes_array, ones_more}
use Rattle.masks.proofs.NodeSet.holes.Goals as goal

pub loop-w-init : goal.loop-w-init
unfolding marks_in trues
loop-w-init c = refl

pub overflow_add-n : goal.overflow_add-n
overflow_add-n c =
    let four : length c.args.self.words ≡ word_count = search rules in
    omega (arith, c.loop-w.invariant, c.ones-n.ensures, few_ones, most_ones)

pub loop-w-preserved : goal.loop-w-preserved
loop-w-preserved c = rw add-one (omega (arith, c.loop-w.invariant, c.ones-n.ensures, ones_more))

pub returns : goal.returns
returns c =
    let s = c.args.self in
    let four : length s.words ≡ word_count = search rules in
    c.loop-w.invariant
    ∙ ap (λ (ws : List ℕ). trues (marks_in ws)) (take_all c.loop-w.w-index s.words (omega arith))
    ∙ sym (ap trues (nodes_array s four))

-- `NodeSet::lowest`: the first word that is not 0 has it.
use borrow.Author.Rules.{rules}
use mathlib.Core.Path.{◌≡◌, ap}
use native.Mathlib.Numerals.{add-one}
use native.Mathlib.Omega.{arith}
use Prim.Native.Nat.{◌^◌, ◌<◌}
use lib.ListN.{length, get_or}
use Rattle.masks.specs.Mask.{first}
use Rattle.masks.specs.Sets.{word_nodes, word_count}
use Rattle.masks.proofs.Words.{few_zeros, nodes_array, lowest_here, lowest_later, none_left}
use Rattle.masks.proofs.NodeSet.lowest.Goals as goal

pub loop-i-init : goal.loop-i-init
loop-i-init c =
    let s = c.args.self in
    let four : length s.words ≡ word_count = search rules in
    omega (arith, ap first (nodes_array s four))

pub overflow_add-result : goal.overflow_add-result
overflow_add-result c =
    let four : length c.args.self.words ≡ word_count = search rules in
    omega (arith, c.leading.ensures, few_zeros)

pub returns-then-w-ne0 : goal.returns-then-w-ne0
returns-then-w-ne0 c =
    let ws = c.args.self.words in
    let four : length ws ≡ word_count = search rules in
    let small : get_or ws c.loop-i.i 0 < 2 ^ word_nodes = search rules in
    omega (arith, c.loop-i.invariant, c.leading.ensures, lowest_here ws c.loop-i.i (omega arith) small c.if-w-ne0.true)

pub loop-i-preserved : goal.loop-i-preserved
loop-i-preserved c =
    let ws = c.args.self.words in
    let four : length ws ≡ word_count = search rules in
    rw add-one (omega (arith, c.loop-i.invariant, lowest_later ws c.loop-i.i (omega arith) c.if-w-ne0.false))

pub returns : goal.returns
returns c =
    let ws = c.args.self.words in
    let four : length ws ≡ word_count = search rules in
    omega (arith, c.loop-i.invariant, none_left ws c.loop-i.i (omega arith))

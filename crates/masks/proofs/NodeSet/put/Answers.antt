-- `NodeSet::put`: a word for each number.
use borrow.Author.Rules.{rules}
use mathlib.Core.Path.{◌≡◌}
use native.Mathlib.Omega.{arith}
use lib.ListN.{length}
use Rattle.masks.specs.Sets.{word_count}
use Rattle.masks.proofs.Words.{put_at}
use Rattle.masks.proofs.NodeSet.put.Goals as goal

pub returns-in-0 : goal.returns-in-0
returns-in-0 c = let four : length c.args.self.words ≡ word_count = search rules in put_at _ _ 0 _ four c.in-0.is

pub returns-in-1 : goal.returns-in-1
returns-in-1 c = let four : length c.args.self.words ≡ word_count = search rules in put_at _ _ 1 _ four c.in-1.is

pub returns-in-2 : goal.returns-in-2
returns-in-2 c = let four : length c.args.self.words ≡ word_count = search rules in put_at _ _ 2 _ four c.in-2.is

pub returns-in_default : goal.returns-in_default
returns-in_default c = let four : length c.args.self.words ≡ word_count = search rules in put_at _ c.args.i 3 _ four (omega arith)

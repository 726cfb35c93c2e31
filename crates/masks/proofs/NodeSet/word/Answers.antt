-- `NodeSet::word`: a word for each number.
use native.Mathlib.Omega.{arith}
use Rattle.masks.proofs.Words.{word_at}
use Rattle.masks.proofs.NodeSet.word.Goals as goal

pub returns-in-0 : goal.returns-in-0
returns-in-0 c = word_at c.args.self _ 0 c.in-0.is

pub returns-in-1 : goal.returns-in-1
returns-in-1 c = word_at c.args.self _ 1 c.in-1.is

pub returns-in-2 : goal.returns-in-2
returns-in-2 c = word_at c.args.self _ 2 c.in-2.is

pub returns-in_default : goal.returns-in_default
returns-in_default c = word_at c.args.self c.args.i 3 (omega arith)

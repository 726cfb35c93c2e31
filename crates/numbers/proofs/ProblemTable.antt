-- The table of a problem's expressions can be numbered: each node's subterm lies in it, and its nodes are few.
use mathlib.Core.Path.{◌≡◌, ap, sym, ◌∙◌}
use Prim.Native.Nat.{ℕ, ◌<◌}
use mathlib.Core.List.{List, [], ◌++◌, append-nil}
use native.Mathlib.Omega.{arith}
use lib.ListN.{length, drop}
use Rattle.meaning.specs.Limits.{max_depth}
use Rattle.meaning.specs.Term.{size}
use Rattle.meaning.specs.Problem.{Problem, named_expressions, expressions}
use Rattle.meaning.specs.Choice.{views_from}
use Rattle.meaning.specs.Read.{in_expression}
use Rattle.meaning.specs.Readable.{WithinLimits}
use Rattle.meaning.proofs.Proper.{expressions_readable}
use Rattle.tokens.specs.Token.{expression_tokens}
use Rattle.tokens.specs.Key.{Inside, Held, Stands}
use Rattle.tokens.proofs.TokenParts.{tokens_length}
use Rattle.tokens.proofs.KeyLaws.{stands_inside}
use Rattle.tokens.proofs.ProblemTokens.{nodes_few, expressions_room}
use Rattle.tokens.proofs.Spots.{Spot, spot}
use Rattle.numbers.specs.Numbering.{Numerable}

module _ (p : Problem) (w : WithinLimits p) where
  abbrev pub table : List ℕ
  table = expression_tokens p

  pub table_length : length table ≡ size (named_expressions p)
  unfolding expression_tokens
  table_length = tokens_length [] (named_expressions p)

  -- The term at a node, and that it stands there
  module _ (a : ℕ) (h : a < length table) where
    abbrev pub Node : Type 0
    Node = Spot 0 (size (named_expressions p)) table a (table ++ []) (views_from [] 0 (expressions p)) (expressions p) a

    pub node : Node
    unfolding expression_tokens max_depth
    node =
        spot 0 max_depth in_expression [] [] 0 (named_expressions p) [] table a a (omega arith) (omega (arith, table_length))
        (expressions_readable p w) (expressions_room p w).depths (omega arith) (sym (append-nil table)) tt

    pub held : Held node.levels node.ctx node.scope node.named
    held = record { readable = node.readable; depths = node.depths; sizes = omega (arith, node.sizes, nodes_few p w) }

    pub stands : Stands table a node.scope node.named
    stands = record { after = node.after; split = ap (drop a) (sym (append-nil table)) ∙ node.split }

    inside : Inside table a
    inside = stands_inside node.levels node.ctx table a node.scope node.named held stands

  pub table_short : length table < 1366
  table_short = omega (arith, table_length, nodes_few p w)

  pub table_numerable : Numerable table
  table_numerable = record { inside = inside; small = omega (arith, table_short) }

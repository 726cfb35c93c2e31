-- What the functions of this crate ask and promise.
--   ns           the table of the numbers by which what is asked of the expressions' nodes is told, one for each node
--   Kept         for each metavariable a node that the table has, or None
--   Askable      a demand on a metavariable at a node that the table has
--   Demandable   a recorded face whose slot the pattern's table has, and whose demand, where it makes one, can be asked
--   Answers      the answer that a list of demands gives: the nodes kept, or None where two demands disagree
use Rattle.std.specs.Prelude.{◌≡◌, ℕ, ◌<◌, List, length, Some, None}
use Rattle.std.specs.Prelude as std
use Rattle.std.proofs.Math.Option.{Option, none, some}
use Rattle.meaning.specs.Limits.{metavariable_count}
use Rattle.meaning.specs.Basics.{All}
use Rattle.lockstep.specs.Walk.{pattern_node}
use Rattle.sources.specs.Demand.{Demand, Nodes, first_of, demand_at}
use Rattle.sources.specs.declared.Sources.{Sources}

pub record Kept (ns : List ℕ) (kept : Nodes) : Type 0 where
  pub long : length kept ≡ metavariable_count
  pub inside : (m : ℕ) → m < metavariable_count → (node : ℕ) → first_of kept m ≡ Some node → node < length ns

pub record Askable (ns : List ℕ) (d : Demand) : Type 0 where
  pub number : d.0 < metavariable_count
  pub inside : d.1 < length ns

pub record Demandable (ps ns : List ℕ) (n : ℕ) : Type 0 where
  pub slot : pattern_node n < length ps
  pub asks : All (Askable ns) (demand_at ps n)

abbrev pub sources_of : Option Nodes → std.Option Sources
sources_of none = None
sources_of (some kept) = Some (record { nodes = kept })

abbrev pub Answers : Option Nodes → std.Option Sources → Type 0
Answers o r = r ≡ sources_of o

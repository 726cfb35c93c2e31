-- `Face::is_choice`. The loop's invariant: the nodes before node i are passed as a path passes them.
use Prim.Native.Nat.{◌≤◌}
use Rattle.meaning.specs.Limits.{max_face_nodes}
use Rattle.choosing.specs.FaceNodes.{size_from}
use Rattle.choosing.proofs.TestLaws.{Tested}
use Rattle.choosing.proofs.Face.is_choice.Given as goal

abbrev pub invariant-loop-i : goal.invariant-loop-i
invariant-loop-i l =
    (l.met ≤ l.i)
    × ((fits : size_from l.self.nodes.tokens.now l.self.root ≤ max_face_nodes)
    → Tested l.self.nodes.numbers.now l.self.nodes.tokens.now l.self.root fits l.set l.walk l.met l.i)

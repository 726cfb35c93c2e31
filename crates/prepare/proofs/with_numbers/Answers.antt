-- `with_numbers` meets its contract: the problem that stands in the tables gives what each call requires.
use mathlib.Core.Path.{refl}
use native.Mathlib.Omega.{arith}
use lib.Seq.{length-take-le}
use Rattle.numbers.proofs.AlikeLaws.{numbers_front}
use Rattle.prepare.proofs.PreparedLaws.{front_functions, table_numbers, table_few}
use Rattle.prepare.proofs.with_numbers.Goals as goal
use Rattle.prepare.proofs.with_numbers.Goals.{in-Some, in-None}

pub first_faces-firsts-requires : goal.first_faces-firsts-requires
first_faces-firsts-requires c = front_functions _ _ _ _ _ c.requires.ground.1

pub number_nodes-requires : goal.number_nodes-requires
number_nodes-requires c =
    let laid = c.requires.ground.1 in
    let few = table_few _ _ _ _ _ laid in
    let long = length-take-le _ _ laid.expressions_inside in
    (table_numbers _ _ _ _ _ laid, omega (arith, few, long), omega (arith, few, long, c.requires.room))

pub returns : goal.returns
returns c =
    let laid = c.requires.ground.1 in
    let few = table_few _ _ _ _ _ laid in
    let long = length-take-le _ _ laid.expressions_inside in
    let room = c.number_nodes.auto.ns in
    record {
      filled = refl;
      tabled = record {
        numbers = numbers_front _ _ c.args.a.expressions (omega (arith, long)) c.number_nodes.ensures;
        numbers_inside = omega (arith, few, room, c.requires.room);
        nodes = elim c.match-a.branch [
          | in-Some w ↦ rw (w.in-Some.is, w.firsts-is) w.first_faces-firsts.ensures
          | in-None w ↦ rw (w.in-None.is, w.firsts-is) w.no_faces-firsts.ensures
        ];
      };
    }

-- `lent` meets its contract: the problem at the fronts of the tables gives what the types ask.
use Rattle.prepare.proofs.PreparedLaws.{front_patterns, lent_tokens, lent_nested, lent_faced}
use Rattle.prepare.proofs.lent.Goals as goal

pub invariant_of-functions : goal.invariant_of-functions
invariant_of-functions c =
    let q = c.requires in
    record { faced = lent_faced _ _ _ _ _ _ q.ready c.args.nodes q.tokens q.numbers _ c.in-Some.is }

pub invariant_of-tables : goal.invariant_of-tables
invariant_of-tables c =
    let q = c.requires in
    record {
      pattern_table = front_patterns _ _ _ _ _ q.ready.laid;
      node_table = lent_tokens _ _ _ _ _ _ q.ready c.args.nodes q.tokens q.numbers;
      nested = lent_nested _ _ _ _ _ _ q.ready c.args.nodes q.tokens q.numbers;
    }

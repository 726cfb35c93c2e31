-- `find`.
use Rattle.std.proofs.Common.{arith}
use Rattle.accept.proofs.AcceptanceLaws.{are_bytes_lem}
use Rattle.finding.proofs.FindingLaws.{text_found, never_refused}
use Rattle.finding.proofs.find.Goals as goal

pub returns-in_err-length : goal.returns-in_err-length
returns-in_err-length c =
    never_refused c.at.ensures c.in_ok-searched.searched c.in-Found.is c.in_ok-searched.ensures _
    (are_bytes_lem c.args.problem.now (λ i. omega (arith, c.type_inv.problem i))) c.requires c.in_err-length.ensures

pub returns : goal.returns
returns c =
    record { call = c.in_ok-searched.ensures; text = text_found c.at.ensures c.in-Found.is c.in_ok-length.ensures }

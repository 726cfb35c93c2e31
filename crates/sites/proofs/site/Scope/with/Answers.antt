-- `with` meets its contract: one more name, after the others.
use mathlib.Core.Path.{refl, ◌∙◌}
use native.Mathlib.Omega.{arith}
use lib.ListN.{length-set}
use Rattle.sites.proofs.SiteLaws.{names_with}
use Rattle.sites.proofs.site.Scope.with.Goals as goal

pub returns : goal.returns
returns c =
    let x = c.args.self in
    record {
      room = length-set x.names x.depth c.args.x.0 ∙ c.requires.1;
      depth = refl;
      names = names_with x.names x.depth c.args.x.0 (omega arith);
    }

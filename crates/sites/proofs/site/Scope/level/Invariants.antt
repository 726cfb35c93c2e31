-- `level` meets its contract: the loop goes outwards; the names that are left have the level that all of them have.
use Rattle.std.proofs.Common.{◌≡◌}
use Rattle.tokens.specs.Token.{level_of}
use Rattle.sites.specs.Site.{names_in}
use Rattle.sites.proofs.site.Scope.level.Given as goal

abbrev pub invariant-loop-k : goal.invariant-loop-k
invariant-loop-k l = level_of (names_in l.self.names l.k) l.x.0 ≡ level_of (names_in l.self.names l.self.depth) l.x.0

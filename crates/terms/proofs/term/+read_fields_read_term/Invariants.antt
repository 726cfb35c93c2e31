-- `read_term` and `read_fields`, which call each other. The measure is the number of levels that may still be opened: the inner fields of a
-- term have one less, and each of them is a term with as many as the list. The loop's invariant: the fields before `at` are read, and with
-- those that are left they are all.
use Rattle.std.proofs.Common.{◌+◌, ◌-◌, ◌*◌, length}
use Rattle.meaning.specs.Read.{read_term}
use Rattle.sites.specs.Site.{site_context, site_scope}
use Rattle.terms.proofs.TermLaws.{Reading}
use Rattle.terms.proofs.term.+read_fields_read_term.Given as goal

abbrev pub decreases-read_fields : goal.decreases-read_fields
decreases-read_fields l = 2 * l.site.levels + 1

abbrev pub decreases-read_term : goal.decreases-read_term
decreases-read_term l = 2 * l.site.levels

abbrev pub invariant-read_fields-loop-later : goal.invariant-read_fields-loop-later
invariant-read_fields-loop-later l =
    Reading (read_term l.site.levels (site_context l.site)) (site_scope l.site) l.initial.left l.s l.initial.out l.out l.left l.nodes l.count
    l.at

abbrev pub decreases-read_fields-loop-later : goal.decreases-read_fields-loop-later
decreases-read_fields-loop-later l = length l.s - l.at

-- `read_term` and `read_fields`, which call each other, meet their contracts.
use Rattle.std.proofs.Common.{◌∙◌, sym, ap, ◌≤◌, length, Ok}
use Rattle.std.proofs.lemmas.Result.{err_from_is_err_and}
use Rattle.meaning.specs.Read.{Reader, read_term}
use Rattle.sites.specs.Site.{site_context, site_scope}
use Rattle.sites.specs.declared.site.Site.{Site}
use Rattle.terms.proofs.Bounds.{Fine, term_fine}
use Rattle.terms.proofs.TermLaws.{bytes_less, open_room, reading_begins, reading_cut, reading_ends, reading_goes, reading_refused, sums_fit}
use Rattle.terms.proofs.TermLaws.{term_broken, term_closed, term_refused}
use Rattle.terms.proofs.term.+read_fields_read_term.Goals as goal

-- The reader of the inner fields
abbrev inner : Site → Reader
inner site = read_term site.levels (site_context site)

fine : (site : Site) → Fine (inner site)
fine site = term_fine site.levels (site_context site)

pub read_fields-loop-later-init : goal.read_fields-loop-later-init
read_fields-loop-later-init t c =
    let a = c.args in
    reading_begins (inner a.site) (site_scope a.site) a.due a.s.now a.out.now

pub read_fields-returns-in_err-later : goal.read_fields-returns-in_err-later
read_fields-returns-in_err-later t c =
    let p = err_from_is_err_and c.from_residual.result c.from_residual.ensures.1 in
    rw (p.1, p.2) (reading_refused (fine c.args.site) c.loop-later.invariant (sym c.in_err-later.ensures))

pub read_fields-returns-in_err-took : goal.read_fields-returns-in_err-took
read_fields-returns-in_err-took t c =
    let p = err_from_is_err_and c.from_residual-in_err-took.result c.from_residual-in_err-took.ensures.1 in
    rw (p.1, p.2)
    (reading_cut (fine c.args.site) c.loop-later.invariant (sym c.in_ok-later.ensures ∙ ap Ok c.in-Some.is) c.in_err-took.ensures)

pub read_fields-overflow_add-nodes : goal.read_fields-overflow_add-nodes
read_fields-overflow_add-nodes t c =
    let due_later = sym c.in_ok-later.ensures ∙ ap Ok c.in-Some.is in
    record { fits = (sums_fit (fine c.args.site) c.loop-later.invariant due_later _ c.in_ok-took.ensures c.requires.short).0 }

pub read_fields-loop-later-smaller : goal.read_fields-loop-later-smaller
read_fields-loop-later-smaller t c =
    bytes_less (fine c.args.site) c.loop-later.invariant (sym c.in_ok-later.ensures ∙ ap Ok c.in-Some.is) _ c.in_ok-took.ensures

pub read_fields-loop-later-preserved : goal.read_fields-loop-later-preserved
read_fields-loop-later-preserved t c =
    let due_later = sym c.in_ok-later.ensures ∙ ap Ok c.in-Some.is in
    reading_goes (fine c.args.site) c.loop-later.invariant due_later _ c.in_ok-took.ensures c.read_term.auto.out

pub read_fields-returns : goal.read_fields-returns
read_fields-returns t c =
    reading_ends (fine c.args.site) c.loop-later.invariant c.requires.short (sym c.in_ok-later.ensures ∙ ap Ok c.in_default.is)

pub read_term-returns-in_err-opened : goal.read_term-returns-in_err-opened
read_term-returns-in_err-opened t c =
    let p = err_from_is_err_and c.from_residual.result c.from_residual.ensures.1 in
    rw (p.1, p.2) (term_refused c.args.site _ _ _ _ c.in_err-opened.ensures)

pub read_term-returns-in_err-inner : goal.read_term-returns-in_err-inner
read_term-returns-in_err-inner t c =
    let p = err_from_is_err_and c.from_residual-in_err-inner.result c.from_residual-in_err-inner.ensures.1 in
    rw (p.1, p.2)
    (term_broken c.args.site _ _ _ _ _ c.in_ok-opened.ensures c.below.ensures.levels c.below.ensures.context c.below.ensures.names _
    (rw (c.fixed-at.ensures, c.due.ensures) at c.in_err-inner.ensures))

pub read_term-returns : goal.read_term-returns
read_term-returns t c =
    let opened = c.in_ok-opened.ensures in
    let has_room : 1 ≤ length c.args.out.now = open_room c.args.s.now c.args.out.now opened.fits c.requires.space in
    rw c.token.ensures
    (term_closed c.args.site _ _ _ _ _ opened c.below.ensures.levels c.below.ensures.context c.below.ensures.names _ _ has_room
    (rw (c.fixed-at.ensures, c.due.ensures) at c.in_ok-inner.ensures))

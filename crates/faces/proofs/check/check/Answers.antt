-- `check::check` meets its contract: one law for each return.
use mathlib.Core.Path.{sym, ◌∙◌}
use native.Mathlib.Omega.{arith}
use lib.Seq.{length-take-le}
use Rattle.lockstep.proofs.Answers.{found}
use Rattle.faces.specs.FlatWalk.{flat_walk}
use Rattle.faces.proofs.CheckLaws.{checked_both, checked_many, checked_none, checked_large, checked_faces}
use Rattle.faces.proofs.check.check.Goals as goal

pub returns-then-function_count-gt-MAX_FUNCTIONS : goal.returns-then-function_count-gt-MAX_FUNCTIONS
returns-then-function_count-gt-MAX_FUNCTIONS c =
    let v = c.survey-found in
    let a = c.args in
    checked_many a.ps.now v.result v.ensures a.es.now a.out.now a.out.now
    (omega (arith, c.function_count.ensures, c.if-function_count-gt-MAX_FUNCTIONS.true))

pub returns-then-both_ways : goal.returns-then-both_ways
returns-then-both_ways c =
    let v = c.survey-found in
    let a = c.args in
    checked_both a.ps.now v.result v.ensures a.es.now a.out.now a.out.now
    (omega (arith, c.function_count.ensures, c.if-function_count-gt-MAX_FUNCTIONS.false))
    (sym c.both_ways.ensures ∙ c.if-both_ways.true)

pub slice_bounds-over_limit-end : goal.slice_bounds-over_limit-end
slice_bounds-over_limit-end c =
    let a = c.args in
    let w = c.walk in
    (found (flat_walk a.ps.now a.es.now) a.out.now w.new.out w.result w.ensures c.in-Some.n
    c.in-Some.is).room

pub slice_bounds-over_limit-end-in-Some : goal.slice_bounds-over_limit-end-in-Some
slice_bounds-over_limit-end-in-Some c =
    let a = c.args in
    let w = c.walk in
    sym (length-take-le c.in-Some.n w.new.out
    (found (flat_walk a.ps.now a.es.now) a.out.now w.new.out w.result w.ensures
    c.in-Some.n c.in-Some.is).room)

pub returns-in-None : goal.returns-in-None
returns-in-None c =
    let v = c.survey-found in
    let a = c.args in
    let w = c.walk in
    checked_none a.ps.now v.result v.ensures a.es.now a.out.now w.new.out
    (omega (
      arith,
      c.function_count.ensures,
      c.if-function_count-gt-MAX_FUNCTIONS.false,
    ))
    (sym c.both_ways.ensures
    ∙ c.if-both_ways.false) w.result w.ensures c.in-None.is

pub returns-then-over_limit : goal.returns-then-over_limit
returns-then-over_limit c =
    let v = c.survey-found in
    let a = c.args in
    let w = c.walk in
    checked_large a.ps.now v.result v.ensures a.es.now a.out.now w.new.out
    (omega (
      arith,
      c.function_count.ensures,
      c.if-function_count-gt-MAX_FUNCTIONS.false,
    ))
    (sym c.both_ways.ensures
    ∙ c.if-both_ways.false) w.result w.ensures
    c.in-Some.n c.in-Some.is
    c.over_limit.result c.over_limit.ensures c.if-over_limit.true

pub returns-else-over_limit : goal.returns-else-over_limit
returns-else-over_limit c =
    let v = c.survey-found in
    let a = c.args in
    let w = c.walk in
    checked_faces a.ps.now v.result v.ensures a.es.now a.out.now w.new.out
    (omega (
      arith,
      c.function_count.ensures,
      c.if-function_count-gt-MAX_FUNCTIONS.false,
    ))
    (sym c.both_ways.ensures
    ∙ c.if-both_ways.false) w.result w.ensures
    c.in-Some.n c.in-Some.is
    c.over_limit.result c.over_limit.ensures c.if-over_limit.false

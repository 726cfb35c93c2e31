-- `filled` meets its contract. The loop's invariant: the faces that are left decide, and what is lent has kept its length.
use mathlib.Core.Path.{refl, ◌∙◌}
use Rattle.filled.specs.Filled.{filled_at}
use Rattle.filled.proofs.CodeLaws.{testing_ready, testing_fails, testing_goes, testing_ends, rooms_again}
use Rattle.filled.proofs.Meaning.{grounded_expressions, grounded_patterns, grounded_rooms, grounded_slots}
use Rattle.filled.proofs.filled.Goals as goal

pub invariant_of-filling : goal.invariant_of-filling
invariant_of-filling c =
    let a = c.args in
    record {
      patterns = grounded_patterns a.ps.now a.es.now a.faces.now a.ts.now a.said.now a.holes.now a.scratch.now c.requires;
      expressions = grounded_expressions a.ps.now a.es.now a.faces.now a.ts.now a.said.now a.holes.now a.scratch.now c.requires;
      text = c.requires.says.is_table;
    }

pub loop-face-init : goal.loop-face-init
loop-face-init c =
    let a = c.args in (
      refl,
      refl,
      record {
        left = grounded_slots a.ps.now a.es.now a.faces.now a.ts.now a.said.now a.holes.now a.scratch.now c.requires;
        leads = refl;
      },
    )

pub face_is-requires : goal.face_is-requires
face_is-requires c =
    let a = c.args in
    let l = c.loop-face in (
      rooms_again a.ps.now a.ts.now a.holes.now a.scratch.now l.holes l.scratch
          (grounded_rooms a.ps.now a.es.now a.faces.now a.ts.now a.said.now a.holes.now a.scratch.now c.requires)
          l.invariant.0 l.invariant.1,
      testing_ready l.invariant.2 c.loop-face-test.true,
    )

pub shape_of-holes-then-not-face_is : goal.shape_of-holes-then-not-face_is
shape_of-holes-then-not-face_is c = c.face_is.auto.holes ∙ c.loop-face.invariant.0

pub shape_of-scratch-then-not-face_is : goal.shape_of-scratch-then-not-face_is
shape_of-scratch-then-not-face_is c = c.face_is.auto.scratch ∙ c.loop-face.invariant.1

pub returns-then-not-face_is : goal.returns-then-not-face_is
unfolding filled_at
returns-then-not-face_is c =
    testing_fails c.loop-face.invariant.2 c.loop-face-test.true c.face_is.result c.face_is.ensures c.if-not-face_is.true

pub loop-face-preserved : goal.loop-face-preserved
loop-face-preserved c =
    let l = c.loop-face in (
      c.face_is.auto.holes ∙ l.invariant.0,
      c.face_is.auto.scratch ∙ l.invariant.1,
      testing_goes l.invariant.2 c.loop-face-test.true c.face_is.result c.face_is.ensures c.if-not-face_is.false,
    )

pub shape_of-holes : goal.shape_of-holes
shape_of-holes c = c.loop-face.invariant.0

pub shape_of-scratch : goal.shape_of-scratch
shape_of-scratch c = c.loop-face.invariant.1

pub returns : goal.returns
unfolding filled_at
returns c = testing_ends c.loop-face.invariant.2 c.loop-face-test.false

-- `Filling::face_is` meets its contract: by the tag of the slot.
use mathlib.Core.Path.{sym, ◌∙◌}
use Rattle.filled.proofs.CodeLaws.{face_plain, face_applies}
use Rattle.filled.proofs.Filling.face_is.Goals as goal

pub returns-then-tag-ne6 : goal.returns-then-tag-ne6
returns-then-tag-ne6 c =
    let a = c.args in
    face_plain a.self.now.ps.now a.self.now.es.now a.self.now.ts.now a.self.now.said.now a.face c.tag.result c.tag.ensures c.if-tag-ne6.true
    c.faced_value_is.result c.faced_value_is.ensures

pub application_is-requires : goal.application_is-requires
application_is-requires c = (c.requires.0, c.requires.1.applied (sym c.tag.ensures ∙ c.if-tag-ne6.false))

pub returns : goal.returns
returns c =
    let a = c.args in
    face_applies a.self.now.ps.now a.self.now.es.now a.self.now.ts.now a.self.now.said.now a.face c.tag.result c.tag.ensures c.if-tag-ne6.false
    c.application_is.result c.application_is.ensures

-- `fields_right` meets its contract: a law for each part of the decision.
use Rattle.std.proofs.Common.{sym, ◌∙◌}
use mathlib.Core.Bool.{true≢false}
use Rattle.checking.proofs.CheckLaws.{fields_foreign, fields_kinds, fields_open}
use Rattle.checking.proofs.fields_right.Goals as goal
use Rattle.checking.proofs.fields_right.Goals.{then-known, else-known}

pub returns-then-kinds : goal.returns-then-kinds
returns-then-kinds c =
    elim c.if-known.branch [
      | then-known w ↦
          fields_open _ _ _ _ c.known.ensures w.if-known.true _ w.kinds.ensures _ (sym w.value-is ∙ c.if-kinds.true)
          c.open_right.ensures
      | else-known w ↦ absurd (true≢false (sym c.if-kinds.true ∙ w.value-is ∙ w.if-known.false))
    ]

pub returns-else-kinds : goal.returns-else-kinds
returns-else-kinds c =
    elim c.if-known.branch [
      | then-known w ↦ rw w.value-is (fields_kinds _ _ _ _ c.known.ensures w.if-known.true _ w.kinds.ensures (sym w.value-is ∙ c.if-kinds.false))
      | else-known w ↦ rw w.value-is (fields_foreign _ _ _ _ c.known.ensures w.if-known.false)
    ]

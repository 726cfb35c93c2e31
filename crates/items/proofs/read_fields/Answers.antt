-- `read_fields` meets its contract: each turn of its loop reads a field, and `reading_counts` bounds what it takes.
use Rattle.std.proofs.Common.{◌∙◌, ◌-◌, ℕ, List, length, get_or, Fits, w8, refl, arith}
use borrow.Rule.Slice.PartMut.{same_len_mid}
use Rattle.meaning.specs.Basics.{All, Byte}
use Rattle.items.proofs.ItemLaws.{all_read}
use Rattle.items.proofs.FieldsLaws.{reading_begins, reading_counts, reading_ends, reading_goes, reading_noted, reading_refused}
use Rattle.items.proofs.read_fields.Goals as goal

all_bytes : (s : List ℕ) → ((i : ℕ) → Fits w8 (get_or s i 0)) → All Byte s
all_bytes s h = all_read Byte s (λ i. (h i).fits)

pub loop-at-init : goal.loop-at-init
loop-at-init c = (refl, reading_begins c.args.text.now c.args.table.now c.nothing-said.result c.nothing-said.ensures c.requires)

pub returns-in_default : goal.returns-in_default
returns-in_default c =
    reading_refused _ _ _ _ _ _ c.loop-at.invariant.1 c.loop-at-test.true c.read_field.new.table
    (all_bytes _ c.type_inv.text) c.in_default.ensures

pub noted-requires : goal.noted-requires
noted-requires c =
    reading_noted _ _ _ _ _ _ c.loop-at.invariant.1 c.loop-at-test.true c.read_field.new.table _
    (all_bytes _ c.type_inv.text) c.in-Some.ensures

pub followed-order-requires : goal.followed-order-requires
followed-order-requires c =
    (reading_noted _ _ _ _ _ _ c.loop-at.invariant.1 c.loop-at-test.true c.read_field.new.table _
    (all_bytes _ c.type_inv.text) c.in-Some.ensures).number

pub overflow_add-used : goal.overflow_add-used
overflow_add-used c =
    omega (arith, reading_counts _ _ _ _ _ _ c.loop-at.invariant.1 c.loop-at-test.true c.read_field.new.table _ (all_bytes _ c.type_inv.text) c.in-Some.ensures)

pub overflow_add-at : goal.overflow_add-at
overflow_add-at c =
    omega (arith, reading_counts _ _ _ _ _ _ c.loop-at.invariant.1 c.loop-at-test.true c.read_field.new.table _ (all_bytes _ c.type_inv.text) c.in-Some.ensures)

pub loop-at-smaller : goal.loop-at-smaller
loop-at-smaller c =
    omega (arith, reading_counts _ _ _ _ _ _ c.loop-at.invariant.1 c.loop-at-test.true c.read_field.new.table _ (all_bytes _ c.type_inv.text) c.in-Some.ensures)

pub loop-at-preserved : goal.loop-at-preserved
loop-at-preserved c =
    let l = c.loop-at in (
      same_len_mid l.used (length l.table - l.used) l.table c.read_field.new.table c.read_field.auto.table ∙ l.invariant.0,
      rw (c.noted.ensures, c.field.ensures, c.followed-order.ensures)
          (reading_goes _ _ _ _ _ _ l.invariant.1 c.loop-at-test.true c.read_field.new.table _ (all_bytes _ c.type_inv.text) c.in-Some.ensures
          c.read_field.auto.table),
    )

pub returns : goal.returns
returns c = reading_ends _ _ _ _ _ _ c.loop-at.invariant.1 c.loop-at-test.false

-- `write_copied` meets its contract: the term's bytes, then what stands before them.
use native.Mathlib.Omega.{arith}
use Rattle.composing.proofs.TextLaws.{copy_begins, copy_copies, copy_short, copy_written, long_after, long_before}
use Rattle.composing.proofs.text.write_copied.Goals as goal

pub slice_bounds-copy-count : goal.slice_bounds-copy-count
slice_bounds-copy-count c = copy_begins c.args.out.now c.requires

pub slice_bounds-copy-start : goal.slice_bounds-copy-start
slice_bounds-copy-start c = copy_begins c.args.out.now c.requires

pub copy-n-requires : goal.copy-n-requires
copy-n-requires c = copy_copies c.args.out.now c.requires

pub bounds-out-3 : goal.bounds-out-3
bounds-out-3 c =
    omega (
      arith,
      long_before c.args.out.now c.requires c.copy-n.new.out
          c.copy-n.result c.copy-n.ensures,
    )

pub overflow_add-n : goal.overflow_add-n
overflow_add-n c =
    omega (
      arith,
      copy_short c.args.out.now c.requires c.copy-n.new.out
          c.copy-n.result c.copy-n.ensures,
    )

pub write_head-requires : goal.write_head-requires
write_head-requires c =
    record {
      room = omega (
        arith,
        copy_begins c.args.out.now c.requires,
        long_after c.args.out.now c.requires
            c.copy-n.new.out c.copy-n.result c.copy-n.ensures,
      );
      counted = copy_short c.args.out.now c.requires
          c.copy-n.new.out c.copy-n.result c.copy-n.ensures;
    }

pub overflow_add-result : goal.overflow_add-result
overflow_add-result c =
    omega (
      arith,
      copy_short c.args.out.now c.requires c.copy-n.new.out c.copy-n.result
          c.copy-n.ensures,
    )

pub returns : goal.returns
returns c = copy_written c.args.out.now c.requires _ _ c.copy-n.ensures c.write_head.ensures

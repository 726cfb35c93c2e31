-- `put_number`. What falls is the number.
use Rattle.std.proofs.Common.{◌+◌, ◌%◌, refl, sym, arith, set}
use Rattle.meaning.specs.Program.{decimal}
use Rattle.ascii.specs.Put.{Put}
use Rattle.ascii.proofs.PutLaws.{put_none, put_one, put_till}
use Rattle.ascii.proofs.DecimalLaws.{decimal_last, decimal_more, last_length, more_length}
use Rattle.ascii.proofs.+put_number.Goals as goal
use Rattle.ascii.proofs.+put_number.Goals.{then-n-lt10, else-n-lt10}

pub put_number-end-requires : goal.put_number-end-requires
put_number-end-requires t c = (omega (arith, c.decreases), omega (arith, c.requires, more_length c.args.n c.if-n-lt10.false))

pub bounds-out-end : goal.bounds-out-end
bounds-out-end t c =
    elim c.if-n-lt10.branch [
      | then-n-lt10 w ↦ omega (arith, c.requires, last_length c.args.n w.if-n-lt10.true)
      | else-n-lt10 w ↦ omega (arith, c.requires, w.put_number-end.ensures.end, more_length c.args.n w.if-n-lt10.false)
    ]

pub returns : goal.returns
returns t c =
    let last = 48 + c.args.n % 10 in
    elim c.if-n-lt10.branch as (λ w. Put c.args.at (decimal c.args.n) c.args.out.now (set c.if-n-lt10.out c.if-n-lt10.end last) (c.if-n-lt10.end + 1)) [
      | then-n-lt10 w ↦
          let few = last_length c.args.n w.if-n-lt10.true in
          let first = put_one (put_none c.args.at c.args.out.now) last (omega (arith, c.requires, few)) in
          rw (w.out-is, w.end-is) (put_till first (sym (decimal_last c.args.n w.if-n-lt10.true)) refl)
      | else-n-lt10 w ↦
          let more = more_length c.args.n w.if-n-lt10.false in
          let next = put_one w.put_number-end.ensures last (omega (arith, c.requires, w.put_number-end.ensures.end, more, w.put_number-end.auto)) in
          rw (w.out-is, w.end-is) (put_till next (sym (decimal_more c.args.n w.if-n-lt10.false)) refl)
    ]

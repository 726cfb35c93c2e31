-- `put_count`.
use native.Mathlib.Omega.{arith}
use Rattle.ascii.proofs.PutLaws.{put_both}
use Rattle.ascii.proofs.DecimalLaws.{decimal_short}
use Rattle.listing.proofs.put_count.Goals as goal

pub put_number-requires : goal.put_number-requires
put_number-requires c =
    omega (arith, c.requires, c.put_word-end.ensures.end, c.put_word-end.auto, decimal_short c.args.n c.ranges.n.fits)

pub returns : goal.returns
returns c =
    record {
      put = put_both c.put_word-end.ensures c.put_number.ensures;
      few = omega (arith, c.put_word-end.ensures.end, c.put_number.ensures.end, decimal_short c.args.n c.ranges.n.fits);
    }

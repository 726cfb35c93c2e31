-- `solution_line`.
use native.Mathlib.Omega.{arith}
use Rattle.meaning.specs.Program.{ascii}
use Rattle.ascii.proofs.PutLaws.{hexadecimal_length, put_both}
use Rattle.listing.proofs.LineLaws.{count_put}
use Rattle.listing.proofs.solution_line.Goals as goal

pub put_word-digits-requires : goal.put_word-digits-requires
put_word-digits-requires c = omega (arith, c.requires, c.put_count-colon.ensures.few, c.put_count-colon.auto)

pub put_bytes-end-requires : goal.put_bytes-end-requires
put_bytes-end-requires c =
    omega (arith, c.requires, c.put_count-colon.ensures.few, c.put_count-colon.auto, c.put_word-digits.ensures.end, c.put_word-digits.auto)

pub put_word-requires : goal.put_word-requires
put_word-requires c =
    omega (
      arith,
      c.requires,
      c.put_count-colon.ensures.few,
      c.put_count-colon.auto,
      c.put_word-digits.ensures.end,
      c.put_word-digits.auto,
      c.put_bytes-end.ensures.end,
      c.put_bytes-end.auto,
      hexadecimal_length c.args.text.now,
    )

pub returns : goal.returns
returns c =
    count_put (ascii "solution ") c.args.k c.put_count-colon.ensures.put
    (put_both c.put_word-digits.ensures (put_both c.put_bytes-end.ensures c.put_word.ensures))

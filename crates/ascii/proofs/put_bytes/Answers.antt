-- `put_bytes`. The loop's invariant: the digits of the bytes before the index are put.
use Rattle.std.proofs.Common.{[], ◌∷◌, ◌∙◌, refl, ap, arith, get_or, take_all}
use Rattle.meaning.specs.Program.{hexadecimal}
use Rattle.ascii.proofs.PutLaws.{put_none, put_till, bytes_more, hexadecimal_none, hexadecimal_length}
use Rattle.ascii.proofs.put_bytes.Goals as goal

pub loop-byte-init : goal.loop-byte-init
loop-byte-init c = (omega arith, put_till (put_none _ _) hexadecimal_none refl)

pub loop-byte-preserved : goal.loop-byte-preserved
loop-byte-preserved c =
    let loop = c.loop-byte in
    let bytes = c.args.bytes.now in (
      c.put_byte-end.ensures.end ∙ omega (arith, loop.invariant.0, hexadecimal_length (get_or bytes loop.byte-index 0 ∷ [])),
      bytes_more bytes loop.byte-index c.loop-byte-test.true loop.invariant.1 c.put_byte-end.ensures,
    )

pub returns : goal.returns
returns c =
    let loop = c.loop-byte in
    put_till loop.invariant.1 (ap hexadecimal (take_all loop.byte-index c.args.bytes.now c.loop-byte-test.false)) refl

-- `put_bytes`. The loop's invariant: the digits of the bytes before the index are put.
use Rattle.std.proofs.Common.{◌+◌, ◌*◌, ◌≡◌, take}
use Rattle.meaning.specs.Program.{hexadecimal}
use Rattle.ascii.specs.Put.{Put}
use Rattle.ascii.proofs.put_bytes.Given as goal

abbrev pub invariant-loop-byte : goal.invariant-loop-byte
invariant-loop-byte l =
    (l.end ≡ l.at + 2 * l.byte-index) × Put l.at (hexadecimal (take l.byte-index l.bytes)) l.initial.out l.out l.end

-- `copying::write_word` meets its contract: the bytes of the number at the front.
use mathlib.Core.Path.{ap, ◌∙◌}
use mathlib.Core.List.{◌++◌}
use lib.ListN.{drop}
use native.Mathlib.Omega.{arith}
use Rattle.meaning.specs.Basics.{Bytes}
use Rattle.copying.proofs.WriteLaws.{two_bytes}
use Rattle.copying.proofs.write_word.Goals as goal

pub returns : goal.returns
returns c =
    ap (λ (front : Bytes). front ++ drop 2 c.args.out.now)
    (c.copy_from_slice.ensures.after ∙ c.to_be_bytes.ensures ∙ two_bytes c.args.n (omega (arith, c.ranges.n)))

-- `is_outside` meets its contract: what `contains` tells of the range.
use mathlib.Core.Path.{ap, ◌∙◌}
use mathlib.Core.Bool.{not}
use Rattle.meaning.specs.Limits.{max_face_nodes}
use Rattle.longest.proofs.WriteLaws.{outside_told}
use Rattle.longest.proofs.is_outside.Goals as goal

pub returns : goal.returns
unfolding max_face_nodes
returns c =
    let told = rw (c.new.ensures.start, c.new.ensures.end, c.new.ensures.exhausted) at c.contains.ensures.value in
    ap not told ∙ outside_told c.args.n

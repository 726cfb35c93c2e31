-- `show_numbered`: the numbers lie in the buffer.
use Rattle.std.proofs.Common.{sym, length-take-le}
use Rattle.comparing.specs.NumberedNodes.{NumbersNodes}
use Rattle.vectors_texts.proofs.numbered.show_numbered.Goals as goal

pub slice_bounds-ns-end : goal.slice_bounds-ns-end
unfolding NumbersNodes
slice_bounds-ns-end g c = c.in-Ok.ensures.2

pub slice_bounds-print_firsts-end : goal.slice_bounds-print_firsts-end
unfolding NumbersNodes
slice_bounds-print_firsts-end g c = sym (length-take-le _ _ c.in-Ok.ensures.2)

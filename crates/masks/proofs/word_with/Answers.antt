-- `masks::word_with`: a node is added by `|`.
use mathlib.Core.Path.{ap, ◌∙◌}
use Prim.Native.Nat.{ℕ}
use lib.Bits.{bit_or}
use Rattle.masks.specs.Mask.{marks}
use Rattle.masks.specs.Sets.{word_nodes}
use Rattle.masks.proofs.Nodes.{marks_join}
use Rattle.masks.proofs.word_with.Goals as goal

pub returns : goal.returns
returns c =
    let s = c.args in
    ap (λ (x : ℕ). marks word_nodes (bit_or s.w x)) c.bit.ensures ∙ marks_join word_nodes s.w s.k

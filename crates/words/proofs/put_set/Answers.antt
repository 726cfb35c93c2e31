-- `put_set` meets its contract.
use borrow.Author.Rules.{rules}
use native.Mathlib.Omega.{arith}
use mathlib.Core.Path.{◌≡◌}
use Prim.Native.Nat.{◌+◌, ◌-◌, ◌<◌, ◌^◌}
use lib.ListN.{length, get_or}
use Rattle.masks.specs.Sets.{word_count, word_nodes}
use Rattle.words.proofs.WordLaws.{set_put}
use Rattle.words.proofs.put_set.Goals as goal

pub returns : goal.returns
returns c =
    let s = c.args.s in
    let at = c.args.at in
    let four : length s.words ≡ word_count = search rules in
    let a : get_or s.words 0 0 < 2 ^ word_nodes = search rules in
    let b : get_or s.words 1 0 < 2 ^ word_nodes = search rules in
    let d : get_or s.words 2 0 < 2 ^ word_nodes = search rules in
    let e : get_or s.words 3 0 < 2 ^ word_nodes = search rules in
    let far : at + word_count - at ≡ word_count = omega arith in
    rw (far, c.copy_from_slice.ensures.after) (set_put c.args.words.now at s four a b d e)

-- `set_at` meets its contract.
use borrow.Author.Rules.{rules}
use native.Mathlib.Omega.{arith}
use mathlib.Core.Path.{◌≡◌}
use Prim.Native.Nat.{◌+◌, ◌-◌}
use lib.ListN.{length}
use Rattle.masks.specs.Sets.{word_count}
use Rattle.words.proofs.WordLaws.{set_read}
use Rattle.words.proofs.set_at.Goals as goal

pub returns : goal.returns
returns c =
    let s = c.args in
    let four : length c.copy_from_slice.new.self ≡ word_count = search rules in
    let far : s.at + word_count - s.at ≡ word_count = omega arith in
    set_read (record { words = c.copy_from_slice.new.self }) _ four (rw far at c.copy_from_slice.ensures.after)

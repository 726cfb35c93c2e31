-- `put_row` meets its contract. The loop's invariant: the words of the first k sets are stored, and from there on nothing is changed.
use mathlib.Core.Path.{◌≡◌, refl, ◌∙◌, subst}
use Prim.Native.Nat.{ℕ, ◌+◌, ◌*◌}
use native.Mathlib.Omega.{arith}
use lib.ListN.{length, length-map}
use Rattle.meaning.specs.Limits.{max_functions}
use Rattle.masks.specs.Sets.{mask, masks_in, word_count, words_of}
use Rattle.masks.proofs.Words.{masks_at}
use Rattle.words.specs.Storing.{PutWords}
use Rattle.words.proofs.WordLaws.{stored_none, stored_more, stored_all}
use borrow.Author.Rules.{rules}
use Rattle.words.proofs.put_row.Goals as goal

pub loop-k-init : goal.loop-k-init
unfolding max_functions
loop-k-init c =
    let s = c.args in
    let eight : length s.row ≡ max_functions = search rules in
    (refl, stored_none s.at (masks_in s.row) s.words.now (length-map s.row mask ∙ eight))

pub overflow_add-at : goal.overflow_add-at
unfolding max_functions
overflow_add-at c = search rules

pub put_set-requires : goal.put_set-requires
unfolding max_functions
put_set-requires c = search rules

pub loop-k-preserved : goal.loop-k-preserved
unfolding max_functions
loop-k-preserved c =
    let put = c.put_set in
    let loop = c.loop-k in
    let row = c.args.row in
    let eight : length c.args.row ≡ max_functions = search rules in
    let kept : length put.new.words ≡ length loop.words = search rules in
    let here = c.loop-k-test.true in (
      kept ∙ loop.invariant.0,
      stored_more c.args.at (masks_in row) c.args.words.now (length-map row mask ∙ eight) loop.k loop.words put.new.words
          (omega (arith, here)) c.requires loop.invariant.1
          (subst (λ (m : ℕ). PutWords (c.args.at + loop.k * word_count) word_count (words_of m) loop.words put.new.words)
          (masks_at row loop.k) put.ensures),
    )

pub returns : goal.returns
unfolding max_functions
returns c =
    let loop = c.loop-k in
    let row = c.args.row in
    let eight : length c.args.row ≡ max_functions = search rules in
    stored_all c.args.at (masks_in row) c.args.words.now (length-map row mask ∙ eight) loop.k loop.words
    (omega arith) loop.invariant.1

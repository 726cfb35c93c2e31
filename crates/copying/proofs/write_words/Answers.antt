-- `copying::write_words` meets its contract: the second number goes into the part after the first.
use Rattle.copying.proofs.WriteLaws.{words_wrote}
use Rattle.copying.proofs.write_words.Goals as goal

pub returns : goal.returns
returns c =
    words_wrote c.args.first c.args.second c.args.out.now _ _ c.write_word.ensures
    c.write_word-2.ensures

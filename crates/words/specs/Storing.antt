-- Rows stored in a buffer of words, wherever in it they stand.
--   PutWords   n words from word `start` on are these, and all others are as they were
--   PutRow     these are the words of a row's sets
use Rattle.std.specs.Prelude.{◌≡◌, List, ◌++◌, ℕ, ◌+◌, length, take, drop}
use Rattle.meaning.specs.Basics.{each}
use Rattle.masks.specs.Sets.{words_of}
use Rattle.words.specs.Words.{row_words}

abbrev pub PutWords : ℕ → ℕ → List ℕ → List ℕ → List ℕ → Type 0
PutWords start n words before after = after ≡ take start before ++ words ++ drop (start + n) before

pub record PutRow (start : ℕ) (masks before after : List ℕ) : Type 0 where
  pub long : length (each words_of masks) ≡ row_words
  pub put : PutWords start row_words (each words_of masks) before after

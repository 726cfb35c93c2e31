-- What a writer answers, as `meaning` has answers.
use Rattle.std.specs.Prelude.{ℕ, Result, Ok, Err}
use Rattle.meaning.specs.Read.{Answer, got, refused}
use Rattle.refusal.specs.Number.{number}
use Rattle.refusal.specs.declared.Refusal.{Refusal}

abbrev pub answer_of : Result ℕ Refusal → Answer ℕ
answer_of (Ok n) = got n
answer_of (Err r) = refused (number r)

-- What writing T-13's problem promises.
--   Nodes           "n from 1 to 256"
--   ..Bytes         what is written
--   Room            what writing for n asks of a buffer: room for so many bytes
--   ProblemRoom     the same for the whole problem, which has so many
--   WritesLongest   the answer for any n, with the whole buffer
use Rattle.std.specs.Prelude.{◌≡◌, ℕ, ◌≤◌, [], ◌∷◌, ◌++◌, Result, length}
use Rattle.meaning.specs.Limits.{max_face_nodes}
use Rattle.meaning.specs.Basics.{Bytes}
use Rattle.meaning.specs.Term.{one}
use Rattle.meaning.specs.Field.{encode}
use Rattle.meaning.specs.Longest.{LongestCall, heaviest, longest_bytes}
use Rattle.copying.specs.Answered.{answer_of}
use Rattle.refusal.specs.declared.Refusal.{Refusal}

pub record Nodes (n : ℕ) : Type 0 where
  pub some : 1 ≤ n
  pub few : n ≤ max_face_nodes

-- P(X) as a field; the expression; the two together
abbrev pub pattern_bytes : Bytes
pattern_bytes = 6 ∷ 0 ∷ 5 ∷ 0 ∷ 5 ∷ 0 ∷ 1 ∷ 1 ∷ []

abbrev pub expression_bytes : ℕ → Bytes
expression_bytes n = encode (one (heaviest n))

abbrev pub terms_bytes : ℕ → Bytes
terms_bytes n = pattern_bytes ++ expression_bytes n

pub record Room (n bytes : ℕ) (buffer : Bytes) : Type 0 where
  pub nodes : Nodes n
  pub room : bytes ≤ length buffer

pub record ProblemRoom (n bytes : ℕ) (buffer : Bytes) : Type 0 where
  pub fits : Room n bytes buffer
  pub counted : bytes ≡ length (longest_bytes n)

abbrev pub WritesLongest : ℕ → Bytes → Bytes → Result ℕ Refusal → Type 0
WritesLongest n before after r = LongestCall n before (answer_of r) after

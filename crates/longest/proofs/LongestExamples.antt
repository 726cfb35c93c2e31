-- What T-13's definitions come to on examples worked out by hand: the first numbers of nodes in buffers that are just long enough, and each
-- refusal, 28 also where the buffer is too short for any problem.
use mathlib.Core.Path.{◌≡◌, refl}
use Prim.Native.Nat.{ℕ}
use mathlib.Core.List.{List, [], ◌∷◌}
use lib.ListN.{replicate}
use Rattle.meaning.specs.Limits.{first_wide, max_face_nodes}
use Rattle.meaning.specs.Basics.{All, Bytes}
use Rattle.meaning.specs.Read.{Answer, got, refused}
use Rattle.meaning.specs.Field.{encode, encode_constraint, encode_problem, field, symbol_bytes, word}
use Rattle.meaning.specs.Longest.{longest_into}

pub record Worked : Type 0 where
  pub nodes : ℕ
  pub room : ℕ
  pub gives : Answer Bytes

abbrev worked : ℕ → ℕ → Answer Bytes → Worked
worked n room a = record { nodes = n; room = room; gives = a }

abbrev one : Bytes
one = 7 ∷ 0 ∷ 13 ∷ 6 ∷ 0 ∷ 5 ∷ 0 ∷ 5 ∷ 0 ∷ 1 ∷ 1 ∷ 1 ∷ 0 ∷ 2 ∷ 0 ∷ 0 ∷ []

abbrev two : Bytes
two = 7 ∷ 0 ∷ 16 ∷ 6 ∷ 0 ∷ 5 ∷ 0 ∷ 5 ∷ 0 ∷ 1 ∷ 1 ∷ 3 ∷ 0 ∷ 5 ∷ 1 ∷ 0 ∷ 2 ∷ 0 ∷ 0 ∷ []

abbrev three : Bytes
three = 7 ∷ 0 ∷ 21 ∷ 6 ∷ 0 ∷ 5 ∷ 0 ∷ 5 ∷ 0 ∷ 1 ∷ 1 ∷ 3 ∷ 0 ∷ 10 ∷ 1 ∷ 0 ∷ 2 ∷ 0 ∷ 0 ∷ 1 ∷ 0 ∷ 2 ∷ 0 ∷ 0 ∷ []

abbrev pub examples : List Worked
examples =
    worked 1 16 (got one)
    ∷ worked 2 19 (got two)
    ∷ worked 3 24 (got three)
    ∷ worked 3 23 (refused 29)
    ∷ worked 1 0 (refused 29)
    ∷ worked 256 0 (refused 29)
    ∷ worked 0 100 (refused 28)
    ∷ worked 0 0 (refused 28)
    ∷ worked 257 0 (refused 28)
    ∷ []

pub longests_hold : All (λ (x : Worked). longest_into x.nodes (replicate x.room 0) ≡ x.gives) examples
unfolding longest_into max_face_nodes encode_problem encode_constraint encode field word symbol_bytes first_wide
longests_hold = (refl, (refl, (refl, (refl, (refl, (refl, (refl, (refl, (refl, tt)))))))))

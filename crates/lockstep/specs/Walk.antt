-- The walk of two token tables: "Pattern and expression are walked together from the top".
--   stop       whether the walk stops at a node of the left table, by the node's number and its token
--   face       what such a node faces, as one number: the left table's node and, 65536 times, the right table's
--   d, e       the binder depths from which the keys of the two tables are seen
--   lockstep   both tables from the front. A node at which the walk stops is passed with all nodes below it (`skip` counts those that
--              are left), and so is the subterm that it faces; any other two nodes have to have the same key. none where they disagree
--   slot       a token of a tag above 4: a metavariable, a function application or, in a body, a hole
use Rattle.std.specs.Prelude.{ℕ, zero, suc, ◌+◌, ◌*◌, ◌-◌, ◌/◌, ◌%◌, Bool, List, [], ◌∷◌, drop, eqb, ltb}
use Rattle.std.proofs.Math.Option.{Option, none, some}
use Rattle.meaning.specs.Basics.{choose, join, guard}
use Rattle.tokens.specs.Token.{tag_in, size_in}
use Rattle.tokens.specs.Key.{key_of}

abbrev pub face_code : ℕ → ℕ → ℕ
face_code i j = i + 65536 * j

abbrev pub pattern_node : ℕ → ℕ
pattern_node n = n % 65536

abbrev pub expression_node : ℕ → ℕ
expression_node n = n / 65536

abbrev pub Stop : Type 0
Stop = ℕ → ℕ → Bool

-- i and j are the numbers of the first nodes of the two lists
unfoldable pub lockstep : Stop → ℕ → ℕ → ℕ → ℕ → ℕ → List ℕ → List ℕ → Option (List ℕ)
lockstep stop d e skip i j [] es = some []
lockstep stop d e (suc k) i j (x ∷ ps) es = lockstep stop d e k (suc i) j ps es
lockstep stop d e zero i j (x ∷ ps) [] = none
lockstep stop d e zero i j (x ∷ ps) (y ∷ es) =
    choose (stop i x)
    (join (some (face_code i j ∷ [])) (lockstep stop d e (size_in x - 1) (suc i) (j + size_in y) ps (drop (size_in y) (y ∷ es))))
    (guard (eqb (key_of d x) (key_of e y)) (lockstep stop d e 0 (suc i) (suc j) ps es))

-- "until a metavariable or function application is met; that faces the subexpression there"
abbrev pub slot_tag : ℕ → Bool
slot_tag g = ltb 4 g

unfoldable pub is_slot : ℕ → Bool
is_slot x = slot_tag (tag_in x)

abbrev pub at_slots : Stop
at_slots i x = is_slot x

-- The first face of each function, from the pattern's tokens and the recorded faces.
--   applies    a recorded face is that of an application of the function f
--   first_in    the expression's node that f faces first; none where no application of f was met
--   absent     what stands for none: no table has a node of that number
--   large      a node of the expression with more nodes than a face may have
use Rattle.std.specs.Prelude.{◌≡◌, ℕ, ◌-◌, ◌≤◌, Bool, ◌&&◌, List, [], ◌∷◌, ◌++◌, map, length, take, eqb, ltb, Some, None}
use Rattle.std.specs.Prelude as std
use Rattle.std.specs.List.{list_any}
use Rattle.std.proofs.Math.Option.{Option, none, some}
use Rattle.meaning.specs.Limits.{metavariable_count, max_face_nodes}
use Rattle.meaning.specs.Basics.{choose, keep, count_from, up_to}
use Rattle.tokens.specs.Token.{tag_in, size_in, payload_in}
use Rattle.tokens.specs.Key.{at}
use Rattle.lockstep.specs.Walk.{pattern_node, expression_node}
use Rattle.metavariables.specs.Survey.{has}
use Rattle.faces.specs.declared.first.Firsts.{Firsts}

unfoldable pub applies : List ℕ → ℕ → ℕ → Bool
applies ps f n = eqb (tag_in (at ps (pattern_node n))) 6 && eqb f (payload_in (at ps (pattern_node n)))

unfoldable pub first_in : List ℕ → ℕ → List ℕ → Option ℕ
first_in ps f [] = none
first_in ps f (n ∷ ns) = choose (applies ps f n) (some (expression_node n)) (first_in ps f ns)

-- The same as the code's Option
abbrev pub option_of : {A : Type 0} → Option A → std.Option A
option_of none = None
option_of (some x) = Some x

abbrev pub absent : ℕ
absent = 65536

abbrev pub node_or : Option ℕ → ℕ
node_or none = absent
node_or (some j) = j

unfoldable pub first_node : List ℕ → List ℕ → ℕ → ℕ
first_node ps ns f = node_or (first_in ps f ns)

-- The first faces of the functions in the set s, by ascending number, and those of the functions from m on
unfoldable pub firsts_from : List ℕ → List ℕ → ℕ → ℕ → List ℕ
firsts_from ps ns s m = map (first_node ps ns) (keep (has s) (count_from m (metavariable_count - m)))

unfoldable pub firsts_of : List ℕ → List ℕ → ℕ → List ℕ
firsts_of ps ns s = map (first_node ps ns) (keep (has s) (up_to metavariable_count))

-- What an array with a count holds
abbrev pub listed : Firsts → List ℕ
listed r = take r.count r.nodes

pub record FirstsFit (r : Firsts) : Type 0 where
  pub array : length r.nodes ≡ 8
  pub count : r.count ≤ 8

pub record Pushed (s : Firsts) (j : ℕ) (r : Firsts) : Type 0 where
  pub fits : FirstsFit r
  pub list : listed r ≡ listed s ++ (j ∷ [])

-- The functions below m have been looked up
pub record Listing (ps ns : List ℕ) (s m : ℕ) (r : Firsts) : Type 0 where
  pub fits : FirstsFit r
  pub whole : listed r ++ firsts_from ps ns s m ≡ firsts_of ps ns s

pub record Listed (ps ns : List ℕ) (s : ℕ) (r : Firsts) : Type 0 where
  pub fits : FirstsFit r
  pub list : listed r ≡ firsts_of ps ns s

unfoldable pub large : List ℕ → ℕ → Bool
large es j = ltb j (length es) && ltb max_face_nodes (size_in (at es j))

abbrev pub any_large : List ℕ → List ℕ → Bool
any_large es js = list_any (large es) js

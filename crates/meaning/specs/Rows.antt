-- The list of all rows of a problem. It is determined by what a row is and by the order (`rows_are`, `rows_ordered`, `rows_determined`), so
-- that nobody has to believe how it is made.
use Rattle.std.specs.Prelude.{List, [], ◌∷◌, map}
use Rattle.std.proofs.Math.Option.{Option, none, some}
use Rattle.meaning.specs.Basics.{each}
use Rattle.meaning.specs.Problem.{Problem, functions, places_of}
use Rattle.meaning.specs.Face.{Face, faces}
use Rattle.meaning.specs.Row.{Row, face_of}
use Rattle.meaning.specs.Choices.{choices}

-- Every way to take one of each list, the first list slowest
abbrev pub product : {A : Type 0} → List (List A) → List (List A)
product [] = [] ∷ []
product (xs ∷ xss) = each (λ x. map (λ ys. x ∷ ys) (product xss)) xs

abbrev pub rows_over : Problem → Option (List Face) → List Row
rows_over p none = []
rows_over p (some xs) = product (map (λ f. choices (places_of p f) (face_of p f)) (functions p))

-- "If they disagree anywhere, the problem has no rows", nor where it uses a letter both ways (T-09); "With no function and agreeing shapes
-- there is one row, the empty one"
unfoldable pub rows : Problem → List Row
rows p = rows_over p (faces p)

-- What this crate asks of a mask: which nodes of the face it makes holes, and the lowest of them. Where a row says it in another way, these
-- change and nothing above them.
use Rattle.std.specs.Prelude.{ℕ, Bool, false, get_or}
use Rattle.masks.specs.Mask.{marks, first}
use Rattle.masks.specs.Sets.{width}

abbrev pub marked : ℕ → ℕ → Bool
marked mask i = get_or (marks width mask) i false

-- The lowest node that is marked, where there is one
abbrev pub lowest_marked : ℕ → ℕ
lowest_marked mask = first (marks width mask)

-- The names around a term, and their levels.
--   level-..     one turn of the search for a name, from the innermost binder outwards
--   names_with   one more name
use Prim.Native.Nat.{ℕ, zero, suc, ◌+◌, ◌-◌, ◌≤◌, ◌<◌}
use mathlib.Core.Path.{◌≡◌, refl, sym, ap}
use mathlib.Core.List.{List, [], ◌∷◌}
use native.Mathlib.Omega.{arith}
use native.Mathlib.Numerals.{add-one}
use lib.ListN.{length, get_or, set}
use lib.Seq.{get_or-set_same, get_or-set_other}
use borrow.Author.Tests.{ne_eqb, eq-eqb}
use Rattle.meaning.specs.Field.{tag_of}
use Rattle.tokens.specs.Token.{level_of}
use Rattle.fields.specs.Heads.{label_of}
use Rattle.sites.specs.Site.{names_in}
use Rattle.fields.specs.declared.node.Node.{Node}
use Rattle.fields.specs.declared.node.Node.TheVariants as nodes

pub names_length : (names : List ℕ) (n : ℕ) → length (names_in names n) ≡ n
unfolding names_in
names_length names zero = refl
names_length names (suc n) = ap suc (names_length names n)

names_at : (names : List ℕ) (i : ℕ) → 0 < i → names_in names i ≡ get_or names (i - 1) 0 ∷ names_in names (i - 1)
unfolding names_in
names_at names zero h = absurd (omega arith)
names_at names (suc i) h = let w : suc i - 1 ≡ i = omega arith in rw w

pub level_step : (names : List ℕ) (i x : ℕ) → 0 < i → (get_or names (i - 1) 0 ≡ x → ⊥)
    → level_of (names_in names (i - 1)) x ≡ level_of (names_in names i) x
unfolding level_of
level_step names i x h z = rw (names_at names i h, level_of, ne_eqb x (get_or names (i - 1) 0) (λ e. z (sym e)))

pub level_here : (names : List ℕ) (i x : ℕ) → 0 < i → get_or names (i - 1) 0 ≡ x → i - 1 + 1 ≡ level_of (names_in names i) x
unfolding level_of
level_here names i x h e =
    rw (names_at names i h, level_of, eq-eqb x (get_or names (i - 1) 0) (sym e), names_length names (i - 1)) (omega arith)

pub level_none : (names : List ℕ) (i x : ℕ) → i ≤ 0 → 0 ≡ level_of (names_in names i) x
unfolding level_of names_in
level_none names i x h = let z : i ≡ 0 = omega arith in rw z

names_set : (names : List ℕ) (k x n : ℕ) → n ≤ k → names_in (set names k x) n ≡ names_in names n
unfolding names_in
names_set names k x zero h = refl
names_set names k x (suc n) h = rw (names_set names k x n (omega arith), get_or-set_other names k n x 0 (λ e. omega arith))

pub names_with : (names : List ℕ) (k x : ℕ) → k < length names → names_in (set names k x) (k + 1) ≡ x ∷ names_in names k
unfolding names_in
names_with names k x h = rw (add-one k, names_in, names_set names k x k (omega arith), get_or-set_same names k x 0 h)

pub names_none : (names : List ℕ) (n : ℕ) → n ≡ 0 → names_in names n ≡ []
unfolding names_in
names_none names n z = rw z

pub label_tag : (n : Node) (count : ℕ) → tag_of (label_of n 0) ≡ tag_of (label_of n count)
label_tag (nodes.Symbol x) count = refl
label_tag (nodes.Variable x) count = refl
label_tag nodes.Application count = refl
label_tag (nodes.Binder b x) count = refl
label_tag (nodes.Metavariable m) count = refl
label_tag (nodes.Function m) count = refl
label_tag nodes.Hole count = refl

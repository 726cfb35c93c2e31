-- A symbol that occurs in no expression of a problem and can be written: a problem has fewer symbols than there are numbers of two bytes.
use mathlib.Core.Path.{◌≡◌, refl, ap, sym, ◌∙◌, subst}
use mathlib.Core.Logic.{◌⊎◌, inl, inr}
use mathlib.Core.Bool.{Bool, true, false, not, false≢true}
use mathlib.Core.List.Memᴰ
use mathlib.Core.List.{List, [], ◌∷◌, ◌++◌}
use Prim.Native.Nat.{ℕ, zero, suc, ◌<◌, ◌≤◌}
use native.Mathlib.Omega.{arith}
use lib.Dec.{eqb}
use lib.ListN.{length, length-append}
use Rattle.meaning.specs.Limits.{first_wide, largest_problem, largest_text, max_depth, metavariable_count}
use Rattle.meaning.specs.Basics.{All, choose, is_in, keep, ◌∈◌}
use Rattle.meaning.specs.Term.{Forest, IsExpression, Named, Nameless, Terms, application, binder, cons, nil, one, own, slot, symbol}
use Rattle.meaning.specs.Term.{variable}
use Rattle.meaning.specs.Problem.{Problem, expressions, named_expressions}
use Rattle.meaning.specs.Filling.{value}
use Rattle.meaning.specs.Text.{Item, said}
use Rattle.meaning.specs.Field.{encode, encode_problem, field}
use Rattle.meaning.specs.Encoded.{encode_text}
use Rattle.meaning.specs.Readable.{Accepted, ReadableItem}
use Rattle.meaning.specs.Textbook.{HasBytes}
use Rattle.meaning.proofs.Lists.{by_test, eqb_other, eqb_self, is_in_mem, keep_length, mem_is_in, mem_keep}
use Rattle.meaning.proofs.ByteLaws.{field_length, narrow_two}
use Rattle.meaning.proofs.Proper.{accepted_proper}
use Rattle.meaning.proofs.Weights.{encode_weight, label_weight, nameless_weight, problem_weight, weight}
use Rattle.meaning.proofs.TextReading.{read_text_lem, text_bytes}
use Rattle.meaning.proofs.SecondDemand.{text_names}
use Rattle.meaning.proofs.Unseen.{AllClean, fresh}

-- Without one number that is in it a list is shorter
abbrev without : ℕ → List ℕ → List ℕ
without n xs = keep (λ m. not (eqb m n)) xs

without_shorter : (n : ℕ) (xs : List ℕ) → n ∈ xs → length (without n xs) < length xs
without_shorter n [] i = absurd (Memᴰ.not-nil i)
without_shorter n (x ∷ xs) i = go (eqb x n) refl (without_shorter n xs) (Memᴰ.cases_cons i)
  where
    go : (b : Bool) → eqb x n ≡ b → (n ∈ xs → length (without n xs) < length xs) → (n ≡ x) ⊎ (n ∈ xs)
        → length (choose (not b) (x ∷ without n xs) (without n xs)) < suc (length xs)
    go true e ih q = let l = keep_length (λ m. not (eqb m n)) xs in omega arith
    go false e ih (inl q) = absurd (false≢true (sym e ∙ ap (λ (y : ℕ). eqb y n) (sym q) ∙ eqb_self n))
    go false e ih (inr q) = let l = ih q in omega arith

-- Of n + 1 numbers one is not among n
abbrev Unused : ℕ → List ℕ → Type 0
Unused n xs = (x : ℕ) × (x ≤ n) × (x ∈ xs → ⊥)

unused : (n : ℕ) (xs : List ℕ) → length xs ≤ n → Unused n xs
unused zero [] h = (0, omega arith, λ i. Memᴰ.not-nil i)
unused zero (x ∷ xs) h = absurd (omega arith)
unused (suc n) xs h =
    by_test (is_in (suc n) xs) (λ e. used e (unused n (without (suc n) xs))) (λ e. (suc n, omega arith, λ i. false≢true (sym e ∙ mem_is_in (suc n) xs i)))
  where
    used : is_in (suc n) xs ≡ true → (length (without (suc n) xs) ≤ n → Unused n (without (suc n) xs)) → Unused (suc n) xs
    used e ih =
        let l = without_shorter (suc n) xs (is_in_mem (suc n) xs e) in
        let (x, small, out) = ih (omega arith) in (
          x,
          omega arith,
          λ i. out (mem_keep (λ m. not (eqb m (suc n))) x xs i (ap not (eqb_other x (suc n) (λ d. omega arith)))),
        )

-- The symbols of terms
abbrev symbols_at : Nameless → List ℕ
symbols_at (own (symbol n)) = n ∷ []
symbols_at (own (variable v)) = []
symbols_at (own (application n)) = []
symbols_at (own (binder b u)) = []
symbols_at (slot z) = []

abbrev symbols_in : Terms → List ℕ
symbols_in nil = []
symbols_in (cons l c s) = symbols_at l ++ (symbols_in c ++ symbols_in s)

symbols_weight : (u : Terms) → length (symbols_in u) ≤ weight u
symbols_weight nil = omega arith
symbols_weight (cons l c s) =
    let a = length-append (symbols_at l) (symbols_in c ++ symbols_in s) in
    let b = length-append (symbols_in c) (symbols_in s) in
    let d = at l in
    let e = symbols_weight c in
    let f = symbols_weight s in
    omega arith
  where
    at : (l : Nameless) → length (symbols_at l) ≤ label_weight l
    at (own (symbol n)) = omega arith
    at (own (variable v)) = omega arith
    at (own (application n)) = omega arith
    at (own (binder b u)) = omega arith
    at (slot z) = omega arith

unused_clean : (x : ℕ) (u : Terms) → IsExpression u → (x ∈ symbols_in u → ⊥) → AllClean x u
unused_clean x nil h out = tt
unused_clean x (cons l c s) h out = (
  (h.0, λ e. out (Memᴰ.append_left (symbols_in c ++ symbols_in s) (subst (λ (y : Nameless). x ∈ symbols_at y) (sym e) (Memᴰ.head refl)))),
  unused_clean x c h.1 (λ i. out (Memᴰ.append_right (symbols_at l) (Memᴰ.append_left (symbols_in s) i))),
  unused_clean x s h.2 (λ i. out (Memᴰ.append_right (symbols_at l) (Memᴰ.append_right (symbols_in c) i))),
)

-- A text that gives such a symbol to the first metavariable
abbrev giving : ℕ → List Item
giving x = (0, value (own (symbol x), nil)) ∷ []

giving_short : (x : ℕ) → x < first_wide → length (encode_text (giving x)) ≤ largest_text
unfolding encode_text largest_text
giving_short x small =
    let term : Forest Named = one (own (symbol x), nil) in
    let a = length-append (field 8 (0 ∷ encode term)) [] in
    let b = field_length 8 (0 ∷ encode term) in
    let d = encode_weight term in
    let e = narrow_two x small in
    omega arith

symbol_written : (x : ℕ) → x < first_wide → HasBytes (fresh x)
unfolding max_depth metavariable_count first_wide
symbol_written x small =
    let readable : All ReadableItem (giving x) = ((omega arith, ((omega arith, refl), tt, tt)), tt) in
    let short = giving_short x small in (
      encode_text (giving x),
      said (giving x),
      0,
      text_bytes (giving x) readable short,
      text_names (encode_text (giving x)) (read_text_lem (giving x) readable refl short),
      inl refl,
    )

-- A SPARE SYMBOL
pub spare_symbol : (p : Problem) → Accepted p → (x : ℕ) × AllClean x (expressions p) × HasBytes (fresh x)
unfolding largest_problem first_wide
spare_symbol p a =
    let u = expressions p in
    let (x, small, out) = unused (length (symbols_in u)) (symbols_in u) (omega arith) in
    let b = symbols_weight u in
    let d = nameless_weight [] (named_expressions p) in
    let e = problem_weight p in
    let f : length (encode_problem p) ≤ 4096 = a.within.input in
    (x, unused_clean x u (accepted_proper p a).expression out, symbol_written x (omega arith))

-- How many choices with one place a face can have: the root alone, or any set of the nodes below it.
--   root_alone       only the first of suc m nodes
--   sets            it, and all sets of the m other nodes: 2^m + 1 (`one_more`)
--   choice_among    every choice is one of them
--   choices_most    so a face of n nodes has at most 2^(n-1) + 1 choices
use mathlib.Core.Path.{◌≡◌, refl, ap₂, sym, ◌∙◌}
use Prim.Native.Nat.{ℕ, zero, suc, ◌+◌, ◌^◌, ◌≤◌}
use mathlib.Core.List.Memᴰ
use mathlib.Core.List.{List, [], ◌∷◌, ◌++◌, map}
use mathlib.Core.Option.{none, some}
use native.Mathlib.Omega.{arith}
use lib.ListN.{length, length-append, length-map}
use lib.Seq.{take_all}
use Rattle.meaning.specs.Basics.{Distinct, ◌∈◌}
use Rattle.meaning.specs.Term.{Term, size}
use Rattle.meaning.specs.Choice.{Choice, Earlier, Mark, Marks}
use Rattle.meaning.specs.Choices.{all_marks, choices}
use Rattle.meaning.proofs.Lists.{distinct_within, mem_all, mem_at, mem_map}
use Rattle.meaning.proofs.Ordered.{Placed, all_marks_are, all_marks_ordered, earlier_strict, ordered_distinct}
use Rattle.meaning.proofs.ChoiceLaws.{choices_are, choices_once}
use Rattle.meaning.proofs.Punching.{blank}
use Rattle.meaning.proofs.Apart.{choice_clear}

abbrev pub root_alone : ℕ → Marks
root_alone m = some 0 ∷ blank m

abbrev sets : ℕ → List Marks
sets m = root_alone m ∷ map (λ ms. none ∷ ms) (all_marks 1 m)

pub all_marks_distinct : (m : ℕ) → Distinct (all_marks 1 m)
all_marks_distinct m = ordered_distinct Earlier earlier_strict (all_marks 1 m) (all_marks_ordered 1 m)

-- THEIR NUMBER
all_marks_count : (m : ℕ) → length (all_marks 1 m) ≡ 2 ^ m
all_marks_count zero = refl
all_marks_count (suc m) =
    let all : List Marks = all_marks 1 m in
    let first : List Marks = map (λ ms. some 0 ∷ ms) all in
    let second : List Marks = map (λ ms. none ∷ ms) all in
    let a = length-append first (second ++ []) in
    let b = length-append second [] in
    let c = length-map all (λ ms. some 0 ∷ ms) in
    let d = length-map all (λ ms. none ∷ ms) in
    omega (arith, all_marks_count m)

pub one_more : {A : Type 0} (x : A) (f : Marks → A) (m : ℕ) → length (x ∷ map f (all_marks 1 m)) ≡ 2 ^ m + 1
one_more x f m = omega (arith, length-map (all_marks 1 m) f, all_marks_count m)

-- EVERY CHOICE OF A FACE IS ONE OF THEM: below the root, if it is a hole, there is none
choice_among : (e : Term) (ms : Marks) → Choice 1 e ms → ms ∈ sets (size e.1)
choice_among e [] c = let l = c.long in absurd (omega arith)
choice_among e (none ∷ ms) c =
    let l = c.long in
    Memᴰ.tail (mem_map (λ ms. none ∷ ms) ((all_marks_are 1 (size e.1) ms).1 (omega arith, mem_all (Placed 1) ms placed)))
  where
    placed : (m : Mark) → m ∈ ms → Placed 1 m
    placed none q = tt
    placed (some i) q = let (k, at) = mem_at ms (some i) q in c.places (suc k) i at
choice_among e (some i ∷ ms) c =
    let l = c.long in
    let first : i ≡ 0 = let below = c.places 0 i refl in omega arith in
    let others : ms ≡ blank (size e.1) = sym (take_all (size e.1) ms (omega arith)) ∙ (choice_clear 1 e (some i ∷ ms) c).0 in
    Memᴰ.head (ap₂ (λ (j : ℕ) (ns : Marks). some j ∷ ns) first others)

pub choices_most : (e : Term) → length (choices 1 e) ≤ 2 ^ size e.1 + 1
choices_most e =
    let m = size e.1 in
    let few = distinct_within (choices 1 e) (sets m) (choices_once 1 e) (λ ms i. choice_among e ms ((choices_are 1 e ms).0 i)) in
    omega (arith, one_more (root_alone m) (λ ms. none ∷ ms) m)

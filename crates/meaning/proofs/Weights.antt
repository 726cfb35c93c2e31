-- How many bytes terms have, and how a walk shares them out.
--   weight    the number of bytes of a forest: it depends only on the kinds of the labels, so neither names nor binders above count
--   faced     the weight of what a face faces
--   slotted   the weight of the slot that faces it
use mathlib.Core.Path.{◌≡◌, refl, ap, sym, ◌∙◌, subst}
use Prim.Native.Nat.{ℕ, suc, ◌+◌, ◌*◌, ◌≤◌}
use mathlib.Core.List.{List, [], ◌∷◌, ◌++◌}
use mathlib.Core.Option.{some}
use native.Mathlib.Omega.{arith}
use lib.ListN.{length, length-append}
use lib.Dec.{T}
use Rattle.meaning.specs.Term.{Forest, nil, cons, one, size, trees, relabel, Own, symbol, variable, application, binder, Label, own}
use Rattle.meaning.specs.Term.{slot, metavariable, function, hole, Named, Variable, Nameless, Terms, Term, inner}
use Rattle.meaning.specs.Scope.{enter, nameless_label, nameless}
use Rattle.meaning.specs.Shift.{shift_label, with_variable}
use Rattle.meaning.specs.Equal.{see, view}
use Rattle.meaning.specs.Lower.{lower_term}
use Rattle.meaning.specs.Problem.{Problem, named_patterns, named_expressions}
use Rattle.meaning.specs.Face.{Face, agrees, walk}
use Rattle.meaning.specs.Field.{word, tag_of, symbol_bytes, fixed_part, field, encode, encode_constraint, encode_problem}
use Rattle.meaning.proofs.Lockstep.{agrees_eq}
use Rattle.meaning.proofs.ShiftLaws.{shift_lower_term}
use Rattle.meaning.proofs.ByteLaws.{field_length}
use Rattle.meaning.proofs.Nodes.{WalkedOwn, walked_own, WalkedSlot, walked_slot}
use Rattle.meaning.proofs.Sums.{total, total_append}
use Rattle.meaning.proofs.Lists.{never}

-- A field's tag, length and fixed part
abbrev pub label_weight : {X B : Type 0} → Label X B → ℕ
label_weight (own (symbol n)) = 3 + length (symbol_bytes n)
label_weight (own (variable x)) = 5
label_weight (own (application n)) = 3
label_weight (own (binder b x)) = 7
label_weight (slot (metavariable m)) = 4
label_weight (slot (function f n)) = 4
label_weight (slot (hole i)) = 3

abbrev pub weight : {X B : Type 0} → Forest (Label X B) → ℕ
weight nil = 0
weight (cons l c s) = label_weight l + weight c + weight s

fixed_weight : (l : Named) → 3 + length (fixed_part l) ≡ label_weight l
unfolding word
fixed_weight (own (symbol n)) = omega arith
fixed_weight (own (variable x)) = omega arith
fixed_weight (own (application n)) = omega arith
fixed_weight (own (binder b x)) = omega arith
fixed_weight (slot (metavariable m)) = omega arith
fixed_weight (slot (function f n)) = omega arith
fixed_weight (slot (hole i)) = omega arith

pub encode_weight : (u : Forest Named) → length (encode u) ≡ weight u
unfolding encode
encode_weight nil = refl
encode_weight (cons l c s) =
    let a = length-append (field (tag_of l) (fixed_part l ++ encode c)) (encode s) in
    let b = field_length (tag_of l) (fixed_part l ++ encode c) in
    let d = length-append (fixed_part l) (encode c) in
    let f = fixed_weight l in
    let g = encode_weight c in
    let h = encode_weight s in
    omega arith

-- Each term has the 3 bytes of its head
pub trees_weight : {X B : Type 0} (u : Forest (Label X B)) → 3 * trees u ≤ weight u
trees_weight nil = omega arith
trees_weight (cons l c s) = let a = label_most l in let r = trees_weight s in omega arith
  where
    label_most : {X B : Type 0} (l : Label X B) → 3 ≤ label_weight l
    label_most (own (symbol n)) = omega arith
    label_most (own (variable x)) = omega arith
    label_most (own (application n)) = omega arith
    label_most (own (binder b x)) = omega arith
    label_most (slot (metavariable m)) = omega arith
    label_most (slot (function f n)) = omega arith
    label_most (slot (hole i)) = omega arith

-- Labels of the same kind weigh the same
relabel_weight : {E X B Y D : Type 0} (into : Label X B → E → E) (f : E → Label X B → Label Y D)
    → ((e : E) (l : Label X B) → label_weight (f e l) ≡ label_weight l)
    → (e : E) (u : Forest (Label X B)) → weight (relabel into f e u) ≡ weight u
relabel_weight into f h e nil = refl
relabel_weight into f h e (cons l c s) =
    let a = h e l in
    let b = relabel_weight into f h (into l e) c in
    let d = relabel_weight into f h e s in
    omega arith

pub nameless_weight : (sc : List ℕ) (u : Forest Named) → weight (nameless sc u) ≡ weight u
nameless_weight sc u = relabel_weight enter nameless_label same sc u
  where
    same : (sc : List ℕ) (l : Named) → label_weight (nameless_label sc l) ≡ label_weight l
    same sc (own (symbol n)) = refl
    same sc (own (variable x)) = refl
    same sc (own (application n)) = refl
    same sc (own (binder b x)) = refl
    same sc (slot (metavariable m)) = refl
    same sc (slot (function f n)) = refl
    same sc (slot (hole i)) = refl

pub view_weight : {W : Type 0} (who : ℕ → W) (u : Terms) → weight (view who u) ≡ weight u
view_weight {W} who u = relabel_weight inner (λ k. with_variable (see who k)) same 0 u
  where
    same : (k : ℕ) (l : Nameless) → label_weight (with_variable (see who k) l) ≡ label_weight l
    same k (own (symbol m)) = refl
    same k (own (variable x)) = refl
    same k (own (application m)) = refl
    same k (own (binder b x)) = refl
    same k (slot (metavariable m)) = refl
    same k (slot (function f m)) = refl
    same k (slot (hole i)) = refl

pub lower_weight : (n : ℕ) (t u : Term) → lower_term n t ≡ some u → weight (one u) ≡ weight (one t)
lower_weight n t u e = sym (relabel_weight inner (shift_label n) same 0 (one u))
    ∙ ap (λ (x : Term). weight (one x)) (shift_lower_term n t u e)
  where
    same : (k : ℕ) (l : Nameless) → label_weight (shift_label n k l) ≡ label_weight l
    same k (own (symbol m)) = refl
    same k (own (variable x)) = refl
    same k (own (application m)) = refl
    same k (own (binder b x)) = refl
    same k (slot (metavariable m)) = refl
    same k (slot (function f m)) = refl
    same k (slot (hole i)) = refl

-- Walks
abbrev pub faced : Face → ℕ
faced x = weight (one x.term)

abbrev pub slotted : Face → ℕ
slotted x = weight (one (slot x.what, x.children))

agrees_weight : (o : Own Variable (Unit {0})) (l : Nameless) → T (agrees o l)
    → label_weight {X = Variable} {B = Unit {0}} (own o) ≡ label_weight l
agrees_weight o l t = ap (λ (x : Nameless). label_weight x) (agrees_eq o l t)

-- Outside its slots the pattern is the expression outside what they face
pub walk_weight : (k n : ℕ) (p e : Terms) (xs : List Face) → walk k n p e ≡ some xs
    → (weight p + total faced xs ≡ weight e + total slotted xs) × (total slotted xs ≤ weight p)
walk_weight k n nil nil xs q =
    let d : [] ≡ xs = cc in subst (λ (ys : List Face). (0 + total faced ys ≡ 0 + total slotted ys) × (total slotted ys ≤ 0)) d
    (refl, omega arith)
walk_weight k n nil (cons l c s) xs q = never (cc)
walk_weight k n (cons l c s) nil xs q = never (cc)
walk_weight k n (cons (own o) c s) (cons l' c' s') xs q =
    let w : WalkedOwn k n o c s (l', c') s' xs = walked_own k n o c s (l', c') s' xs q in
    let a = agrees_weight o l' w.agree in
    let x = walk_weight (inner (own o) k) (suc n) c c' w.inside w.are_inside in
    let y = walk_weight k (suc n + size c') s s' w.later w.are_later in
    let f = total_append faced w.inside w.later in
    let g = total_append slotted w.inside w.later in
    subst (λ (ys : List Face). (weight (cons (own o) c s) + total faced ys ≡ weight (cons l' c' s') + total slotted ys)
    × (total slotted ys ≤ weight (cons (own o) c s)))
    (sym w.whole) (omega arith, omega arith)
walk_weight k n (cons (slot z) c s) (cons l' c' s') xs q =
    let w : WalkedSlot k n z c s (l', c') s' xs = walked_slot k n z c s (l', c') s' xs q in
    let y = walk_weight k (suc n + size c') s s' w.later w.are_later in
    subst (λ (ys : List Face). (weight (cons (slot z) c s) + total faced ys ≡ weight (cons l' c' s') + total slotted ys)
    × (total slotted ys ≤ weight (cons (slot z) c s)))
    (sym w.whole) (omega arith, omega arith)

-- The bytes of a problem
pub problem_weight : (p : Problem) → weight (named_patterns p) + weight (named_expressions p) ≤ length (encode_problem p)
unfolding encode_problem encode_constraint
problem_weight [] = omega arith
problem_weight (c ∷ cs) =
    let a = length-append (encode_constraint c) (encode_problem cs) in
    let b = field_length 7 (encode (one c.pattern) ++ encode (one c.expression)) in
    let d = length-append (encode (one c.pattern)) (encode (one c.expression)) in
    let f = encode_weight (one c.pattern) in
    let g = encode_weight (one c.expression) in
    let r = problem_weight cs in
    omega arith

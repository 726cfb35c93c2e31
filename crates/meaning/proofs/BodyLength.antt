-- How long a body is in bytes: "equal subexpressions have equal lengths in bytes, so that a body is its face less the number of holes times
-- one hole's saving". A hole's own field has 3 bytes.
use mathlib.Core.Path.{◌≡◌, refl, ap, sym, ◌∙◌}
use mathlib.Core.Logic.{⊎_elim}
use Prim.Native.Nat.{ℕ, suc, ◌+◌, ◌-◌, ◌*◌, ◌≤◌}
use mathlib.Core.List.{List, [], ◌∷◌}
use mathlib.Core.Option.{none, some}
use native.Mathlib.Omega.{arith}
use lib.ListN.{length, drop, get_elem?, length-drop}
use Rattle.meaning.specs.Term.{Forest, nil, cons, Tree, one, size, Label, own, slot, NamedTerm, Term, Terms, IsExpression}
use Rattle.meaning.specs.Scope.{enter, nameless_label, nameless_term}
use Rattle.meaning.specs.Equal.{View, view}
use Rattle.meaning.specs.Choice.{Marks, Owner, owner_of, views_from, views, Choice, punch, punch_term, set_size, holes_in}
use Rattle.meaning.specs.Choice as choices
use Rattle.meaning.specs.Field.{encode}
use Rattle.meaning.proofs.Lists.{at_append, at_drop}
use Rattle.meaning.proofs.ChoiceLaws.{length_views, at_other}
use Rattle.meaning.proofs.BodyChoice.{holes_are_set}
use Rattle.meaning.proofs.RowBodies.{punch_one}
use Rattle.meaning.proofs.Nodes.{Stands, here, below, beside, stands_size, relabel_stands, punch_names}
use Rattle.meaning.proofs.Weights.{weight, encode_weight, trees_weight, nameless_weight, view_weight}

-- Where each marked node has x bytes more than a hole, a hole saves x bytes
punched_weight : {X B : Type 0} (x : ℕ) (ms : Marks) (u : Forest (Label X B)) → IsExpression u → size u ≤ length ms
    → ((k i : ℕ) (t : Tree (Label X B)) → get_elem? ms k ≡ some (some i) → Stands k u t → weight (one t) ≡ 3 + x)
    → weight (punch ms u) + holes_in (punch ms u) * x ≡ weight u
punched_weight x ms nil e h f = omega arith
punched_weight x ms (cons (slot z) c s) e h f = absurd e.0
punched_weight x [] (cons (own o) c s) e h f = absurd (omega arith)
punched_weight x (none ∷ ms) (cons (own o) c s) e h f =
    let a = punched_weight x ms c e.1 (omega arith) (λ k i t m d. f (suc k) i t m (below d)) in
    let b =
    punched_weight x (drop (size c) ms) s e.2 (rw length-drop (omega arith))
    (λ k i t m d. f (suc (size c + k)) i t (sym (at_drop (size c) ms k) ∙ m) (beside d refl)) in
    omega arith
punched_weight x (some j ∷ ms) (cons (own o) c s) e h f =
    let a = f 0 j (own o, c) refl here in
    let b =
    punched_weight x (drop (size c) ms) s e.2 (rw length-drop (omega arith))
    (λ k i t m d. f (suc (size c + k)) i t (sym (at_drop (size c) ms k) ∙ m) (beside d refl)) in
    omega arith

-- A node's view has as many bytes as the node's subexpression
seen_weight : {k : ℕ} {u : Terms} {t : Term} → Stands k u t → (bs : List ℕ) (n : ℕ) (v : View Owner) → get_elem? (views_from bs n u) k ≡ some v
    → weight v ≡ weight (one t)
seen_weight (here {l} {c}) bs n v e =
    let q : view (owner_of bs) (one (l, c)) ≡ v = cc in
    ap (λ (w : View Owner). weight w) (sym q) ∙ view_weight (owner_of bs) (one (l, c))
seen_weight (below {l} {c} {s} {n = k} d) bs n v e =
    ⊎_elim (λ r. seen_weight d (choices.below n l bs) (suc n) v r.1)
    (λ r. let z = r.1 in absurd (omega (arith, stands_size d, length_views (choices.below n l bs) (suc n) c)))
    (at_append (views_from (choices.below n l bs) (suc n) c) (views_from bs (suc n + size c) s) k v e)
seen_weight (beside {l} {c} {s} {n = k} d q) bs n v e =
    let m = length_views (choices.below n l bs) (suc n) c in
    ⊎_elim (λ r. let z = r.0 in absurd (omega arith))
    (λ r. let z = r.1 in let same : r.0 ≡ k = omega arith in
    seen_weight d bs (suc n + size c) v (ap (get_elem? (views_from bs (suc n + size c) s)) (sym same) ∙ r.2))
    (at_append (views_from (choices.below n l bs) (suc n) c) (views_from bs (suc n + size c) s) (size c + k) v
    (ap (get_elem? (views_from bs n (cons l c s))) (sym q) ∙ e))

-- THE NODES OF A CHOICE HAVE EQUAL LENGTHS IN BYTES
equal_weights : (face : Term) (ms : Marks) → Choice 1 face ms → (j k g h : ℕ) (t u : Term) → get_elem? ms j ≡ some (some g)
    → get_elem? ms k ≡ some (some h)
    → Stands j (one face) t → Stands k (one face) u → weight (one t) ≡ weight (one u)
equal_weights face ms c j k g h t u a b p q =
    let same : g ≡ h = let x = c.places j g a in let y = c.places k h b in omega arith in
    let (v, e) = at_other ms (views face) j (some g) (c.long ∙ sym (length_views [] 0 (one face))) a in
    let d = c.equal j k h (a ∙ ap (λ (i : ℕ). some (some i)) same) b in
    sym (seen_weight p [] 0 v e) ∙ seen_weight q [] 0 v (sym d ∙ e)

-- A BODY IS ITS FACE LESS THE NUMBER OF HOLES TIMES ONE HOLE'S SAVING. The face t stands in a scope, and v at a node that becomes a hole
pub body_length : (scope : List ℕ) (t : NamedTerm) (ms : Marks) → IsExpression (one (nameless_term scope t))
    → Choice 1 (nameless_term scope t) ms → (j i : ℕ) (v : NamedTerm) → get_elem? ms j ≡ some (some i) → Stands j (one t) v
    → length (encode (one (punch_term ms t))) + set_size ms * (length (encode (one v)) - 3) ≡ length (encode (one t))
body_length scope t ms is_face c j i v m e =
    let x : ℕ = weight (one v) - 3 in
    let (sc, at) = relabel_stands enter nameless_label e scope in
    let long : weight (one v) ≡ 3 + x = omega (arith, trees_weight (one v)) in
    let body =
    punched_weight x ms (one face) is_face (omega (arith, c.long))
    (λ k h u n d. equal_weights face ms c k j h i u (nameless_term sc v) n m d at ∙ nameless_weight sc (one v) ∙ long) in
    let names : weight (punch ms (one face)) ≡ length (encode (one (punch_term ms t))) =
    ap (λ (w : Terms). weight w) (sym (punch_one ms face)) ∙ ap (λ (w : Term). weight (one w)) (punch_names ms scope t)
    ∙ nameless_weight scope (one (punch_term ms t)) ∙ sym (encode_weight (one (punch_term ms t))) in
    let holes : holes_in (punch ms (one face)) * x ≡ set_size ms * (length (encode (one v)) - 3) =
    ap (λ (n : ℕ). n * x) (holes_are_set 1 face ms is_face c) ∙ ap (λ (n : ℕ). set_size ms * (n - 3)) (sym (encode_weight (one v))) in
    omega (arith, body, names, holes, nameless_weight scope (one t), encode_weight (one t))
  where
    face : Term
    face = nameless_term scope t

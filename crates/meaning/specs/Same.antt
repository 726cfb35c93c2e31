-- Tests of equality. Each is yes exactly for equals (`same_terms_eq`, `same_terms_refl` and their like in proofs/Alike), so that nobody has
-- to believe them.
--   alike       two forests alike in shape and in each label, by a test of labels
--   same_terms   two nameless forests; same_view, two views
--   all_alike    two lists alike in length and element by element, by a test of elements
use Rattle.std.specs.Prelude.{Bool, true, false, ◌&&◌, List, [], ◌∷◌, eqb}
use Rattle.meaning.specs.Term.{Forest, Label, Own, Slot, Terms, Variable, application, binder, bound, cons, free, function, hole}
use Rattle.meaning.specs.Term.{metavariable, nil, own, slot, symbol, variable}
use Rattle.meaning.specs.Equal.{Seen, View, inside, outside, seen_free}

-- Two forests alike in shape and in each label, by a test of labels
abbrev pub alike : {L : Type 0} → (L → L → Bool) → Forest L → Forest L → Bool
alike same nil nil = true
alike same nil (cons l c s) = false
alike same (cons l c s) nil = false
alike same (cons l c s) (cons l' c' s') = same l l' && (alike same c c' && alike same s s')

abbrev pub all_alike : {L M : Type 0} → (L → M → Bool) → List L → List M → Bool
all_alike same [] [] = true
all_alike same [] (y ∷ ys) = false
all_alike same (x ∷ xs) [] = false
all_alike same (x ∷ xs) (y ∷ ys) = same x y && all_alike same xs ys

-- Tests: each label has a kind and two numbers at most
abbrev pub same_slot : Slot → Slot → Bool
same_slot (metavariable m) (metavariable n) = eqb m n
same_slot (metavariable m) (function n b) = false
same_slot (metavariable m) (hole n) = false
same_slot (function m a) (metavariable n) = false
same_slot (function m a) (function n b) = eqb m n && eqb a b
same_slot (function m a) (hole n) = false
same_slot (hole m) (metavariable n) = false
same_slot (hole m) (function n b) = false
same_slot (hole m) (hole n) = eqb m n

abbrev pub same_own : {X B : Type 0} → (X → X → Bool) → Own X B → Own X B → Bool
same_own same (symbol m) (symbol n) = eqb m n
same_own same (symbol m) (variable w) = false
same_own same (symbol m) (application n) = false
same_own same (symbol m) (binder n y) = false
same_own same (variable v) (symbol n) = false
same_own same (variable v) (variable w) = same v w
same_own same (variable v) (application n) = false
same_own same (variable v) (binder n y) = false
same_own same (application m) (symbol n) = false
same_own same (application m) (variable w) = false
same_own same (application m) (application n) = eqb m n
same_own same (application m) (binder n y) = false
same_own same (binder m x) (symbol n) = false
same_own same (binder m x) (variable w) = false
same_own same (binder m x) (application n) = false
same_own same (binder m x) (binder n y) = eqb m n

abbrev pub same_label : {X B : Type 0} → (X → X → Bool) → Label X B → Label X B → Bool
same_label same (own o) (own p) = same_own same o p
same_label same (own o) (slot z) = false
same_label same (slot z) (own o) = false
same_label same (slot z) (slot y) = same_slot z y

abbrev pub same_variable : Variable → Variable → Bool
same_variable (free x) (free y) = eqb x y
same_variable (free x) (bound j) = false
same_variable (bound i) (free y) = false
same_variable (bound i) (bound j) = eqb i j

abbrev pub same_seen : {W : Type 0} → (W → W → Bool) → Seen W → Seen W → Bool
same_seen same (seen_free x) (seen_free y) = eqb x y
same_seen same (seen_free x) (inside j) = false
same_seen same (seen_free x) (outside w) = false
same_seen same (inside i) (seen_free y) = false
same_seen same (inside i) (inside j) = eqb i j
same_seen same (inside i) (outside w) = false
same_seen same (outside v) (seen_free y) = false
same_seen same (outside v) (inside j) = false
same_seen same (outside v) (outside w) = same v w

abbrev pub same_terms : Terms → Terms → Bool
same_terms u v = alike (same_label same_variable) u v

abbrev pub same_view : {W : Type 0} → (W → W → Bool) → View W → View W → Bool
same_view same u v = alike (same_label (same_seen same)) u v

-- What is known of a problem's k-th function in a row: its face and its mask, and whether its body is closed.
--   FunctionAt   the node of its face, its choice, and the mask of that choice
use mathlib.Core.Path.{◌≡◌, refl, ap, ap₂, sym, ◌∙◌, subst}
use mathlib.Core.Logic.{◌↔◌}
use mathlib.Core.Bool.{true}
use mathlib.Core.List.{List, [], ◌∷◌}
use mathlib.Core.Option.{some}
use Prim.Native.Nat.{ℕ, zero, suc, ◌<◌, ◌≤◌}
use native.Mathlib.Omega.{arith}
use lib.ListN.{length, get_elem?}
use lib.Seq.{length-take-le, get_or-take}
use Rattle.meaning.specs.Limits.{max_functions, max_face_nodes}
use Rattle.meaning.specs.Basics.{is_some, ◌∈◌}
use Rattle.meaning.specs.Term.{one, size, node_at}
use Rattle.meaning.specs.Problem.{Problem, expressions, functions}
use Rattle.meaning.specs.Shift.{ClosedTerm}
use Rattle.meaning.specs.Face.{Face}
use Rattle.meaning.specs.Choice.{Choice, Marks}
use Rattle.meaning.specs.Row.{Row, IsRow, face_of, choice_in, row_body}
use Rattle.meaning.specs.Rows.{rows}
use Rattle.meaning.specs.PlaceValue.{mask_of, masks_of}
use Rattle.meaning.proofs.Lists.{T_true, true_T, and_T, T_and, at_mem, mem_at}
use Rattle.meaning.proofs.Proper.{one_place, functions_applied}
use Rattle.meaning.proofs.RowBodies.{choice_in_lem}
use Rattle.meaning.proofs.ChoiceLaws.{rows_are}
use Rattle.meaning.proofs.PlaceLaws.{masks_long, small_faces}
use Rattle.tokens.specs.Token.{pattern_tokens, expression_tokens}
use Rattle.tokens.specs.Key.{at}
use Rattle.numbers.specs.Tests.{Tests, Tells}
use Rattle.faces.specs.First.{listed}
use Rattle.faces.specs.Verdict.{FirstsAt}
use Rattle.faces.specs.declared.first.Firsts.{Firsts}
use Rattle.bodies.specs.BodyClosed.{body_closed_at}
use Rattle.bodies.proofs.BodyMeaning.{body_closed_means}
use Rattle.fit.specs.Judging.{bodies_closed}
use Rattle.fit.specs.Laid.{Laid}
use Rattle.fit.proofs.Ranks.{first_at_lem, choice_mask}

-- All bodies, by their places
closed_at : (es js ms : List ℕ) → bodies_closed es js ms ≡ true → (k : ℕ) → k < length js → k < length ms
    → body_closed_at es (at js k) (at ms k) ≡ true
unfolding bodies_closed
closed_at es [] ms e k h g = absurd (omega arith)
closed_at es (j ∷ js) [] e k h g = absurd (omega arith)
closed_at es (j ∷ js) (m ∷ ms) e zero h g = T_true (and_T (body_closed_at es j m) (bodies_closed es js ms) (true_T e)).0
closed_at es (j ∷ js) (m ∷ ms) e (suc k) h g =
    closed_at es js ms (T_true (and_T (body_closed_at es j m) (bodies_closed es js ms) (true_T e)).1) k (omega arith) (omega arith)

all_closed : (es js ms : List ℕ) → ((k : ℕ) → k < length js → body_closed_at es (at js k) (at ms k) ≡ true) → bodies_closed es js ms ≡ true
unfolding bodies_closed
all_closed es [] ms f = refl
all_closed es (j ∷ js) [] f = refl
all_closed es (j ∷ js) (m ∷ ms) f =
    T_true (T_and (body_closed_at es j m) (bodies_closed es js ms) (true_T (f 0 (omega arith)))
    (true_T (all_closed es js ms (λ k h. f (suc k) (omega arith)))))

-- There is a function for each node
pub function_of : (p : Problem) (xs : List Face) (fs js : List ℕ) (k : ℕ) → FirstsAt p xs fs js → k < length js
    → (f : ℕ) × (get_elem? fs k ≡ some f)
function_of p xs [] [] k r h = absurd (omega arith)
function_of p xs [] (j ∷ js) k r h = absurd r
function_of p xs (f ∷ fs) [] k r h = absurd r
function_of p xs (f ∷ fs) (j ∷ js) zero r h = (f, refl)
function_of p xs (f ∷ fs) (j ∷ js) (suc k) r h = function_of p xs fs js k r.1 (omega arith)

-- What is laid out, over the tables of the problem
pub laid_own : (p : Problem) (q : Tests) (ps es ns : List ℕ) (s : ℕ) (firsts : Firsts) → Laid p q ps es ns s firsts
    → Laid p q (pattern_tokens p) (expression_tokens p) ns s firsts
laid_own p q ps es ns s firsts l = record {
  accepted = l.accepted;
  patterns = refl;
  expressions = refl;
  tells = subst (λ (t : List ℕ). Tells t q) l.expressions l.tells;
  found = l.found;
  agree = l.agree;
  recorded = l.recorded;
  set = l.set;
  fits = l.fits;
  nodes = l.nodes;
}

pub record FunctionAt (p : Problem) (firsts : Firsts) (row : List ℕ) (ms : Marks) (k f : ℕ) : Type 0 where
  pub place : k < firsts.count
  pub few : k < max_functions
  pub face : node_at (at firsts.nodes k) (expressions p) ≡ some (face_of p f)
  pub choice : Choice 1 (face_of p f) ms
  pub small : size (one (face_of p f)) ≤ max_face_nodes
  pub mask : at row k ≡ mask_of max_face_nodes ms

module _ (p : Problem) (q : Tests) (ns : List ℕ) (s : ℕ) (firsts : Firsts)
    (l : Laid p q (pattern_tokens p) (expression_tokens p) ns s firsts) where
  pub listed_long : length (listed firsts) ≡ firsts.count
  listed_long = length-take-le firsts.count firsts.nodes (omega (arith, l.fits.array, l.fits.count))

  module _ (r : Row) (i : r ∈ rows p) where
    is_row : IsRow p r
    is_row = (rows_are p r).0 i

    pub row_masks : length (masks_of r) ≡ max_functions
    row_masks = masks_long p r l.accepted is_row

    -- THE k-TH FUNCTION
    pub function_at : (k f : ℕ) → get_elem? (functions p) k ≡ some f → FunctionAt p firsts (masks_of r) (choice_in (functions p) r f) k f
    unfolding max_functions
    function_at k f e =
        let m : f ∈ functions p = at_mem (functions p) k f e in
        let (first, small) = first_at_lem p l.found (functions p) (listed firsts) k f l.nodes e in
        let place : k < firsts.count = omega (arith, listed_long) in
        record {
          place = place;
          few = omega (arith, l.fits.count);
          face = ap (λ (j : ℕ). node_at j (expressions p)) (sym (get_or-take firsts.count firsts.nodes k 0 place)) ∙ first.term;
          choice =
              subst (λ (n : ℕ). Choice n (face_of p f) (choice_in (functions p) r f))
              (one_place p l.accepted.within f (functions_applied p f m))
              (choice_in_lem p (functions p) r is_row.choice f m);
          small = small_faces p l.accepted (ap is_some l.agree) f m;
          mask = choice_mask p r k f is_row.choice e;
        }

    body_at : (k f : ℕ) → get_elem? (functions p) k ≡ some f
        → (body_closed_at (expression_tokens p) (at (listed firsts) k) (at (masks_of r) k) ≡ true) ↔ ClosedTerm (row_body p r f)
    unfolding row_body
    body_at k f e =
        let a = function_at k f e in
        let ms : Marks = choice_in (functions p) r f in
        let b =
        body_closed_means p l.accepted.within (at firsts.nodes k) (face_of p f) a.face ms
        (omega (arith, a.choice.long, a.small)) in
        let same : body_closed_at (expression_tokens p) (at (listed firsts) k) (at (masks_of r) k)
        ≡ body_closed_at (expression_tokens p) (at firsts.nodes k) (mask_of max_face_nodes ms) =
        ap₂ (body_closed_at (expression_tokens p)) (get_or-take firsts.count firsts.nodes k 0 a.place) a.mask in
        (λ q. b.0 (sym same ∙ q), λ q. same ∙ b.1 q)

    -- THE BODIES ARE CLOSED
    pub bodies_closed_in : bodies_closed (expression_tokens p) (listed firsts) (masks_of r) ≡ true → (f : ℕ) → f ∈ functions p
        → ClosedTerm (row_body p r f)
    unfolding max_functions
    bodies_closed_in q f m =
        let (k, e) = mem_at (functions p) f m in
        let a = function_at k f e in
        (body_at k f e).0
        (closed_at (expression_tokens p) (listed firsts) (masks_of r) q k (omega (arith, a.place, listed_long))
        (omega (arith, a.few, row_masks)))

    pub bodies_closed_out : ((f : ℕ) → f ∈ functions p → ClosedTerm (row_body p r f))
        → bodies_closed (expression_tokens p) (listed firsts) (masks_of r) ≡ true
    bodies_closed_out c =
        all_closed (expression_tokens p) (listed firsts) (masks_of r)
        (λ k h. let (f, e) = function_of p l.found (functions p) (listed firsts) k l.nodes h in (body_at k f e).1
        (c f (at_mem (functions p) k f e)))

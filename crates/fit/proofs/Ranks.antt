-- The functions in ascending order: at a function's rank stand its first face and the mask of its choice.
use mathlib.Core.Path.{◌≡◌, ap, sym, ◌∙◌, subst}
use mathlib.Core.Bool.{Bool, true, false}
use mathlib.Core.List.{List, [], ◌∷◌, ◌++◌, map}
use mathlib.Core.Option.{some}
use Prim.Native.Nat.{ℕ, zero, suc, ◌+◌, ◌<◌}
use native.Mathlib.Omega.{arith}
use lib.ListN.{length, get_elem?}
use lib.Dec.{eqb}
use Rattle.meaning.specs.Limits.{max_face_nodes, metavariable_count}
use Rattle.meaning.specs.Basics.{choose, keep, count_from, up_to, ◌∈◌, Distinct}
use Rattle.meaning.specs.Problem.{Problem, functions}
use Rattle.meaning.specs.Face.{Face}
use Rattle.meaning.specs.Row.{Row, ChoiceEach, choice_in}
use Rattle.meaning.specs.PlaceValue.{mask_of, masks_of}
use Rattle.meaning.proofs.Lists.{never, choose_true, choose_false, eqb_self, eqb_other, at_mem, keep_mem, up_to_mem, keep_distinct}
use Rattle.meaning.proofs.Lists.{distinct_count_from}
use Rattle.tokens.specs.Key.{at}
use Rattle.metavariables.specs.Survey.{has, count}
use Rattle.faces.specs.Verdict.{FirstAt, FirstsAt}

-- Of the numbers that pass a test, the one at k + i stands where those before it end
kept_at : (p : ℕ → Bool) (k n i f : ℕ) → f ≡ k + i → i < n → p f ≡ true
    → get_elem? (keep p (count_from k n)) (length (keep p (count_from k i))) ≡ some f
kept_at p k zero i f e h t = absurd (omega arith)
kept_at p k (suc n) zero f e h t =
    let z : k ≡ f = omega arith in
    ap (λ (l : List ℕ). get_elem? l 0) (choose_true _ _ (ap p z ∙ t)) ∙ ap some z
kept_at p k (suc n) (suc i) f e h t = go (p k) (kept_at p (suc k) n i f (omega arith) (omega arith) t)
  where
    go : (b : Bool) → get_elem? (keep p (count_from (suc k) n)) (length (keep p (count_from (suc k) i))) ≡ some f
        → get_elem? (choose b (k ∷ keep p (count_from (suc k) n)) (keep p (count_from (suc k) n)))
        (length (choose b (k ∷ keep p (count_from (suc k) i)) (keep p (count_from (suc k) i)))) ≡ some f
    go true q = q
    go false q = q

-- What stands at place k, where f is the k-th function
pub first_at_lem : (p : Problem) (xs : List Face) (fs js : List ℕ) (k f : ℕ) → FirstsAt p xs fs js → get_elem? fs k ≡ some f
    → FirstAt p xs f (at js k) × (k < length js)
first_at_lem p xs [] js k f r e = never (cc)
first_at_lem p xs (g ∷ fs) [] k f r e = absurd r
first_at_lem p xs (g ∷ fs) (j ∷ js) zero f r e = (subst (λ (x : ℕ). FirstAt p xs x j) (let q : g ≡ f = cc in q) r.0, omega arith)
first_at_lem p xs (g ∷ fs) (j ∷ js) (suc k) f r e = let (a, h) = first_at_lem p xs fs js k f r.1 e in (a, omega arith)

mask_at : (p : Problem) (fs : List ℕ) (r : Row) (tail : List ℕ) (k f : ℕ) → ChoiceEach p fs r → Distinct fs → get_elem? fs k ≡ some f
    → at (map (mask_of max_face_nodes) r ++ tail) k ≡ mask_of max_face_nodes (choice_in fs r f)
mask_at p [] r tail k f c d e = never (cc)
mask_at p (g ∷ fs) [] tail k f c d e = absurd c
mask_at p (g ∷ fs) (m ∷ r) tail zero f c d e =
    let q : f ≡ g = cc in ap (mask_of max_face_nodes) (sym (choose_true m (choice_in fs r f) (ap (eqb f) (sym q) ∙ eqb_self f)))
mask_at p (g ∷ fs) (m ∷ r) tail (suc k) f c d e =
    mask_at p fs r tail k f c.1 d.1 e
    ∙ ap (mask_of max_face_nodes)
    (sym (choose_false m (choice_in fs r f) (eqb_other f g (λ q. d.0 (subst (λ (x : ℕ). x ∈ fs) q (at_mem fs k f e))))))

module _ (p : Problem) where
  functions_distinct : Distinct (functions p)
  unfolding functions
  functions_distinct = keep_distinct _ (up_to metavariable_count) (distinct_count_from 0 metavariable_count)

  pub choice_mask : (r : Row) (k f : ℕ) → ChoiceEach p (functions p) r → get_elem? (functions p) k ≡ some f
      → at (masks_of r) k ≡ mask_of max_face_nodes (choice_in (functions p) r f)
  unfolding masks_of
  choice_mask r k f c e = mask_at p (functions p) r _ k f c functions_distinct e

  -- THE RANK of a function, among the functions as a set
  pub rank_at_lem : (s : ℕ) → keep (has s) (up_to metavariable_count) ≡ functions p → (f : ℕ) → f ∈ functions p
      → get_elem? (functions p) (count f s) ≡ some f
  unfolding count
  rank_at_lem s e f m =
      let (i, t) = keep_mem (has s) f (up_to metavariable_count) (subst (λ (l : List ℕ). f ∈ l) (sym e) m) in
      ap (λ (l : List ℕ). get_elem? l (length (keep (has s) (up_to f)))) (sym e)
      ∙ kept_at (has s) 0 metavariable_count f f (omega arith) (up_to_mem metavariable_count f i) t

-- The faces of a problem: with the nodes of its functions' first faces, which the crate `faces` finds, the code can go through them.
use mathlib.Core.Path.{◌≡◌, refl, ap, sym, ◌∙◌, subst}
use mathlib.Core.List.{List, [], ◌∷◌}
use mathlib.Core.Option.{some}
use Prim.Native.Nat.{ℕ, zero, suc, ◌≤◌, ◌<◌}
use native.Mathlib.Omega.{arith}
use lib.ListN.{length, take, get_elem?}
use lib.Seq.{get_or-take, length-take-le}
use Rattle.meaning.specs.Limits.{max_functions}
use Rattle.meaning.specs.Basics.{is_some}
use Rattle.meaning.specs.Problem.{Problem, functions}
use Rattle.meaning.specs.Face.{Face, faces}
use Rattle.meaning.specs.Row.{face_of}
use Rattle.meaning.specs.Readable.{Accepted}
use Rattle.meaning.proofs.Lists.{never, at_mem}
use Rattle.meaning.proofs.PlaceLaws.{small_faces}
use Rattle.tokens.specs.Token.{expression_tokens}
use Rattle.tokens.specs.Key.{at}
use Rattle.faces.specs.Verdict.{FirstAt, FirstsAt}
use Rattle.faces.proofs.NodeTokens.{expression_node_lem}
use Rattle.choosing.specs.FaceNodes.{FaceAt, Faces, Whole}
use Rattle.choosing.proofs.Lists.{at_low, low_at}
use Rattle.choosing.proofs.FaceNodes.{face_whole}

firsts_length : (p : Problem) (xs : List Face) (fs js : List ℕ) → FirstsAt p xs fs js → length fs ≡ length js
firsts_length p xs [] [] h = refl
firsts_length p xs [] (j ∷ js) h = absurd h
firsts_length p xs (f ∷ fs) [] h = absurd h
firsts_length p xs (f ∷ fs) (j ∷ js) h = ap suc (firsts_length p xs fs js h.1)

firsts_at : (p : Problem) (xs : List Face) (fs js : List ℕ) → FirstsAt p xs fs js → (k f : ℕ) → get_elem? fs k ≡ some f
    → FirstAt p xs f (at js k)
firsts_at p xs [] js h k f e = never (cc)
firsts_at p xs (g ∷ fs) [] h k f e = absurd h
firsts_at p xs (g ∷ fs) (j ∷ js) h zero f e = let w : g ≡ f = cc in subst (λ (x : ℕ). FirstAt p xs x j) w h.0
firsts_at p xs (g ∷ fs) (j ∷ js) h (suc k) f e = firsts_at p xs fs js h.1 k f e

module _ (p : Problem) (a : Accepted p) (xs : List Face) (agree : faces p ≡ some xs) (nodes : List ℕ) (count : ℕ)
    (few : count ≤ max_functions) (room : length nodes ≡ max_functions) (firsts : FirstsAt p xs (functions p) (take count nodes)) where
  pub functions_counted : length (functions p) ≡ count
  functions_counted = firsts_length p xs (functions p) (take count nodes) firsts ∙ length-take-le count nodes (omega arith)

  first : (k f : ℕ) → get_elem? (functions p) k ≡ some f → FirstAt p xs f (at nodes k)
  first k f e =
      let h : k < count = subst (λ (n : ℕ). k < n) functions_counted (at_low (functions p) k f e) in
      subst (FirstAt p xs f) (get_or-take count nodes k 0 h) (firsts_at p xs (functions p) (take count nodes) firsts k f e)

  -- The function's face stands at the node
  pub face_at_lem : (k f : ℕ) → get_elem? (functions p) k ≡ some f → FaceAt (expression_tokens p) (at nodes k) (face_of p f)
  face_at_lem k f e =
      let n = expression_node_lem p a.within (at nodes k) (face_of p f) (first k f e).term in
      record {
        levels = n.levels;
        ctx = n.context;
        scope = n.scope;
        named = n.named;
        held = n.held;
        stands = n.stands;
        is = sym n.term;
      }

  -- THE CODE CAN GO THROUGH THEM
  pub problem_faces : Faces (expression_tokens p) nodes count
  problem_faces =
      record { few = few; whole = λ k h. whole k (low_at (functions p) k (subst (λ (n : ℕ). k < n) (sym functions_counted) h)) }
    where
      whole : (k : ℕ) → (f : ℕ) × (get_elem? (functions p) k ≡ some f) → Whole (expression_tokens p) (at nodes k)
      whole k e =
          face_whole (expression_tokens p) (at nodes k) (face_of p e.0) (face_at_lem k e.0 e.1)
          (small_faces p a (ap is_some agree) e.0 (at_mem (functions p) k e.0 e.1))

-- What the first faces that the code finds mean: `meaning`'s faces of functions, and its limit of their nodes.
use mathlib.Core.Path.{◌≡◌, refl, ap, ap₂, sym, ◌∙◌, subst}
use mathlib.Core.Bool.{Bool, true, false, ◌&&◌, ◌||◌, not}
use mathlib.Core.List.Memᴰ
use mathlib.Core.List.{List, [], ◌∷◌, map}
use mathlib.Core.Option.{Option, none, some}
use Prim.Native.Nat.{ℕ}
use native.Mathlib.Omega.{arith}
use lib.ListN.{length}
use lib.Dec.{ltb}
use borrow.Author.Tests.{lt-ltb, le-ltb}
use Rattle.meaning.specs.Limits.{max_face_nodes}
use Rattle.meaning.specs.Basics.{choose, every, or_none, ◌∈◌}
use Rattle.meaning.specs.Term.{one, size, node_at, slot, Term, IsExpression}
use Rattle.meaning.specs.Problem.{Problem, patterns, expressions, functions}
use Rattle.meaning.specs.Face.{Face, faces, is_application, first_face}
use Rattle.meaning.specs.Row.{face_term, face_of}
use Rattle.meaning.specs.Readable.{WithinLimits, Accepted}
use Rattle.meaning.proofs.Proper.{accepted_proper, functions_applied}
use Rattle.meaning.proofs.RowBodies.{face_expression}
use Rattle.tokens.specs.Token.{depth_in, size_in, pattern_tokens, expression_tokens}
use Rattle.tokens.specs.Key.{at}
use Rattle.lockstep.specs.Walk.{pattern_node, expression_node}
use Rattle.lockstep.specs.Recorded.{Records, Both}
use Rattle.faces.specs.Recorded.{Recorded}
use Rattle.metavariables.specs.declared.Occurring.{Occurring}
use Rattle.faces.specs.declared.first.Firsts.{Firsts}
use Rattle.metavariables.specs.Survey.{Surveyed}
use Rattle.faces.specs.First.{applies, first_in, absent, node_or, first_node, firsts_of, listed, Listed, large, any_large}
use Rattle.faces.specs.Verdict.{FirstAt, FirstsAt}
use Rattle.tokens.proofs.ProblemTokens.{expression_table_lem}
use Rattle.faces.proofs.NodeTokens.{node_inside, node_size, node_applies, pattern_node_lem, expression_node_lem}
use Rattle.metavariables.proofs.SurveyMeaning.{kept_functions}

-- A node found on the table against a face
pub record Meets (p : Problem) (j : ℕ) (x : Face) : Type 0 where
  pub node : j ≡ x.node
  pub term : node_at j (expressions p) ≡ some x.term

module _ (p : Problem) (w : WithinLimits p) where
  applies_means : (f n : ℕ) (x : Face)
      → Records (λ i. node_at i (patterns p)) (λ j. node_at j (expressions p)) (λ i. depth_in (at (pattern_tokens p) i)) n x
      → applies (pattern_tokens p) f n ≡ is_application f x.what
  unfolding applies
  applies_means f n x r =
      node_applies (pattern_tokens p) (pattern_node n) x.what x.children f
      (pattern_node_lem p w (pattern_node n) (slot x.what, x.children) r.slots)

  -- The first face on the table is the first face
  first_means : (f : ℕ) (ns : List ℕ) (xs : List Face) → Recorded p ns xs → Both (Meets p) (first_in (pattern_tokens p) f ns) (first_face f xs)
  unfolding first_in
  first_means f [] [] r = tt
  first_means f [] (x ∷ xs) r = absurd r
  first_means f (n ∷ ns) [] r = absurd r
  first_means f (n ∷ ns) (x ∷ xs) r =
      go (applies (pattern_tokens p) f n) (is_application f x.what) (applies_means f n x r.0) (first_means f ns xs r.1)
    where
      here : Meets p (expression_node n) x
      here = record { node = r.0.node; term = ap (λ (j : ℕ). node_at j (expressions p)) r.0.node ∙ r.0.term }

      go : (a b : Bool) → a ≡ b → Both (Meets p) (first_in (pattern_tokens p) f ns) (first_face f xs)
          → Both (Meets p) (choose a (some (expression_node n)) (first_in (pattern_tokens p) f ns)) (choose b (some x) (first_face f xs))
      go true true e ih = here
      go true false e ih = absurd (let z : ◌≡◌ {A = ℕ} 0 1 = cc in omega arith)
      go false true e ih = absurd (let z : ◌≡◌ {A = ℕ} 0 1 = cc in omega arith)
      go false false e ih = ih

  -- 14 for one function
  large_one : (f : ℕ) (o : Option ℕ) (x : Option Face) → Both (Meets p) o x
      → large (expression_tokens p) (node_or o) ≡ ltb max_face_nodes (size (one (face_term x f)))
  unfolding large max_face_nodes
  large_one f none none r = ap (λ (b : Bool). b && ltb max_face_nodes (size_in (at (expression_tokens p) absent)))
      (le-ltb absent (length (expression_tokens p)) (expression_table_lem p w).small)
  large_one f none (some x) r = absurd r
  large_one f (some j) none r = absurd r
  large_one f (some j) (some x) r =
      let n = expression_node_lem p w j x.term r.term in
      ap₂ (λ (b : Bool) (m : ℕ). b && ltb max_face_nodes m)
      (lt-ltb j (length (expression_tokens p)) (node_inside (expression_tokens p) j x.term n))
      (node_size (expression_tokens p) j x.term n)

  module _ (ns : List ℕ) (xs : List Face) (r : Recorded p ns xs) where
    pub large_means : (fs : List ℕ)
        → any_large (expression_tokens p) (map (first_node (pattern_tokens p) ns) fs)
        ≡ not (every (λ f. not (ltb max_face_nodes (size (one (face_term (first_face f xs) f))))) fs)
    unfolding first_node
    large_means [] = refl
    large_means (f ∷ fs) =
        ap₂ ◌||◌ (large_one f (first_in (pattern_tokens p) f ns) (first_face f xs) (first_means f ns xs r)) (large_means fs)
        ∙ not_and (ltb max_face_nodes (size (one (face_term (first_face f xs) f))))
        (every (λ g. not (ltb max_face_nodes (size (one (face_term (first_face g xs) g))))) fs)
      where
        not_and : (a b : Bool) → a || not b ≡ not (not a && b)
        not_and true b = refl
        not_and false b = refl

-- The first faces of an accepted problem
module _ (p : Problem) (a : Accepted p) (ns : List ℕ) (xs : List Face) (agree : faces p ≡ some xs) (r : Recorded p ns xs) where
  face_first : (f : ℕ) → face_of p f ≡ face_term (first_face f xs) f
  face_first f = ap (λ (o : Option (List Face)). face_term (first_face f (or_none o)) f) agree

  first_at_lem : (f : ℕ) → f ∈ functions p → FirstAt p xs f (first_node (pattern_tokens p) ns f)
  unfolding first_node
  first_at_lem f m = go (first_in (pattern_tokens p) f ns) (first_face f xs) refl (first_means p a.within f ns xs r)
    where
      expression : IsExpression (one (face_term (first_face f xs) f))
      expression =
          subst (λ (t : Term). IsExpression (one t)) (face_first f)
          (face_expression p (accepted_proper p a) xs agree f (functions_applied p f m))

      go : (o : Option ℕ) (x : Option Face) → first_face f xs ≡ x → Both (Meets p) o x → FirstAt p xs f (node_or o)
      go none none e b = absurd (subst (λ (y : Option Face). IsExpression (one (face_term y f))) e expression).0
      go none (some x) e b = absurd b
      go (some j) none e b = absurd b
      go (some j) (some x) e b =
          record {
            face = x;
            is_first = e;
            node = b.node;
            term = b.term
                ∙ ap some (sym (face_first f ∙ ap (λ (y : Option Face). face_term y f) e));
          }

  firsts_at : (fs : List ℕ) → ((f : ℕ) → f ∈ fs → f ∈ functions p) → FirstsAt p xs fs (map (first_node (pattern_tokens p) ns) fs)
  firsts_at [] h = tt
  firsts_at (f ∷ fs) h = (first_at_lem f (h f (Memᴰ.head refl)), firsts_at fs (λ g m. h g (Memᴰ.tail m)))

  -- THE THEOREM: one node for each function, by ascending number, and at the node the function's face
  pub first_faces_mean : (s : Occurring) → Surveyed (pattern_tokens p) s → (t : Firsts) → Listed (pattern_tokens p) ns s.functions t
      → FirstsAt p xs (functions p) (listed t)
  unfolding firsts_of
  first_faces_mean s v t l =
      subst (FirstsAt p xs (functions p))
      (sym (l.list ∙ ap (map (first_node (pattern_tokens p) ns)) (kept_functions p a.within s v)))
      (firsts_at (functions p) (λ f m. m))

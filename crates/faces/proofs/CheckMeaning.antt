-- What the checks on the token tables say of a problem: `meaning`'s refusals 13 and 14, in its order, and its faces.
use mathlib.Core.Path.{◌≡◌, refl, ap, sym, ◌∙◌, subst}
use mathlib.Core.Logic.{◌↔◌}
use mathlib.Core.Bool.{Bool, true, false, ◌&&◌, not}
use mathlib.Core.List.{List, [], ◌∷◌, map}
use mathlib.Core.Option.{Option, none, some}
use Prim.Native.Nat.{ℕ, suc}
use native.Mathlib.Omega.{arith}
use lib.ListN.{length, take, drop}
use lib.Seq.{take_at}
use lib.Dec.{ltb}
use Rattle.meaning.specs.Limits.{max_functions, max_face_nodes}
use Rattle.meaning.specs.Basics.{choose, every, guard, or_none, is_some}
use Rattle.meaning.specs.Term.{one, size}
use Rattle.meaning.specs.Problem.{Problem, both_ways, functions}
use Rattle.meaning.specs.Face.{Face, faces, first_face, walk_of}
use Rattle.meaning.specs.Row.{face_term}
use Rattle.meaning.specs.Read.{refused, got}
use Rattle.meaning.specs.Accept.{overlarge, check_problem}
use Rattle.meaning.specs.Readable.{WithinLimits}
use Rattle.meaning.proofs.Lists.{by_test, choose_true, choose_false}
use Rattle.meaning.proofs.PlaceLaws.{not_large}
use Rattle.tokens.specs.Token.{pattern_tokens, expression_tokens}
use Rattle.std.specs.Prelude.{Ok, Err, Some, None}
use Rattle.refusal.specs.declared.Refusal.TheVariants as refusals
use Rattle.faces.specs.FlatWalk.{flat_walk}
use Rattle.lockstep.specs.Recorded.{Both}
use Rattle.faces.specs.Recorded.{Means, Recorded}
use Rattle.faces.specs.First.{first_node, any_large}
use Rattle.faces.specs.Check.{Checked, large_in, faces_in, after_walk, verdict, CheckedBy}
use Rattle.faces.specs.Verdict.{answer_of, Told, Says}
use Rattle.metavariables.proofs.SurveyMeaning.{functions_in_lem, both_in_lem}
use Rattle.faces.proofs.WalkMeaning.{walk_means}
use Rattle.faces.proofs.FirstMeaning.{large_means}

module _ (p : Problem) (w : WithinLimits p) where
  large_in_lem : (ns : List ℕ) (xs : List Face) → Recorded p ns xs → faces p ≡ some xs
      → large_in (pattern_tokens p) (expression_tokens p) ns ≡ overlarge max_face_nodes p
  unfolding large_in overlarge
  large_in_lem ns xs r e =
      ap (λ (fs : List ℕ). any_large (expression_tokens p) (map (first_node (pattern_tokens p) ns) fs)) (functions_in_lem p w)
      ∙ large_means p w ns xs r (functions p)
      ∙ sym
      (ap
      (λ (o : Option (List Face)). is_some o && not
      (every (λ f. not (ltb max_face_nodes (size (one (face_term (first_face f (or_none o)) f))))) (functions p))) e)

  -- What is recorded on the tables are the problem's faces: both are none where a letter is used both ways
  guarded : (b : Bool) (o : Option (List ℕ)) (x : Option (List Face)) → Both (Recorded p) o x → Both (Recorded p) (guard b o) (guard b x)
  guarded true o x h = h
  guarded false o x h = tt

  pub faces_mean : Means p (faces_in (pattern_tokens p) (expression_tokens p)) (faces p)
  unfolding faces_in faces
  faces_mean =
      subst
      (λ (b : Bool). Means p (guard (not b) (flat_walk (pattern_tokens p) (expression_tokens p))) (guard (not (both_ways p)) (walk_of p)))
      (sym (both_in_lem p w))
      (guarded (not (both_ways p)) (flat_walk (pattern_tokens p) (expression_tokens p)) (walk_of p) (walk_means p w))

  -- The checks of `meaning`, one after the other
  refused_13 : ltb max_functions (length (functions p)) ≡ true → check_problem max_face_nodes p ≡ refused 13
  unfolding check_problem
  refused_13 e = choose_true _ _ e

  module _ (few : ltb max_functions (length (functions p)) ≡ false) where
    refused_14 : overlarge max_face_nodes p ≡ true → check_problem max_face_nodes p ≡ refused 14
    unfolding check_problem
    refused_14 e = choose_false _ _ few ∙ choose_true _ _ e

    passed : overlarge max_face_nodes p ≡ false → check_problem max_face_nodes p ≡ got p
    unfolding check_problem
    passed e = choose_false _ _ few ∙ choose_false _ _ e

  module _ (old new : List ℕ) (r : Checked) (c : CheckedBy (pattern_tokens p) (expression_tokens p) old new r) where
    -- The verdict, with the tests of `meaning`
    decided : r ≡ choose (ltb max_functions (length (functions p))) (Err refusals.TooManyFunctions)
        (after_walk (pattern_tokens p) (expression_tokens p) (faces_in (pattern_tokens p) (expression_tokens p)))
    unfolding verdict
    decided =
        c.answer
        ∙ ap (λ (fs : List ℕ). choose (ltb max_functions (length fs)) (Err refusals.TooManyFunctions)
        (after_walk (pattern_tokens p) (expression_tokens p)
        (faces_in (pattern_tokens p) (expression_tokens p)))) (functions_in_lem p w)

    module _ (few : ltb max_functions (length (functions p)) ≡ false) where
      after : (o : Option (List ℕ)) → faces_in (pattern_tokens p) (expression_tokens p) ≡ o
          → r ≡ after_walk (pattern_tokens p) (expression_tokens p) o
      after o e = decided ∙ choose_false _ _ few ∙ ap (after_walk (pattern_tokens p) (expression_tokens p)) e

      told : (ns : List ℕ) (xs : List Face) → faces_in (pattern_tokens p) (expression_tokens p) ≡ some ns → faces p ≡ some xs
          → Recorded p ns xs
          → overlarge max_face_nodes p ≡ false → r ≡ Ok (Some (length ns)) → Told p new (length ns)
      told ns xs e a q small y =
          let front : take (length ns) new ≡ ns = ap (take (length ns)) (c.recorded ns e y)
          ∙ take_at ns (drop (length ns) old) (length ns) refl in
          record {
            passes = passed few small;
            found = xs;
            agree = a;
            count = same_long ns xs q;
            recorded = subst (λ (ms : List ℕ). Recorded p ms xs) (sym front) q;
          }
        where
          same_long : (ms : List ℕ) (ys : List Face) → Recorded p ms ys → length ys ≡ length ms
          same_long [] [] h = refl
          same_long [] (y ∷ ys) h = absurd h
          same_long (m ∷ ms) [] h = absurd h
          same_long (m ∷ ms) (y ∷ ys) h = ap suc (same_long ms ys h.1)

      walked : (o : Option (List ℕ)) (x : Option (List Face)) → faces_in (pattern_tokens p) (expression_tokens p) ≡ o → faces p ≡ x
          → Both (Recorded p) o x → Says p new r
      walked none none e a q = subst (Says p new) (sym (after none e)) (passed few (not_large max_face_nodes p a), a)
      walked none (some xs) e a q = absurd q
      walked (some ns) none e a q = absurd q
      walked (some ns) (some xs) e a q = by_test (overlarge max_face_nodes p) over under
        where
          answer : r ≡ choose (overlarge max_face_nodes p) (Err refusals.FaceTooLarge) (Ok (Some (length ns)))
          answer = after (some ns) e ∙ ap (λ (b : Bool). choose b (Err refusals.FaceTooLarge) (Ok (Some (length ns)))) (large_in_lem ns xs q a)

          over : overlarge max_face_nodes p ≡ true → Says p new r
          over y = subst (Says p new) (sym (answer ∙ choose_true _ _ y)) (refused_14 few y)

          under : overlarge max_face_nodes p ≡ false → Says p new r
          under y =
              let z : r ≡ Ok (Some (length ns)) = answer ∙ choose_false _ _ y in
              subst (Says p new) (sym z) (told ns xs e a q y z)

    -- THE THEOREM: the code's answer is `meaning`'s, and with faces they are recorded
    pub check_means : Says p new r
    check_means =
        by_test (ltb max_functions (length (functions p)))
        (λ y. subst (Says p new) (sym (decided ∙ choose_true _ _ y)) (refused_13 y))
        (λ n. walked n (faces_in (pattern_tokens p) (expression_tokens p)) (faces p) refl refl faces_mean)

    -- The same answer, and when there are no rows
    pub check_answer_lem : check_problem max_face_nodes p ≡ answer_of p r
    check_answer_lem = go r check_means
      where
        go : (q : Checked) → Says p new q → check_problem max_face_nodes p ≡ answer_of p q
        go (Err k) h = h
        go (Ok None) h = h.0
        go (Ok (Some n)) h = h.passes

    pub no_rows : (r ≡ Ok None) ↔ ((check_problem max_face_nodes p ≡ got p) × (faces p ≡ none))
    no_rows = (λ e. subst (Says p new) e check_means, back r check_means)
      where
        back : (q : Checked) → Says p new q → (check_problem max_face_nodes p ≡ got p) × (faces p ≡ none) → q ≡ Ok None
        back (Err k) h g = absurd (let a = g.0 in let z : ◌≡◌ {A = ℕ} 0 1 = cc in omega arith)
        back (Ok None) h g = refl
        back (Ok (Some n)) h g = absurd (let a = h.agree in let b = g.1 in let z : ◌≡◌ {A = ℕ} 0 1 = cc in omega arith)

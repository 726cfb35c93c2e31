-- Every solution has a row, and just one: its bodies come from choices of its functions' faces.
--   FaceOf   the face of a function: what its first application faces
--   Chosen   a choice of the face that gives the body
use mathlib.Core.Path.{◌≡◌, refl, ap, ap₂, sym, ◌∙◌, subst}
use mathlib.Core.Logic.{◌⊎◌, inl, inr, ⊎_elim}
use Prim.Native.Nat.{ℕ, zero, suc, ◌<◌}
use mathlib.Core.Bool.{Bool, true, false, false≢true}
use mathlib.Core.List.Memᴰ
use mathlib.Core.List.{List, [], ◌∷◌}
use mathlib.Core.Option.{Option, none, some}
use lib.Dec.{eqb}
use Rattle.meaning.specs.Limits.{metavariable_count}
use Rattle.meaning.specs.Basics.{choose, up_to, or_none, is_some, ◌∈◌, Distinct}
use Rattle.meaning.specs.Term.{Tree, nil, cons, one, size, Label, own, slot, Slot, metavariable, function, hole, Terms, Term}
use Rattle.meaning.specs.Term.{IsExpression}
use Rattle.meaning.specs.Problem.{Problem, patterns, expressions, applied, places_of, is_function, functions}
use Rattle.meaning.specs.Filling.{plug, Entry, body, Filling, body_or, fill_handler, IsBody}
use Rattle.meaning.specs.Solution.{Solution}
use Rattle.meaning.specs.Face.{Face, faces, is_application, first_face}
use Rattle.meaning.specs.Agree.{Satisfied}
use Rattle.meaning.specs.Choice.{Mark, Marks, mark, rest, punch, punch_node, Choice, punch_top, punch_term}
use Rattle.meaning.specs.Row.{Row, face_term, face_of, ChoiceEach, IsRow, choice_in, row_body, HasBodies}
use Rattle.meaning.specs.Rows.{rows}
use Rattle.meaning.proofs.Lists.{never, by_test, choose_true, choose_false, eqb_eq, eqb_self}
use Rattle.meaning.proofs.Lists.{at_mem, keep_distinct, distinct_count_from}
use Rattle.meaning.proofs.OneWay.{faces_walk}
use Rattle.meaning.proofs.Renaming.{one_injective}
use Rattle.meaning.proofs.ChoiceLaws.{rows_are}
use Rattle.meaning.proofs.Punching.{blank, holes_of, holes_length, punch_holes, fits_holes, clear_holes, punch_unique}
use Rattle.meaning.proofs.Apart.{choice_clear}
use Rattle.meaning.proofs.BodyChoice.{fits_choice}
use Rattle.meaning.proofs.Proper.{Proper, functions_applied}
use Rattle.meaning.proofs.Slots.{slot_face, applied_slot, faces_expression}
use Rattle.meaning.proofs.Sources.{arguments, plugged}
use Rattle.meaning.proofs.Candidate.{Fitting, the_walk, faced, shape_of, faces_found}

-- The first application of a function
pub application_is : (f : ℕ) (z : Slot) → is_application f z ≡ true → (n : ℕ) × (z ≡ function f n)
application_is f (metavariable m) e = absurd (false≢true e)
application_is f (function g n) e = (n, ap (λ (h : ℕ). function h n) (sym (eqb_eq f g e)))
application_is f (hole i) e = absurd (false≢true e)

first_there : (f n : ℕ) (xs : List Face) (x : Face) → x ∈ xs → x.what ≡ function f n
    → (y : Face) × (first_face f xs ≡ some y) × (y ∈ xs) × ((a : ℕ) × (y.what ≡ function f a))
first_there f n [] x m e = absurd (Memᴰ.not-nil m)
first_there f n (z ∷ zs) x m e = go (is_application f z.what) refl (λ q. first_there f n zs x q e) (Memᴰ.cases_cons m)
  where
    go : (b : Bool) → is_application f z.what ≡ b
        → (x ∈ zs → (y : Face) × (first_face f zs ≡ some y) × (y ∈ zs) × ((a : ℕ) × (y.what ≡ function f a))) → (x ≡ z) ⊎ (x ∈ zs)
        → (y : Face) × (choose b (some z) (first_face f zs) ≡ some y) × (y ∈ (z ∷ zs)) × ((a : ℕ) × (y.what ≡ function f a))
    go true q ih r = (z, refl, Memᴰ.head refl, application_is f z.what q)
    go false q ih (inl r) = absurd (false≢true (sym q ∙ ap (is_application f) (ap (λ (y : Face). y.what) (sym r) ∙ e) ∙ eqb_self f))
    go false q ih (inr r) = let (y, e, i, w) = ih r in (y, e, Memᴰ.tail i, w)

-- Marks of a body's holes have the places of its holes
holes_places : (n : ℕ) (a : ℕ → Term) (b : Terms) → IsBody n b → (i : ℕ) → some i ∈ holes_of a b → i < n
holes_places n a nil h i q = absurd (Memᴰ.not-nil q)
holes_places n a (cons (own o) c s) h i q =
    ⊎_elim (λ (e : some i ≡ none). never (cc))
    (λ r. ⊎_elim (holes_places n a c h.1 i) (holes_places n a s h.2 i) (Memᴰ.append_cases (holes_of a c) r))
    (Memᴰ.cases_cons q)
holes_places n a (cons (slot (metavariable m)) c s) h i q = absurd h.0
holes_places n a (cons (slot (function m d)) c s) h i q = absurd h.0
holes_places n a (cons (slot (hole j)) c s) h i q =
    ⊎_elim (λ (e : some i ≡ some j). let w : j ≡ i = cc in subst (λ (x : ℕ). x < n) w h.0.0)
    (λ r. ⊎_elim (λ z. absurd (none_blank (size (a j).1) i z)) (holes_places n a s h.2 i)
    (Memᴰ.append_cases (blank (size (a j).1)) r)) (Memᴰ.cases_cons q)
  where
    none_blank : (k i : ℕ) → some i ∈ blank k → ⊥
    none_blank zero i z = Memᴰ.not-nil z
    none_blank (suc k) i z = ⊎_elim (λ (e : some i ≡ none). never (cc)) (none_blank k i) (Memᴰ.cases_cons z)

-- A tree with holes
pub punch_one : {X B : Type 0} (ms : Marks) (t : Tree (Label X B)) → one (punch_term ms t) ≡ punch ms (one t)
punch_one {X} {B} ms t = go (mark ms)
  where
    go : (m : Mark) → one (punch_top m t.0 (punch (rest ms) t.1)) ≡ punch_node m t.0 (punch (rest ms) t.1) nil
    go none = refl
    go (some i) = refl

-- The face of a function, when there are faces
pub record FaceOf (p : Problem) (xs : List Face) (f : ℕ) : Type 0 where
  pub face : Face
  pub among : face ∈ xs
  pub places : ℕ
  pub applies : face.what ≡ function f places
  pub is_first : face_of p f ≡ face.term

module _ (p : Problem) (c : Proper p) (xs : List Face) (defined : faces p ≡ some xs) where
  pub face_of_lem : (f : ℕ) → f ∈ applied (patterns p) → FaceOf p xs f
  face_of_lem f a =
      let s = applied_slot (patterns p) c.pattern f a in
      let x = slot_face 0 0 (patterns p) (expressions p) xs (function f s.0) s.1 (faces_walk p xs defined) s.2 in
      let y = first_there f s.0 xs x.0 x.1 x.2 in
      record {
        face = y.0;
        among = y.2;
        places = y.3.0;
        applies = y.3.1;
        is_first = ap (λ (o : Option (List Face)). face_term (first_face f (or_none o)) f) defined
            ∙ ap (λ (o : Option Face). face_term o f) y.1;
      }

  pub face_expression : (f : ℕ) → f ∈ applied (patterns p) → IsExpression (one (face_of p f))
  face_expression f a =
      let x = face_of_lem f a in
      subst (λ (t : Term). IsExpression (one t)) (sym x.is_first)
      (faces_expression 0 0 (patterns p) (expressions p) xs c.expression (faces_walk p xs defined) x.face x.among)

-- A body that fills to its function's face comes from a choice of it
module _ (p : Problem) (σ : Filling) (b : ℕ → Term) (fit : Fitting p σ b) where
  pub record Chosen (f : ℕ) (ms : Marks) : Type 0 where
    pub choice : Choice (places_of p f) (face_of p f) ms
    pub punched : punch ms (one (face_of p f)) ≡ one (b f)

  pub body_chosen : (f : ℕ) → f ∈ applied (patterns p) → (ms : Marks) × Chosen f ms
  body_chosen f a =
      let x = face_of_lem p fit.proper (the_walk p σ b fit).found (faces_found p σ b fit) f a in
      let shape = shape_of p σ b fit f x.places x.face x.among x.applies in
      let sat : Satisfied (fill_handler σ) x.face = (the_walk p σ b fit).satisfied x.face x.among in
      let ex : IsExpression (one x.face.term) = faced p σ b fit x.face x.among in
      let args : ℕ → Term = arguments σ (b f) f x.places x.face (fit.agree f a) x.applies shape ex sat in
      let e : plug args (b f) ≡ face_of p f =
      plugged σ (b f) f x.places x.face (fit.agree f a) x.applies shape ex sat ∙ sym x.is_first in
      (holes_of args (one (b f)), from_plug args e)
    where
      from_plug : (args : ℕ → Term) → plug args (b f) ≡ face_of p f → Chosen f (holes_of args (one (b f)))
      from_plug args e =
          let ms : Marks = holes_of args (one (b f)) in
          let ib : IsBody (places_of p f) (one (b f)) = fit.shapes f a in
          let r : Choice (places_of p f) (face_of p f) ms × (punch ms (one (face_of p f)) ≡ one (b f)) =
          subst (λ (t : Term). Choice (places_of p f) t ms × (punch ms (one t) ≡ one (b f))) e (
            fits_choice args (places_of p f) (plug args (b f)) ms (holes_length args 0 (one (b f)))
                (λ k i q. holes_places (places_of p f) args (one (b f)) ib i (at_mem ms k (some i) q))
                (fits_holes args (places_of p f) 0 (one (b f)) ib) (clear_holes args (places_of p f) 0 (one (b f)) ib),
            punch_holes args (places_of p f) 0 (one (b f)) ib,
          ) in
          record { choice = r.0; punched = r.1 }

-- Rows by the choices of their functions
pub choice_in_lem : (p : Problem) (fs : List ℕ) (r : Row) → ChoiceEach p fs r → (f : ℕ) → f ∈ fs
    → Choice (places_of p f) (face_of p f) (choice_in fs r f)
choice_in_lem p [] r h f q = absurd (Memᴰ.not-nil q)
choice_in_lem p (g ∷ gs) [] h f q = absurd h
choice_in_lem p (g ∷ gs) (c ∷ r) h f q = go (eqb f g) refl (choice_in_lem p gs r h.1 f) (Memᴰ.cases_cons q)
  where
    go : (b : Bool) → eqb f g ≡ b → (f ∈ gs → Choice (places_of p f) (face_of p f) (choice_in gs r f)) → (f ≡ g) ⊎ (f ∈ gs)
        → Choice (places_of p f) (face_of p f) (choose b c (choice_in gs r f))
    go true e ih k = subst (λ (x : ℕ). Choice (places_of p x) (face_of p x) c) (sym (eqb_eq f g e)) h.0
    go false e ih (inl k) = absurd (false≢true (sym e ∙ ap (eqb f) (sym k) ∙ eqb_self f))
    go false e ih (inr k) = ih k

-- A row of choices that are given one by one
row_of : (p : Problem) (P : ℕ → Marks → Type 0) → ((f : ℕ) (ms : Marks) → P f ms → Choice (places_of p f) (face_of p f) ms) → (fs : List ℕ)
    → ((f : ℕ) → f ∈ fs → (ms : Marks) × P f ms)
    → (r : Row) × ChoiceEach p fs r × ((f : ℕ) → f ∈ fs → P f (choice_in fs r f))
row_of p P h [] g = ([], tt, λ f q. absurd (Memᴰ.not-nil q))
row_of p P h (f ∷ fs) g = go (g f (Memᴰ.head refl)) (row_of p P h fs (λ x q. g x (Memᴰ.tail q)))
  where
    go : (ms : Marks) × P f ms → (r : Row) × ChoiceEach p fs r × ((x : ℕ) → x ∈ fs → P x (choice_in fs r x))
        → (r : Row) × ChoiceEach p (f ∷ fs) r × ((x : ℕ) → x ∈ (f ∷ fs) → P x (choice_in (f ∷ fs) r x))
    go c r = (c.0 ∷ r.0, (h f c.0 c.1, r.1), λ x q. at x (eqb x f) refl (Memᴰ.cases_cons q))
      where
        at : (x : ℕ) (b : Bool) → eqb x f ≡ b → (x ≡ f) ⊎ (x ∈ fs) → P x (choose b c.0 (choice_in fs r.0 x))
        at x true e k = subst (λ (y : ℕ). P y c.0) (sym (eqb_eq x f e)) c.1
        at x false e (inl k) = absurd (false≢true (sym e ∙ ap (eqb x) (sym k) ∙ eqb_self x))
        at x false e (inr k) = r.2 x k

-- Two rows whose functions have the same choices are the same
same_row : (p : Problem) (fs : List ℕ) (r r' : Row) → Distinct fs → ChoiceEach p fs r → ChoiceEach p fs r'
    → ((f : ℕ) → f ∈ fs → choice_in fs r f ≡ choice_in fs r' f) → r ≡ r'
same_row p [] [] [] d h g e = refl
same_row p [] [] (c ∷ r) d h g e = absurd g
same_row p [] (c ∷ r) r' d h g e = absurd h
same_row p (f ∷ fs) [] r' d h g e = absurd h
same_row p (f ∷ fs) (c ∷ r) [] d h g e = absurd g
same_row p (f ∷ fs) (c ∷ r) (c' ∷ r') d h g e =
    let here : c ≡ c' =
    sym (choose_true c (choice_in fs r f) (eqb_self f)) ∙ e f (Memᴰ.head refl) ∙ choose_true c' (choice_in fs r' f) (eqb_self f) in
    let later : r ≡ r' = same_row p fs r r' d.1 h.1 g.1 (λ x q. skip x q (e x (Memᴰ.tail q))) in
    ap₂ (λ (x : Marks) (y : Row). x ∷ y) here later
  where
    skip : (x : ℕ) → x ∈ fs → choose (eqb x f) c (choice_in fs r x) ≡ choose (eqb x f) c' (choice_in fs r' x)
        → choice_in fs r x ≡ choice_in fs r' x
    skip x q k =
        by_test (eqb x f)
        (λ b. absurd (d.0 (subst (λ (y : ℕ). y ∈ fs) (eqb_eq x f b) q)))
        (λ b. sym (choose_false c (choice_in fs r x) b) ∙ k ∙ choose_false c' (choice_in fs r' x) b)

functions_distinct : (p : Problem) → Distinct (functions p)
unfolding functions
functions_distinct p = keep_distinct (is_function p) (up_to metavariable_count) (distinct_count_from 0 metavariable_count)

-- The body of a function in a row
row_body_lem : (p : Problem) (r : Row) (f : ℕ) (b : Term) → punch (choice_in (functions p) r f) (one (face_of p f)) ≡ one b → row_body p r f ≡ b
unfolding row_body
row_body_lem p r f b e = one_injective (punch_term (choice_in (functions p) r f) (face_of p f)) b
    (punch_one (choice_in (functions p) r f) (face_of p f) ∙ e)

pub body_row : (p : Problem) (r : Row) (f : ℕ) → one (row_body p r f) ≡ punch (choice_in (functions p) r f) (one (face_of p f))
unfolding row_body
body_row p r f = punch_one (choice_in (functions p) r f) (face_of p f)

-- Every solution has a row, and no other row has its bodies
solution_bodies : (p : Problem) (σ : Filling) → Solution p σ → (f : ℕ) → f ∈ applied (patterns p) → σ f ≡ body (body_or f (σ f))
solution_bodies p σ s f a = let x = s.bodies f a in x.1 ∙ ap (λ (e : Entry Term). body (body_or f e)) (sym x.1)

own_fitting : (p : Problem) (σ : Filling) → Proper p → Solution p σ → Fitting p σ (λ f. body_or f (σ f))
own_fitting p σ c s = record {
  proper = c;
  one_way = s.one_way;
  meets = s.meets;
  agree = solution_bodies p σ s;
  shapes = λ f a. let x = s.bodies f a in
      subst (λ (e : Entry Term). IsBody (places_of p f) (one (body_or f e))) (sym x.1) x.2;
}

pub row_exists : (p : Problem) (σ : Filling) → Proper p → Solution p σ → (r : Row) × (r ∈ rows p) × HasBodies p r σ
row_exists p σ c s =
    let b : ℕ → Term = λ f. body_or f (σ f) in
    let fit : Fitting p σ b = own_fitting p σ c s in
    let r = row_of p (Chosen p σ b fit) (λ f ms x. x.choice) (functions p) (λ f q. body_chosen p σ b fit f (functions_applied p f q)) in
    let agree = ap is_some (faces_found p σ b fit) in (
      r.0,
      (rows_are p r.0).1 (record { has_rows = agree; choice = r.1 }),
      λ f q. solution_bodies p σ s f (functions_applied p f q) ∙ ap body (sym (row_body_lem p r.0 f (b f) (r.2 f q).punched)),
    )

pub row_only : (p : Problem) (σ : Filling) → Proper p → Solution p σ → (r r' : Row) → r ∈ rows p → r' ∈ rows p → HasBodies p r σ
    → HasBodies p r' σ → r ≡ r'
row_only p σ c s r r' i j h g =
    same_row p (functions p) r r' (functions_distinct p) ch.choice ch'.choice same
  where
    ch : IsRow p r
    ch = (rows_are p r).0 i

    ch' : IsRow p r'
    ch' = (rows_are p r').0 j

    same : (f : ℕ) → f ∈ functions p → choice_in (functions p) r f ≡ choice_in (functions p) r' f
    same f q =
        let b : ℕ → Term = λ x. body_or x (σ x) in
        let x : Choice (places_of p f) (face_of p f) (choice_in (functions p) r f) = choice_in_lem p (functions p) r ch.choice f q in
        let y : Choice (places_of p f) (face_of p f) (choice_in (functions p) r' f) = choice_in_lem p (functions p) r' ch'.choice f q in
        let eb : body (row_body p r f) ≡ body (row_body p r' f) = sym (h f q) ∙ g f q in
        let e : row_body p r f ≡ row_body p r' f = cc in
        punch_unique (choice_in (functions p) r f) (choice_in (functions p) r' f) (one (face_of p f))
        (face_expression p c (the_walk p σ b (own_fitting p σ c s)).found (faces_found p σ b (own_fitting p σ c s)) f
        (functions_applied p f q)) x.long y.long
        (choice_clear (places_of p f) (face_of p f) (choice_in (functions p) r f) x)
        (choice_clear (places_of p f) (face_of p f) (choice_in (functions p) r' f) y)
        (sym (body_row p r f) ∙ ap (λ (t : Term). one t) e ∙ body_row p r' f)

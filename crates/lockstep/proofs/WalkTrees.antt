-- The walk of the tokens of two forests is the walk of their views.
--   root       the scope around a forest, whose length is the depth from which its keys are seen; k binders of the forest's own are above
-- it
--   seen_walk   two views walked together, the first node of the left having the number i, that of the right the number j. It stops by
--              a node's number and label; two nodes agree when they have the same code. Where it stops, it records the face
--   Tells      a stop by tokens and one by labels are the same
use mathlib.Core.Path.{◌≡◌, ap, ap₂, sym, ◌∙◌}
use mathlib.Core.Bool.{Bool, true, false}
use mathlib.Core.List.{List, [], ◌∷◌, ◌++◌, append_assoc, append-nil}
use mathlib.Core.Option.{Option, none, some}
use Prim.Native.Nat.{ℕ, zero, suc, ◌+◌, ◌-◌, ◌<◌}
use native.Mathlib.Omega.{arith}
use lib.ListN.{length, drop}
use lib.Seq.{drop_at}
use lib.Dec.{eqb, eqb→eq}
use Rattle.meaning.specs.Basics.{choose, join, guard}
use Rattle.meaning.specs.Term.{Forest, nil, cons, size, trees, Named, inner}
use Rattle.meaning.specs.Scope.{enter, nameless_label, nameless}
use Rattle.meaning.specs.Equal.{View}
use Rattle.meaning.specs.Read.{Context, context_below}
use Rattle.meaning.specs.Readable.{NodeFits, Readable}
use Rattle.meaning.proofs.Lists.{by_test, choose_true, choose_false, true_T}
use Rattle.meaning.proofs.ShiftLaws.{relabel_size}
use Rattle.tokens.specs.Token.{tokens}
use Rattle.tokens.specs.Key.{key_of}
use Rattle.tokens.proofs.TokenParts.{tokens_length}
use Rattle.tokens.proofs.Levels.{enter_deep}
use Rattle.meaning.proofs.CompareLaws.{arity}
use Rattle.tokens.proofs.Codes.{Viewed, code, code_injective, seen_label, view_from, label_code, fits_label}
use Rattle.tokens.proofs.ProblemTokens.{token_at, size_at_lem, Room, room_depth, room_size, room_below, room_later}
use Rattle.lockstep.specs.Walk.{Stop, face_code, lockstep}
use Rattle.lockstep.proofs.WalkLaws.{join_assoc, join_nothing, join_end, lockstep_end, lockstep_differs, lockstep_same}
use Rattle.lockstep.proofs.WalkLaws.{lockstep_face, lockstep_skip}

abbrev pub SeenStop : Type 0
SeenStop = ℕ → Viewed → Bool

abbrev pub seen_meet : SeenStop → ℕ → ℕ → Viewed → Viewed → Option (List ℕ) → Option (List ℕ)
seen_meet stop i j l m below = choose (stop i l) (some (face_code i j ∷ [])) (guard (eqb (code l) (code m)) below)

abbrev pub seen_walk : SeenStop → ℕ → ℕ → View ℕ → View ℕ → Option (List ℕ)
seen_walk stop i j nil nil = some []
seen_walk stop i j nil (cons l c s) = none
seen_walk stop i j (cons l c s) nil = none
seen_walk stop i j (cons l c s) (cons l' c' s') =
    join (seen_meet stop i j l l' (seen_walk stop (suc i) (suc j) c c')) (seen_walk stop (suc i + size c) (suc j + size c') s s')

abbrev pub Tells : List ℕ → Stop → SeenStop → Type 0
Tells root stop seen =
    (i k : ℕ) (sc : List ℕ) (l : Named) (c : Forest Named) → length sc < 256 → suc (size c) < 65536
    → stop i (token_at sc l c) ≡ seen i (seen_label root k (nameless_label sc l))

-- What a view keeps of a forest
view_size : (root : List ℕ) (k : ℕ) (sc : List ℕ) (u : Forest Named) → size (view_from root k (nameless sc u)) ≡ size u
view_size root k sc u = relabel_size inner (seen_label root) k (nameless sc u) ∙ relabel_size enter nameless_label sc u

module _ (stop : Stop) (seen : SeenStop) (root root' : List ℕ) (tells : Tells root stop seen) where
  abbrev flat : ℕ → ℕ → List ℕ → List ℕ → Option (List ℕ)
  flat i j ps es = lockstep stop (length root) (length root') 0 i j ps es

  abbrev walked : ℕ → ℕ → ℕ → ℕ → List ℕ → List ℕ → Forest Named → Forest Named → Option (List ℕ)
  walked i j k k' sc sc' u v = seen_walk seen i j (view_from root k (nameless sc u)) (view_from root' k' (nameless sc' v))

  -- The first node of each forest, with the tokens of the later ones behind the children
  module _ (i j k k' : ℕ) (sc sc' : List ℕ) (l l' : Named) (c c' : Forest Named) (ps es : List ℕ)
      (room : length sc < 256) (small : suc (size c) < 65536) (room' : length sc' < 256) (small' : suc (size c') < 65536) where
    x : ℕ
    x = token_at sc l c

    y : ℕ
    y = token_at sc' l' c'

    below : List ℕ
    below = tokens (enter l sc) c ++ ps

    below' : List ℕ
    below' = tokens (enter l' sc') c' ++ es

    -- The walk stops: both subterms are passed
    node_face : stop i x ≡ true
        → flat i j (x ∷ below) (y ∷ below') ≡ join (some (face_code i j ∷ [])) (flat (suc i + size c) (suc j + size c') ps es)
    unfolding x y below below'
    node_face f =
        let n : suc (size c) - 1 ≡ size c = omega arith in
        let m : j + suc (size c') ≡ suc j + size c' = omega arith in
        lockstep_face stop (length root) (length root') i j x y below below' f
        ∙ ap (join (some (face_code i j ∷ [])))
        (ap₂ (λ (a b : ℕ). lockstep stop (length root) (length root') (a - 1) (suc i) (j + b) below (drop b (y ∷ below')))
        (size_at_lem sc l c room small) (size_at_lem sc' l' c' room' small')
        ∙ lockstep_skip stop (length root) (length root') (suc (size c) - 1) (suc i) (j + suc (size c')) below
        (drop (suc (size c')) (y ∷ below'))
        ∙ ap₂ (λ (a b : ℕ). flat (suc i + a) b (drop a below) (drop (suc (size c')) (y ∷ below'))) n m
        ∙ ap₂ (flat (suc i + size c) (suc j + size c'))
        (drop_at (tokens (enter l sc) c) ps (size c) (tokens_length (enter l sc) c))
        (drop_at (y ∷ tokens (enter l' sc') c') es (suc (size c')) (ap suc (tokens_length (enter l' sc') c'))))

    module _ (deep : length sc ≡ k + length root) (deep' : length sc' ≡ k' + length root') (ctx ctx' : Context)
        (fits : NodeFits ctx l c) (fits' : NodeFits ctx' l' c') where
      o : Viewed
      o = seen_label root k (nameless_label sc l)

      o' : Viewed
      o' = seen_label root' k' (nameless_label sc' l')

      keys : eqb (key_of (length root) x) (key_of (length root') y) ≡ eqb (code o) (code o')
      unfolding x y o o'
      keys =
          ap₂ eqb (label_code root ctx k sc (suc (size c)) deep room small l c fits)
          (label_code root' ctx' k' sc' (suc (size c')) deep' room' small' l' c' fits')

      -- Labels with the same code have as many children
      as_many : eqb (code o) (code o') ≡ true → trees c ≡ trees c'
      unfolding o o'
      as_many e =
          let p = fits_label root k ctx sc l c fits in
          let p' = fits_label root' k' ctx' sc' l' c' fits' in
          p.1 ∙ ap arity (code_injective o o' p.0 p'.0 (eqb→eq (code o) (code o') (true_T e))) ∙ sym p'.1

      told : stop i x ≡ seen i o
      unfolding x o
      told = tells i k sc l c room small

      -- One node of each forest; w is the walk of the children
      node : (w : Option (List ℕ))
          → (trees c ≡ trees c' → flat (suc i) (suc j) below below' ≡ join w (flat (suc i + size c) (suc j + size c') ps es))
          → flat i j (x ∷ below) (y ∷ below') ≡ join (seen_meet seen i j o o' w) (flat (suc i + size c) (suc j + size c') ps es)
      node w ih = by_test (seen i o) stops goes
        where
          rest : Option (List ℕ)
          rest = flat (suc i + size c) (suc j + size c') ps es

          stops : seen i o ≡ true → flat i j (x ∷ below) (y ∷ below') ≡ join (seen_meet seen i j o o' w) rest
          stops t = node_face (told ∙ t) ∙ sym (ap (λ (m : Option (List ℕ)). join m rest) (choose_true _ _ t))

          goes : seen i o ≡ false → flat i j (x ∷ below) (y ∷ below') ≡ join (seen_meet seen i j o o' w) rest
          goes f =
              by_test (eqb (code o) (code o'))
              (λ t. lockstep_same stop (length root) (length root') i j x y below below' (told ∙ f) (keys ∙ t) ∙ ih (as_many t)
              ∙ sym (met ∙ ap (λ (b : Bool). join (guard b w) rest) t))
              (λ t. lockstep_differs stop (length root) (length root') i j x y below below' (told ∙ f) (keys ∙ t)
              ∙ sym (met ∙ ap (λ (b : Bool). join (guard b w) rest) t))
            where
              met : join (seen_meet seen i j o o' w) rest ≡ join (guard (eqb (code o) (code o')) w) rest
              met = ap (λ (m : Option (List ℕ)). join m rest) (choose_false _ _ f)

  -- The first node of each forest, then the later trees
  module _ (i j k k' : ℕ) (sc sc' : List ℕ) (l l' : Named) (c s c' s' : Forest Named) (ps es : List ℕ) where
    here : Option (List ℕ)
    here =
        seen_meet seen i j (seen_label root k (nameless_label sc l)) (seen_label root' k' (nameless_label sc' l'))
        (walked (suc i) (suc j) (inner (nameless_label sc l) k) (inner (nameless_label sc' l') k') (enter l sc) (enter l' sc') c c')

    then_later :
        flat i j (token_at sc l c ∷ (tokens (enter l sc) c ++ (tokens sc s ++ ps)))
        (token_at sc' l' c' ∷ (tokens (enter l' sc') c' ++ (tokens sc' s' ++ es)))
        ≡ join here (flat (suc i + size c) (suc j + size c') (tokens sc s ++ ps) (tokens sc' s' ++ es))
        → flat (suc i + size c) (suc j + size c') (tokens sc s ++ ps) (tokens sc' s' ++ es)
        ≡ join (walked (suc i + size c) (suc j + size c') k k' sc sc' s s')
        (flat (suc i + size c + size s) (suc j + size c' + size s') ps es)
        → flat i j (tokens sc (cons l c s) ++ ps) (tokens sc' (cons l' c' s') ++ es)
        ≡ join (walked i j k k' sc sc' (cons l c s) (cons l' c' s')) (flat (i + size (cons l c s)) (j + size (cons l' c' s')) ps es)
    unfolding tokens here
    then_later first later =
        let a : suc i + size c + size s ≡ i + suc (size c + size s) = omega arith in
        let b : suc j + size c' + size s' ≡ j + suc (size c' + size s') = omega arith in
        let n = view_size root (inner (nameless_label sc l) k) (enter l sc) c in
        let n' = view_size root' (inner (nameless_label sc' l') k') (enter l' sc') c' in
        ap₂ (λ (t t' : List ℕ). flat i j (token_at sc l c ∷ t) (token_at sc' l' c' ∷ t'))
        (append_assoc (tokens (enter l sc) c) (tokens sc s) ps) (append_assoc (tokens (enter l' sc') c') (tokens sc' s') es)
        ∙ first
        ∙ ap (join here) (later ∙ ap₂ join
        (ap₂ (λ (h m : ℕ). walked (suc i + h) (suc j + m) k k' sc sc' s s') (sym n) (sym n'))
        (ap₂ (λ (h m : ℕ). flat h m ps es) a b))
        ∙ sym (join_assoc here
        (walked (suc i + size (view_from root (inner (nameless_label sc l) k) (nameless (enter l sc) c)))
        (suc j + size (view_from root' (inner (nameless_label sc' l') k') (nameless (enter l' sc') c'))) k k' sc sc' s s')
        (flat (i + suc (size c + size s)) (j + suc (size c' + size s')) ps es))

  -- THE THEOREM, with the tokens of what follows the two forests
  pub flat_from : (i j k k' levels levels' : ℕ) (ctx ctx' : Context) (sc sc' : List ℕ) (u v : Forest Named) (ps es : List ℕ)
      → length sc ≡ k + length root → length sc' ≡ k' + length root' → Readable levels ctx u → Readable levels' ctx' v
      → Room levels sc u → Room levels' sc' v → trees u ≡ trees v
      → lockstep stop (length root) (length root') 0 i j (tokens sc u ++ ps) (tokens sc' v ++ es)
      ≡ join (seen_walk seen i j (view_from root k (nameless sc u)) (view_from root' k' (nameless sc' v)))
      (lockstep stop (length root) (length root') 0 (i + size u) (j + size v) ps es)
  unfolding tokens here x y below below' o o'
  flat_from i j k k' levels levels' ctx ctx' sc sc' nil nil ps es deep deep' r r' m m' t =
      let a : i ≡ i + 0 = omega arith in
      let b : j ≡ j + 0 = omega arith in
      ap₂ (λ (h n : ℕ). flat h n ps es) a b ∙ sym (join_nothing (flat (i + 0) (j + 0) ps es))
  flat_from i j k k' levels levels' ctx ctx' sc sc' nil (cons l' c' s') ps es deep deep' r r' m m' t = absurd (omega arith)
  flat_from i j k k' levels levels' ctx ctx' sc sc' (cons l c s) nil ps es deep deep' r r' m m' t = absurd (omega arith)
  flat_from i j k k' zero levels' ctx ctx' sc sc' (cons l c s) (cons l' c' s') ps es deep deep' r r' m m' t = absurd r
  flat_from i j k k' (suc levels) zero ctx ctx' sc sc' (cons l c s) (cons l' c' s') ps es deep deep' r r' m m' t = absurd r'
  flat_from i j k k' (suc levels) (suc levels') ctx ctx' sc sc' (cons l c s) (cons l' c' s') ps es deep deep' r r' m m' t =
      then_later i j k k' sc sc' l l' c s c' s' ps es
      (node i j k k' sc sc' l l' c c' (tokens sc s ++ ps) (tokens sc' s' ++ es)
      (room_depth levels sc l c s m) (room_size levels sc l c s m) (room_depth levels' sc' l' c' s' m') (room_size levels' sc' l' c' s' m')
      deep deep' ctx ctx' r.0 r'.0
      (walked (suc i) (suc j) (inner (nameless_label sc l) k) (inner (nameless_label sc' l') k') (enter l sc) (enter l' sc') c c')
      (λ q. flat_from (suc i) (suc j) (inner (nameless_label sc l) k) (inner (nameless_label sc' l') k') levels levels' (context_below l ctx)
      (context_below l' ctx')
      (enter l sc) (enter l' sc') c c' (tokens sc s ++ ps) (tokens sc' s' ++ es) (enter_deep k (length root) sc l deep)
      (enter_deep k' (length root') sc' l' deep')
      r.1 r'.1 (room_below levels sc l c s m) (room_below levels' sc' l' c' s' m') q))
      (flat_from (suc i + size c) (suc j + size c') k k' (suc levels) (suc levels') ctx ctx' sc sc' s s' ps es deep deep'
      r.2 r'.2 (room_later levels sc l c s m) (room_later levels' sc' l' c' s' m') (omega arith))

  -- The left forest alone, each forest seen from its own scope
  pub flat_trees : (i j levels levels' : ℕ) (ctx ctx' : Context) (u v : Forest Named) (es : List ℕ) → Readable levels ctx u
      → Readable levels' ctx' v
      → Room levels root u → Room levels' root' v → trees u ≡ trees v
      → lockstep stop (length root) (length root') 0 i j (tokens root u) (tokens root' v ++ es)
      ≡ seen_walk seen i j (view_from root 0 (nameless root u)) (view_from root' 0 (nameless root' v))
  flat_trees i j levels levels' ctx ctx' u v es r r' m m' t =
      ap (λ (l : List ℕ). flat i j l (tokens root' v ++ es)) (sym (append-nil (tokens root u)))
      ∙ flat_from i j 0 0 levels levels' ctx ctx' root root' u v [] es (omega arith) (omega arith) r r' m m' t
      ∙ ap (join (walked i j 0 0 root root' u v)) (lockstep_end stop (length root) (length root') (i + size u) (j + size v) es)
      ∙ join_end (walked i j 0 0 root root' u v)

-- The first, the next and the last word of a system that never gets stuck.
--   Lively   at each thing some letter is allowed
--   Idle     the last letter is always allowed
--   Stands   where a word stands among the words, and what comes after it
use mathlib.Core.Path.{◌≡◌, refl, ap, ap₂, sym, ◌∙◌}
use mathlib.Core.Bool.{Bool, true}
use mathlib.Core.List.{List, [], ◌∷◌, ◌++◌, map, append_assoc, append-nil, map-append}
use mathlib.Core.Option.{Option, none, some}
use lib.ListN.{length, get_elem?, replicate}
use lib.Dec.{T}
use Rattle.meaning.specs.Basics.{All, and_then, each, holds, is_some, or_else}
use Rattle.meaning.proofs.Lists.{each_append, is_some_lem}
use Rattle.paths.specs.Words.{accepts, first_step, following, greedy, list_of, or_later, words}

first_append : {A : Type 0} (xs ys : List A) → get_elem? (xs ++ ys) 0 ≡ or_else (get_elem? xs 0) (get_elem? ys 0)
first_append [] ys = refl
first_append (x ∷ xs) ys = refl

first_map : {A B : Type 0} (f : A → B) (xs : List A) → get_elem? (map f xs) 0 ≡ and_then (get_elem? xs 0) (λ x. some (f x))
first_map f [] = refl
first_map f (x ∷ xs) = refl

holds_some : {A : Type 0} (p : A → Bool) (w : Option A) → T (holds p w) → (a : A) × (w ≡ some a) × T (p a)
holds_some p none t = absurd t
holds_some p (some a) t = (a, refl, t)

regroup : {A : Type 0} (us vs ws xs : List A) (x : A) → us ++ ((vs ++ (x ∷ ws)) ++ xs) ≡ (us ++ vs) ++ (x ∷ (ws ++ xs))
regroup {A} us vs ws xs x = ap (λ (zs : List A). us ++ zs) (append_assoc vs (x ∷ ws) xs) ∙ sym (append_assoc us vs (x ∷ (ws ++ xs)))

module _ {S X L : Type 0} (step : S → X → L → Option S) (letters : List L) where
  -- The words that begin with a letter
  abbrev headed : S → X → List X → L → List (List L)
  headed s x xs m = list_of (λ t. map (λ ms. m ∷ ms) (words step letters t xs)) (step s x m)

  abbrev pub Lively : Type 0
  Lively = (s : S) (x : X) → is_some (first_step (step s x) letters) ≡ true

  first_each : (s : S) (x : X) (xs : List X) → ((t : S) → get_elem? (words step letters t xs) 0 ≡ some (greedy step letters t xs))
      → (ms : List L)
      → get_elem? (each (headed s x xs) ms) 0 ≡ and_then (first_step (step s x) ms) (λ r. some (r.0 ∷ greedy step letters r.1 xs))
  unfolding words
  first_each s x xs h [] = refl
  first_each s x xs h (m ∷ ms) = go (step s x m) (first_each s x xs h ms)
    where
      go : (w : Option S)
          → get_elem? (each (headed s x xs) ms) 0 ≡ and_then (first_step (step s x) ms) (λ r. some (r.0 ∷ greedy step letters r.1 xs))
          → get_elem? (list_of (λ t. map (λ ws. m ∷ ws) (words step letters t xs)) w ++ each (headed s x xs) ms) 0
          ≡ and_then (or_later m w (first_step (step s x) ms)) (λ r. some (r.0 ∷ greedy step letters r.1 xs))
      go none ih = ih
      go (some t) ih =
          first_append (map (λ ws. m ∷ ws) (words step letters t xs)) (each (headed s x xs) ms)
          ∙ ap (λ (o : Option (List L)). or_else o (get_elem? (each (headed s x xs) ms) 0))
          (first_map (λ ws. m ∷ ws) (words step letters t xs) ∙ ap (λ (o : Option (List L)). and_then o (λ ws. some (m ∷ ws))) (h t))

  -- THE FIRST WORD is the greedy one
  pub greedy_first : Lively → (s : S) (xs : List X) → get_elem? (words step letters s xs) 0 ≡ some (greedy step letters s xs)
  unfolding words greedy
  greedy_first h s [] = refl
  greedy_first h s (x ∷ xs) =
      let (r, e) = is_some_lem (first_step (step s x) letters) (h s x) in
      first_each s x xs (λ t. greedy_first h t xs) letters
      ∙ ap (λ (o : Option (L × S)). and_then o (λ q. some (q.0 ∷ greedy step letters q.1 xs))) e
      ∙ ap (λ (o : Option (L × S)). some (list_of (λ q. q.0 ∷ greedy step letters q.1 xs) o)) (sym e)

  pub record Stands (s : S) (xs : List X) (w : List L) (next : Option (List L)) : Type 0 where
    pub before : List (List L)
    pub after : List (List L)
    pub whole : words step letters s xs ≡ before ++ (w ∷ after)
    pub is_next : get_elem? after 0 ≡ next

  -- THE NEXT WORD after a word of the system; P says of a letter that it is one of the letters, and `later m` are those after it
  pub following_next : Lively → (P : L → Type 0) (later : L → List L)
      → ((m : L) → P m → (front : List L) × (letters ≡ front ++ (m ∷ later m)))
      → (s : S) (xs : List X) (ms : List L) → All P ms → T (accepts step s xs ms) → Stands s xs ms (following step letters later s xs ms)
  unfolding words accepts following
  following_next h P later cut s [] [] a t = record { before = []; after = []; whole = refl; is_next = refl }
  following_next h P later cut s [] (m ∷ ms) a t = absurd t
  following_next h P later cut s (x ∷ xs) [] a t = absurd t
  following_next h P later cut s (x ∷ xs) (m ∷ ms) a t =
      let (r, e, g) = holds_some (λ q. accepts step q xs ms) (step s x m) t in
      let d = following_next h P later cut r xs ms a.1 g in
      let (front, f) = cut m a.0 in
      let mine : headed s x xs m ≡ map (λ ws. m ∷ ws) d.before ++ ((m ∷ ms) ∷ map (λ ws. m ∷ ws) d.after) =
      ap (list_of (λ q. map (λ (ws : List L). m ∷ ws) (words step letters q xs))) e ∙ ap (map (λ (ws : List L). m ∷ ws)) d.whole
      ∙ map-append (λ ws. m ∷ ws) d.before (ms ∷ d.after) in
      record {
        before = each (headed s x xs) front ++ map (λ ws. m ∷ ws) d.before;
        after = map (λ ws. m ∷ ws) d.after ++ each (headed s x xs) (later m);
        whole = ap (each (headed s x xs)) f ∙ each_append (headed s x xs) front (m ∷ later m)
            ∙ ap (λ (zs : List (List L)). each (headed s x xs) front ++ (zs ++ each (headed s x xs) (later m))) mine
            ∙ regroup (each (headed s x xs) front) (map (λ ws. m ∷ ws) d.before) (map (λ ws. m ∷ ws) d.after)
            (each (headed s x xs) (later m)) (m ∷ ms);
        is_next = first_append (map (λ ws. m ∷ ws) d.after) (each (headed s x xs) (later m))
            ∙ ap₂ or_else
            (first_map (λ ws. m ∷ ws) d.after ∙ ap (λ (o : Option (List L)). and_then o (λ ws. some (m ∷ ws))) d.is_next
            ∙ ap (λ (o : Option S). and_then o (λ q. and_then (following step letters later q xs ms) (λ ws. some (m ∷ ws)))) (sym e))
            (first_each s x xs (λ q. greedy_first h q xs) (later m));
      }

  -- A letter that is always allowed, the last
  pub record Idle (z : L) : Type 0 where
    pub front : List L
    pub is_last : letters ≡ front ++ (z ∷ [])
    pub allowed : (s : S) (x : X) → (t : S) × (step s x z ≡ some t)

  -- THE LAST WORD has this letter only
  pub idle_last : (z : L) → Idle z → (s : S) (xs : List X)
      → (ws : List (List L)) × (words step letters s xs ≡ ws ++ (replicate (length xs) z ∷ []))
  unfolding words
  idle_last z i s [] = ([], refl)
  idle_last z i s (x ∷ xs) =
      let (t, e) = i.allowed s x in
      let (us, d) = idle_last z i t xs in (
        each (headed s x xs) i.front ++ map (λ ms. z ∷ ms) us,
        ap (each (headed s x xs)) i.is_last ∙ each_append (headed s x xs) i.front (z ∷ [])
            ∙ ap (λ (zs : List (List L)). each (headed s x xs) i.front ++ zs)
            (append-nil (headed s x xs z) ∙ ap (list_of (λ q. map (λ (ms : List L). z ∷ ms) (words step letters q xs))) e
            ∙ ap (map (λ (ms : List L). z ∷ ms)) d ∙ map-append (λ ms. z ∷ ms) us (replicate (length xs) z ∷ []))
            ∙ sym (append_assoc (each (headed s x xs) i.front) (map (λ ms. z ∷ ms) us) ((z ∷ replicate (length xs) z) ∷ [])),
      )

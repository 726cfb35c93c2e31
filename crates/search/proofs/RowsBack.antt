-- From rows of masks back to rows: a promise kept over the masks of rows is kept over the rows.
use mathlib.Core.Path.{◌≡◌, refl, ap, sym, ◌∙◌, subst}
use mathlib.Core.Logic.{◌↔◌}
use mathlib.Core.List.Memᴰ
use mathlib.Core.List.{List, [], ◌∷◌, ◌++◌, map}
use Prim.Native.Nat.{ℕ}
use native.Mathlib.Omega.{arith}
use lib.ListN.{length, length-map}
use Rattle.meaning.specs.Basics.{All, ◌∈◌}
use Rattle.meaning.specs.Search.{Place, at, past, place_of, Reply, found, end, paused, refused_call, Keeps, finds, ends, pauses}
use Rattle.meaning.proofs.Lists.{never}

module _ {A B : Type 0} (f : A → B) where
  abbrev pub place_to : Place A → Place B
  place_to (at r) = at (f r)
  place_to past = past

  abbrev pub reply_to : Reply A (Place A) → Reply B (Place B)
  reply_to (found r next) = found (f r) (place_to next)
  reply_to (end next) = end (place_to next)
  reply_to (paused next) = paused (place_to next)
  reply_to (refused_call n) = refused_call n

  place_map : (xs : List A) → place_of (map f xs) ≡ place_to (place_of xs)
  place_map [] = refl
  place_map (x ∷ xs) = refl

  -- A split of mapped rows is one of the rows
  split_map : (xs : List A) (us : List B) (y : B) (vs : List B) → map f xs ≡ us ++ (y ∷ vs)
      → (front : List A) × (a : A) × (rest : List A) × (xs ≡ front ++ (a ∷ rest)) × (us ≡ map f front) × (y ≡ f a) × (vs ≡ map f rest)
  split_map [] [] y vs e = never (cc)
  split_map [] (u ∷ us) y vs e = never (cc)
  split_map (x ∷ xs) [] y vs e = ([], x, xs, refl, refl, cc, cc)
  split_map (x ∷ xs) (u ∷ us) y vs e =
      let rest : map f xs ≡ us ++ (y ∷ vs) = cc in
      let same : u ≡ f x = cc in
      let (front, a, rest, p, q, r, t) = split_map xs us y vs rest in
      (x ∷ front, a, rest, ap {B = List A} (λ l. x ∷ l) p, (let z : us ≡ map f front = q in cc), r, t)

  module _ (Tested : B → Type 0) (Solves : A → Type 0) where
    abbrev pub Alike : List A → Type 0
    Alike xs = (x : A) → x ∈ xs → Tested (f x) ↔ Solves x

    none_back : (xs : List A) → Alike xs → All (λ y. Tested y → ⊥) (map f xs) → All (λ x. Solves x → ⊥) xs
    none_back [] h a = tt
    none_back (x ∷ xs) h a = (λ s. a.0 ((h x (Memᴰ.head refl)).1 s), none_back xs (λ y m. h y (Memᴰ.tail m)) a.1)

    pub record Back (n : ℕ) (xs : List A) (reply : Reply B (Place B)) : Type 0 where
      pub answer : Reply A (Place A)
      pub keeps : Keeps Solves n xs answer
      pub same : reply ≡ reply_to answer

    pub keeps_back : {n : ℕ} {ys : List B} {reply : Reply B (Place B)} (xs : List A) → Alike xs → map f xs ≡ ys → Keeps Tested n ys reply
        → Back n xs reply
    keeps_back {n} xs h e (finds skipped r later a t l) =
        let (front, b, rest, p, q, s, u) = split_map xs skipped r later e in
        let whole : Alike front = λ x m. h x (subst (λ (l : List A). x ∈ l) (sym p) (Memᴰ.append_left (b ∷ rest) m)) in
        let is : Solves b =
        (h b (subst (λ (l : List A). b ∈ l) (sym p) (Memᴰ.append_right front (Memᴰ.head refl)))).0 (subst Tested s t) in
        let long : length skipped ≡ length front = ap length q ∙ length-map front f in
        record {
          answer = found b (place_of rest);
          keeps =
              subst (λ (l : List A). Keeps Solves n l (found b (place_of rest))) (sym p)
              (finds front b rest (none_back front whole (subst (All (λ y. Tested y → ⊥)) q a)) is (omega arith));
          same = let w : place_of later ≡ place_to (place_of rest) = ap place_of u ∙ place_map rest in cc;
        }
    keeps_back {n} xs h e (ends from a l) =
        let long : length from ≡ length xs = ap length (sym e) ∙ length-map xs f in
        record {
          answer = end past;
          keeps = ends xs (none_back xs h (subst (All (λ y. Tested y → ⊥)) (sym e) a)) (omega arith);
          same = refl;
        }
    keeps_back {n} xs h e (pauses passed r later a l) =
        let (front, b, rest, p, q, s, u) = split_map xs passed r later e in
        let whole : Alike front = λ x m. h x (subst (λ (l : List A). x ∈ l) (sym p) (Memᴰ.append_left (b ∷ rest) m)) in
        let long : length passed ≡ length front = ap length q ∙ length-map front f in
        record {
          answer = paused (at b);
          keeps =
              subst (λ (l : List A). Keeps Solves n l (paused (at b))) (sym p)
              (pauses front b rest (none_back front whole (subst (All (λ y. Tested y → ⊥)) q a)) (omega arith));
          same = cc;
        }

-- The walk through a face's nodes as the code makes it, in terms of paths: what a node may become, the first path from a node on, and the
-- test of a set node by node.
use mathlib.Core.Path.{◌≡◌, refl, sym, ap, ap₂, ◌∙◌, subst}
use mathlib.Core.Bool.{Bool, true, false, ◌&&◌, false≢true}
use mathlib.Core.List.{List, ◌∷◌}
use mathlib.Core.Option.{Option, none, some}
use Rattle.std.specs.Prelude.{Some, None}
use Prim.Native.Nat.{ℕ, suc, ◌+◌, ◌-◌, ◌≤◌, ◌<◌}
use lib.ListN.{length, drop}
use lib.Dec.{leb, eqb}
use borrow.Author.Tests.{lt-leb, le-leb, leb-true, leb-false}
use Rattle.meaning.specs.Basics.{choose, holds}
use Rattle.meaning.specs.Choice.{Marks}
use Rattle.tokens.specs.Token.{depth_in}
use Rattle.tokens.specs.Key.{at}
use Rattle.numbers.specs.Tests.{told}
use Rattle.paths.specs.Paths.{Node, first_path, one_place, takes}
use Rattle.paths.proofs.OnePlace.{first_at_below, first_at_hole, first_at_none}
use Rattle.choosing.specs.FaceNodes.{size_from, class_from, nodes_from}
use Rattle.choosing.specs.Walk.{class_in, class_of, state_of, opens_at, HoledAt}
use Rattle.choosing.specs.declared.Walk.{Walk}
use Rattle.choosing.proofs.FaceNodes.{nodes_long_lem, nodes_size, nodes_class}

-- The test of a node that the code asks for
pub used : (ns : List ℕ) (a d e : ℕ) (r : Bool) → d ≡ e → r ≡ (told ns).uses a d → r ≡ (told ns).uses a e
used ns a d e r q h = h ∙ ap ((told ns).uses a) q

module _ (ns es : List ℕ) (root i : ℕ) (w : Walk) where
  -- ---- whether a node may become a hole: a law for each answer

  pub opens_below : i < w.end → false ≡ opens_at ns es root w i
  unfolding opens_at
  opens_below h = sym (ap (λ (b : Bool). b && holds (takes (some (class_of w))) (class_from ns es root i)) (lt-leb w.end i h))

  module _ (h : w.end ≤ i) where
    here : (b : Bool) → b ≡ holds (takes (some (class_of w))) (class_from ns es root i) → b ≡ opens_at ns es root w i
    unfolding opens_at
    here b e = e ∙ sym (ap (λ (t : Bool). t && holds (takes (some (class_of w))) (class_from ns es root i)) (le-leb w.end i h))

    pub opens_bound : (told ns).uses (root + i) (depth_in (at es root)) ≡ true → false ≡ opens_at ns es root w i
    unfolding class_from
    opens_bound u = here false (sym (ap (λ (b : Bool). holds (takes (some (class_of w))) (choose b none (some (at ns (root + i))))) u))

    module _ (u : (told ns).uses (root + i) (depth_in (at es root)) ≡ false) where
      free : holds (takes (some (class_of w))) (class_from ns es root i) ≡ takes (some (class_of w)) (at ns (root + i))
      unfolding class_from
      free = ap (λ (b : Bool). holds (takes (some (class_of w))) (choose b none (some (at ns (root + i))))) u

      pub opens_equal : (c : ℕ) → w.class ≡ Some c → eqb c (at ns (root + i)) ≡ opens_at ns es root w i
      opens_equal c e = here (eqb c (at ns (root + i))) (sym (free ∙ ap (λ o. takes (some (class_in o)) (at ns (root + i))) e))

      pub opens_first : w.class ≡ None → true ≡ opens_at ns es root w i
      opens_first e = here true (sym (free ∙ ap (λ o. takes (some (class_in o)) (at ns (root + i))) e))

  -- ---- what follows from the answer

  -- A node that may become one has a class, which the holes have
  pub record Opening : Type 0 where
    pub past : w.end ≤ i
    pub class : class_from ns es root i ≡ some (at ns (root + i))
    pub taken : takes (some (class_of w)) (at ns (root + i)) ≡ true

  pub opening : opens_at ns es root w i ≡ true → Opening
  unfolding opens_at class_from
  opening e = go (leb w.end i) ((told ns).uses (root + i) (depth_in (at es root))) refl refl e
    where
      go : (a b : Bool) → leb w.end i ≡ a → (told ns).uses (root + i) (depth_in (at es root)) ≡ b
          → a && holds (takes (some (class_of w))) (choose b none (some (at ns (root + i)))) ≡ true → Opening
      go true false p q f =
          record {
            past = leb-true w.end i p;
            class = ap (λ (b : Bool). choose b none (some (at ns (root + i)))) q;
            taken = f;
          }
      go true true p q f = absurd (false≢true f)
      go false b p q f = absurd (false≢true f)

-- ---- the first path from node i on

module _ (ns es : List ℕ) (root i : ℕ) (w : Walk) (h : i < size_from es root) where
  abbrev xs : List Node
  xs = nodes_from ns es root

  inside : i < length xs
  inside = subst (λ (n : ℕ). i < n) (sym (nodes_long_lem ns es root)) h

  pub first_opened : (r : Walk) → opens_at ns es root w i ≡ true → HoledAt ns es root i r
      → first_path (state_of w i) (drop i xs) ≡ some 0 ∷ first_path (state_of r (suc i)) (drop (suc i) xs)
  first_opened r e g =
      let o = opening ns es root i w e in
      first_at_hole xs i w.end (class_of w) inside o.past (at ns (root + i)) (nodes_class ns es root i h ∙ o.class) o.taken
      ∙ ap₂ {C = Marks} (λ (n : ℕ) (c : Option ℕ). some 0 ∷ first_path (one_place (n - suc i) c) (drop (suc i) xs))
      (sym (g.end ∙ ap (λ (n : ℕ). i + n) (sym (nodes_size ns es root i h)))) (sym g.class)

  pub first_passed : opens_at ns es root w i ≡ false
      → first_path (state_of w i) (drop i xs) ≡ none ∷ first_path (state_of w (suc i)) (drop (suc i) xs)
  unfolding opens_at
  first_passed e = go (leb w.end i) refl e
    where
      go : (b : Bool) → leb w.end i ≡ b → b && holds (takes (some (class_of w))) (class_from ns es root i) ≡ false
          → first_path (state_of w i) (drop i xs) ≡ none ∷ first_path (state_of w (suc i)) (drop (suc i) xs)
      go true p f =
          first_at_none xs i w.end (class_of w) inside (leb-true w.end i p)
          (ap (holds (takes (some (class_of w)))) (nodes_class ns es root i h) ∙ f)
      go false p f = first_at_below xs i w.end (class_of w) inside (leb-false w.end i p)

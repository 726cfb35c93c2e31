-- What the code of the first faces owes: the law of each return and of each turn of its loops.
use mathlib.Core.Path.{◌≡◌, refl, ap, sym, ◌∙◌}
use mathlib.Core.Bool.{Bool, true, false, ◌&&◌}
use mathlib.Core.List.{List, [], ◌∷◌, ◌++◌, map, append_assoc, append-nil}
use mathlib.Core.Option.{Option, none, some}
use Prim.Native.Nat.{ℕ, suc, ◌+◌, ◌-◌, ◌/◌, ◌%◌, ◌<◌, ◌≤◌}
use native.Mathlib.Numerals.{add-one}
use native.Mathlib.Omega.{arith}
use lib.ListN.{length, take, drop, length-append, length-map, drop_of_length-le, get_or-eq_default}
use lib.Seq.{drop-cons, length-take-le}
use lib.Dec.{eqb, ltb}
use borrow.Author.Tests.{eq-eqb, ne_eqb, lt-ltb, le-ltb}
use Rattle.std.specs.Prelude as std
use Rattle.std.specs.Option.{unwrap_or}
use Rattle.meaning.specs.Limits.{metavariable_count, max_face_nodes}
use Rattle.meaning.specs.Basics.{choose, keep, count_from, up_to}
use Rattle.meaning.proofs.Lists.{choose_true, choose_false}
use Rattle.tokens.specs.Token.{tag_in, size_in, payload_in}
use Rattle.tokens.specs.Key.{at}
use Rattle.lockstep.specs.Walk.{expression_node}
use Rattle.metavariables.specs.Survey.{has, count}
use Rattle.faces.specs.declared.first.Firsts.{Firsts}
use Rattle.faces.specs.First.{applies, option_of, first_in, absent, node_or, first_node, firsts_from, firsts_of, listed, FirstsFit, Pushed, Listing}
use Rattle.faces.specs.First.{Listed, large}

-- One recorded face
module _ (ps : List ℕ) (f n : ℕ) where
  pub applies_out : length ps ≤ n % 65536 → false ≡ applies ps f n
  unfolding applies
  applies_out h = sym (ap (λ (x : ℕ). eqb (tag_in x) 6 && eqb f (payload_in x)) (get_or-eq_default ps 0 {n = n % 65536} h))

  module _ (g : ℕ) (is : g ≡ tag_in (at ps (n % 65536))) where
    pub applies_six : (load : ℕ) → load ≡ payload_in (at ps (n % 65536)) → g ≡ 6 → eqb f load ≡ applies ps f n
    unfolding applies
    applies_six load e six = rw (← is, ← e, eq-eqb g 6 six)

    pub applies_other : (g ≡ 6 → ⊥) → eqb g 6 ≡ applies ps f n
    unfolding applies
    applies_other n = rw (← is, ne_eqb g 6 n)

-- The faces that are left, from place k on
module _ (ps ns : List ℕ) (f k : ℕ) where
  pub first_none : length ns ≤ k → none ≡ first_in ps f (drop k ns)
  unfolding first_in
  first_none h = sym (ap (first_in ps f) (drop_of_length-le ns h))

  module _ (h : k < length ns) where
    opened : first_in ps f (drop k ns)
        ≡ choose (applies ps f (at ns k)) (some (expression_node (at ns k))) (first_in ps f (drop (suc k) ns))
    unfolding first_in
    opened = ap (first_in ps f) (drop-cons ns k 0 h)

    pub first_found : applies ps f (at ns k) ≡ true → some (at ns k / 65536) ≡ first_in ps f (drop k ns)
    first_found e = sym (opened ∙ choose_true _ _ e)

    pub first_next : applies ps f (at ns k) ≡ false → first_in ps f (drop (k + 1) ns) ≡ first_in ps f (drop k ns)
    first_next e = ap (λ (m : ℕ). first_in ps f (drop m ns)) (add-one k) ∙ sym (opened ∙ choose_false _ _ e)

-- The node looked up, as a number
pub first_or_absent : (ps ns : List ℕ) (f : ℕ) (o : std.Option ℕ) → o ≡ option_of (first_in ps f ns) → unwrap_or o absent ≡ first_node ps ns f
unfolding first_node
first_or_absent ps ns f o e = ap (λ (q : std.Option ℕ). unwrap_or q absent) e ∙ by_cases (first_in ps f ns)
  where
    by_cases : (q : Option ℕ) → unwrap_or (option_of q) absent ≡ node_or q
    by_cases none = refl
    by_cases (some j) = refl

-- The functions from m on
module _ (ps ns : List ℕ) (s m : ℕ) (r : Firsts) (l : Listing ps ns s m r) (h : m < 32) where
  later : List ℕ
  later = keep (has s) (count_from (suc m) (metavariable_count - suc m))

  firsts_from_lem : firsts_from ps ns s m ≡ map (first_node ps ns) (choose (has s m) (m ∷ later) later)
  unfolding firsts_from metavariable_count later
  firsts_from_lem =
      let e : 32 - m ≡ suc (32 - suc m) = omega arith in
      ap (λ (n : ℕ). map (first_node ps ns) (keep (has s) (count_from m n))) e

  firsts_later : firsts_from ps ns s (m + 1) ≡ map (first_node ps ns) later
  unfolding firsts_from later
  firsts_later = ap (λ (n : ℕ). map (first_node ps ns) (keep (has s) (count_from n (metavariable_count - n)))) (add-one m)

  pub listing_skip : has s m ≡ false → Listing ps ns s (m + 1) r
  listing_skip e =
      record {
        fits = l.fits;
        whole =
            ap (λ (x : List ℕ). listed r ++ x)
            (firsts_later ∙ sym (firsts_from_lem ∙ ap (map (first_node ps ns)) (choose_false (m ∷ later) later e))) ∙ l.whole;
      }

  opened_whole : has s m ≡ true → listed r ++ (first_node ps ns m ∷ firsts_from ps ns s (m + 1)) ≡ firsts_of ps ns s
  opened_whole e =
      ap (λ (x : List ℕ). listed r ++ x)
      (ap (λ (x : List ℕ). first_node ps ns m ∷ x) firsts_later
      ∙ sym (firsts_from_lem ∙ ap (map (first_node ps ns)) (choose_true (m ∷ later) later e)))
      ∙ l.whole

  pub listing_room : has s m ≡ true → length (firsts_of ps ns s) ≤ 8 → r.count < 8
  listing_room e few =
      let a : length (listed r) ≡ r.count = length-take-le r.count r.nodes (omega (arith, l.fits.array, l.fits.count)) in
      let b : length (listed r ++ (first_node ps ns m ∷ firsts_from ps ns s (m + 1))) ≡ length (firsts_of ps ns s) =
      ap length (opened_whole e) in
      let c = length-append (listed r) (first_node ps ns m ∷ firsts_from ps ns s (m + 1)) in
      omega arith

  pub listing_push : has s m ≡ true → (t : Firsts) → Pushed r (first_node ps ns m) t → Listing ps ns s (m + 1) t
  listing_push e t p =
      record {
        fits = p.fits;
        whole =
            ap (λ (x : List ℕ). x ++ firsts_from ps ns s (m + 1)) p.list
            ∙ append_assoc (listed r) (first_node ps ns m ∷ []) (firsts_from ps ns s (m + 1))
            ∙ opened_whole e;
      }

module _ (ps ns : List ℕ) (s : ℕ) where
  pub listing_start : (r : Firsts) → FirstsFit r → r.count ≡ 0 → Listing ps ns s 0 r
  unfolding firsts_from firsts_of metavariable_count
  listing_start r f e = record { fits = f; whole = ap (λ (n : ℕ). take n r.nodes ++ firsts_of ps ns s) e }

  pub listing_end : (m : ℕ) (r : Firsts) → 32 ≤ m → Listing ps ns s m r → Listed ps ns s r
  unfolding firsts_from metavariable_count
  listing_end m r h l =
      let e : 32 - m ≡ 0 = omega arith in
      record {
        fits = l.fits;
        list = sym (ap (λ (n : ℕ). listed r ++ map (first_node ps ns) (keep (has s) (count_from m n))) e ∙ append-nil (listed r)) ∙ l.whole;
      }

  pub firsts_count : length (firsts_of ps ns s) ≡ count metavariable_count s
  unfolding firsts_of count
  firsts_count = length-map (keep (has s) (up_to metavariable_count)) (first_node ps ns)

-- The limit of nodes
module _ (es : List ℕ) (j : ℕ) where
  pub large_in_lem : (n : ℕ) → n ≡ size_in (at es j) → j < length es → ltb 256 n ≡ large es j
  unfolding large max_face_nodes
  large_in_lem n e h = rw (← e, lt-ltb j (length es) h)

  pub large_out : length es ≤ j → false ≡ large es j
  unfolding large
  large_out h = sym (ap (λ (b : Bool). b && ltb max_face_nodes (size_in (at es j))) (le-ltb j (length es) h))

-- The first, the next and the last path.
--   lively, idle           some mark is always allowed, and the last, none, is
--   cut-place, cut-marks   the marks before a mark, and those after it
use mathlib.Core.Path.{◌≡◌, refl, ap, ◌∙◌}
use Prim.Native.Nat.{ℕ, zero, suc, ◌+◌, ◌-◌, ◌<◌}
use mathlib.Core.Bool.{true}
use mathlib.Core.List.{List, [], ◌∷◌, ◌++◌, map, append_assoc, map-append}
use mathlib.Core.Option.{Option, none, some}
use native.Mathlib.Omega.{arith}
use lib.ListN.{length, get_elem?, replicate}
use lib.Dec.{T}
use Rattle.meaning.specs.Basics.{count_from, is_some, up_to}
use Rattle.meaning.specs.Choice.{Mark, Marks}
use Rattle.meaning.specs.Choices.{marks_of}
use Rattle.meaning.proofs.Ordered.{Placed}
use Rattle.paths.specs.Words.{accepts, first_step, or_later}
use Rattle.paths.specs.Paths.{Node, State, first_path, later_marks, letters, next, next_path, passed, paths}
use Rattle.paths.proofs.Walking.{accepted_placed}
use Rattle.paths.proofs.WordOrder.{Idle, Lively, Stands, following_next, greedy_first, idle_last}

some_step : {S L : Type 0} (f : L → Option S) (front back : List L) (z : L) (t : S) → f z ≡ some t
    → is_some (first_step f (front ++ (z ∷ back))) ≡ true
some_step {S} {L} f [] back z t e = ap (λ (o : Option S). is_some (or_later z o (first_step f back))) e
some_step {S} {L} f (m ∷ front) back z t e = go (f m) (some_step f front back z t e)
  where
    go : (o : Option S) → is_some (first_step f (front ++ (z ∷ back))) ≡ true
        → is_some (or_later m o (first_step f (front ++ (z ∷ back)))) ≡ true
    go none h = h
    go (some r) h = refl

lively : (n : ℕ) → Lively next (marks_of n)
unfolding next
lively n s x = some_step (next s x) (map some (up_to n)) [] none (passed s) refl

idle : (n : ℕ) → Idle next (marks_of n) none
unfolding next
idle n = record { front = map some (up_to n); is_last = refl; allowed = λ s x. (passed s, refl) }

-- The marks before and after a mark
count_append : (k a b : ℕ) → count_from k (a + b) ≡ count_from k a ++ count_from (k + a) b
count_append k zero b =
    let e : 0 + b ≡ b = omega arith in
    let d : k + 0 ≡ k = omega arith in
    rw (e, d)
count_append k (suc a) b =
    let e : suc a + b ≡ suc (a + b) = omega arith in
    let d : k + suc a ≡ suc k + a = omega arith in
    rw (e, d) (ap (λ (ns : List ℕ). k ∷ ns) (count_append (suc k) a b))

cut_place : (n q : ℕ) → q < n → marks_of n ≡ map some (up_to q) ++ (some q ∷ later_marks n (some q))
cut_place n q h =
    let e : n ≡ q + suc (n - suc q) = omega arith in
    let d : 0 + q ≡ q = omega arith in
    let cut : up_to n ≡ up_to q ++ (q ∷ count_from (suc q) (n - suc q)) =
    ap up_to e ∙ count_append 0 q (suc (n - suc q)) ∙ ap (λ (i : ℕ). up_to q ++ count_from i (suc (n - suc q))) d in
    ap (λ (ns : List ℕ). map some ns ++ (none ∷ [])) cut
    ∙ ap (λ (ms : List Mark). ms ++ (none ∷ [])) (map-append some (up_to q) (q ∷ count_from (suc q) (n - suc q)))
    ∙ append_assoc (map some (up_to q)) (some q ∷ map some (count_from (suc q) (n - suc q))) (none ∷ [])

cut_marks : (n : ℕ) (m : Mark) → Placed n m → (front : List Mark) × (marks_of n ≡ front ++ (m ∷ later_marks n m))
cut_marks n none h = (map some (up_to n), refl)
cut_marks n (some q) h = (map some (up_to q), cut_place n q h)

-- Main theorems: paths from any state
module _ (s : State) (xs : List Node) where
  pub paths_first : get_elem? (paths s xs) 0 ≡ some (first_path s xs)
  paths_first = greedy_first next (letters s) (lively (length s.classes)) s xs

  pub paths_next : (ms : Marks) → T (accepts next s xs ms) → Stands next (letters s) s xs ms (next_path s xs ms)
  paths_next ms t =
      following_next next (letters s) (lively (length s.classes)) (Placed (length s.classes)) (later_marks (length s.classes))
      (cut_marks (length s.classes)) s xs ms (accepted_placed s xs ms t) t

  pub paths_last : (mss : List Marks) × (paths s xs ≡ mss ++ (replicate (length xs) none ∷ []))
  paths_last = idle_last next (letters s) none (idle (length s.classes)) s xs

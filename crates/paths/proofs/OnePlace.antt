-- Paths of one place, as loops over the nodes go: what a step does, the first path node by node, the walk node by node, and the path after a
-- path.
--   end        the first node that does not lie below a hole met so far: at node k, `end - k` nodes are to be skipped
--   c          the class of the place so far
--   ClearFrom  no node from this one on is marked
--   ClearTo    no node before this one is marked
use mathlib.Core.Path.{◌≡◌, refl, ap, ap₂, sym, ◌∙◌}
use Prim.Native.Nat.{ℕ, zero, suc, ◌+◌, ◌-◌, ◌<◌, ◌≤◌}
use mathlib.Core.Bool.{Bool, true, false}
use mathlib.Core.List.{List, [], ◌∷◌, ◌++◌}
use mathlib.Core.Option.{Option, none, some}
use native.Mathlib.Omega.{arith}
use lib.ListN.{length, drop, get_elem?, take, drop_of_length-le}
use lib.Dec.{T}
use Rattle.meaning.specs.Basics.{and_then, guard, holds, or_else}
use Rattle.meaning.specs.Choice.{Mark, Marks}
use Rattle.meaning.specs.Choices.{marks_of}
use Rattle.meaning.proofs.Lists.{T_true, eqb_other, never}
use Rattle.paths.specs.Words.{accepts, following, greedy, list_of, or_later}
use Rattle.paths.specs.Paths.{Node, State, class_at, first_path, holed, later_marks, next, next_path, one_place, passed, size_at, takes, unset}
use Rattle.paths.proofs.Walking.{accepted_walked, hole_step, takes_low}

-- A step that makes a hole of the place, and when it is refused
module _ (x : Node) (c : Option ℕ) where
  step_takes : (d : ℕ) → x.class ≡ some d → takes (some c) d ≡ true → next (one_place 0 c) x (some 0) ≡ some (one_place (x.size - 1) (some d))
  unfolding next
  step_takes d e t =
      ap (λ (o : Option ℕ). and_then o (λ b. guard (takes (some c) b) (some (holed (one_place 0 c) 0 x.size b)))) e
      ∙ ap (λ (b : Bool). guard b (some (one_place (x.size - 1) (some d)))) t

  step_refused : holds (takes (some c)) x.class ≡ false → next (one_place 0 c) x (some 0) ≡ none
  unfolding next
  step_refused e = go x.class e
    where
      go : (o : Option ℕ) → holds (takes (some c)) o ≡ false
          → and_then o (λ b. guard (takes (some c) b) (some (holed (one_place 0 c) 0 x.size b))) ≡ none
      go none f = refl
      go (some b) f = ap (λ (a : Bool). guard a (some (one_place (x.size - 1) (some b)))) f

  step_below : (k : ℕ) → 0 < k → next (one_place k c) x (some 0) ≡ none
  unfolding next
  step_below k l =
      ap (λ (b : Bool). guard b (and_then x.class (λ a. guard (takes (some c) a) (some (holed (one_place k c) 0 x.size a)))))
      (eqb_other k 0 (λ e. omega arith))

-- The first path: it takes a node wherever it may
module _ (k : ℕ) (c : Option ℕ) (x : Node) (xs : List Node) where
  abbrev begun : Option State → Marks
  begun o = list_of (λ r. r.0 ∷ greedy next (marks_of 1) r.1 xs) (or_later (some 0) o (some (none, passed (one_place k c))))

  first_begun : first_path (one_place k c) (x ∷ xs) ≡ begun (next (one_place k c) x (some 0))
  unfolding greedy next
  first_begun = refl

pub first_takes : (c : Option ℕ) (x : Node) (xs : List Node) (d : ℕ) → x.class ≡ some d → takes (some c) d ≡ true
    → first_path (one_place 0 c) (x ∷ xs) ≡ some 0 ∷ first_path (one_place (x.size - 1) (some d)) xs
first_takes c x xs d e t = first_begun 0 c x xs ∙ ap (begun 0 c x xs) (step_takes x c d e t)

pub first_passes : (c : Option ℕ) (x : Node) (xs : List Node) → holds (takes (some c)) x.class ≡ false
    → first_path (one_place 0 c) (x ∷ xs) ≡ none ∷ first_path (one_place 0 c) xs
first_passes c x xs e = first_begun 0 c x xs ∙ ap (begun 0 c x xs) (step_refused x c e)

first_below : (k : ℕ) (c : Option ℕ) (x : Node) (xs : List Node) → 0 < k
    → first_path (one_place k c) (x ∷ xs) ≡ none ∷ first_path (one_place (k - 1) c) xs
first_below k c x xs l = first_begun k c x xs ∙ ap (begun k c x xs) (step_below x c k l)

-- Node k of the list, and mark k
node_at : (xs : List Node) (k : ℕ) → k < length xs → drop k xs ≡ record { size = size_at xs k; class = class_at xs k } ∷ drop (suc k) xs
node_at [] k h = absurd (omega arith)
node_at (x ∷ xs) zero h = refl
node_at (x ∷ xs) (suc k) h = node_at xs k (omega arith)

mark_at : (ms : Marks) (k : ℕ) (m : Mark) → get_elem? ms k ≡ some m → drop k ms ≡ m ∷ drop (suc k) ms
mark_at [] k m e = never (cc)
mark_at (n ∷ ms) zero m e = let w : n ≡ m = cc in ap {B = Marks} (λ (l : Mark). l ∷ ms) w
mark_at (n ∷ ms) (suc k) m e = mark_at ms k m e

-- The first path, from node k on
module _ (xs : List Node) (k end : ℕ) (c : Option ℕ) where
  abbrev first_from_lem : Marks
  first_from_lem = first_path (one_place (end - k) c) (drop k xs)

  pub first_at_end : length xs ≤ k → first_from_lem ≡ []
  unfolding greedy
  first_at_end h = ap (first_path (one_place (end - k) c)) (drop_of_length-le xs h)

  module _ (h : k < length xs) where
    pub first_at_below : k < end → first_from_lem ≡ none ∷ first_path (one_place (end - suc k) c) (drop (suc k) xs)
    first_at_below l =
        let z : end - k - 1 ≡ end - suc k = omega arith in
        ap (first_path (one_place (end - k) c)) (node_at xs k h)
        ∙ first_below (end - k) c (record { size = size_at xs k; class = class_at xs k }) (drop (suc k) xs) (omega arith)
        ∙ ap {B = Marks} (λ (i : ℕ). none ∷ first_path (one_place i c) (drop (suc k) xs)) z

    pub first_at_hole : end ≤ k → (d : ℕ) → class_at xs k ≡ some d → takes (some c) d ≡ true
        → first_from_lem ≡ some 0 ∷ first_path (one_place (k + size_at xs k - suc k) (some d)) (drop (suc k) xs)
    first_at_hole l d e t =
        let z : end - k ≡ 0 = omega arith in
        let y : size_at xs k - 1 ≡ k + size_at xs k - suc k = omega arith in
        ap₂ (λ (i : ℕ) (ys : List Node). first_path (one_place i c) ys) z (node_at xs k h)
        ∙ first_takes c (record { size = size_at xs k; class = class_at xs k }) (drop (suc k) xs) d e t
        ∙ ap {B = Marks} (λ (i : ℕ). some 0 ∷ first_path (one_place i (some d)) (drop (suc k) xs)) y

    pub first_at_none : end ≤ k → holds (takes (some c)) (class_at xs k) ≡ false
        → first_from_lem ≡ none ∷ first_path (one_place (end - suc k) c) (drop (suc k) xs)
    first_at_none l e =
        let z : end - k ≡ 0 = omega arith in
        let y : 0 ≡ end - suc k = omega arith in
        ap₂ (λ (i : ℕ) (ys : List Node). first_path (one_place i c) ys) z (node_at xs k h)
        ∙ first_passes c (record { size = size_at xs k; class = class_at xs k }) (drop (suc k) xs) e
        ∙ ap {B = Marks} (λ (i : ℕ). none ∷ first_path (one_place i c) (drop (suc k) xs)) y

-- The walk, from node k on
module _ (xs : List Node) (ms : Marks) (k end : ℕ) (c : Option ℕ) where
  abbrev walks : Bool
  walks = accepts next (one_place (end - k) c) (drop k xs) (drop k ms)

  pub walk_end : length ms ≡ length xs → length xs ≤ k → walks ≡ true
  unfolding accepts
  walk_end e h = ap₂ (accepts next (one_place (end - k) c)) (drop_of_length-le xs h) (drop_of_length-le ms {i = k} (omega arith))

  module _ (h : k < length xs) where
    pub walk_none : get_elem? ms k ≡ some none → walks ≡ accepts next (one_place (end - suc k) c) (drop (suc k) xs) (drop (suc k) ms)
    unfolding accepts next
    walk_none e =
        let z : end - k - 1 ≡ end - suc k = omega arith in
        ap₂ (accepts next (one_place (end - k) c)) (node_at xs k h) (mark_at ms k none e)
        ∙ ap (λ (i : ℕ). accepts next (one_place i c) (drop (suc k) xs) (drop (suc k) ms)) z

    module _ (m : get_elem? ms k ≡ some (some 0)) where
      walk_marked : (o : Option State) → next (one_place (end - k) c) (record { size = size_at xs k; class = class_at xs k }) (some 0) ≡ o
          → walks ≡ holds (λ t. accepts next t (drop (suc k) xs) (drop (suc k) ms)) o
      unfolding accepts
      walk_marked o e =
          ap₂ (accepts next (one_place (end - k) c)) (node_at xs k h) (mark_at ms k (some 0) m)
          ∙ ap (holds (λ t. accepts next t (drop (suc k) xs) (drop (suc k) ms))) e

      pub walk_hole : end ≤ k → (d : ℕ) → class_at xs k ≡ some d → takes (some c) d ≡ true
          → walks ≡ accepts next (one_place (k + size_at xs k - suc k) (some d)) (drop (suc k) xs) (drop (suc k) ms)
      walk_hole l d e t =
          let z : end - k ≡ 0 = omega arith in
          let y : size_at xs k - 1 ≡ k + size_at xs k - suc k = omega arith in
          walk_marked (some (one_place (k + size_at xs k - suc k) (some d)))
          (ap (λ (i : ℕ). next (one_place i c) (record { size = size_at xs k; class = class_at xs k }) (some 0)) z
          ∙ step_takes (record { size = size_at xs k; class = class_at xs k }) c d e t
          ∙ ap {B = Option State} (λ (i : ℕ). some (one_place i (some d))) y)

      pub walk_below : k < end → walks ≡ false
      walk_below l = walk_marked none (step_below (record { size = size_at xs k; class = class_at xs k }) c (end - k) (omega arith))

      pub walk_refused : end ≤ k → holds (takes (some c)) (class_at xs k) ≡ false → walks ≡ false
      walk_refused l e =
          let z : end - k ≡ 0 = omega arith in
          walk_marked none
          (ap (λ (i : ℕ). next (one_place i c) (record { size = size_at xs k; class = class_at xs k }) (some 0)) z
          ∙ step_refused (record { size = size_at xs k; class = class_at xs k }) c e)

-- The path after a path
abbrev pub ClearFrom : Marks → ℕ → Type 0
ClearFrom ms i = (k : ℕ) (m : Mark) → i ≤ k → get_elem? ms k ≡ some m → m ≡ none

abbrev pub ClearTo : Marks → ℕ → Type 0
ClearTo ms i = (k : ℕ) (m : Mark) → k < i → get_elem? ms k ≡ some m → m ≡ none

clear_last : (n : ℕ) (ls : List Mark) (s : State) (xs : List Node) (ms : Marks) → ClearFrom ms 0
    → following next ls (later_marks n) s xs ms ≡ none
unfolding following next
clear_last n ls s [] ms h = refl
clear_last n ls s (x ∷ xs) [] h = refl
clear_last n ls s (x ∷ xs) (none ∷ ms) h =
    ap (λ (o : Option Marks). or_else (and_then o (λ ws. some (none ∷ ws))) none)
    (clear_last n ls (passed s) xs ms (λ k m l e. h (suc k) m (omega arith) e))
clear_last n ls s (x ∷ xs) (some q ∷ ms) h = let e : ◌≡◌ {A = Mark} (some q) none = h 0 (some q) (omega arith) refl in never (cc)

-- NO PATH COMES AFTER THE ONE WITHOUT HOLES
-- The class that the place has from its marks before node i on, where it had class c
record ClassTo (c : Option ℕ) (xs : List Node) (ms : Marks) (i : ℕ) (d : Option ℕ) : Type 0 where
  clear : ClearTo ms i → d ≡ c
  marked : (k q : ℕ) → k < i → get_elem? ms k ≡ some (some q) → d ≡ class_at xs k

went_on : (s : ℕ) (c : Option ℕ) (x : Node) (xs : List Node) (ms : Marks) (r : State) (us : Marks) → next (one_place s c) x (some 0) ≡ some r
    → following next (marks_of 1) (later_marks 1) r xs ms ≡ some us
    → next_path (one_place s c) (x ∷ xs) (some 0 ∷ ms) ≡ some (some 0 ∷ us)
unfolding following next
went_on s c x xs ms r us e f =
    let late : Option Marks = some (none ∷ first_path (one_place (s - 1) c) xs) in
    ap (λ (o : Option State). or_else (and_then o (λ q. and_then (following next (marks_of 1) (later_marks 1) q xs ms) (λ ws. some (some 0 ∷ ws)))) late) e
    ∙ ap (λ (o : Option Marks). or_else (and_then o (λ ws. some (some 0 ∷ ws))) late) f

gives_way : (s : ℕ) (c d : Option ℕ) (xs : List Node) (ms : Marks) (l : ℕ) → T (accepts next (one_place s c) xs ms)
    → get_elem? ms l ≡ some (some 0)
    → ClearFrom ms (suc l)
    → ClassTo c xs ms l d
    → next_path (one_place s c) xs ms ≡ some (take l ms ++ (none ∷ first_path (one_place 0 d) (drop (suc l) xs)))
unfolding accepts following next
gives_way s c d xs [] l t e h w = never (cc)
gives_way s c d [] (m ∷ ms) l t e h w = absurd t
gives_way s c d (x ∷ xs) (none ∷ ms) zero t e h w = never (cc)
gives_way s c d (x ∷ xs) (some (suc q) ∷ ms) zero t e h w = let z : suc q ≡ 0 = cc in absurd (omega arith)
gives_way s c d (x ∷ xs) (some zero ∷ ms) zero t e h w =
    let g = hole_step (λ r. accepts next r xs ms) (one_place s c) x 0 t in
    let same : c ≡ d = sym (w.clear (λ k m b f. absurd (omega arith))) in
    let here : s - 1 ≡ 0 = omega (arith, g.here) in
    go (next (one_place s c) x (some 0))
    ∙ ap₂ {C = Option Marks} (λ (i : ℕ) (b : Option ℕ). some (none ∷ first_path (one_place i b) xs)) here same
  where
    last : (r : State) → following next (marks_of 1) (later_marks 1) r xs ms ≡ none
    last r = clear_last 1 (marks_of 1) r xs ms (λ k m b f. h (suc k) m (omega arith) f)

    go : (o : Option State)
        → or_else (and_then o (λ r. and_then (following next (marks_of 1) (later_marks 1) r xs ms) (λ ws. some (some 0 ∷ ws))))
        (some (none ∷ first_path (one_place (s - 1) c) xs))
        ≡ some (none ∷ first_path (one_place (s - 1) c) xs)
    go none = refl
    go (some r) =
        ap (λ (o : Option Marks). or_else (and_then o (λ ws. some (some 0 ∷ ws))) (some (none ∷ first_path (one_place (s - 1) c) xs))) (last r)
gives_way s c d (x ∷ xs) (none ∷ ms) (suc l) t e h w =
    ap (λ (o : Option Marks). or_else (and_then o (λ ws. some (none ∷ ws))) none)
    (gives_way (s - 1) c d xs ms l t e (λ k m b f. h (suc k) m (omega arith) f)
    (record {
      clear = λ f. w.clear (clear f);
      marked = λ k q b f. w.marked (suc k) q (omega arith) f;
    }))
  where
    clear : ClearTo ms l → ClearTo (none ∷ ms) (suc l)
    clear f zero m b g = let z : m ≡ none = cc in z
    clear f (suc k) m b g = f k m (omega arith) g
gives_way s c d (x ∷ xs) (some (suc q) ∷ ms) (suc l) t e h w =
    absurd (hole_step (λ r. accepts next r xs ms) (one_place s c) x (suc q) t).taken
gives_way s c d (x ∷ xs) (some zero ∷ ms) (suc l) t e h w =
    let g = hole_step (λ r. accepts next r xs ms) (one_place s c) x 0 t in
    let step : next (one_place s c) x (some 0) ≡ some (one_place (x.size - 1) (some g.class)) =
    ap (λ (i : ℕ). next (one_place i c) x (some 0)) g.here ∙ step_takes x c g.class g.has (T_true g.taken) in
    let later =
    gives_way (x.size - 1) (some g.class) d xs ms l g.on e (λ k m b f. h (suc k) m (omega arith) f)
    (record {
      clear = λ f. w.marked 0 0 (omega arith) refl ∙ g.has;
      marked = λ k q b f. w.marked (suc k) q (omega arith) f;
    }) in
    went_on s c x xs ms (one_place (x.size - 1) (some g.class)) (take l ms ++ (none ∷ first_path (one_place 0 d) (drop (suc l) xs))) step later

-- THE LAST MARKED NODE GIVES WAY, and after it the path is the first again. The place then has no class where no other node is marked, else
-- the class that all marked nodes have
pub last_gives_way : (xs : List Node) (ms : Marks) (l : ℕ) (c : Option ℕ) → T (accepts next (unset 1) xs ms)
    → get_elem? ms l ≡ some (some 0)
    → ClearFrom ms (suc l)
    → (ClearTo ms l → c ≡ none)
    → ((k : ℕ) → k < l → get_elem? ms k ≡ some (some 0) → c ≡ class_at xs l)
    → next_path (unset 1) xs ms ≡ some (take l ms ++ (none ∷ first_path (one_place 0 c) (drop (suc l) xs)))
last_gives_way xs ms l c t e h alone other =
    gives_way 0 none c xs ms l t e h (record { clear = alone; marked = λ k q b f. marked k q b f })
  where
    marked : (k q : ℕ) → k < l → get_elem? ms k ≡ some (some q) → c ≡ class_at xs k
    marked k q b f =
        let w = ((accepted_walked (unset 1) xs ms).0 t).1 in
        let (d, g, taken) = w.classed k q f in
        let z : q ≡ 0 = let r = takes_low (none ∷ []) q d taken in omega arith in
        let m : get_elem? ms k ≡ some (some 0) = f ∙ ap (λ (i : ℕ). some (some i)) z in
        other k b m ∙ w.equal l k 0 e m

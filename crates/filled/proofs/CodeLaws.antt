-- What the code of the test owes: the law of each return and of each turn of a loop, over the numbers and lists that the code holds.
--   Testing   a loop that has passed k recorded faces: those that are left decide
use mathlib.Core.Path.{◌≡◌, ap, sym, ◌∙◌, subst}
use mathlib.Core.Bool.{Bool, true, false, ◌&&◌}
use mathlib.Core.List.{List, ◌∷◌}
use mathlib.Core.Option.{Option, none, some}
use Prim.Native.Nat.{ℕ, suc, ◌+◌, ◌<◌, ◌≤◌}
use native.Mathlib.Omega.{arith}
use lib.ListN.{length, take, drop, drop_of_length-le}
use lib.Seq.{drop-cons}
use Rattle.meaning.specs.Limits.{metavariable_count}
use Rattle.meaning.specs.Basics.{All, every, holds}
use Rattle.tokens.specs.Token.{tag_in, depth_in, size_in}
use Rattle.tokens.specs.Key.{at, Inside}
use Rattle.lockstep.specs.Walk.{pattern_node, expression_node}
use Rattle.lockstep.specs.Span.{span_walk, Lent, Walked}
use Rattle.lockstep.proofs.Answers.{Found}
use Rattle.std.specs.Prelude.{Some}
use Rattle.std.specs.Prelude as std
use Rattle.said.specs.Said.{field_of}
use Rattle.said.specs.declared.Field.{Field}
use Rattle.said.specs.declared.Field.TheVariants.{Body}
use Rattle.said.specs.declared.Said.{Said}
use Rattle.filled.specs.Filled.{span_across, walk_across, value_at, number_at, faced_value_at, argument_at, hole_at, body_at, body_in, application_at}
use Rattle.filled.specs.Filled.{face_at}
use Rattle.filled.specs.Ready.{Crossing, Rooms, SaidOf, Faced, Argued, ArguedAt, Bodied, Applied}
use Rattle.filled.proofs.Cases.{body_says, plain_face, applied_face}

-- ---- the walk of two subterms, from the parts of their tokens

module _ (t u : List ℕ) (i j long deep across : ℕ) (size : long ≡ size_in (at t i)) where
  pub across_lent : (out : List ℕ) → Crossing t i u j out
      → Lent t u out (record { from = i; to = i + long; at = j; d = deep; e = across })
  across_lent out c = record {
    patterns = c.left;
    expressions = c.right;
    inside = omega (arith, c.inside.ends);
    room = omega (arith, c.inside.ends, c.room);
  }

  pub across_walked : deep ≡ depth_in (at t i) → across ≡ depth_in (at u j) → (old new : List ℕ) (r : std.Option ℕ)
      → Walked (span_walk t u (record { from = i; to = i + long; at = j; d = deep; e = across })) old new r
      → Walked (walk_across t i u j) old new r
  unfolding walk_across span_across
  across_walked d e old new r w = rw (← size, ← d, ← e) w

-- ---- the value that a recorded face asks for

module _ (ps es ts : List ℕ) (s : Said) (n m : ℕ) (number : m ≡ number_at ps n) where
  pub faced_asks : Faced ps es ts s n → SaidOf ts s m × Inside es (expression_node n)
  faced_asks f = (subst (SaidOf ts s) (sym number) f.said, f.across)

  pub faced_answer : (r : Bool) → r ≡ value_at ts s es m (expression_node n) → r ≡ faced_value_at ps es ts s n
  unfolding faced_value_at
  faced_answer r e = e ∙ ap (λ (k : ℕ). value_at ts s es k (expression_node n)) number

-- ---- a test of all recorded faces, one after the other

pub record Testing (ready : ℕ → Type 0) (test : ℕ → Bool) (ns : List ℕ) (k : ℕ) : Type 0 where
  pub left : All ready (drop k ns)
  pub leads : every test (drop k ns) ≡ every test ns

module _ {ready : ℕ → Type 0} {test : ℕ → Bool} {ns : List ℕ} {k : ℕ} (g : Testing ready test ns k) where
  pub testing_ends : length ns ≤ k → true ≡ every test ns
  testing_ends h = sym (ap (every test) (drop_of_length-le ns {i = k} h)) ∙ g.leads

  module _ (h : k < length ns) where
    both : All ready (at ns k ∷ drop (suc k) ns)
    both = subst (All ready) (drop-cons ns k 0 h) g.left

    pub testing_ready : ready (at ns k)
    testing_ready = both.0

    goes : test (at ns k) && every test (drop (suc k) ns) ≡ every test ns
    goes = sym (ap (every test) (drop-cons ns k 0 h)) ∙ g.leads

    module _ (r : Bool) (is : r ≡ test (at ns k)) where
      pub testing_fails : r ≡ false → false ≡ every test ns
      testing_fails e = sym (ap (λ (b : Bool). b && every test (drop (suc k) ns)) (sym is ∙ e)) ∙ goes

      pub testing_goes : r ≡ true → Testing ready test ns (k + 1)
      testing_goes e =
          let z : k + 1 ≡ suc k = omega arith in
          rw z (record {
            left = both.1;
            leads = sym (ap (λ (b : Bool). b && every test (drop (suc k) ns)) (sym is ∙ e)) ∙ goes;
          })

-- What is lent keeps its length
pub rooms_again : (ps ts holes scratch holes' scratch' : List ℕ) → Rooms ps ts holes scratch → length holes' ≡ length holes
    → length scratch' ≡ length scratch → Rooms ps ts holes' scratch'
rooms_again ps ts holes scratch holes' scratch' r e f = record { bodies = rw e r.bodies; arguments = rw f r.arguments }

-- ---- a walk, and then a test of what it recorded

module _ (test : ℕ → Bool) (o : Option (List ℕ)) where
  walk_fails : o ≡ none → false ≡ holds (every test) o
  walk_fails e = sym (ap (holds (every test)) e)

  walk_found : (new : List ℕ) (n : ℕ) → Found o new n → (r : Bool) → r ≡ every test (take n new) → r ≡ holds (every test) o
  walk_found new n f r e = e ∙ ap (every test) f.front ∙ sym (ap (holds (every test)) f.walked)

found_ready : (ready : ℕ → Type 0) (o : Option (List ℕ)) → ((ns : List ℕ) → o ≡ some ns → All ready ns) → (new : List ℕ) (n : ℕ)
    → Found o new n → All ready (take n new)
found_ready ready o all new n f = subst (All ready) (sym f.front) (all f.faces f.walked)

module _ (ps es ts : List ℕ) (s : Said) (i j : ℕ) where
  pub argument_fails : walk_across ps i es j ≡ none → false ≡ argument_at ps es ts s i j
  unfolding argument_at
  argument_fails e = walk_fails (faced_value_at ps es ts s) (walk_across ps i es j) e

  module _ (new : List ℕ) (n : ℕ) (f : Found (walk_across ps i es j) new n) where
    pub argument_faces : Argued ps es ts s i j → All (Faced ps es ts s) (take n new)
    argument_faces a = found_ready (Faced ps es ts s) (walk_across ps i es j) a.faces new n f

    pub argument_found : (r : Bool) → r ≡ every (faced_value_at ps es ts s) (take n new) → r ≡ argument_at ps es ts s i j
    unfolding argument_at
    argument_found r e = walk_found (faced_value_at ps es ts s) (walk_across ps i es j) new n f r e

module _ (ps es ts : List ℕ) (s : Said) (b i j : ℕ) where
  pub body_fails : walk_across ts b es j ≡ none → false ≡ body_at ps es ts s b i j
  unfolding body_at
  body_fails e = walk_fails (hole_at ps es ts s i) (walk_across ts b es j) e

  module _ (new : List ℕ) (n : ℕ) (f : Found (walk_across ts b es j) new n) where
    pub body_holes : Bodied ps es ts s b i j → All (ArguedAt ps es ts s i) (take n new)
    body_holes a = found_ready (ArguedAt ps es ts s i) (walk_across ts b es j) a.holes new n f

    pub body_found : (r : Bool) → r ≡ every (hole_at ps es ts s i) (take n new) → r ≡ body_at ps es ts s b i j
    unfolding body_at
    body_found r e = walk_found (hole_at ps es ts s i) (walk_across ts b es j) new n f r e

-- ---- one application, by the number of its function

module _ (ps es ts : List ℕ) (s : Said) (n f : ℕ) (number : f ≡ number_at ps n) where
  pub application_number : Applied ps es ts s n → f < metavariable_count
  application_number a = subst (λ (m : ℕ). m < metavariable_count) (sym number) a.faced.said.number

  pub application_says : (o : std.Option Field) → field_of s f ≡ o → (r : Bool)
      → r ≡ body_in ps es ts s o (pattern_node n + 1) (expression_node n) → r ≡ application_at ps es ts s n
  application_says o e r q = q ∙ sym (body_says ps es ts s n f (sym number) o e)

  pub application_bodied : (b : ℕ) → field_of s f ≡ Some (Body b) → Applied ps es ts s n
      → Bodied ps es ts s b (pattern_node n + 1) (expression_node n)
  application_bodied b e a = a.bodied b (ap (field_of s) (sym number) ∙ e)

-- ---- one face, by the tag of its slot

module _ (ps es ts : List ℕ) (s : Said) (n g : ℕ) (tag : g ≡ tag_in (at ps (pattern_node n))) where
  pub face_plain : (g ≡ 6 → ⊥) → (r : Bool) → r ≡ faced_value_at ps es ts s n → r ≡ face_at ps es ts s n
  face_plain h r e = e ∙ sym (plain_face ps es ts s n (λ q. h (tag ∙ q)))

  pub face_applies : g ≡ 6 → (r : Bool) → r ≡ application_at ps es ts s n → r ≡ face_at ps es ts s n
  face_applies h r e = e ∙ sym (applied_face ps es ts s n (sym tag ∙ h))
